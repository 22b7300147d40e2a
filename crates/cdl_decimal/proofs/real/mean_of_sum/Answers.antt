use Rattle.std.proofs.Common.{◌≡◌, subst, Some, arith}
use Rattle.std.specs.Prelude.{ℤ}
use Rattle.std.proofs.lemmas.Int.{ints}
use mir.Syntax.{w128}
use mir.Val.{of_z, to_z}
use Rattle.cdl_decimal.specs.Near.{IsNear, near}
use Rattle.cdl_decimal.proofs.NearLaws.{mean_found, near_is}
use Rattle.cdl_decimal.proofs.real.mean_of_sum.Goals as goal

pub unreachable-requires : goal.unreachable-requires
unreachable-requires c = let f : c.rounded.result ≡ Some (near c.args.sum c.args.count) = mean_found c.args.sum c.args.count (to_z w128 (of_z w128 c.args.sum)) (to_z w128 c.args.count) _ c.rounded.ensures.count (omega (arith, ints)) (omega (arith, ints)) c.requires.some c.requires.small in cc

pub returns-clause-value : goal.returns-clause-value
returns-clause-value c = let f : c.rounded.result ≡ Some (near c.args.sum c.args.count) = mean_found c.args.sum c.args.count (to_z w128 (of_z w128 c.args.sum)) (to_z w128 c.args.count) _ c.rounded.ensures.count (omega (arith, ints)) (omega (arith, ints)) c.requires.some c.requires.small in cc

pub returns-clause-nearest : goal.returns-clause-nearest
returns-clause-nearest c =
    let f : c.rounded.result ≡ Some (near c.args.sum c.args.count) = mean_found c.args.sum c.args.count (to_z w128 (of_z w128 c.args.sum)) (to_z w128 c.args.count) _ c.rounded.ensures.count (omega (arith, ints)) (omega (arith, ints)) c.requires.some c.requires.small in
    let e : near c.args.sum c.args.count ≡ c.in-Some.x = cc in
    subst (λ (q : ℤ). IsNear c.args.sum c.args.count q) e (near_is c.args.sum c.args.count c.requires.some)
