use Rattle.std.proofs.Common.{arith, rules, ◌≡◌, pos, ◌+ℤ◌, FitsSigned, unsigned_abs, false}
use Rattle.std.proofs.lemmas.Int.{to_z-of_z}
use Rattle.std.specs.Int.{w128, int_div_euclid, int_rem_euclid}
use Rattle.cdl_decimal.specs.Near.{rounds_down}
use Rattle.cdl_decimal.proofs.NearLaws.{near_down, near_up}
use Rattle.cdl_decimal.proofs.rounding.nearest.Goals as goal

pub returns-then-goes_down : goal.returns-then-goes_down
returns-then-goes_down c = grind (arith, to_z-of_z, near_down)

pub returns-else-goes_down : goal.returns-else-goes_down
returns-else-goes_down c =
    let f : FitsSigned w128 c.div_euclid-q.result = search rules in
    let g : FitsSigned w128 (c.div_euclid-q.result +ℤ pos 1) = search rules in
    let n = c.ranges.n in
    let d = c.ranges.d in
    let r : FitsSigned w128 c.rem_euclid.result = search rules in
    let e1 : c.div_euclid-q.result ≡ int_div_euclid c.args.n c.args.d = grind (arith, to_z-of_z) in
    let e2 : c.unsigned_abs-r.result ≡ unsigned_abs (int_rem_euclid c.args.n c.args.d) = grind (arith, to_z-of_z) in
    let e3 : rounds_down (unsigned_abs c.args.d) c.div_euclid-q.result c.unsigned_abs-r.result ≡ false = grind (arith, to_z-of_z) in
    simp (to_z-of_z) (near_up c.args.n c.args.d c.div_euclid-q.result c.unsigned_abs-r.result c.requires.positive e1 e2 e3)
