use Rattle.std.proofs.Common.{◌≡◌, ◌≤◌, arith}
use Rattle.std.specs.Prelude.{unsigned_abs}
use Rattle.std.proofs.lemmas.Int.{ints}
use Rattle.cdl_values.specs.Values.{integer_at}
use Rattle.cdl_kinds.proofs.Integers.{at_small}
use Rattle.cdl_kinds.proofs.params.Params.integer.Goals as goal

pub returns-clause-range : goal.returns-clause-range
returns-clause-range c =
    let e : c.integer_at.result ≡ integer_at c.self.inside.values c.args.i = rw c.items.ensures at c.integer_at.ensures in
    let s : unsigned_abs c.integer_at.result ≤ 2147483647 = rw e (at_small c.self.inside.values c.args.i c.self.invariant) in
    omega (arith, ints)
