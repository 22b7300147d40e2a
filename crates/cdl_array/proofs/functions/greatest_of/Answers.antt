use Rattle.std.proofs.Common.{◌≡◌, w64, to_z, of_z}
use Rattle.std.proofs.lemmas.Int.{to_z-of_z}
use Rattle.cdl_array.specs.Functions.{count_in}
use Rattle.cdl_array.proofs.Extremes.{greatest_step}
use Rattle.cdl_array.proofs.functions.greatest_of.Goals as goal

pub loop-i-preserved : goal.loop-i-preserved
loop-i-preserved c =
    let stored : to_z w64 (of_z w64 c.greater-best.result) ≡ c.greater-best.result = to_z-of_z w64 c.greater-best.result (record { sfits = c.greater-best.type_inv }) in
    let read : to_z w64 (of_z w64 c.count_in.result) ≡ c.count_in.result = to_z-of_z w64 c.count_in.result (record { sfits = c.count_in.type_inv }) in
    let best = c.greater-best.ensures in
    let counted = c.count_in.ensures.value in
    let here = c.index-items-i.is in
    rw stored (greatest_step (count_in c.args.value_type) c.args.items.now c.loop-i.i c.index-items-i.result (to_z w64 c.loop-i.best-bits) c.greater-best.result c.loop-i-test.true here c.loop-i.invariant (rw (read, counted) at best))
