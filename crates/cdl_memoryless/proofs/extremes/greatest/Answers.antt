use Rattle.std.proofs.Common.{◌≡◌, w64, to_z, of_z, arith}
use Rattle.std.proofs.lemmas.Int.{to_z-of_z}
use Rattle.cdl_decimal.specs.Near.{InRange}
use Rattle.cdl_values.specs.History.{word}
use Rattle.cdl_values.specs.Extremes.{greater_of}
use Rattle.cdl_memoryless.proofs.ExtremeLaws.{greatest_step, greater_in}
use Rattle.cdl_memoryless.proofs.extremes.greatest.Goals as goal

pub loop-i-preserved : goal.loop-i-preserved
loop-i-preserved c =
    let here : InRange (word c.args.words.now c.loop-i.i) = c.requires.range c.loop-i.i c.loop-i-test.true in
    let stored : to_z w64 (of_z w64 c.greater-best.result) ≡ c.greater-best.result = to_z-of_z w64 c.greater-best.result (record { sfits = c.greater-best.type_inv }) in
    let read : to_z w64 (of_z w64 (word c.args.words.now c.loop-i.i)) ≡ word c.args.words.now c.loop-i.i = to_z-of_z w64 (word c.args.words.now c.loop-i.i) (record { sfits = omega arith }) in
    let best : c.greater-best.result ≡ greater_of (to_z w64 c.loop-i.best-bits) (word c.args.words.now c.loop-i.i) = rw read at c.greater-best.ensures in
    rw stored (record {
      so_far = greatest_step c.args.words.now c.loop-i.i (to_z w64 c.loop-i.best-bits) c.greater-best.result c.loop-i-test.true c.loop-i.invariant.so_far best;
      range = greater_in (to_z w64 c.loop-i.best-bits) (word c.args.words.now c.loop-i.i) c.greater-best.result best c.loop-i.invariant.range here;
    })
