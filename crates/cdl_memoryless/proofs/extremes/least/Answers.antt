use Rattle.std.proofs.Common.{◌≡◌, w64, to_z, of_z, arith}
use Rattle.std.proofs.lemmas.Int.{to_z-of_z}
use Rattle.cdl_decimal.specs.Near.{InRange}
use Rattle.cdl_values.specs.History.{word}
use Rattle.cdl_values.specs.Extremes.{lesser_of}
use Rattle.cdl_memoryless.proofs.ExtremeLaws.{least_step, lesser_in}
use Rattle.cdl_memoryless.proofs.extremes.least.Goals as goal

pub loop-i-preserved : goal.loop-i-preserved
loop-i-preserved c =
    let here : InRange (word c.args.words.now c.loop-i.i) = c.requires.range c.loop-i.i c.loop-i-test.true in
    let stored : to_z w64 (of_z w64 c.lesser-best.result) ≡ c.lesser-best.result = to_z-of_z w64 c.lesser-best.result (record { sfits = c.lesser-best.type_inv }) in
    let read : to_z w64 (of_z w64 (word c.args.words.now c.loop-i.i)) ≡ word c.args.words.now c.loop-i.i = to_z-of_z w64 (word c.args.words.now c.loop-i.i) (record { sfits = omega arith }) in
    let best : c.lesser-best.result ≡ lesser_of (to_z w64 c.loop-i.best-bits) (word c.args.words.now c.loop-i.i) = rw read at c.lesser-best.ensures in
    rw stored (record {
      so_far = least_step c.args.words.now c.loop-i.i (to_z w64 c.loop-i.best-bits) c.lesser-best.result c.loop-i-test.true c.loop-i.invariant.so_far best;
      range = lesser_in (to_z w64 c.loop-i.best-bits) (word c.args.words.now c.loop-i.i) c.lesser-best.result best c.loop-i.invariant.range here;
    })
