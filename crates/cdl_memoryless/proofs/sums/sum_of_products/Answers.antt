use Rattle.std.proofs.Common.{◌≡◌, ◌<◌, ◌≤◌, w64, to_z, of_z, length, arith}
use Rattle.std.specs.Prelude.{◌+ℤ◌, ◌*ℤ◌, unsigned_abs}
use Rattle.std.specs.Int.{w128}
use Rattle.std.proofs.lemmas.Int.{to_z-of_z}
use Rattle.cdl_values.specs.History.{word}
use Rattle.cdl_values.specs.Values.{integer_of}
use Rattle.cdl_memoryless.proofs.SumLaws.{sum_step}
use Rattle.cdl_memoryless.proofs.sums.sum_of_products.Goals as goal

pub loop-i-preserved : goal.loop-i-preserved
loop-i-preserved c =
    let small : unsigned_abs (word c.args.words.now c.loop-i.i) ≤ 2147483647 = c.requires.range c.loop-i.i c.loop-i-test.true in
    let stored : to_z w128 (of_z w128 c.next_sum-sum.result) ≡ c.next_sum-sum.result = to_z-of_z w128 c.next_sum-sum.result (record { sfits = c.next_sum-sum.type_inv }) in
    let read : to_z w64 (of_z w64 (word c.args.words.now c.loop-i.i)) ≡ word c.args.words.now c.loop-i.i = to_z-of_z w64 (word c.args.words.now c.loop-i.i) (record { sfits = omega arith }) in
    let next : c.next_sum-sum.result ≡ to_z w128 c.loop-i.sum-bits +ℤ integer_of c.index-factors-i.result *ℤ word c.args.words.now c.loop-i.i = rw read at c.next_sum-sum.ensures.value in
    let within : c.loop-i.i < length c.args.factors.now = omega arith in
    rw stored (record {
      so_far = sum_step c.args.factors.now c.args.words.now c.loop-i.i c.index-factors-i.result (to_z w128 c.loop-i.sum-bits) c.next_sum-sum.result _ within c.loop-i-test.true c.index-factors-i.is c.loop-i.invariant.so_far next;
      small = omega arith;
    })
