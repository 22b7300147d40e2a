use Rattle.std.proofs.Common.{◌≡◌, ◌∙◌, arith, of_z, to_z}
use Rattle.std.specs.Int.{w64}
use Rattle.std.proofs.lemmas.Int.{to_z-of_z}
use Rattle.std.proofs.Common.{◌∷◌, refl}
use Rattle.cdl_values.specs.History.{tick}
use Rattle.cdl_kinds.specs.Meaning.Timers.{accumulated}
use Rattle.cdl_timed.proofs.SumStates.{sum_further}
use Rattle.cdl_timed.proofs.accumulating.TimerAccumulatingElementary.emit.Goals as goal

pub returns-clause-gives : goal.returns-clause-gives
returns-clause-gives g c h history later stands =
    let n : to_z w64 (of_z w64 c.args.now) ≡ c.args.now = grind (arith, to_z-of_z) in
    let z : to_z w64 (of_z w64 c.next_sum-sum.result) ≡ c.next_sum-sum.result = grind (arith, to_z-of_z) in
    let e : c.next_sum-sum.result ≡ accumulated (tick c.args.now c.args.ins.now ∷ h) = sum_further c.args.now _ _ c.read.result.sum c.read.result.last c.read.result.on c.read.result.reset c.args.state.now c.args.ins.now h stands c.read.ensures.sum c.read.ensures.last c.read.ensures.on c.read.ensures.reset n c.next_sum-sum.ensures.value in
    let k : to_z w64 (of_z w64 c.next_sum-sum.result) ≡ accumulated (tick c.args.now c.args.ins.now ∷ h) = z ∙ e in
    rw (c.put_timed.ensures.value, k) refl
