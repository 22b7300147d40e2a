use Rattle.std.proofs.Common.{◌≡◌, ◌∙◌, arith, of_z, to_z}
use Rattle.std.specs.Int.{w64}
use Rattle.std.proofs.lemmas.Int.{to_z-of_z}
use Rattle.std.proofs.Common.{◌∷◌}
use Rattle.cdl_values.specs.History.{tick}
use Rattle.cdl_kinds.specs.Meaning.Timers.{accumulated}
use Rattle.cdl_timed.proofs.SumStates.{sum_further, sum_kept, sum_stands}
use Rattle.cdl_timed.proofs.accumulating.TimerAccumulatingElementary.absorb.Goals as goal

pub returns-clause-sound : goal.returns-clause-sound
returns-clause-sound c =
    let n : to_z w64 (of_z w64 c.args.now) ≡ c.args.now = grind (arith, to_z-of_z) in
    let z : to_z w64 (of_z w64 c.next_sum.result) ≡ c.next_sum.result = grind (arith, to_z-of_z) in
    sum_kept c.args.now (to_z w64 (of_z w64 c.next_sum.result)) _ _ _ c.write.new.state c.requires.time.0 (rw z c.next_sum.ensures.low) (rw z (rw n at c.next_sum.ensures.high)) n c.write.ensures

pub returns-clause-stands : goal.returns-clause-stands
returns-clause-stands c h stands history =
    let n : to_z w64 (of_z w64 c.args.now) ≡ c.args.now = grind (arith, to_z-of_z) in
    let e : c.next_sum.result ≡ accumulated (tick c.args.now c.args.ins.now ∷ h) = sum_further c.args.now _ _ c.read.result.sum c.read.result.last c.read.result.on c.read.result.reset c.args.state.now c.args.ins.now h stands c.read.ensures.sum c.read.ensures.last c.read.ensures.on c.read.ensures.reset n c.next_sum.ensures.value in
    let z : to_z w64 (of_z w64 c.next_sum.result) ≡ c.next_sum.result = grind (arith, to_z-of_z) in
    sum_stands c.args.now _ _ _ _ c.args.ins.now c.write.new.state h c.requires.ready (z ∙ e) n c.is_on.ensures c.is_on-2.ensures c.write.ensures
