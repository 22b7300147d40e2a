use Rattle.std.proofs.Common.{◌≡◌, arith, of_z, to_z}
use Rattle.std.specs.Int.{w64}
use Rattle.std.proofs.lemmas.Int.{to_z-of_z}
use Rattle.cdl_timed.proofs.RunStates.{timer_stands}
use Rattle.cdl_timed.proofs.timer.TimerElementary.absorb.Goals as goal

pub returns-clause-stands : goal.returns-clause-stands
returns-clause-stands c h stands history =
    let n : to_z w64 (of_z w64 c.args.now) ≡ c.args.now = grind (arith, to_z-of_z) in
    timer_stands c.args.now _ c.args.state.now c.args.ins.now c.write.new.state h c.read.result.since c.next-run.result.since history stands c.read.ensures n c.next-run.ensures.value c.write.ensures
