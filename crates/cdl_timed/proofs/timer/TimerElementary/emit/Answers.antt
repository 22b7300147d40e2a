use Rattle.std.proofs.Common.{◌≡◌, arith, of_z, to_z}
use Rattle.std.specs.Int.{w64}
use Rattle.std.proofs.lemmas.Int.{to_z-of_z}
use Rattle.cdl_timed.proofs.RunStates.{timer_gives}
use Rattle.cdl_timed.proofs.timer.TimerElementary.emit.Goals as goal

pub returns-clause-gives : goal.returns-clause-gives
returns-clause-gives g c h history later stands =
    let n : to_z w64 (of_z w64 c.args.now) ≡ c.args.now = grind (arith, to_z-of_z) in
    let z : to_z w64 (of_z w64 c.run_length-length.result) ≡ c.run_length-length.result = grind (arith, to_z-of_z) in
    timer_gives c.args.self.now.time c.args.now _ c.run_length-length.result _ c.args.state.now c.args.ins.now c.put_timed.new.words h c.read.result.since c.next-run.result.since c.is_on.result history stands c.read.ensures n c.next-run.ensures.value c.run_length-length.ensures.value z c.is_on.ensures c.put_timed.ensures.value
