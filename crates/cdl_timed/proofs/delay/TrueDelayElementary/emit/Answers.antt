use Rattle.std.proofs.Common.{◌≡◌, arith, of_z, to_z}
use Rattle.std.specs.Int.{w64}
use Rattle.std.proofs.lemmas.Int.{to_z-of_z}
use Rattle.cdl_timed.proofs.RunStates.{delay_gives}
use Rattle.cdl_timed.proofs.delay.TrueDelayElementary.emit.Goals as goal

pub returns-clause-gives : goal.returns-clause-gives
returns-clause-gives g c h history later stands =
    let n : to_z w64 (of_z w64 c.args.now) ≡ c.args.now = grind (arith, to_z-of_z) in
    delay_gives c.args.self.now.delay c.args.now _ c.args.state.now c.args.ins.now c.put_flag.new.words h c.read.result.since c.next-run.result.since c.args.self.now.on_init c.read.result.always c.next-run.result.always c.is_on.result c.output.result history stands c.read.ensures.since c.read.ensures.always n c.next-run.ensures.since c.next-run.ensures.always c.is_on.ensures c.output.ensures c.put_flag.ensures
