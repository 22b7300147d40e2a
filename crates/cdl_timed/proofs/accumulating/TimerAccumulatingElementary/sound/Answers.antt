use Rattle.cdl_timed.proofs.SumStates.{sum_sound}
use Rattle.cdl_timed.proofs.accumulating.TimerAccumulatingElementary.sound.Goals as goal

pub returns-then-has_inputs-clause-standing : goal.returns-then-has_inputs-clause-standing
returns-then-has_inputs-clause-standing c h history stands last = sum_sound c.args.self.now.time c.args.last c.args.state.now h history stands last
