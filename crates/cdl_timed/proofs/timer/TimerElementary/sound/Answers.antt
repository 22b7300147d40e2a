use Rattle.cdl_timed.proofs.RunStates.{timer_sound}
use Rattle.cdl_timed.proofs.timer.TimerElementary.sound.Goals as goal

pub returns-else-is_time-clause-standing : goal.returns-else-is_time-clause-standing
returns-else-is_time-clause-standing c h history stands last = timer_sound c.args.last c.args.state.now h history stands last
