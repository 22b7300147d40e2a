use Rattle.cdl_timed.proofs.RunStates.{delay_sound}
use Rattle.cdl_timed.proofs.delay.TrueDelayElementary.sound.Goals as goal

pub returns-else-is_time-clause-standing : goal.returns-else-is_time-clause-standing
returns-else-is_time-clause-standing c h history stands last = delay_sound c.args.last c.args.state.now h history stands last
