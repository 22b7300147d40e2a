use Rattle.cdl_timed.proofs.HoldStates.{hold_sound}
use Rattle.cdl_timed.proofs.hold.TrueFalseHoldElementary.sound.Goals as goal

pub returns-then-is_boolean-clause-standing : goal.returns-then-is_boolean-clause-standing
returns-then-is_boolean-clause-standing c h history stands last = hold_sound c.args.self.now.true_hold c.args.self.now.false_hold c.args.last c.args.state.now h history stands last
