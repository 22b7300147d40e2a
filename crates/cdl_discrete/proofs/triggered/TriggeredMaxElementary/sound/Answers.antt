use Rattle.cdl_discrete.proofs.Sampling.{greatest_sound}
use Rattle.cdl_discrete.proofs.triggered.TriggeredMaxElementary.sound.Goals as goal

pub returns-clause-standing : goal.returns-clause-standing
returns-clause-standing c h history stands last = greatest_sound c.args.state.now h history stands
