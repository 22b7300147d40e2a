use Rattle.cdl_discrete.proofs.Sampling.{caught_sound}
use Rattle.cdl_discrete.proofs.triggered.TriggeredSamplerElementary.sound.Goals as goal

pub returns-clause-standing : goal.returns-clause-standing
returns-clause-standing c h history stands last = caught_sound c.args.self.now.start c.args.state.now h (rw (← c.count-range.ensures.value) c.count-range.ensures.range) history stands
