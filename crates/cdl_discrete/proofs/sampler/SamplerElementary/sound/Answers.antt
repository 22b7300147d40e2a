use Rattle.cdl_discrete.proofs.Sampling.{sampler_sound}
use Rattle.cdl_discrete.proofs.sampler.SamplerElementary.sound.Goals as goal

pub returns-then-is_interval-clause-standing : goal.returns-then-is_interval-clause-standing
returns-then-is_interval-clause-standing c h history stands last = sampler_sound c.args.self.now.period c.args.last c.args.state.now h c.args.self.now.positive history stands last

pub returns-else-is_interval-clause-standing : goal.returns-else-is_interval-clause-standing
returns-else-is_interval-clause-standing c h history stands last = sampler_sound c.args.self.now.period c.args.last c.args.state.now h c.args.self.now.positive history stands last
