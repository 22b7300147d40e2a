use Rattle.cdl_discrete.proofs.Sampling.{unit_delay_sound}
use Rattle.cdl_discrete.proofs.unit_delay.UnitDelayElementary.sound.Goals as goal

pub returns-then-is_interval-clause-standing : goal.returns-then-is_interval-clause-standing
returns-then-is_interval-clause-standing c h history stands last = unit_delay_sound c.args.self.now.period c.args.self.now.start c.args.last c.args.state.now h c.args.self.now.positive (rw (← c.count-range.ensures.value) c.count-range.ensures.range) history stands last

pub returns-else-is_interval-clause-standing : goal.returns-else-is_interval-clause-standing
returns-else-is_interval-clause-standing c h history stands last = unit_delay_sound c.args.self.now.period c.args.self.now.start c.args.last c.args.state.now h c.args.self.now.positive (rw (← c.count-range.ensures.value) c.count-range.ensures.range) history stands last
