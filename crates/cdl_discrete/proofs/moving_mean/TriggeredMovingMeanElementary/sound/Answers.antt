use Rattle.cdl_discrete.proofs.WindowLaws.{mean_sound}
use Rattle.cdl_discrete.proofs.moving_mean.TriggeredMovingMeanElementary.sound.Goals as goal

pub returns-then-read-eq0-clause-standing : goal.returns-then-read-eq0-clause-standing
returns-then-read-eq0-clause-standing c h history stands last = mean_sound c.args.self.now.size c.args.state.now h c.args.self.now.some history stands

pub returns-else-read-eq0-clause-standing : goal.returns-else-read-eq0-clause-standing
returns-else-read-eq0-clause-standing c h history stands last = mean_sound c.args.self.now.size c.args.state.now h c.args.self.now.some history stands
