use Rattle.std.proofs.Common.{arith}
use Rattle.cdl_discrete.proofs.WindowLaws.{start_sound}
use Rattle.cdl_discrete.proofs.moving_mean.TriggeredMovingMeanElementary.reset.Goals as goal

pub returns-clause-sound : goal.returns-clause-sound
returns-clause-sound c = start_sound c.args.self.now.size _ c.put_three.new.words c.clear.new.words c.args.self.now.some c.put_three.ensures c.clear.ensures (omega (arith, c.requires, c.split_at_mut-head.ensures.back_len))
