use Rattle.cdl_kind_laws.proofs.Past.{past}
use Rattle.cdl_discrete.proofs.WindowLaws.{mean_kept, mean_stands_by}
use Rattle.cdl_discrete.proofs.moving_mean.TriggeredMovingMeanElementary.absorb.Goals as goal

pub returns-clause-sound : goal.returns-clause-sound
returns-clause-sound c = mean_kept c.args.self.now.size c.read-window.result.count c.next_count-count.result c.read-window.result.begun c.read-window.result.trigger c.picks-picked.result c.args.state.now c.args.ins.now c.keep.new.state c.args.self.now.some c.requires.sound.2 c.requires.ready c.read-window.ensures.begun c.read-window.ensures.trigger c.read-window.ensures.count c.picks-picked.ensures c.next_count-count.ensures c.keep.ensures

pub returns-clause-stands : goal.returns-clause-stands
returns-clause-stands c h stands history =
    mean_stands_by c.args.self.now.size c.read-window.result.count c.next_count-count.result c.args._now c.read-window.result.begun c.read-window.result.trigger c.picks-picked.result c.args.state.now c.args.ins.now c.keep.new.state h c.args.self.now.some c.requires.state (past _ h history) stands c.read-window.ensures.begun c.read-window.ensures.trigger c.read-window.ensures.count c.picks-picked.ensures c.next_count-count.ensures c.keep.ensures
