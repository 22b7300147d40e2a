use Rattle.cdl_run.proofs.Building.{block_is}
use Rattle.cdl_run.proofs.layout.block.Goals as goal

pub returns : goal.returns
returns c = block_is _ c.new.result c.args.kind _ _ c.in_ok-copy.ensures c.new.ensures.inputs c.new.ensures.results c.new.ensures.width c.new.ensures.meaning c.new.ensures.stands c.new.ensures.sound c.new.ensures.may_lack
