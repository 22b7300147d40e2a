use Rattle.cdl_connect.specs.Nets.{network_of}
use Rattle.cdl_run.proofs.Building.{kept_next}
use Rattle.cdl_run_tests.proofs.roots.blocks_in.Goals as goal

pub loop-i-preserved : goal.loop-i-preserved
loop-i-preserved c = kept_next (network_of c.args.net.now).elementary c.loop-i.i c.loop-i.blocks.items c.add_block.new.blocks.items c.loop-i.invariant c.in_ok-add_block.ensures
