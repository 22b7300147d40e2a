use Rattle.cdl_run.specs.Words.{is_root_output}
use Rattle.cdl_run.proofs.Building.{kept_next}
use Rattle.cdl_run_tests.proofs.roots.outputs_in.Goals as goal

pub loop-x-preserved : goal.loop-x-preserved
loop-x-preserved c = kept_next (is_root_output c.args.net.now) c.loop-x.x c.loop-x.outputs.items c.add_output.new.outputs.items c.loop-x.invariant c.in_ok-add_output.ensures
