use Rattle.cdl_network.specs.Dependence.{is_root_input}
use Rattle.cdl_connect.specs.Nets.{network_of}
use Rattle.cdl_run.proofs.Building.{rows_next}
use Rattle.cdl_run_tests.proofs.roots.rows_in.Goals as goal

pub loop-x-preserved : goal.loop-x-preserved
loop-x-preserved c = rows_next (is_root_input (network_of c.args.net.now)) (network_of c.args.net.now).value_type c.loop-x.x c.loop-x.rows.items c.add_row.new.rows.items c.loop-x.invariant c.in_ok-add_row.ensures
