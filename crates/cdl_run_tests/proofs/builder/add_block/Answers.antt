use Rattle.std.proofs.Common.{List, subst, sym}
use Rattle.cdl_connect.specs.declared.net.NetInstance.{NetInstance}
use Rattle.cdl_run_tests.specs.Kept.{AreKept}
use Rattle.cdl_run_tests.proofs.Keeping.{kept_more}
use Rattle.cdl_run_tests.proofs.builder.add_block.Goals as goal

pub returns : goal.returns
returns c = λ a. subst (λ (ts : List NetInstance). AreKept ts) (sym c.in_ok-push.ensures.ok) (kept_more c.args.net.now.instances _ a c.in_ok-params.ensures)
