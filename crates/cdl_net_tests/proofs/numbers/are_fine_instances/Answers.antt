use Rattle.std.proofs.Common.{subst}
use Rattle.cdl_net_tests.specs.Fine.{IsFineInstance}
use Rattle.cdl_net_tests.proofs.Indexing.{instance_more}
use Rattle.cdl_net_tests.proofs.numbers.are_fine_instances.Goals as goal

pub loop-i-preserved : goal.loop-i-preserved
loop-i-preserved c =
    instance_more c.args.net.now c.items-instances.result.now c.loop-i.i c.index-instances-i.result c.items-instances.ensures c.loop-i-test.true
    (subst (λ t. IsFineInstance c.args.net.now c.loop-i.i t) c.index-instances-i.is (c.is_fine_instance.ensures c.if-not-is_fine_instance.false))
    c.loop-i.invariant
