use Rattle.cdl_expand.proofs.Windows.{lent_first, more}
use Rattle.cdl_expand.proofs.parts.net_instances.Goals as goal

pub end_of-end-requires-clause-first : goal.end_of-end-requires-clause-first
end_of-end-requires-clause-first c = lent_first c.args.elements.now c.loop-instance.yielded c.loop-instance.all c.items.result.now c.loop-instance.first c.loop-instance.invariant.so_far c.items.ensures c.loop-instance.invariant.first

pub loop-instance-preserved : goal.loop-instance-preserved
loop-instance-preserved c =
    let z = more c.args.elements.now c.loop-instance.yielded c.in-Some.instance c.loop-instance.all c.items.result.now c.push.new.self c.in_ok-net_instance.field-0 c.loop-instance.first c.end_of-end.result
    c.loop-instance.invariant.so_far c.items.ensures c.loop-instance.invariant.first c.end_of-end.ensures.end c.in_ok-net_instance.ensures c.in_ok-push.ensures.ok in
    record { so_far = z.0; first = z.1 }
