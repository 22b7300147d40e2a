use Rattle.std.proofs.Common.{◌<◌, length, map}
use Rattle.cxf_graph.specs.Written.{inner, nodes_from, parts}
use Rattle.cxf_graph.proofs.Each.{at_group, ends_in, next_instance}
use Rattle.cxf_graph.proofs.writer.graph.Goals as goal

pub push_instance-requires-clause-ends : goal.push_instance-requires-clause-ends
push_instance-requires-clause-ends c =
    let h : c.loop-i.i < length c.args.net.now.instances = rw c.items-instances.ensures at c.loop-i-test.true in
    ends_in c.args.net.now c.loop-i.i (map (λ w. w.now) c.items-in-loop-i.result.now) c.requires.numbers
    (at_group c.in_ok-wires.wires.items c.loop-i.i _ c.index-in-loop-i.result.now c.items-in-loop-i.result.now (inner c.args.net.now) c.in_ok-wires.ensures.count h c.items-in-loop-i.ensures c.index-in-loop-i.ensures c.in_ok-wires.ensures.wires)

pub loop-i-preserved : goal.loop-i-preserved
loop-i-preserved c =
    let h : c.loop-i.i < length c.args.net.now.instances = rw c.items-instances.ensures at c.loop-i-test.true in
    let r = rw c.items-instances.ensures at c.index-instances-i.is in
    let p = at_group c.in_ok-parts.parts.items c.loop-i.i _ c.index.result.now c.items.result.now (parts c.args.net.now) c.in_ok-parts.ensures.count h c.items.ensures c.index.ensures c.in_ok-parts.ensures.parts in
    let w = at_group c.in_ok-wires.wires.items c.loop-i.i _ c.index-in-loop-i.result.now c.items-in-loop-i.result.now (inner c.args.net.now) c.in_ok-wires.ensures.count h c.items-in-loop-i.ensures c.index-in-loop-i.ensures c.in_ok-wires.ensures.wires in
    next_instance c.args.net.now (nodes_from c.args.net.now 0 c.args.net.now.instances) c.loop-i.i c.index-instances-i.result c.loop-i.nodes c.push_instance.new.nodes _ _ h r p w c.loop-i.invariant c.in_ok-push_instance.ensures
