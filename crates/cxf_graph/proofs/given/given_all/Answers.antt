use Rattle.cxf_graph.proofs.Each.{next_given}
use Rattle.cxf_graph.proofs.given.given_all.Goals as goal

pub loop-i-preserved : goal.loop-i-preserved
loop-i-preserved c = next_given c.args.values.now c.parameters-parameter-items.result.now _ c.loop-i.given c.push_given.new.given c.loop-i.i _ _ c.loop-i-test.true c.array_at.ensures c.loop-i.invariant c.in_ok-push_given.ensures
