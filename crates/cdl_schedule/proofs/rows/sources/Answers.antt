use Rattle.cdl_connect.proofs.Checks.{at_index}
use Rattle.cdl_schedule.proofs.Causes.{sources_next}
use Rattle.cdl_schedule.proofs.rows.sources.Goals as goal

pub loop-k-preserved : goal.loop-k-preserved
loop-k-preserved c =
    let s = at_index c.items-wires.result.now c.args.net.now.wires c.loop-k.k _ c.items-wires.ensures c.loop-k-test.true in
    sources_next c.args.net.now c.loop-k.k _ c.sink_end-sink.result c.source_end-source.result c.loop-k.sources.items c.loop-k.invariant s c.sink_end-sink.ensures.end c.source_end-source.ensures.end c.sink_end-sink.ensures.inside
