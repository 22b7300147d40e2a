use Rattle.std.proofs.Common.{◌<◌, length}
use Rattle.cdl_connect.proofs.Checks.{sink_broken, sink_fine}
use Rattle.cdl_connect.proofs.check.count_sinks.Goals as goal

pub returns-in-Some-clause-some : goal.returns-in-Some-clause-some
returns-in-Some-clause-some c =
    let h : c.loop-x.x < length c.args.net.now.elements = rw c.items-x-end.ensures at c.loop-x-test.true in
    sink_broken c.args.net.now c.loop-x.x _ c.is_wanted.result c.broken_sink.result c.in-Some.fault c.at_element.result c.requires.fine c.loop-x.invariant h (c.requires.counts c.loop-x.x h) c.is_wanted.ensures c.broken_sink.ensures c.in-Some.is c.at_element.ensures

pub loop-x-preserved : goal.loop-x-preserved
loop-x-preserved c =
    let h : c.loop-x.x < length c.args.net.now.elements = rw c.items-x-end.ensures at c.loop-x-test.true in
    sink_fine c.args.net.now c.loop-x.x _ c.is_wanted.result c.broken_sink.result c.loop-x.invariant (c.requires.counts c.loop-x.x h) c.is_wanted.ensures c.broken_sink.ensures c.in-None.is
