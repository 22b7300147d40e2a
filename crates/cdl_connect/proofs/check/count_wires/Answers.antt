use Rattle.std.proofs.Common.{rules}
use Rattle.cdl_connect.proofs.Checks.{at_index, wire_counted, wire_fine}
use Rattle.cdl_connect.proofs.check.count_wires.Goals as goal

pub sink_end-end-requires : goal.sink_end-end-requires
sink_end-end-requires c =
    let s = at_index c.items-wires.result.now c.args.net.now.wires c.loop-k.k _ c.items-wires.ensures c.loop-k-test.true in
    record { ends = (c.requires.indexed.numbers.left c.loop-k.k _ s, c.requires.indexed.numbers.right c.loop-k.k _ s) }

pub loop-k-preserved : goal.loop-k-preserved
loop-k-preserved c =
    let s = at_index c.items-wires.result.now c.args.net.now.wires c.loop-k.k _ c.items-wires.ensures c.loop-k-test.true in (
      search rules,
      wire_fine c.args.net.now c.loop-k.k _ c.broken_wire.result s c.broken_wire.ensures c.in-None.is c.loop-k.invariant.1,
      wire_counted c.args.net.now c.loop-k.k _ c.loop-k.counts c.sink_end-end.result s c.loop-k.invariant.0 c.sink_end-end.ensures.end c.sink_end-end.ensures.inside c.loop-k.invariant.2,
    )
