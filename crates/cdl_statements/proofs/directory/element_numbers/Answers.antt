use Rattle.std.proofs.Common.{rules}
use Rattle.cdl_statements.proofs.Keys.{element_next}
use Rattle.cdl_statements.proofs.directory.element_numbers.Goals as goal

pub loop-i-preserved : goal.loop-i-preserved
loop-i-preserved c = element_next c.args.instances.now c.args.elements.now c.args.paths.now c.loop-i.i c.loop-i.numbers c.insert.new.self c.in_ok-key.key c.index-elements-i.result c.path_at-path.result.now c.bytes-name.result.now c.items.result.now c.in-Ok.number
    c.loop-i.invariant c.loop-i-test.true c.index-elements-i.is c.path_at-path.ensures c.bytes-name.ensures c.items.ensures c.in_ok-key.ensures (search rules) c.in_ok-insert.ensures.entries
