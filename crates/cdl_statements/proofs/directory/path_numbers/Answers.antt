use Rattle.std.proofs.Common.{rules, sym, ap, ◌∙◌}
use Rattle.cdl_walk.specs.declared.walked.Instance.{Instance}
use Rattle.cdl_statements.proofs.Keys.{path_next}
use Rattle.cdl_statements.proofs.directory.path_numbers.Goals as goal

pub loop-i-preserved : goal.loop-i-preserved
loop-i-preserved c = path_next c.args.instances.now c.loop-i.i c.loop-i.numbers c.insert.new.self c.in_ok-key.key c.index-instances-i.result c.items.result.now c.in-Ok.number
    c.loop-i.invariant c.loop-i-test.true c.index-instances-i.is (c.items.ensures ∙ sym (ap (λ (z : Instance). z.path.steps) c.index-instances-i.is)) c.in_ok-key.ensures (search rules) c.in_ok-insert.ensures.entries
