use Rattle.std.proofs.Common.{arith}
use Rattle.std.proofs.lemmas.List.Elements.{All-get_or}
use Rattle.cdl_eval.specs.Kept.{IsKept}
use Rattle.cdl_eval.proofs.Keeping.{served}
use Rattle.cdl_eval.proofs.kept.serving.Goals as goal

pub returns-then-serves : goal.returns-then-serves
returns-then-serves c ds all =
    let facts = c.serves.ensures c.if-serves.true in
    let kept : IsKept ds c.index-entries-number.result = rw c.index-entries-number.is (All-get_or (IsKept ds) c.args.entries.now c.args.number c.index-entries-number.result (omega (arith, c.if-number-entries.false)) all) in
    served ds c.index-entries-number.result c.args.is_given c.args.links c.args.start.index c.args.steps.now c.args.name.now (c.more_links_change_nothing.ensures.value ds) (c.more_links_change_nothing.ensures.expression ds) kept facts.0 facts.1 facts.2 facts.3 facts.4
