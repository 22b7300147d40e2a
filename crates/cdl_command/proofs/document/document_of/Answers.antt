use Rattle.cdl_command.proofs.DocumentFacts.{fits, too_long}
use Rattle.cdl_command.proofs.document.document_of.Goals as goal

pub returns-then-is_too_long-clause-err : goal.returns-then-is_too_long-clause-err
returns-then-is_too_long-clause-err c =
    too_long c.args.net.now c.in_ok-text.text c.bytes.result.now c.is_too_long.result c.refused_root.result c.in_ok-text.ensures c.bytes.ensures c.is_too_long.ensures c.if-is_too_long.true c.refused_root.ensures

pub returns-clause-ok : goal.returns-clause-ok
returns-clause-ok c =
    fits c.args.net.now c.in_ok-text.text c.bytes.result.now c.is_too_long.result c.in_ok-text.ensures c.bytes.ensures c.is_too_long.ensures c.if-is_too_long.false
