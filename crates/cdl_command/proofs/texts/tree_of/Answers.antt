use Rattle.cdl_command.proofs.TextFacts.{tree_found}
use Rattle.cdl_command.proofs.texts.tree_of.Goals as goal

pub returns-in-Ok-parse-clause-ok : goal.returns-in-Ok-parse-clause-ok
returns-in-Ok-parse-clause-ok c =
    tree_found c.in-Ok.tokens c.args.bytes.now _ c.in-Ok.ensures.bytes c.in-Ok.ensures.unbroken c.in-Ok.ensures.found c.in-Ok.ensures.only
    c.in-Ok-parse.ensures.found c.in-Ok-parse.ensures.only
