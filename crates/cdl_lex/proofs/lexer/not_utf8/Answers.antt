use Rattle.cdl_lex.proofs.First.{first_not_utf8, is_utf8}
use Rattle.cdl_lex.proofs.lexer.not_utf8.Goals as goal

pub returns-in-Ok-clause-first : goal.returns-in-Ok-clause-first
returns-in-Ok-clause-first c = is_utf8 c.args.bytes.now c.in-Ok.ensures.cases.1

pub returns-in-Err-clause-first : goal.returns-in-Err-clause-first
returns-in-Err-clause-first c = rw c.valid_up_to.ensures (first_not_utf8 c.args.bytes.now _ c.in-Err.ensures.cases.1)
