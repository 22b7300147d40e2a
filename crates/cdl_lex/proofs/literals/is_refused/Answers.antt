use Rattle.std.proofs.Common.{IsTrue, sym, subst, Ok, Err}
use Rattle.cdl_lex.specs.Limits.{IsRefused}
use Rattle.cdl_lex.proofs.Great.{refused_law}
use Rattle.cdl_lex.proofs.literals.is_refused.Goals as goal

pub returns-in-Ok : goal.returns-in-Ok
returns-in-Ok c = refused_law c.args.text.now (Ok c.in-Ok.field-0) c.in-Ok.ensures.exact c.in-Ok.ensures.only

pub returns-in-Err : goal.returns-in-Err
returns-in-Err c =
    subst (λ z. (IsTrue z → IsRefused c.args.text.now) × (IsRefused c.args.text.now → IsTrue z)) (sym c.is_limit.ensures)
    (refused_law c.args.text.now (Err c.in-Err.error) c.in-Err.ensures.exact c.in-Err.ensures.only)
