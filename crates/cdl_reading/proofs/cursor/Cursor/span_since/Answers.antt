use Rattle.std.proofs.Common.{sym, arith}
use Rattle.cdl_reading.proofs.Next.{span_is, no_span}
use Rattle.cdl_reading.proofs.cursor.Cursor.span_since.Goals as goal

pub returns-then-end-start : goal.returns-then-end-start
returns-then-end-start c = no_span c.start.inside.tokens.now c.start.inside.at c.saturating_sub-end.result c.args.start.now c.args.self.now (sym c.start.view_is) (omega arith) (omega arith)

pub returns : goal.returns
returns c =
    span_is c.start.inside.tokens.now c.start.inside.at c.saturating_sub-end.result _ _ c.args.start.now c.args.self.now (sym c.start.view_is) (omega arith) (omega arith)
    c.token-first.ensures.token c.token-last.ensures.token
