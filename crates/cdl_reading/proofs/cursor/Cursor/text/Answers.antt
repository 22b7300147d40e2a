use Rattle.std.proofs.Common.{sym, ◌∙◌}
use Rattle.cdl_reading.proofs.Next.{text_is}
use Rattle.cdl_reading.proofs.cursor.Cursor.text.Goals as goal

pub returns : goal.returns
returns c = c.text_of.ensures ∙ text_is c.self.inside.tokens.now c.self.inside.at c.token.result c.args.self.now (sym c.self.view_is) c.token.ensures.token
