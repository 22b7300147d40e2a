use Rattle.std.proofs.Common.{sym, ap, ◌∙◌}
use Rattle.cdl_tree.specs.Terminals.{terminal_of}
use Rattle.cdl_reading.proofs.Next.{terminal_is}
use Rattle.cdl_reading.proofs.cursor.Cursor.peek.Goals as goal

pub returns : goal.returns
returns c =
    c.terminal_of.ensures ∙ ap (terminal_of c.token-token.result.sort) c.text_of.ensures
    ∙ terminal_is c.self.inside.tokens.now c.self.inside.at c.token-token.result c.args.self.now (sym c.self.view_is) c.token-token.ensures.token
