use Rattle.std.proofs.Common.{sym, ◌∙◌}
use Rattle.cdl_lex.proofs.Pieces.{blank_begins}
use Rattle.cdl_lex.proofs.piece.piece_at.Goals as goal

pub returns-then-has-clause-piece : goal.returns-then-has-clause-piece
returns-then-has-clause-piece c = rw c.gap.ensures (blank_begins c.args.rest.now c.requires (sym c.has.ensures ∙ c.if-has.true))
