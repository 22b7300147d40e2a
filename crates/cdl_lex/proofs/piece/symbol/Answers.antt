use Rattle.std.proofs.Common.{sym, ◌∙◌, arith}
use Rattle.cdl_lex.proofs.Pieces.{no_sign, sign_begins, pair_begins}
use Rattle.cdl_lex.proofs.piece.symbol.Goals as goal
use Rattle.cdl_lex.proofs.piece.symbol.Goals.{else-rest-gt1-via-then-rest-gt1+else-is_pair, else-rest-gt1-via-else-rest-gt1}

pub returns-then-not-is_symbol-clause-none : goal.returns-then-not-is_symbol-clause-none
returns-then-not-is_symbol-clause-none c = no_sign c.args.rest.now c.requires.some c.requires.other (sym c.is_symbol.ensures ∙ c.if-not-is_symbol.true)

pub returns-then-is_pair-clause-piece : goal.returns-then-is_pair-clause-piece
returns-then-is_pair-clause-piece c =
    rw c.token.ensures (pair_begins c.args.rest.now c.if-rest-gt1.true c.requires.other (sym c.is_pair.ensures ∙ c.if-is_pair.true))

pub returns-else-rest-gt1-clause-piece : goal.returns-else-rest-gt1-clause-piece
returns-else-rest-gt1-clause-piece c =
    rw c.token-else-rest-gt1.ensures
    (sign_begins c.args.rest.now c.requires.some c.requires.other (sym c.is_symbol.ensures ∙ c.if-not-is_symbol.false)
    (λ more. elim c.else-rest-gt1.branch [
      | else-rest-gt1-via-then-rest-gt1+else-is_pair w ↦ sym w.is_pair.ensures ∙ w.if-is_pair.false
      | else-rest-gt1-via-else-rest-gt1 w ↦ absurd (omega (arith, w.if-rest-gt1.false))
    ]))
