use Rattle.std.proofs.Common.{sym, ap, ◌∙◌, arith}
use Rattle.std.proofs.lemmas.List.{take_rest}
use Rattle.cdl_lex.specs.Steps.{block_len}
use Rattle.cdl_lex.proofs.Pieces.{line_begins, block_begins, no_block, slash_begins}
use Rattle.cdl_lex.proofs.piece.slash.Goals as goal
use Rattle.cdl_lex.proofs.piece.slash.Goals.{else-rest-gt1-via-then-rest-gt1+else-rest-eq47, else-rest-gt1-via-else-rest-gt1, else-rest-gt1-2-via-then-rest-gt1-2+else-rest-eq42, else-rest-gt1-2-via-else-rest-gt1-2}

pub returns-then-rest-eq47-clause-piece : goal.returns-then-rest-eq47-clause-piece
returns-then-rest-eq47-clause-piece c =
    rw (c.gap.ensures, c.prefix.ensures.size, take_rest c.args.rest.now 2) (line_begins c.args.rest.now c.if-rest-gt1.true c.requires.slash c.if-rest-eq47.true)

pub returns-in-Some-clause-piece : goal.returns-in-Some-clause-piece
returns-in-Some-clause-piece c =
    rw c.gap-in-Some.ensures
    (block_begins c.args.rest.now c.in-Some.size c.if-rest-gt1-2.true c.requires.slash c.if-rest-eq42.true (sym (c.in-Some.ensures.size ∙ ap block_len (take_rest c.args.rest.now 2))))

pub returns-in-None-clause-none : goal.returns-in-None-clause-none
returns-in-None-clause-none c =
    no_block c.args.rest.now c.if-rest-gt1-2.true c.requires.slash c.if-rest-eq42.true (sym (c.in-None.ensures.size ∙ ap block_len (take_rest c.args.rest.now 2)))

pub returns-else-rest-gt1-2-clause-piece : goal.returns-else-rest-gt1-2-clause-piece
returns-else-rest-gt1-2-clause-piece c = rw c.token.ensures (slash_begins c.args.rest.now c.requires.some c.requires.slash (λ more. (
  elim c.else-rest-gt1.branch [
    | else-rest-gt1-via-then-rest-gt1+else-rest-eq47 w ↦ w.if-rest-eq47.false
    | else-rest-gt1-via-else-rest-gt1 w ↦ absurd (omega (arith, w.if-rest-gt1.false))
  ],
  elim c.else-rest-gt1-2.branch [
    | else-rest-gt1-2-via-then-rest-gt1-2+else-rest-eq42 w ↦ w.if-rest-eq42.false
    | else-rest-gt1-2-via-else-rest-gt1-2 w ↦ absurd (omega (arith, w.if-rest-gt1-2.false))
  ],
)))
