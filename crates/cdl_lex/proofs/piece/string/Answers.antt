use Rattle.std.proofs.Common.{sym, ap, ◌∙◌, false}
use Rattle.std.proofs.lemmas.List.{take_rest}
use Rattle.cdl_lex.specs.Steps.{inside_len}
use Rattle.cdl_lex.proofs.Pieces.{string_begins, no_string}
use Rattle.cdl_lex.proofs.piece.string.Goals as goal

pub returns-in-Some-clause-piece : goal.returns-in-Some-clause-piece
returns-in-Some-clause-piece c =
    rw c.token.ensures
    (string_begins c.args.rest.now c.in-Some.size c.requires.some c.requires.quote (sym (c.in-Some.ensures.size ∙ ap (inside_len false) (take_rest c.args.rest.now 1))))

pub returns-in-None-clause-none : goal.returns-in-None-clause-none
returns-in-None-clause-none c =
    no_string c.args.rest.now c.requires.some c.requires.quote (sym (c.in-None.ensures.size ∙ ap (inside_len false) (take_rest c.args.rest.now 1)))
