use Rattle.std.proofs.Common.{◌+◌, ap, ◌∙◌}
use Rattle.std.specs.List.{prefix_len}
use Rattle.std.proofs.lemmas.List.{take_rest}
use Rattle.cdl_source.specs.Identifiers.{is_word_byte}
use Rattle.cdl_lex.proofs.Pieces.{word_begins}
use Rattle.cdl_lex.proofs.piece.word.Goals as goal

pub returns : goal.returns
returns c =
    rw (c.token.ensures, c.word_sort.ensures)
    (word_begins c.args.rest.now _ c.requires.some c.requires.initial (ap (λ z. 1 + z) (c.prefix-size.ensures.size ∙ ap (prefix_len is_word_byte) (take_rest c.args.rest.now 1))))
