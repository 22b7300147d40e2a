use Rattle.std.proofs.Common.{◌≡◌, ap, sym, ◌∙◌, if◌then◌else◌}
use Rattle.std.proofs.lemmas.Bool.{ne_eqb}
use Rattle.std.proofs.lemmas.List.{take_rest}
use Rattle.cdl_source.specs.declared.place.TokenSort.TheVariants.{Integer, Real}
use Rattle.cdl_lex.specs.Steps.{tail_len, number_sort}
use Rattle.cdl_lex.proofs.Pieces.{number_begins}
use Rattle.cdl_lex.proofs.piece.number.Goals as goal
use Rattle.cdl_lex.proofs.piece.number.Goals.{then-tail-eq0, else-tail-eq0}

pub returns : goal.returns
returns c =
    let kind : c.if-tail-eq0.sort ≡ number_sort c.tail_size-tail.result =
    elim c.if-tail-eq0.branch [
      | then-tail-eq0 w ↦ w.sort-is ∙ ap number_sort (sym w.if-tail-eq0.true)
      | else-tail-eq0 w ↦ w.sort-is ∙ ap (λ q. if q then Integer else Real) (sym (ne_eqb _ _ w.if-tail-eq0.false))
    ] in
    rw (c.token.ensures, kind)
    (number_begins c.args.rest.now c.prefix-whole.result c.tail_size-tail.result c.requires.some c.requires.digit c.prefix-whole.ensures.size
    (c.tail_size-tail.ensures.size ∙ ap tail_len (take_rest c.args.rest.now c.prefix-whole.result)))
