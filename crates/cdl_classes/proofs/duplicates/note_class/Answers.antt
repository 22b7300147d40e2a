use Rattle.std.proofs.Common.{◌≡◌, ◌∙◌, ◌++◌, ◌∷◌, [], List, Option, Some, None, ap, sym, subst, arith}
use Rattle.std.specs.Prelude.{unwrap_or}
use Rattle.std.specs.List.{slice_get}
use Rattle.cdl_source.specs.declared.place.Place.{Place}
use Rattle.cdl_scopes.proofs.Meanings.{first_within}
use Rattle.cdl_classes.specs.Places.{sooner}
use Rattle.cdl_classes.specs.Rules.{Named}
use Rattle.cdl_classes.specs.inner.Marks.{Marks, mark_from}
use Rattle.cdl_classes.proofs.MarkLaws.{noted_class}
use Rattle.cdl_classes.proofs.duplicates.note_class.Goals as goal

pub returns-then-index-len : goal.returns-then-index-len
returns-then-index-len c = λ ds constants ns q h f. absurd (omega (arith, h.many, first_within c.args.class q ds f))

pub returns : goal.returns
returns c = λ ds constants ns q h f.
    let n : Named = record { full = q; at = c.args.place } in
    let known : c.place_at-known.result ≡ mark_from q None ns =
    c.place_at-known.ensures ∙ ap (λ (os : List (Option Place)). unwrap_or (slice_get os c.args.class) None) c.as_slice.ensures.value ∙ ap (λ (o : Option (Option Place)). unwrap_or o None) (h.of_class c.args.class q f) in
    let put : Some c.first_with.result ≡ sooner (mark_from q None ns) c.args.place = c.first_with.ensures ∙ ap (λ (o : Option Place). sooner o c.args.place) known in
    let P : List (Option Place) → Type 0 = λ os. Marks ds os constants (ns ++ n ∷ []) in
    (subst P (sym c.set_place.ensures) (noted_class ds c.args.classes.now.items constants ns h c.args.class q c.args.place c.first_with.result f put), known)
