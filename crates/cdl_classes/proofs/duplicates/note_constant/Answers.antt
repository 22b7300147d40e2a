use Rattle.std.proofs.Common.{◌≡◌, ◌∙◌, Option, Some, ap, refl, arith}
use Rattle.std.specs.List.{slice_get}
use Rattle.std.specs.Map.{lookup}
use Rattle.std.proofs.lemmas.Option.{slice_get_read}
use Rattle.cdl_source.specs.declared.place.Place.{Place}
use Rattle.cdl_classes.specs.Places.{sooner}
use Rattle.cdl_scopes.proofs.Entries.{at, lookup-insert}
use Rattle.cdl_scopes.proofs.Meanings.{first_within}
use Rattle.cdl_classes.proofs.MarkLaws.{noted_constant}
use Rattle.cdl_classes.proofs.duplicates.note_constant.Goals as goal

pub returns-then-index-len : goal.returns-then-index-len
returns-then-index-len c = λ ds classes ns q h f none. absurd (omega (arith, h.size, first_within c.args.owner q ds f))

pub returns : goal.returns
returns c = λ ds classes ns q h f none.
    let old = c.index_mut-map.result.now in
    let here : slice_get c.args.constants.now.items c.args.owner ≡ Some c.index_mut-map.result.now =
    slice_get_read c.args.constants.now.items _ c.args.owner c.index_mut-map.result.now refl (omega arith) c.index_mut-map.ensures.value in
    let known = c.copied-known.ensures ∙ c.get.ensures.value in (
      noted_constant ds classes c.args.constants.now.items ns h c.index_mut-map.result.now c.insert.new.self c.args.owner q c.args.part.now c.args.place c.first_with.result f none here
          (λ y. ap (lookup (at y)) c.in_ok-insert.ensures.entries ∙ lookup-insert c.index_mut-map.result.now.entries c.in_ok-key.key c.first_with.result y ∙ rw c.in_ok-key.ensures.items refl)
          (c.first_with.ensures ∙ ap (λ (o : Option Place). sooner o c.args.place) known),
      known ∙ h.of_constant c.args.owner c.index_mut-map.result.now q c.args.part.now f none here,
    )
