use Rattle.std.proofs.Common.{◌≡◌, ◌∙◌, ◌++◌, ◌∷◌, [], Option, Some, map, take, ap, refl, arith}
use Rattle.std.specs.List.{slice_get}
use Rattle.std.proofs.lemmas.Option.{slice_get_read}
use Rattle.cdl_source.specs.declared.place.Place.{Place}
use Rattle.cdl_scopes.specs.Classes.{declared, full}
use Rattle.cdl_classes.specs.Rules.{Named, place, constant_named}
use Rattle.cdl_classes.specs.inner.Marks.{and_later}
use Rattle.cdl_scopes.proofs.Walk.{take_whole}
use Rattle.cdl_classes.proofs.MarkLaws.{marked_first}
use Rattle.cdl_classes.proofs.TwiceClasses.{compose, one_step, step_as, constants_more, name_is}
use Rattle.cdl_classes.proofs.duplicates.mark_constants.Goals as goal

pub loop-item-preserved : goal.loop-item-preserved
loop-item-preserved c = λ ns d marks here first file.
    let ds = declared c.args.classes.now in
    let classes = c.note_name.new.places.classes.items in
    let constants = c.note_name.new.places.constants.items in
    let i = c.loop-item.invariant ns d marks here first file in
    let item : slice_get c.args.items.now c.loop-item.item-index ≡ Some c.item-item.result = slice_get_read c.args.items.now _ c.loop-item.item-index c.item-item.result refl (omega arith) c.item-item.is in
    let xs = map (constant_named d) (take c.loop-item.item-index c.args.items.now) in
    let n = c.in_ok-known.ensures (ns ++ xs) d i.0 here first in
    let m = c.with_later-first.ensures ∙ ap (λ (o : Option Place). and_later c.loop-item.first o c.place_of-place.result) n.1
    ∙ marked_first c.loop-item.first (full d ++ c.bytes.result.now ∷ []) c.place_of-place.result (ns ++ xs) in
    let at : c.place_of-place.result ≡ place d.file c.item-item.result.name = c.place_of-place.ensures ∙ ap (λ f. place f c.item-item.result.name) file in
    let named = name_is (full d) c.bytes.result.now c.item-item.result.name.text c.place_of-place.result (place d.file c.item-item.result.name) c.bytes.ensures at in
    step_as ds classes constants c.args.first c.with_later-first.result ns _ _ (ap (λ (z : Named). xs ++ z ∷ []) named ∙ constants_more d c.args.items.now c.loop-item.item-index c.item-item.result item)
    (compose ds classes constants c.args.first c.loop-item.first c.with_later-first.result ns xs _ i.1 (one_step ds classes constants c.loop-item.first c.with_later-first.result (ns ++ xs) _ n.0 m))

pub returns : goal.returns
returns c = λ ns d marks here first file.
    step_as (declared c.args.classes.now) c.loop-item.places.classes.items c.loop-item.places.constants.items c.args.first c.loop-item.first ns _ _
    (ap (map (constant_named d)) (take_whole c.loop-item.item-index c.args.items.now (omega arith))) (c.loop-item.invariant ns d marks here first file)
