use Rattle.std.proofs.lemmas.Option.{same_Some}
use Rattle.std.proofs.lemmas.Result.{IfOk-weaker}
use Rattle.std.proofs.Common.{◌≡◌, ◌∙◌, ◌∷◌, ◌++◌, [], Option, Some, map, sym, ap}
use Rattle.std.specs.Prelude.{option_map}
use Rattle.cdl_source.specs.declared.place.Place.{Place}
use Rattle.cdl_tree.specs.declared.name.Ident.{Ident}
use Rattle.cdl_tree.specs.Parts.{class_name, items_of}
use Rattle.cdl_scopes.specs.Classes.{Declared, declared, full, name_of}
use Rattle.cdl_scopes.specs.Lookup.{first_of}
use Rattle.cdl_classes.specs.Rules.{Named, place, constant_named}
use Rattle.cdl_classes.specs.inner.Marks.{and_later}
use Rattle.cdl_classes.proofs.MarkLaws.{marked_first, own_first}
use Rattle.cdl_classes.proofs.TwiceClasses.{compose, one_step, step_as, named_is, named_package, named_block, named_enumeration, own_named}
use Rattle.cdl_classes.proofs.duplicates.mark_class.Goals as goal

pub returns-in_default : goal.returns-in_default
returns-in_default c = λ ns d marks here.
    let ds = declared c.args.classes.now in
    let tree = c.tree-tree.result.now in
    let same : d.tree ≡ tree = same_Some d.tree tree (sym (ap (option_map (λ (x : Declared). x.tree)) here) ∙ c.tree-tree.ensures.tree) in
    let file : c.file-file.result ≡ d.file = sym (same_Some d.file c.file-file.result (sym (ap (option_map (λ (x : Declared). x.file)) here) ∙ c.file-file.ensures)) in
    let name : c.bytes.result.now ≡ name_of d.tree = c.bytes.ensures ∙ ap (λ (i : Ident). i.text) (c.name-name.ensures ∙ ap class_name (sym same)) in
    absurd (own_first c.args.class ds d here (ap (λ x. first_of (d.outer ++ x ∷ []) ds) (sym name) ∙ sym (c.first_within.ensures d.outer (ap (option_map (λ (x : Declared). x.outer)) here)) ∙ c.in_default.is))

pub returns-in-Package : goal.returns-in-Package
returns-in-Package c = IfOk-weaker c.mark_constants.result _ _ (λ r more ns d marks here.
    let ds = declared c.args.classes.now in
    let tree = c.tree-tree.result.now in
    let same : d.tree ≡ tree = same_Some d.tree tree (sym (ap (option_map (λ (x : Declared). x.tree)) here) ∙ c.tree-tree.ensures.tree) in
    let file : c.file-file.result ≡ d.file = sym (same_Some d.file c.file-file.result (sym (ap (option_map (λ (x : Declared). x.file)) here) ∙ c.file-file.ensures)) in
    let name : c.bytes.result.now ≡ name_of d.tree = c.bytes.ensures ∙ ap (λ (i : Ident). i.text) (c.name-name.ensures ∙ ap class_name (sym same)) in
    let at : c.place_of-place.result ≡ place d.file (class_name d.tree) = c.place_of-place.ensures ∙ ap (place c.file-file.result) (c.name-name.ensures ∙ ap class_name (sym same)) ∙ ap (λ f. place f (class_name d.tree)) file in
    let first : first_of (full d) ds ≡ Some c.in-Some.owner = ap (λ x. first_of (d.outer ++ x ∷ []) ds) (sym name) ∙ sym (c.first_within.ensures d.outer (ap (option_map (λ (x : Declared). x.outer)) here)) ∙ c.in-Some.is in
    let n = c.note_class-known.ensures ds c.args.places.now.constants.items ns (full d) marks first in
    let m = c.with_later-first.ensures ∙ ap (λ (o : Option Place). and_later c.args.first o c.place_of-place.result) n.1 ∙ marked_first c.args.first (full d) c.place_of-place.result ns in
    let step = one_step ds c.note_class-known.new.classes.items c.args.places.now.constants.items c.args.first c.with_later-first.result ns _ n.0 m in
    let own = step_as ds c.note_class-known.new.classes.items c.args.places.now.constants.items c.args.first c.with_later-first.result ns _ (own_named d ∷ []) (ap (λ (z : Named). z ∷ []) (named_is (full d) c.place_of-place.result (place d.file (class_name d.tree)) at)) step in
    let rest = more _ d own.0 here first file in
    step_as ds c.mark_constants.new.places.classes.items c.mark_constants.new.places.constants.items c.args.first r ns _ _ (named_package d tree same (sym c.in-Package.is ∙ c.sort_of.ensures))
    (compose ds c.mark_constants.new.places.classes.items c.mark_constants.new.places.constants.items c.args.first c.with_later-first.result r ns _ (map (constant_named d) (items_of tree)) own.1
    (step_as ds c.mark_constants.new.places.classes.items c.mark_constants.new.places.constants.items c.with_later-first.result r _ _ _ (ap (map (constant_named d)) c.items.ensures) rest))) c.mark_constants.ensures

pub returns-in-Block : goal.returns-in-Block
returns-in-Block c = λ ns d marks here.
    let ds = declared c.args.classes.now in
    let tree = c.tree-tree.result.now in
    let same : d.tree ≡ tree = same_Some d.tree tree (sym (ap (option_map (λ (x : Declared). x.tree)) here) ∙ c.tree-tree.ensures.tree) in
    let file : c.file-file.result ≡ d.file = sym (same_Some d.file c.file-file.result (sym (ap (option_map (λ (x : Declared). x.file)) here) ∙ c.file-file.ensures)) in
    let name : c.bytes.result.now ≡ name_of d.tree = c.bytes.ensures ∙ ap (λ (i : Ident). i.text) (c.name-name.ensures ∙ ap class_name (sym same)) in
    let at : c.place_of-place.result ≡ place d.file (class_name d.tree) = c.place_of-place.ensures ∙ ap (place c.file-file.result) (c.name-name.ensures ∙ ap class_name (sym same)) ∙ ap (λ f. place f (class_name d.tree)) file in
    let first : first_of (full d) ds ≡ Some c.in-Some.owner = ap (λ x. first_of (d.outer ++ x ∷ []) ds) (sym name) ∙ sym (c.first_within.ensures d.outer (ap (option_map (λ (x : Declared). x.outer)) here)) ∙ c.in-Some.is in
    let n = c.note_class-known.ensures ds c.args.places.now.constants.items ns (full d) marks first in
    let m = c.with_later-first.ensures ∙ ap (λ (o : Option Place). and_later c.args.first o c.place_of-place.result) n.1 ∙ marked_first c.args.first (full d) c.place_of-place.result ns in
    let step = one_step ds c.note_class-known.new.classes.items c.args.places.now.constants.items c.args.first c.with_later-first.result ns _ n.0 m in
    let own = step_as ds c.note_class-known.new.classes.items c.args.places.now.constants.items c.args.first c.with_later-first.result ns _ (own_named d ∷ []) (ap (λ (z : Named). z ∷ []) (named_is (full d) c.place_of-place.result (place d.file (class_name d.tree)) at)) step in
    step_as ds c.note_class-known.new.classes.items c.args.places.now.constants.items c.args.first c.with_later-first.result ns _ _ (named_block d tree same (sym c.in-Block.is ∙ c.sort_of.ensures)) own

pub returns-in-Enumeration : goal.returns-in-Enumeration
returns-in-Enumeration c = λ ns d marks here.
    let ds = declared c.args.classes.now in
    let tree = c.tree-tree.result.now in
    let same : d.tree ≡ tree = same_Some d.tree tree (sym (ap (option_map (λ (x : Declared). x.tree)) here) ∙ c.tree-tree.ensures.tree) in
    let file : c.file-file.result ≡ d.file = sym (same_Some d.file c.file-file.result (sym (ap (option_map (λ (x : Declared). x.file)) here) ∙ c.file-file.ensures)) in
    let name : c.bytes.result.now ≡ name_of d.tree = c.bytes.ensures ∙ ap (λ (i : Ident). i.text) (c.name-name.ensures ∙ ap class_name (sym same)) in
    let at : c.place_of-place.result ≡ place d.file (class_name d.tree) = c.place_of-place.ensures ∙ ap (place c.file-file.result) (c.name-name.ensures ∙ ap class_name (sym same)) ∙ ap (λ f. place f (class_name d.tree)) file in
    let first : first_of (full d) ds ≡ Some c.in-Some.owner = ap (λ x. first_of (d.outer ++ x ∷ []) ds) (sym name) ∙ sym (c.first_within.ensures d.outer (ap (option_map (λ (x : Declared). x.outer)) here)) ∙ c.in-Some.is in
    let n = c.note_class-known.ensures ds c.args.places.now.constants.items ns (full d) marks first in
    let m = c.with_later-first.ensures ∙ ap (λ (o : Option Place). and_later c.args.first o c.place_of-place.result) n.1 ∙ marked_first c.args.first (full d) c.place_of-place.result ns in
    let step = one_step ds c.note_class-known.new.classes.items c.args.places.now.constants.items c.args.first c.with_later-first.result ns _ n.0 m in
    let own = step_as ds c.note_class-known.new.classes.items c.args.places.now.constants.items c.args.first c.with_later-first.result ns _ (own_named d ∷ []) (ap (λ (z : Named). z ∷ []) (named_is (full d) c.place_of-place.result (place d.file (class_name d.tree)) at)) step in
    step_as ds c.note_class-known.new.classes.items c.args.places.now.constants.items c.args.first c.with_later-first.result ns _ _ (named_enumeration d tree same (sym c.in-Enumeration.is ∙ c.sort_of.ensures)) own
