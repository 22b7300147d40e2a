use Rattle.std.proofs.lemmas.Option.{same_Some}
use Rattle.std.proofs.Common.{◌≡◌, ◌∙◌, List, Bool, true, false, map, sym, ap}
use Rattle.std.specs.Prelude.{option_map}
use Rattle.cdl_source.specs.declared.place.Place.{Place}
use Rattle.cdl_tree.specs.declared.name.Ident.{Ident}
use Rattle.cdl_tree.specs.declared.class.Item.{Item}
use Rattle.cdl_tree.specs.Parts.{class_name, items_of, literals_of}
use Rattle.cdl_scopes.specs.Classes.{Declared, declared, full}
use Rattle.cdl_classes.specs.Places.{least}
use Rattle.cdl_classes.specs.Rules.{place, is_taken, if_broken, name_ident, taken_constants, type_names}
use Rattle.cdl_classes.proofs.TakenClasses.{taken_package_class, taken_block_class, taken_enumeration_class}
use Rattle.cdl_classes.proofs.free_names.with_class.Goals as goal

pub returns-in-Package : goal.returns-in-Package
returns-in-Package c = λ d here.
    let ds = declared c.args.classes.now in
    let tree = c.tree-tree.result.now in
    let same : d.tree ≡ tree = same_Some d.tree tree (sym (ap (option_map (λ (x : Declared). x.tree)) here) ∙ c.tree-tree.ensures.tree) in
    let file : c.file-file.result ≡ d.file = sym (same_Some d.file c.file-file.result (sym (ap (option_map (λ (x : Declared). x.file)) here) ∙ c.file-file.ensures)) in
    let at : c.place_of-place.result ≡ place d.file (class_name tree) =
    c.place_of-place.ensures ∙ ap (place c.file-file.result) c.name-name.ensures ∙ ap (λ f. place f (class_name tree)) file in
    let taken : c.is_taken.result ≡ is_taken ds true d.outer (class_name tree).text =
    c.is_taken.ensures d.outer (ap (option_map (λ (x : Declared). x.outer)) here) ∙ ap (is_taken ds true d.outer) (c.bytes.ensures ∙ ap (λ (i : Ident). i.text) c.name-name.ensures) in
    let own : c.with_broken-first.result ≡ least c.args.first (if_broken (is_taken ds true d.outer (class_name tree).text) (place d.file (class_name tree))) =
    c.with_broken-first.ensures ∙ ap (λ (p : Place). least c.args.first (if_broken c.is_taken.result p)) at
    ∙ ap (λ (b : Bool). least c.args.first (if_broken b (place d.file (class_name tree)))) taken in
    c.with_constants.ensures d here
    ∙ ap (λ (xs : List Item). least c.with_broken-first.result (taken_constants ds c.file-file.result (full d) xs)) c.items.ensures
    ∙ ap (λ f. least c.with_broken-first.result (taken_constants ds f (full d) (items_of tree))) file
    ∙ taken_package_class ds d tree c.args.first c.with_broken-first.result same (sym c.in-Package.is ∙ c.sort_of.ensures) own

pub returns-in-Block : goal.returns-in-Block
returns-in-Block c = λ d here.
    let ds = declared c.args.classes.now in
    let tree = c.tree-tree.result.now in
    let same : d.tree ≡ tree = same_Some d.tree tree (sym (ap (option_map (λ (x : Declared). x.tree)) here) ∙ c.tree-tree.ensures.tree) in
    let file : c.file-file.result ≡ d.file = sym (same_Some d.file c.file-file.result (sym (ap (option_map (λ (x : Declared). x.file)) here) ∙ c.file-file.ensures)) in
    let at : c.place_of-place.result ≡ place d.file (class_name tree) =
    c.place_of-place.ensures ∙ ap (place c.file-file.result) c.name-name.ensures ∙ ap (λ f. place f (class_name tree)) file in
    let taken : c.is_taken-in-Block.result ≡ is_taken ds false d.outer (class_name tree).text =
    c.is_taken-in-Block.ensures d.outer (ap (option_map (λ (x : Declared). x.outer)) here) ∙ ap (is_taken ds false d.outer) (c.bytes-in-Block.ensures ∙ ap (λ (i : Ident). i.text) c.name-name.ensures) in
    let own : c.with_broken-first-in-Block.result ≡ least c.args.first (if_broken (is_taken ds false d.outer (class_name tree).text) (place d.file (class_name tree))) =
    c.with_broken-first-in-Block.ensures ∙ ap (λ (p : Place). least c.args.first (if_broken c.is_taken-in-Block.result p)) at
    ∙ ap (λ (b : Bool). least c.args.first (if_broken b (place d.file (class_name tree)))) taken in
    c.with_items.ensures
    ∙ ap (λ (xs : List Item). least c.with_broken-first-in-Block.result (type_names c.file-file.result (map name_ident xs))) c.items-in-Block.ensures
    ∙ ap (λ f. least c.with_broken-first-in-Block.result (type_names f (map name_ident (items_of tree)))) file
    ∙ taken_block_class ds d tree c.args.first c.with_broken-first-in-Block.result same (sym c.in-Block.is ∙ c.sort_of.ensures) own

pub returns-in-Enumeration : goal.returns-in-Enumeration
returns-in-Enumeration c = λ d here.
    let ds = declared c.args.classes.now in
    let tree = c.tree-tree.result.now in
    let same : d.tree ≡ tree = same_Some d.tree tree (sym (ap (option_map (λ (x : Declared). x.tree)) here) ∙ c.tree-tree.ensures.tree) in
    let file : c.file-file.result ≡ d.file = sym (same_Some d.file c.file-file.result (sym (ap (option_map (λ (x : Declared). x.file)) here) ∙ c.file-file.ensures)) in
    let at : c.place_of-place.result ≡ place d.file (class_name tree) =
    c.place_of-place.ensures ∙ ap (place c.file-file.result) c.name-name.ensures ∙ ap (λ f. place f (class_name tree)) file in
    let taken : c.is_taken-in-Enumeration.result ≡ is_taken ds false d.outer (class_name tree).text =
    c.is_taken-in-Enumeration.ensures d.outer (ap (option_map (λ (x : Declared). x.outer)) here) ∙ ap (is_taken ds false d.outer) (c.bytes-in-Enumeration.ensures ∙ ap (λ (i : Ident). i.text) c.name-name.ensures) in
    let own : c.with_broken-first-in-Enumeration.result ≡ least c.args.first (if_broken (is_taken ds false d.outer (class_name tree).text) (place d.file (class_name tree))) =
    c.with_broken-first-in-Enumeration.ensures ∙ ap (λ (p : Place). least c.args.first (if_broken c.is_taken-in-Enumeration.result p)) at
    ∙ ap (λ (b : Bool). least c.args.first (if_broken b (place d.file (class_name tree)))) taken in
    c.with_literals.ensures
    ∙ ap (λ (xs : List Ident). least c.with_broken-first-in-Enumeration.result (type_names c.file-file.result xs)) c.literals.ensures
    ∙ ap (λ f. least c.with_broken-first-in-Enumeration.result (type_names f (literals_of tree))) file
    ∙ taken_enumeration_class ds d tree c.args.first c.with_broken-first-in-Enumeration.result same (sym c.in-Enumeration.is ∙ c.sort_of.ensures) own
