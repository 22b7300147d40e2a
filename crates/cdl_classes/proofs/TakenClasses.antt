-- Names that are not free, class by class.
use Rattle.std.proofs.Common.{◌≡◌, ◌<◌, ◌+◌, ℕ, true, false, List, map, ◌∷◌, ◌++◌, drop, get_or, length, Option, Some, suc, sym, ◌∙◌, ap, drop-cons, add-one, append-nil}
use Rattle.std.specs.List.{slice_get}
use Rattle.cdl_source.specs.declared.place.Place.{Place}
use Rattle.cdl_tree.specs.declared.name.Ident.{Ident}
use Rattle.cdl_tree.specs.declared.class.Item.{Item}
use Rattle.cdl_tree.specs.declared.class.ClassTree.{ClassTree}
use Rattle.cdl_tree.specs.Parts.{class_name, items_of, literals_of}
use Rattle.cdl_scopes.specs.declared.lookup.ClassSort.{ClassSort}
use Rattle.cdl_scopes.specs.declared.lookup.ClassSort.TheVariants as sort
use Rattle.cdl_scopes.specs.Classes.{Full, Declared, full}
use Rattle.cdl_scopes.specs.Lookup.{sort_of}
use Rattle.cdl_classes.specs.Places.{least}
use Rattle.cdl_classes.specs.Rules.{place, constants_of, own_names, is_taken, is_package, if_broken, name_ident, taken_constants, type_names, taken_in, taken_of}
use Rattle.cdl_classes.proofs.Items.{least-append}
use Rattle.cdl_scopes.proofs.Lists.{drop_at}

pub next_constant : (ds : List Declared) (file : ℕ) (q : Full) (items : List Item) (i : ℕ) (x : Item) (first : Option Place) → i < length items → x ≡ get_or items i x
    → least (least first (if_broken (is_taken ds false q x.name.text) (place file x.name))) (taken_constants ds file q (drop (i + 1) items)) ≡ least first (taken_constants ds file q (drop i items))
next_constant ds file q items i x first h e =
    sym (ap (λ (xs : List Item). least first (taken_constants ds file q xs)) (drop-cons items i x h ∙ ap (λ (y : Item). y ∷ drop (suc i) items) (sym e) ∙ ap (λ j. x ∷ drop j items) (sym (add-one i)))
    ∙ least-append first (if_broken (is_taken ds false q x.name.text) (place file x.name)) (taken_constants ds file q (drop (i + 1) items)))

-- what is asked of a class: its own name, then the names in it
rest_taken : List Declared → Declared → ClassSort → List Place
rest_taken ds d s = taken_constants ds d.file (full d) (constants_of d s) ++ type_names d.file (own_names d s)

taken_as : List Declared → Declared → ClassTree → ClassSort → List Place
unfolding rest_taken
taken_as ds d t s = if_broken (is_taken ds (is_package s) d.outer (class_name t).text) (place d.file (class_name t)) ++ rest_taken ds d s

module _ (ds : List Declared) (d : Declared) (tree : ClassTree) (first own : Option Place) (same : d.tree ≡ tree) where
  begun : ClassSort → Option Place
  begun s = least first (if_broken (is_taken ds (is_package s) d.outer (class_name tree).text) (place d.file (class_name tree)))

  whole : (s : ClassSort) → s ≡ sort_of tree → least first (taken_in ds d) ≡ least (begun s) (rest_taken ds d s)
  unfolding begun rest_taken taken_as
  whole s k =
      let sort_is : sort_of d.tree ≡ s = ap sort_of same ∙ sym k in
      ap (λ (t : ClassTree). least first (taken_as ds d t (sort_of d.tree))) same ∙ ap (λ (z : ClassSort). least first (taken_as ds d tree z)) sort_is
      ∙ least-append first (if_broken (is_taken ds (is_package s) d.outer (class_name tree).text) (place d.file (class_name tree))) (rest_taken ds d s)

  pub taken_package_class : sort.Package ≡ sort_of tree → own ≡ least first (if_broken (is_taken ds true d.outer (class_name tree).text) (place d.file (class_name tree)))
      → least own (taken_constants ds d.file (full d) (items_of tree)) ≡ least first (taken_in ds d)
  unfolding begun rest_taken
  taken_package_class k o =
      let it : List Place = taken_constants ds d.file (full d) (items_of d.tree) in
      ap (λ (xs : List Item). least own (taken_constants ds d.file (full d) xs)) (ap items_of (sym same))
      ∙ ap (λ (x : Option Place). least x it) o ∙ ap (least (begun sort.Package)) (sym (append-nil it)) ∙ sym (whole sort.Package k)

  pub taken_block_class : sort.Block ≡ sort_of tree → own ≡ least first (if_broken (is_taken ds false d.outer (class_name tree).text) (place d.file (class_name tree)))
      → least own (type_names d.file (map name_ident (items_of tree))) ≡ least first (taken_in ds d)
  unfolding begun rest_taken
  taken_block_class k o =
      let it : List Place = type_names d.file (map name_ident (items_of d.tree)) in
      ap (λ (xs : List Item). least own (type_names d.file (map name_ident xs))) (ap items_of (sym same)) ∙ ap (λ (x : Option Place). least x it) o ∙ sym (whole sort.Block k)

  pub taken_enumeration_class : sort.Enumeration ≡ sort_of tree → own ≡ least first (if_broken (is_taken ds false d.outer (class_name tree).text) (place d.file (class_name tree)))
      → least own (type_names d.file (literals_of tree)) ≡ least first (taken_in ds d)
  unfolding begun rest_taken
  taken_enumeration_class k o =
      let it : List Place = type_names d.file (literals_of d.tree) in
      ap (λ (xs : List Ident). least own (type_names d.file xs)) (ap literals_of (sym same)) ∙ ap (λ (x : Option Place). least x it) o ∙ sym (whole sort.Enumeration k)

pub next_taken : (whole ds : List Declared) (i : ℕ) (d : Declared) (first : Option Place) → slice_get ds i ≡ Some d
    → least (least first (taken_in whole d)) (taken_of whole (drop (i + 1) ds)) ≡ least first (taken_of whole (drop i ds))
next_taken whole ds i d first e =
    sym (ap (λ (xs : List Declared). least first (taken_of whole xs)) (drop_at ds i d e) ∙ least-append first (taken_in whole d) (taken_of whole (drop (i + 1) ds)))
