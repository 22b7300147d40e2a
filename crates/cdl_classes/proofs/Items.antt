-- Items of the classes in turn.
use Rattle.std.proofs.lemmas.Option.{same_Some}
use Rattle.std.proofs.Common.{◌≡◌, ◌+◌, ◌&&◌, ℕ, Bool, true, false, List, [], ◌∷◌, ◌++◌, drop, Option, Some, None, refl, sym, ◌∙◌, ap, inl, inr, codes}
use Rattle.std.specs.Prelude.{option_and_then, option_map, if◌then◌else◌}
use Rattle.std.specs.List.{slice_get}
use Rattle.std.specs.Str.{bytes_eq}
use Rattle.cdl_source.specs.declared.place.Place.{Place}
use Rattle.cdl_kinds.specs.declared.kind.Kind.{Kind}
use Rattle.cdl_kinds.specs.Names.{kinds, found}
use Rattle.cdl_values.specs.declared.value.ValueType.TheVariants as type
use Rattle.std.proofs.lemmas.Bool.{cases_Bool}
use Rattle.cdl_tree.specs.declared.class.Item.{Item}
use Rattle.cdl_tree.specs.declared.class.ClassTree.{ClassTree}
use Rattle.cdl_tree.specs.Parts.{items_of}
use Rattle.cdl_classes.specs.declared.found.Found.{Found}
use Rattle.cdl_classes.specs.declared.found.Found.TheVariants as it
use Rattle.cdl_scopes.specs.declared.lookup.Sought.TheVariants.{Class as ClassNames}
use Rattle.cdl_scopes.specs.Classes.{Full, Declared}
use Rattle.cdl_scopes.specs.Lookup.{Entity, a_class, a_package, in_cdl, in_modelica, a_type, a_constant, a_literal, meaning}
use Rattle.cdl_classes.specs.Found.{joined, connector_named, connector_at, or_kind, modelica_found, found_of}
use Rattle.cdl_classes.specs.Places.{least, sooner}
use Rattle.cdl_classes.specs.Rules.{places_in, places_from, IsKnown}
use Rattle.cdl_scopes.proofs.Lists.{cases_option, drop_at}
use Rattle.cdl_scopes.proofs.Meanings.{Valid, yields_meaning}

pub least-append : (first : Option Place) (ps qs : List Place) → least first (ps ++ qs) ≡ least (least first ps) qs
least-append first [] qs = refl
least-append first (p ∷ ps) qs = least-append (sooner first p) ps qs

pub mapped_some : {A B : Type 0} (f : A → B) (o : Option A) (y : B) → option_map f o ≡ Some y → (x : A) × (o ≡ Some x) × (f x ≡ y)
mapped_some f None y e = cc
mapped_some f (Some x) y e = (x, refl, same_Some (f x) y e)

pub next_class : (test : ℕ → Item → Bool) (ds : List Declared) (i file : ℕ) (tree : ClassTree) (items : List Item) (first : Option Place)
    → option_map (λ (d : Declared). d.file) (slice_get ds i) ≡ Some file → option_map (λ (d : Declared). d.tree) (slice_get ds i) ≡ Some tree → items ≡ items_of tree
    → least (least first (places_in test i file items)) (places_from test (i + 1) (drop (i + 1) ds)) ≡ least first (places_from test i (drop i ds))
next_class test ds i file tree items first f t e =
    let d = mapped_some (λ (d : Declared). d.file) (slice_get ds i) file f in
    let same : (d.0).tree ≡ tree = same_Some _ _ (ap (option_map (λ (x : Declared). x.tree)) (sym d.1) ∙ t) in
    let listed : items_of (d.0).tree ≡ items = ap items_of same ∙ sym e in
    sym (ap (λ (xs : List Declared). least first (places_from test i xs)) (drop_at ds i d.0 d.1)
    ∙ least-append first (places_in test i (d.0).file (items_of (d.0).tree)) (places_from test (i + 1) (drop (i + 1) ds))
    ∙ ap (λ (xs : List Item). least (least first (places_in test i (d.0).file xs)) (places_from test (i + 1) (drop (i + 1) ds))) listed
    ∙ ap (λ j. least (least first (places_in test i j items)) (places_from test (i + 1) (drop (i + 1) ds))) d.2)

known_if : (ds : List Declared) (b : Bool) (o p : Option Found) → IsKnown ds o → IsKnown ds p → IsKnown ds (if b then o else p)
known_if ds true o p h i = h
known_if ds false o p h i = i

known_or : (ds : List Declared) (b : Bool) (f g : Found) → IsKnown ds (Some f) → IsKnown ds (Some g) → IsKnown ds (Some (if b then f else g))
known_or ds true f g h i = h
known_or ds false f g h i = i

known_connector : (ds : List Declared) (x : List ℕ) → IsKnown ds (connector_named x)
known_connector ds x =
    elim (cases_Bool (bytes_eq x (codes "BooleanInput"))) [
      | inl h0 ↦ rw h0 tt
      | inr m0 ↦
          rw m0
          (elim (cases_Bool (bytes_eq x (codes "BooleanOutput"))) [
            | inl h1 ↦ rw h1 tt
            | inr m1 ↦
                rw m1
                (elim (cases_Bool (bytes_eq x (codes "IntegerInput"))) [
                  | inl h2 ↦ rw h2 tt
                  | inr m2 ↦
                      rw m2
                      (elim (cases_Bool (bytes_eq x (codes "IntegerOutput"))) [
                        | inl h3 ↦ rw h3 tt
                        | inr m3 ↦
                            rw m3
                            (elim (cases_Bool (bytes_eq x (codes "RealInput"))) [
                              | inl h4 ↦ rw h4 tt
                              | inr m4 ↦
                                  rw m4
                                  (elim (cases_Bool (bytes_eq x (codes "RealOutput"))) [
                                    | inl h5 ↦ rw h5 tt
                                    | inr m5 ↦ rw m5 tt
                                  ])
                            ])
                      ])
                ])
          ])
    ]

known_connector_at : (ds : List Declared) (below : Full) → IsKnown ds (connector_at below)
known_connector_at ds [] = tt
known_connector_at ds (i ∷ []) = tt
known_connector_at ds (i ∷ x ∷ []) = known_if ds (bytes_eq i (codes "Interfaces")) (connector_named x) None (known_connector ds x) tt
known_connector_at ds (i ∷ x ∷ y ∷ rest) = tt

known_kind : (ds : List Declared) (o : Option Found) (k : Option Kind) → IsKnown ds o → IsKnown ds (Some (or_kind o k))
known_kind ds (Some f) k h = h
known_kind ds None (Some k) h = tt
known_kind ds None None h = tt

known_modelica : (ds : List Declared) (below : Full) → IsKnown ds (Some (modelica_found below))
known_modelica ds [] = tt
known_modelica ds (a ∷ []) = tt
known_modelica ds (a ∷ b ∷ []) = known_or ds (bytes_eq a (codes "SIunits")) (it.Scalar type.Real) it.Unsupported tt tt
known_modelica ds (a ∷ b ∷ c ∷ []) = known_or ds (bytes_eq a (codes "Units") && bytes_eq b (codes "SI")) (it.Scalar type.Real) it.Unsupported tt tt
known_modelica ds (a ∷ b ∷ c ∷ d ∷ rest) = tt

known_found : (ds : List Declared) (e : Entity) → Valid ds e → IsKnown ds (found_of e)
known_found ds (a_class i) h = h
known_found ds (a_package q) h = tt
known_found ds (in_cdl below) h = known_kind ds (connector_at below) (found (joined below) kinds) (known_connector_at ds below)
known_found ds (in_modelica below) h = known_modelica ds below
known_found ds (a_type t) h = tt
known_found ds (a_constant p i) h = tt
known_found ds (a_literal c k) h = tt

pub known_meaning : (ds : List Declared) (number : ℕ) (name : Full) → IsKnown ds (option_and_then found_of (meaning ds ClassNames number name))
known_meaning ds number name =
    elim (cases_option (meaning ds ClassNames number name)) [
      | inl none ↦ rw none tt
      | inr some ↦ rw some.1 (known_found ds some.0 (yields_meaning ds ClassNames number name some.0 some.1))
    ]
