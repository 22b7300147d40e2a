-- What a look-up finds.
use Rattle.std.proofs.lemmas.Map.Keys.{any_passes_from_place}
use Rattle.std.proofs.Common.{◌≡◌, ◌<◌, ℕ, suc, Bool, false, List, [], ◌∷◌, ◌++◌, drop, get_or, length, Some, None, refl, sym, ◌∙◌, ap, inl, inr, drop-cons, nat_eq}
use Rattle.std.specs.List.{slice_get, list_any}
use Rattle.std.proofs.lemmas.Bool.{cases_Bool, false≢true, false_from_ne_true}
use Rattle.std.proofs.lemmas.Option.{slice_get_within, same_Some}
use Rattle.indexmap.specs.IndexMap.{get}
use Rattle.cdl_tree.specs.declared.class.ClassTree.{ClassTree}
use Rattle.cdl_tree.specs.declared.class.FileTree.{FileTree}
use Rattle.cdl_tree.specs.Parts.{classes_of}
use Rattle.cdl_scopes.specs.declared.names.Node.{Node}
use Rattle.cdl_scopes.specs.declared.gather.Class.{Class}
use Rattle.cdl_scopes.specs.declared.gather.Classes.{Classes}
use Rattle.cdl_scopes.specs.Classes.{Full, Declared, declared, full, same_full}
use Rattle.cdl_scopes.specs.declared.lookup.ClassSort.{ClassSort}
use Rattle.cdl_scopes.specs.declared.lookup.ClassSort.TheVariants as sort
use Rattle.cdl_scopes.specs.declared.lookup.Sought.{Sought}
use Rattle.cdl_scopes.specs.declared.lookup.Sought.TheVariants.{Class as ClassNames, Value}
use Rattle.cdl_scopes.specs.Lookup.{first_of, cdl_name, modelica_name, library, in_library, IsFree, exists, stands, inside, a_class, sort_of, constant_at, constant_in, class_enters, enters}
use Rattle.cdl_scopes.specs.Entries.{entry}
use Rattle.cdl_scopes.specs.inner.Numbered.{child}
use Rattle.cdl_scopes.specs.inner.Gathered.{IsShown, IsGathered, descend, tree_at}
use Rattle.cdl_scopes.specs.inner.Known.{Known}
use Rattle.cdl_scopes.proofs.Lists.{cases_option, zip_at, zip_none}
use Rattle.cdl_scopes.proofs.Fronts.{same_is}
use Rattle.cdl_scopes.proofs.Adding.{named}
use Rattle.cdl_scopes.proofs.Walk.{then_some}

-- one step down
pub turn : (tree c : ClassTree) (steps : List ℕ) (k : ℕ) → k < length steps → descend tree (drop k steps) ≡ Some c
    → (get_or steps k 0 < length (classes_of tree)) × ((d : ClassTree) → slice_get (classes_of tree) (get_or steps k 0) ≡ Some d → descend d (drop (suc k) steps) ≡ Some c)
turn tree c steps k h e =
    let opened : descend tree (get_or steps k 0 ∷ drop (suc k) steps) ≡ Some c = ap (descend tree) (sym (drop-cons steps k 0 h)) ∙ e in
    let there = then_some (λ d. descend d (drop (suc k) steps)) (slice_get (classes_of tree) (get_or steps k 0)) c opened in (
      slice_get_within (classes_of tree) (get_or steps k 0) there.0 there.1,
      λ d at. ap (λ (x : ClassTree). descend x (drop (suc k) steps)) (same_Some d there.0 (sym at ∙ there.1)) ∙ there.2,
    )

-- what has no number stands nowhere
pub unnumbered : (files : List FileTree) (all : Classes) (h : IsGathered files all library (declared files)) (q : Full)
    → ((m : ℕ) → slice_get h.names.paths m ≡ Some q → ⊥) → stands (declared files) q ≡ None
unnumbered files all h q fresh =
    elim (cases_option (first_of q (declared files))) [
      | inl none ↦
          elim (cases_Bool (exists (declared files) q)) [
            | inl there ↦
                let at = h.names.covers.each q there in
                absurd (fresh at.0 at.1)
            | inr missing ↦ rw (none, missing) refl
          ]
      | inr some ↦
          let at = named files h.names.paths all.list.items (declared files) 0 some.0 q h.shown some.1 in
          absurd (fresh at.0 at.1)
    ]

pub none_inside : (files : List FileTree) (all : Classes) (h : Known files all) (scope : ℕ) (node : Node) (q : Full) (x : List ℕ) → slice_get all.nodes.items scope ≡ Some node
    → slice_get h.gathered.names.paths scope ≡ Some q → child node x ≡ None → same_full q cdl_name ≡ false → same_full q modelica_name ≡ false → inside (declared files) q x ≡ None
none_inside files all h scope node q x a b e c m =
    rw (c, m) (unnumbered files all h.gathered (q ++ x ∷ []) (λ k at. cc (h.gathered.names.numbers.finds scope k node q x a b at, e)))

pub not_library : (q : Full) → in_library q ≡ false → (same_full q cdl_name ≡ false) × (same_full q modelica_name ≡ false)
not_library q h = (
  false_from_ne_true _ (λ e. false≢true (sym h ∙ ap in_library (same_is q cdl_name e))),
  false_from_ne_true _ (λ e. false≢true (sym h ∙ ap in_library (same_is q modelica_name e))),
)

any_false : {X : Type 0} (t : X → Bool) (xs : List X) (i : ℕ) (x : X) → list_any t xs ≡ false → slice_get xs i ≡ Some x → t x ≡ false
any_false t xs i x h e = false_from_ne_true (t x) (λ y. false≢true (sym h ∙ any_passes_from_place t xs i x e y))

pub free_full : (ds : List Declared) (i : ℕ) (d : Declared) → IsFree ds → slice_get ds i ≡ Some d → in_library (full d) ≡ false
free_full ds i d h e = any_false (λ (x : Declared). in_library (full x)) ds i d h e

module _ (files : List FileTree) (all : Classes) (h : Known files all) where
  ds : List Declared
  ds = declared files

  paths : List Full
  paths = h.gathered.names.paths

  pub shown_at : (number : ℕ) (class : Class) → slice_get all.list.items number ≡ Some class → (d : Declared) × (slice_get (declared files) number ≡ Some d) × IsShown h.gathered.names.paths files class d
  shown_at number class e = zip_at (IsShown h.gathered.names.paths files) all.list.items (declared files) number class h.gathered.shown e

  pub unshown : (number : ℕ) → slice_get all.list.items number ≡ None → slice_get (declared files) number ≡ None
  unshown number e = zip_none (IsShown h.gathered.names.paths files) all.list.items (declared files) number h.gathered.shown e

  pub first_is : (scope number : ℕ) (q : Full) → slice_get h.gathered.names.paths scope ≡ Some q → get nat_eq all.by_name scope ≡ Some number → first_of q (declared files) ≡ Some number
  first_is scope number q at e = sym (h.gathered.first scope q at) ∙ e

  pub no_constant : (scope : ℕ) (q : Full) (x : List ℕ) → slice_get h.gathered.names.paths scope ≡ Some q → get nat_eq all.by_name scope ≡ None → constant_at (declared files) q x ≡ None
  no_constant scope q x at e = rw (sym (h.gathered.first scope q at) ∙ e) refl

  pub no_class : (scope number : ℕ) (q : Full) (x : List ℕ) → slice_get h.gathered.names.paths scope ≡ Some q → get nat_eq all.by_name scope ≡ Some number → slice_get all.list.items number ≡ None
      → constant_at (declared files) q x ≡ None
  no_class scope number q x at e none = rw (first_is scope number q at e, unshown number none) refl

  pub constant_is : (scope number : ℕ) (q : Full) (x : List ℕ) (class : Class) (tree : ClassTree) (s : ClassSort) → slice_get h.gathered.names.paths scope ≡ Some q → get nat_eq all.by_name scope ≡ Some number
      → slice_get all.list.items number ≡ Some class → tree_at files class.file class.top class.steps.items ≡ Some tree → s ≡ sort_of tree
      → constant_at (declared files) q x ≡ constant_in number s (entry class.members x)
  constant_is scope number q x class tree s at e c t k =
      let d = shown_at number class c in
      let same : tree ≡ (d.0).tree = same_Some _ _ (sym t ∙ (d.2).tree) in
      let sort : sort_of (d.0).tree ≡ s = sym (k ∙ ap sort_of same) in
      rw (first_is scope number q at e, d.1, sort, ← (d.2).members x) refl

  pub enters_class : (sought : Sought) (number : ℕ) (x : List ℕ) (class : Class) (tree : ClassTree) (s : ClassSort) → slice_get all.list.items number ≡ Some class
      → tree_at files class.file class.top class.steps.items ≡ Some tree → s ≡ sort_of tree
      → (d : Declared) × (IsShown h.gathered.names.paths files class d) × (in_library (full d) ≡ false)
      × (enters (declared files) sought (a_class number) x ≡ class_enters (declared files) sought number d s x)
  enters_class sought number x class tree s c t k =
      let d = shown_at number class c in
      let same : tree ≡ (d.0).tree = same_Some _ _ (sym t ∙ (d.2).tree) in
      let sort : sort_of (d.0).tree ≡ s = sym (k ∙ ap sort_of same) in
      (d.0, d.2, free_full (declared files) number d.0 h.free d.1, rw (d.1, sort) refl)

  pub enters_none : (sought : Sought) (number : ℕ) (x : List ℕ) → slice_get all.list.items number ≡ None → enters (declared files) sought (a_class number) x ≡ None
  enters_none sought number x none = rw (unshown number none) refl

pub literal_any : (ds : List Declared) (sought : Sought) (i : ℕ) (d : Declared) (x : List ℕ) → class_enters [] sought i d sort.Enumeration x ≡ class_enters ds sought i d sort.Enumeration x
literal_any ds ClassNames i d x = refl
literal_any ds Value i d x = refl
