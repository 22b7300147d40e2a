-- Names of the library, and names at which a package must exist.
use Rattle.std.specs.Cmp.{both_ways}
use Rattle.std.proofs.Common.{◌≡◌, ◌<◌, ◌&&◌, ◌||◌, not, ℕ, Bool, true, false, List, [], ◌∷◌, ◌++◌, map, length, Option, Some, None, Vec, refl, sym, ◌∙◌, ap, inl, inr, arith}
use Rattle.std.specs.declared.alloc.Global.{Global}
use Rattle.std.specs.List.{slice_get, list_any}
use Rattle.std.specs.Str.{bytes_eq}
use Rattle.std.proofs.lemmas.Bool.{false≢true, false_from_ne_true, and_from, and_parts, or_cases, or_left, or_right}
use Rattle.std.proofs.lemmas.Map.Text.{is_eq-slice_cmp}
use Rattle.std.proofs.lemmas.Option.{slice_get_within, same_Some}
use Rattle.cdl_tree.specs.declared.class.FileTree.{FileTree}
use Rattle.cdl_scopes.specs.declared.names.Node.{Node}
use Rattle.cdl_scopes.specs.declared.gather.Classes.{Classes}
use Rattle.cdl_scopes.specs.Classes.{Full, declared, full, is_front, same_full}
use Rattle.cdl_scopes.specs.Lookup.{library, cdl_name, modelica_name, in_library}
use Rattle.cdl_scopes.specs.inner.Numbered.{child}
use Rattle.cdl_scopes.specs.inner.Gathered.{IsGathered}
use Rattle.cdl_scopes.specs.Lookup.{is_around, is_needed}
use Rattle.cdl_scopes.proofs.Lists.{get_at}
use Rattle.std.specs.Prelude.{IsTrue, unwrap_or}
use Rattle.std.specs.Map.{lookup}
use Rattle.cdl_scopes.proofs.Entries.{at}
use Rattle.cdl_scopes.proofs.Fronts.{bytes_same, front_trans, front_append, front_push}

pub marked : {o : Option Bool} {b : Bool} → o ≡ Some b → unwrap_or o false ≡ b
marked e = ap (λ (o : Option Bool). unwrap_or o false) e

node_ways : (n : Node) (o : Option Node) → o ≡ Some n → o ≡ None → ⊥
node_ways n o h i = cc

two_ways : (m : ℕ) (o : Option ℕ) → o ≡ Some m → o ≡ None → ⊥
two_ways m o h i = cc

-- where the longer name is none of the library's packages, it lies in the library exactly where the shorter one does
front_up : (l p : Full) (y : List ℕ) → (p ++ y ∷ [] ≡ l → ⊥) → is_front l (p ++ y ∷ []) ≡ is_front l p
front_up l p y apart =
    both_ways (is_front l (p ++ y ∷ [])) (is_front l p)
    (λ e. elim (front_push l p y e) [
      | inl front ↦ front
      | inr same ↦ absurd (apart (sym same))
    ])
    (λ e. front_trans l p (p ++ y ∷ []) e (front_append p (y ∷ [])))

pub library_up : (p : Full) (y : List ℕ) → (p ++ y ∷ [] ≡ cdl_name → ⊥) → (p ++ y ∷ [] ≡ modelica_name → ⊥) → in_library (p ++ y ∷ []) ≡ in_library p
library_up p y c m = rw (front_up cdl_name p y c, front_up modelica_name p y m) refl

around_next : (q r : Full) → is_around q r ≡ true → (x : List ℕ) × (is_front (q ++ x ∷ []) r ≡ true)
around_next [] [] h = absurd (false≢true h)
around_next [] (y ∷ r) h = (y, and_from (bytes_eq y y) true (bytes_same y y refl) refl)
around_next (z ∷ q) [] h = absurd (false≢true h)
around_next (z ∷ q) (y ∷ r) h =
    let hs = and_parts (bytes_eq z y && is_front q r) (not (bytes_eq z y && same_full q r)) h in
    let fs = and_parts (bytes_eq z y) (is_front q r) hs.0 in
    let rest : is_around q r ≡ true = and_from (is_front q r) (not (same_full q r)) fs.1 (let e : not (bytes_eq z y && same_full q r) ≡ not (same_full q r) = rw fs.0 refl in sym e ∙ hs.1) in
    let next = around_next q r rest in
    (next.0, and_from (bytes_eq z y) (is_front (q ++ next.0 ∷ []) r) fs.0 next.1)

next_around : (q r : Full) (x : List ℕ) → is_front (q ++ x ∷ []) r ≡ true → is_around q r ≡ true
next_around [] [] x h = absurd (false≢true h)
next_around [] (y ∷ r) x h = refl
next_around (z ∷ q) [] x h = absurd (false≢true h)
next_around (z ∷ q) (y ∷ r) x h =
    let hs = and_parts (bytes_eq z y) (is_front (q ++ x ∷ []) r) h in
    let rest = and_parts (is_front q r) (not (same_full q r)) (next_around q r x hs.1) in
    and_from (bytes_eq z y && is_front q r) (not (bytes_eq z y && same_full q r)) (and_from (bytes_eq z y) (is_front q r) hs.0 rest.0)
    (let e : not (bytes_eq z y && same_full q r) ≡ not (same_full q r) = rw hs.0 refl in e ∙ rest.1)

any_next : (q : Full) (whole : List Full) → list_any (is_around q) whole ≡ true → (x : List ℕ) × (list_any (is_front (q ++ x ∷ [])) whole ≡ true)
any_next q [] h = absurd (false≢true h)
any_next q (r ∷ whole) h =
    elim (or_cases (is_around q r) (list_any (is_around q) whole) h) [
      | inl here ↦
          let n = around_next q r here in
          (n.0, or_left (is_front (q ++ n.0 ∷ []) r) (list_any (is_front (q ++ n.0 ∷ [])) whole) n.1)
      | inr later ↦
          let n = any_next q whole later in
          (n.0, or_right (is_front (q ++ n.0 ∷ []) r) (list_any (is_front (q ++ n.0 ∷ [])) whole) n.1)
    ]

next_any : (q : Full) (x : List ℕ) (whole : List Full) → list_any (is_front (q ++ x ∷ [])) whole ≡ true → list_any (is_around q) whole ≡ true
next_any q x [] h = absurd (false≢true h)
next_any q x (r ∷ whole) h =
    elim (or_cases (is_front (q ++ x ∷ []) r) (list_any (is_front (q ++ x ∷ [])) whole) h) [
      | inl here ↦ or_left (is_around q r) (list_any (is_around q) whole) (next_around q r x here)
      | inr later ↦ or_right (is_around q r) (list_any (is_around q) whole) (next_any q x whole later)
    ]

around_front : (q r : Full) → is_around q r ≡ true → is_front q r ≡ true
around_front q r h = (and_parts (is_front q r) (not (same_full q r)) h).0

any_front : (q : Full) (whole : List Full) → list_any (is_around q) whole ≡ true → list_any (is_front q) whole ≡ true
any_front q [] h = h
any_front q (r ∷ whole) h =
    elim (or_cases (is_around q r) (list_any (is_around q) whole) h) [
      | inl here ↦ or_left (is_front q r) (list_any (is_front q) whole) (around_front q r here)
      | inr later ↦ or_right (is_front q r) (list_any (is_front q) whole) (any_front q whole later)
    ]

-- an entry of a map is found
first_entry : {V : Type 0} (es : List (Vec ℕ Global × V)) → (length es ≡ 0 → ⊥) → (x : List ℕ) × (v : V) × (lookup (at x) es ≡ Some v)
first_entry [] h = absurd (h refl)
first_entry (e ∷ es) h = ((e.0).items, e.1, rw (is_eq-slice_cmp (e.0).items (e.0).items, bytes_same (e.0).items (e.0).items refl) refl)

pub some_child : (node : Node) → (length node.children.entries ≡ 0 → ⊥) → (x : List ℕ) × (m : ℕ) × (child node x ≡ Some m)
some_child node h = first_entry node.children.entries h

module _ (files : List FileTree) (all : Classes) (h : IsGathered files all library (declared files)) where
  pub needed_some : (name : ℕ) (node : Node) (q : Full) (x : List ℕ) (m : ℕ) → slice_get all.nodes.items name ≡ Some node → slice_get h.names.paths name ≡ Some q → child node x ≡ Some m
      → is_needed (declared files) q ≡ true
  needed_some name node q x m a at e =
      next_any q x (library ++ map full (declared files)) (h.names.covers.only m (q ++ x ∷ []) (h.names.numbers.found name m node q x a at e))

  pub needed_none : (name : ℕ) (node : Node) (q : Full) → slice_get all.nodes.items name ≡ Some node → slice_get h.names.paths name ≡ Some q → ((x : List ℕ) → child node x ≡ None)
      → is_needed (declared files) q ≡ false
  needed_none name node q a at none = false_from_ne_true (is_needed (declared files) q) (λ e.
      let x = any_next q (library ++ map full (declared files)) e in
      let m = h.names.covers.each (q ++ x.0 ∷ []) x.1 in
      two_ways m.0 (child node x.0) (h.names.numbers.finds name m.0 node q x.0 a at m.1) (none x.0))

  -- a name without a number
  pub unneeded : (q : Full) → ((m : ℕ) → slice_get h.names.paths m ≡ Some q → ⊥) → is_needed (declared files) q ≡ false
  unneeded q fresh = false_from_ne_true (is_needed (declared files) q) (λ e.
      let m = h.names.covers.each q (any_front q (library ++ map full (declared files)) e) in
      fresh m.0 m.1)

  pub unnumbered_up : (q : Full) (x : List ℕ) → ((m : ℕ) → slice_get h.names.paths m ≡ Some (q ++ x ∷ []) → ⊥) → in_library (q ++ x ∷ []) ≡ in_library q
  unnumbered_up q x fresh =
      library_up q x (λ e. fresh all.cdl (h.cdl ∙ ap (λ r. Some r) (sym e))) (λ e. fresh all.modelica (h.modelica ∙ ap (λ r. Some r) (sym e)))

  pub up : (scope : ℕ) (node : Node) (q : Full) → slice_get all.nodes.items scope ≡ Some node → slice_get h.names.paths scope ≡ Some q → 0 < scope → (scope ≡ all.cdl → ⊥) → (scope ≡ all.modelica → ⊥)
      → (p : Full) × (slice_get h.names.paths node.parent ≡ Some p) × (in_library p ≡ in_library q)
  up scope node q n at l c m =
      let i = h.names.numbers.parents scope node q n at l in (
        i.0,
        i.3,
        sym (ap in_library i.2 ∙ library_up i.0 i.1
            (λ e. c (h.names.numbers.once scope all.cdl q at (h.cdl ∙ ap (λ r. Some r) (sym (i.2 ∙ e)))))
            (λ e. m (h.names.numbers.once scope all.modelica q at (h.modelica ∙ ap (λ r. Some r) (sym (i.2 ∙ e)))))),
      )

  pub past : (scope : ℕ) (q : Full) → slice_get h.names.paths scope ≡ Some q → slice_get all.nodes.items scope ≡ None → ⊥
  past scope q at none =
      let there = get_at all.nodes.items scope (omega (arith, slice_get_within h.names.paths scope q at, h.names.numbers.size)) in
      node_ways there.0 (slice_get all.nodes.items scope) there.1 none

  -- the top lies in no library
  pub not_inside : (q : Full) → slice_get h.names.paths 0 ≡ Some q → false ≡ in_library q
  not_inside q at = sym (ap in_library (same_Some q [] (sym at ∙ h.names.numbers.top)))

  pub child_fresh : (scope : ℕ) (node : Node) (q : Full) (x : List ℕ) → slice_get all.nodes.items scope ≡ Some node → slice_get h.names.paths scope ≡ Some q → child node x ≡ None
      → (m : ℕ) → slice_get h.names.paths m ≡ Some (q ++ x ∷ []) → ⊥
  child_fresh scope node q x a at none m e = two_ways m (child node x) (h.names.numbers.finds scope m node q x a at e) none

pub not_both : (b : Bool) → not b ≡ true → IsTrue b → ⊥
not_both true h i = false≢true h
not_both false h i = false≢true i

pub taken_inside : (x n t p : Bool) → x ≡ true → true ≡ (x || ((not p && n) || t))
taken_inside x n t p h = rw h refl

pub taken_package : (x n t p : Bool) → x ≡ false → p ≡ true → t ≡ (x || ((not p && n) || t))
taken_package x n t p h i = rw (h, i) refl

pub taken_needed : (x n t p : Bool) → x ≡ false → p ≡ false → n ≡ true → true ≡ (x || ((not p && n) || t))
taken_needed x n t p h i j = rw (h, i, j) refl

pub taken_type : (x n t p : Bool) → x ≡ false → n ≡ false → t ≡ (x || ((not p && n) || t))
taken_type x n t true h j = rw h refl
taken_type x n t false h j = rw (h, j) refl
