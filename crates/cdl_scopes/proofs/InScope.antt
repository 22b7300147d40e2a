-- Scopes of declared classes by their numbers.
use Rattle.std.proofs.lemmas.Option.{same_Some}
use Rattle.std.proofs.Common.{◌≡◌, ◌∙◌, ◌<◌, ℕ, List, Option, Some, None, length, nat_eq, ap, sym, refl, inl, inr, arith}
use Rattle.std.proofs.lemmas.Bool.{cases_lt}
use Rattle.indexmap.specs.IndexMap.{get}
use Rattle.std.specs.Prelude.{IfSome, option_map}
use Rattle.std.specs.List.{slice_get}
use Rattle.cdl_tree.specs.declared.class.FileTree.{FileTree}
use Rattle.cdl_scopes.specs.declared.gather.Class.{Class}
use Rattle.cdl_scopes.specs.declared.gather.Classes.{Classes}
use Rattle.cdl_scopes.specs.declared.in_scope.Scope.TheVariants as scope
use Rattle.cdl_scopes.specs.Classes.{Full, Declared, declared, full}
use Rattle.cdl_scopes.specs.Lookup.{first_of, library}
use Rattle.cdl_scopes.specs.inner.Gathered.{IsShown, IsGathered}
use Rattle.cdl_scopes.specs.inner.Numbered.{IsNumber}
use Rattle.cdl_scopes.specs.Table.{scope_name}
use Rattle.cdl_scopes.proofs.Lists.{cases_option, get_at, zip_at, zip_none}
use Rattle.cdl_scopes.proofs.Meanings.{first_within}
use Rattle.cdl_scopes.proofs.Adding.{named}

apart : {X : Type 0} (x : X) (o : Option X) → o ≡ None → o ≡ Some x → ⊥
apart x o e f = cc

pub if_some : {X : Type 0} (o : Option X) (P : X → Type 0) → ((x : X) → o ≡ Some x → P x) → IfSome o P
if_some None P h = tt
if_some (Some x) P h = h x refl

pub number_at : (paths : List Full) (q : Full) (r : Option ℕ) (n : ℕ) → IsNumber paths q r → r ≡ Some n → slice_get paths n ≡ Some q
number_at paths q r n h e = ap (λ k. slice_get paths k) (same_Some n h.0 (sym e ∙ h.1)) ∙ h.2

pub no_number : (paths : List Full) (q : Full) (r : Option ℕ) → IsNumber paths q r → r ≡ None → ⊥
no_number paths q r h e = apart h.0 r e h.1

module _ (files : List FileTree) (all : Classes) (h : IsGathered files all library (declared files)) where
  pub around_is : (i : ℕ) (class : Class) (q : Full) → slice_get all.list.items i ≡ Some class → scope_name (declared files) (scope.Around i) ≡ Some q → slice_get h.names.paths class.outer ≡ Some q
  around_is i class q c e =
      let d = zip_at (IsShown h.names.paths files) all.list.items (declared files) i class h.shown c in
      (d.2).outer ∙ sym (ap (option_map (λ (x : Declared). x.outer)) d.1) ∙ e

  pub of_is : (i : ℕ) (class : Class) (q : Full) → slice_get all.list.items i ≡ Some class → scope_name (declared files) (scope.Of i) ≡ Some q → slice_get h.names.paths class.name ≡ Some q
  of_is i class q c e =
      let d = zip_at (IsShown h.names.paths files) all.list.items (declared files) i class h.shown c in
      (d.2).name ∙ sym (ap (option_map full) d.1) ∙ e

  pub none_around : (i : ℕ) (q : Full) → slice_get all.list.items i ≡ None → scope_name (declared files) (scope.Around i) ≡ Some q → ⊥
  none_around i q c e =
      let none = zip_none (IsShown h.names.paths files) all.list.items (declared files) i h.shown c in
      apart q (scope_name (declared files) (scope.Around i)) (ap (option_map (λ (x : Declared). x.outer)) none) e

  pub none_of : (i : ℕ) (q : Full) → slice_get all.list.items i ≡ None → scope_name (declared files) (scope.Of i) ≡ Some q → ⊥
  none_of i q c e =
      let none = zip_none (IsShown h.names.paths files) all.list.items (declared files) i h.shown c in
      apart q (scope_name (declared files) (scope.Of i)) (ap (option_map full) none) e

  -- what has no number is no class
  pub no_first : (q : Full) → ((m : ℕ) → slice_get h.names.paths m ≡ Some q → ⊥) → first_of q (declared files) ≡ None
  no_first q fresh =
      elim (cases_option (first_of q (declared files))) [
        | inl none ↦ none
        | inr some ↦
            let at = named files h.names.paths all.list.items (declared files) 0 some.0 q h.shown some.1 in
            absurd (fresh at.0 at.1)
      ]

  -- the first class of a name is one of the declared ones
  pub first_number : (n i : ℕ) → get nat_eq all.by_name n ≡ Some i → i < length (declared files)
  first_number n i e =
      elim (cases_lt n (length h.names.paths)) [
        | inl here ↦
            let q = get_at h.names.paths n here in
            first_within i q.0 (declared files) (sym (h.first n q.0 q.1) ∙ e)
        | inr past ↦ absurd (apart i (get nat_eq all.by_name n) (h.within n (omega (arith, h.names.numbers.size))) e)
      ]
