-- The first of the places at which a rule is broken.
use Rattle.std.proofs.lemmas.Option.{same_Some}
use Rattle.std.proofs.Common.{◌≡◌, ◌⊎◌, ◌||◌, not, ◌&&◌, Bool, true, false, List, [], ◌∷◌, ◌++◌, Option, Some, None, refl, sym, ◌∙◌, ap, subst, inl, inr}
use Rattle.std.proofs.lemmas.Bool.{cases_Bool}
use Rattle.cdl_source.specs.declared.place.Place.{Place}
use Rattle.cdl_tree.specs.Parts.{class_name}
use Rattle.cdl_tree.specs.declared.class.FileTree.{FileTree}
use Rattle.cdl_scopes.specs.Classes.{Declared, declared, full}
use Rattle.cdl_scopes.specs.Lookup.{in_library, IsFree, sort_of}
use Rattle.cdl_classes.specs.Places.{not_after, soonest, least, In}
use Rattle.cdl_classes.specs.Rules.{place, is_package, is_type, is_taken, if_broken, taken_in, taken_of, broken_11}
use Rattle.cdl_scopes.specs.Lookup.{is_needed}
use Rattle.cdl_classes.specs.Verdict.{IsFirst}
use Rattle.cdl_classes.proofs.MarkLaws.{self, total, trans}

-- the first of these places where one is known
record FirstWith (known : Place) (places : List Place) (p : Place) : Type 0 where
  is_one : (p ≡ known) ⊎ In p places
  before : not_after p known ≡ true
  first : (q : Place) → In q places → not_after p q ≡ true

soonest_before : (a b p : Place) → not_after p (soonest a b) ≡ true → (not_after p a ≡ true) × (not_after p b ≡ true)
soonest_before a b p h =
    elim (cases_Bool (not_after a b)) [
      | inl ab ↦
          let pa : not_after p a ≡ true = ap (not_after p) (sym (let e : soonest a b ≡ a = rw ab refl in e)) ∙ h in
          (pa, trans p a b pa ab)
      | inr ba ↦
          let pb : not_after p b ≡ true = ap (not_after p) (sym (let e : soonest a b ≡ b = rw ba refl in e)) ∙ h in
          (trans p b a pb (total a b ba), pb)
    ]

is_either : (a b p : Place) → p ≡ soonest a b → (p ≡ a) ⊎ (p ≡ b)
is_either a b p h =
    elim (cases_Bool (not_after a b)) [
      | inl ab ↦ inl (h ∙ (let e : soonest a b ≡ a = rw ab refl in e))
      | inr ba ↦ inr (h ∙ (let e : soonest a b ≡ b = rw ba refl in e))
    ]

first_with : (known : Place) (places : List Place) (p : Place) → least (Some known) places ≡ Some p → FirstWith known places p
first_with known [] p e = record {
  is_one = inl (sym (same_Some known p e));
  before = let P : Place → Type 0 = λ x. not_after x known ≡ true in subst P (same_Some known p e) (self known);
  first = λ q i. absurd i;
}
first_with known (r ∷ places) p e =
    let rest = first_with (soonest known r) places p e in
    let both_are = soonest_before known r p rest.before in
    record {
      is_one = elim rest.is_one [
        | inl one ↦
            elim (is_either known r p one) [
              | inl k ↦ inl k
              | inr s ↦ inr (inl s)
            ]
        | inr later ↦ inr (inr later)
      ];
      before = both_are.0;
      first = λ q i.
          elim i [
            | inl here ↦ let P : Place → Type 0 = λ x. not_after p x ≡ true in subst P (sym here) both_are.1
            | inr later ↦ rest.first q later
          ];
    }

pub first_of_all : (places : List Place) (p : Place) → least None places ≡ Some p → IsFirst places p
first_of_all [] p e = cc
first_of_all (r ∷ places) p e =
    let f = first_with r places p e in
    record {
      is_one = f.is_one;
      first = λ q i.
          elim i [
            | inl here ↦ let P : Place → Type 0 = λ x. not_after p x ≡ true in subst P (sym here) f.before
            | inr later ↦ f.first q later
          ];
    }

some_least : (known : Place) (places : List Place) → least (Some known) places ≡ None → ⊥
some_least known [] e = cc
some_least known (r ∷ places) e = some_least (soonest known r) places e

pub none_of_all : (places : List Place) → least None places ≡ None → places ≡ []
none_of_all [] e = refl
none_of_all (r ∷ places) e = absurd (some_least r places e)

no_front : (xs ys : List Place) → xs ++ ys ≡ [] → xs ≡ []
no_front [] ys e = refl
no_front (x ∷ xs) ys e = cc

no_back : (xs ys : List Place) → xs ++ ys ≡ [] → ys ≡ []
no_back [] ys e = e
no_back (x ∷ xs) ys e = cc

unbroken : (b : Bool) (p : Place) → if_broken b p ≡ [] → b ≡ false
unbroken true p e = cc
unbroken false p e = refl

outside : (x n t p : Bool) → (x || ((not p && n) || t)) ≡ false → x ≡ false
outside true n t p e = e
outside false n t p e = refl

free_from : (whole ds : List Declared) → taken_of whole ds ≡ [] → IsFree ds
free_from whole [] e = refl
free_from whole (d ∷ ds) e =
    let here = no_front (taken_in whole d) (taken_of whole ds) e in
    let own = no_front (if_broken (is_taken whole (is_package (sort_of d.tree)) d.outer (class_name d.tree).text) (place d.file (class_name d.tree))) _ here in
    let taken = unbroken (is_taken whole (is_package (sort_of d.tree)) d.outer (class_name d.tree).text) _ own in
    let out : in_library (full d) ≡ false = outside (in_library (full d)) (is_needed whole (full d)) (is_type (class_name d.tree).text) (is_package (sort_of d.tree)) taken in
    rw out (free_from whole ds (no_back (taken_in whole d) (taken_of whole ds) e))

pub free : (ds : List Declared) → broken_11 ds ≡ [] → IsFree ds
free ds e = free_from ds ds e

pub first_as : (broken : List Declared → List Place) (files now : List FileTree) → now ≡ files → (r : Option Place) (p : Place) → r ≡ least None (broken (declared now)) → r ≡ Some p → IsFirst (broken (declared files)) p
first_as broken files now e r p l is = first_of_all (broken (declared files)) p (ap (λ (fs : List FileTree). least None (broken (declared fs))) (sym e) ∙ sym l ∙ is)

pub none_as : (broken : List Declared → List Place) (files now : List FileTree) → now ≡ files → (r : Option Place) → r ≡ least None (broken (declared now)) → r ≡ None → broken (declared files) ≡ []
none_as broken files now e r l is = none_of_all (broken (declared files)) (ap (λ (fs : List FileTree). least None (broken (declared fs))) (sym e) ∙ sym l ∙ is)
