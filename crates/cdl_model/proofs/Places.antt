-- Places in lists by names.
use Rattle.std.proofs.Common.{◌≡◌, ℕ, suc, ◌<◌, Bool, true, false, cond, List, [], ◌∷◌, map, length, Some, slice_get, refl, sym, ap, ◌∙◌, subst, inl, inr}
use Rattle.std.proofs.lemmas.Option.{slice_get_within}
use Rattle.cdl_network.specs.Lists.{Apart, In, Sorted, Tells, number, numbers}
use Rattle.cdl_network.proofs.Numbers.{numbers_are, slice_number}
use Rattle.cdl_network.proofs.Renaming.{in_map}
use Rattle.cdl_walk.specs.Events.{same_steps}
use Rattle.cdl_walk.specs.Instances.{Seen, Owned}
use Rattle.cdl_model.specs.Networks.{paths, names, name_of, same_name, content_at, point_at}
use Rattle.cdl_model.proofs.Tests.{steps_tell, names_tell, differ}

module _ {A B : Type 0} where
  -- an item stands at the number of its name
  pub slice_named : (f : A → B) (same : B → B → Bool) (xs : List A) (x : A) → Tells same → Apart (map f xs) → In x xs → slice_get xs (number same (map f xs) (f x)) ≡ Some x
  slice_named f same [] x t a i = absurd i
  slice_named f same (y ∷ ys) x t a (inl e) =
      let h : same (f x) (f y) ≡ true = ap (λ z. same (f x) (f z)) (sym e) ∙ t.self (f x) in
      ap (λ b. slice_get (y ∷ ys) (cond b 0 (suc (number same (map f ys) (f x))))) h ∙ ap Some (sym e)
  slice_named f same (y ∷ ys) x t a (inr i) =
      let h : same (f x) (f y) ≡ false = differ same (f x) (f y) t (λ e. a.0 (subst (λ z. In z (map f ys)) e (in_map f x ys i))) in
      ap (λ b. slice_get (y ∷ ys) (cond b 0 (suc (number same (map f ys) (f x))))) h ∙ slice_named f same ys x t a.1 i

pub number_within : {A : Type 0} (same : A → A → Bool) (xs : List A) (x : A) → Tells same → In x xs → number same xs x < length xs
number_within same xs x t i = slice_get_within xs (number same xs x) x (slice_number same xs x t i)

abbrev Differ : {A : Type 0} → A → A → Type 0
Differ x y = x ≡ y → ⊥

apart_sorted : {A : Type 0} (xs : List A) → Apart xs → Sorted (λ (x y : A). Differ x y) xs
apart_sorted [] a = tt
apart_sorted (x ∷ xs) a = (λ y i e. a.0 (subst (λ z. In z xs) (sym e) i), apart_sorted xs a.1)

-- the numbers of names that stand once are their places
pub all_numbers : {A : Type 0} (same : A → A → Bool) (xs : List A) (n : ℕ) → Tells same → Apart xs → n ≡ length xs → numbers 0 n ≡ map (number same xs) xs
all_numbers {A} same xs n t a e = ap (numbers 0) e ∙ sym (numbers_are same (λ (x y : A). Differ x y) xs t (λ x f. f refl) (apart_sorted xs a))

-- what stands at a name
pub content_there : (ss : List Seen) (s : Seen) → Apart (paths ss) → In s ss → content_at ss s.path ≡ Some s.content
content_there [] s a i = absurd i
content_there (y ∷ ys) s a (inl e) =
    let h : same_steps y.path s.path ≡ true = ap (λ (z : Seen). same_steps z.path s.path) (sym e) ∙ steps_tell.self s.path in
    ap (λ b. cond b (Some y.content) (content_at ys s.path)) h ∙ ap (λ (z : Seen). Some z.content) (sym e)
content_there (y ∷ ys) s a (inr i) =
    let h : same_steps y.path s.path ≡ false = differ same_steps y.path s.path steps_tell (λ e. a.0 (subst (λ z. In z (paths ys)) (sym e) (in_map (λ (z : Seen). z.path) s ys i))) in
    ap (λ b. cond b (Some y.content) (content_at ys s.path)) h ∙ content_there ys s a.1 i

pub point_there : (xs : List Owned) (x : Owned) → Apart (names xs) → In x xs → point_at xs (name_of x) ≡ Some x.point
point_there [] x a i = absurd i
point_there (y ∷ ys) x a (inl e) =
    let h : same_name (name_of y) (name_of x) ≡ true = ap (λ (z : Owned). same_name (name_of z) (name_of x)) (sym e) ∙ names_tell.self (name_of x) in
    ap (λ b. cond b (Some y.point) (point_at ys (name_of x))) h ∙ ap (λ (z : Owned). Some z.point) (sym e)
point_there (y ∷ ys) x a (inr i) =
    let h : same_name (name_of y) (name_of x) ≡ false = differ same_name (name_of y) (name_of x) names_tell (λ e. a.0 (subst (λ z. In z (names ys)) (sym e) (in_map name_of x ys i))) in
    ap (λ b. cond b (Some y.point) (point_at ys (name_of x))) h ∙ point_there ys x a.1 i
