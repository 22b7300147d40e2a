-- The first of a name, after one more.
use Rattle.std.proofs.Common.{◌≡◌, ◌+◌, ℕ, true, false, cond, List, [], ◌∷◌, ◌++◌, length, Option, Some, None, is_some, refl, sym, ◌∙◌, ap, arith, inl, inr}
use Rattle.std.specs.Prelude.{if◌then◌else◌}
use Rattle.std.specs.Option.{option_or}
use Rattle.std.specs.Str.{bytes_eq}
use Rattle.std.proofs.lemmas.Bool.{cases_Bool, false≢true}
use Rattle.cdl_scopes.specs.Classes.{Full, Declared, full, same_full}
use Rattle.cdl_scopes.specs.Lookup.{first_named_from, first_named, first_from, first_of}
use Rattle.cdl_scopes.proofs.Fronts.{same_bytes}

named-push : (i : ℕ) (x : List ℕ) (ys : List (List ℕ)) (y : List ℕ) (k : ℕ) → k ≡ i + length ys
    → first_named_from i x (ys ++ y ∷ []) ≡ option_or (first_named_from i x ys) (if bytes_eq x y then Some k else None)
named-push i x [] y k h =
    let same : k ≡ i = omega arith in
    rw same refl
named-push i x (z ∷ ys) y k h =
    elim (cases_Bool (bytes_eq x z)) [
      | inl hit ↦ rw hit refl
      | inr miss ↦ rw miss (named-push (i + 1) x ys y k (omega arith))
    ]

pub first_named-push : (x : List ℕ) (ys : List (List ℕ)) (y : List ℕ) (k : ℕ) → k ≡ length ys
    → first_named x (ys ++ y ∷ []) ≡ option_or (first_named x ys) (if bytes_eq x y then Some k else None)
first_named-push x ys y k h = named-push 0 x ys y k (omega arith)

full-push : (i : ℕ) (q : Full) (ds : List Declared) (d : Declared) (k : ℕ) → k ≡ i + length ds
    → first_from i q (ds ++ d ∷ []) ≡ option_or (first_from i q ds) (if same_full q (full d) then Some k else None)
full-push i q [] d k h =
    let same : k ≡ i = omega arith in
    rw same refl
full-push i q (e ∷ ds) d k h =
    elim (cases_Bool (same_full q (full e))) [
      | inl hit ↦ rw hit refl
      | inr miss ↦ rw miss (full-push (i + 1) q ds d k (omega arith))
    ]

pub first_of-push : (q : Full) (ds : List Declared) (d : Declared) (k : ℕ) → k ≡ length ds
    → first_of q (ds ++ d ∷ []) ≡ option_or (first_of q ds) (if same_full q (full d) then Some k else None)
first_of-push q ds d k h = full-push 0 q ds d k (omega arith)

or-none : {X : Type 0} (o : Option X) → option_or o None ≡ o
or-none None = refl
or-none (Some x) = refl

or-some : {X : Type 0} (o p : Option X) → is_some o ≡ true → option_or o p ≡ o
or-some None p h = absurd (false≢true h)
or-some (Some x) p h = refl

none-or : {X : Type 0} (o p : Option X) → is_some o ≡ false → option_or o p ≡ p
none-or None p h = refl
none-or (Some x) p h = absurd (false≢true (sym h))

-- a name that was there
pub named_again : (f : List ℕ → Option ℕ) (names : List (List ℕ)) (name : List ℕ) → ((x : List ℕ) → f x ≡ first_named x names) → is_some (f name) ≡ true
    → (x : List ℕ) → f x ≡ first_named x (names ++ name ∷ [])
named_again f names name h there x =
    let pushed = first_named-push x names name (length names) refl in
    elim (cases_Bool (bytes_eq x name)) [
      | inl hit ↦
          let at : is_some (first_named x names) ≡ true = ap is_some (sym (h x)) ∙ ap (λ y. is_some (f y)) (same_bytes x name hit) ∙ there in
          h x ∙ sym (pushed ∙ or-some (first_named x names) _ at)
      | inr miss ↦ h x ∙ sym (pushed ∙ rw miss (or-none (first_named x names)))
    ]

-- a new name
pub named_new : (f g : List ℕ → Option ℕ) (names : List (List ℕ)) (name : List ℕ) (k : ℕ) → ((x : List ℕ) → f x ≡ first_named x names) → is_some (f name) ≡ false
    → k ≡ length names → ((x : List ℕ) → g x ≡ cond (bytes_eq x name) (Some k) (f x)) → (x : List ℕ) → g x ≡ first_named x (names ++ name ∷ [])
named_new f g names name k h absent size put x =
    let pushed = first_named-push x names name k size in
    elim (cases_Bool (bytes_eq x name)) [
      | inl hit ↦
          let at : is_some (first_named x names) ≡ false = ap is_some (sym (h x)) ∙ ap (λ y. is_some (f y)) (same_bytes x name hit) ∙ absent in
          put x ∙ rw hit (sym (pushed ∙ none-or (first_named x names) _ at ∙ rw hit refl))
      | inr miss ↦ put x ∙ rw miss (h x ∙ sym (pushed ∙ rw miss (or-none (first_named x names))))
    ]
