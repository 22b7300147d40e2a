-- Answers that are found one after the other.
use Rattle.std.proofs.Common.{ℕ, zero, suc, ◌+◌, ◌<◌, ◌≤◌, ◌≡◌, refl, sym, ap, ◌∙◌, subst, inl, inr, arith, Bool, cond, List, [], ◌∷◌, ◌++◌, length, map, drop, get_or, append_assoc, add-one, Option, Some, None, Ok, Err}
use Rattle.std.proofs.lemmas.List.{append-nil, drop_all}
use Rattle.std.specs.Prelude.{slice_get}
use Rattle.std.proofs.lemmas.Option.{slice_get_cases}
use Rattle.std.proofs.Math.Seq.{drop-cons}
use Rattle.cdl_array.specs.Outcomes.{Answers, Outcome, then_to}
use Rattle.cdl_array.specs.declared.fault.EvalFault.{EvalFault}
use Rattle.cdl_array.specs.declared.fault.EvalFault.TheVariants.{Rule, OutOfMemory}
use Rattle.cdl_values.specs.declared.value.Array.{Array}
use Rattle.cdl_tree.specs.declared.expr.Expr.{Expr}
use Rattle.cdl_tree.specs.declared.class.Dim.{Dim}
use Rattle.cdl_worth.specs.Expressions.{all}
use Rattle.cdl_worth.specs.Sizes.{dim_size, dim_sizes, gather}

-- a list from a place on
pub from_place : {X : Type 0} (xs : List X) (i : ℕ) (x : X) → i < length xs → x ≡ get_or xs i x → drop i xs ≡ x ∷ drop (i + 1) xs
from_place xs i x l e = rw add-one (drop-cons xs i x l ∙ ap (λ y. y ∷ drop (suc i) xs) (sym e))

-- an item that is there, or none
pub item_here : {X : Type 0} (xs : List X) (i : ℕ) (x : X) → Some x ≡ slice_get xs i → (i < length xs) × (x ≡ get_or xs i x)
item_here xs i x e = elim ((slice_get_cases xs i).1) [
  | inl w ↦ (let same : w.0 ≡ x = cc in (w.1, subst (λ y. y ≡ get_or xs i y) same (sym w.3)))
  | inr w ↦ (let none : slice_get xs i ≡ None = w.1 in absurd cc)
]

pub none_here : {X : Type 0} (xs : List X) (i : ℕ) → None ≡ slice_get xs i → length xs ≤ i
none_here xs i e = elim ((slice_get_cases xs i).1) [
  | inl w ↦ (let some : slice_get xs i ≡ Some w.0 = w.2 in absurd cc)
  | inr w ↦ w.0
]

pub drop_one : {X : Type 0} (xs : List X) (k : ℕ) → drop 1 (drop k xs) ≡ drop (k + 1) xs
drop_one [] zero = refl
drop_one [] (suc k) = let same : suc k + 1 ≡ suc (k + 1) = omega arith in rw same refl
drop_one (x ∷ xs) zero = refl
drop_one (x ∷ xs) (suc k) = let same : suc k + 1 ≡ suc (k + 1) = omega arith in rw same (drop_one xs k)

-- what is found of all, where these were found of the first
abbrev pub with : {A : Type 0} → List A → Outcome (List A) → Outcome (List A)
with got o = then_to o (λ more. Ok (got ++ more))

pub with_none : {A : Type 0} (o : Outcome (List A)) → with [] o ≡ o
with_none (Ok xs) = refl
with_none (Err r) = refl

with_more : {A : Type 0} (got some : List A) (o : Outcome (List A)) → with (got ++ some) o ≡ with got (with some o)
with_more got some (Err r) = refl
with_more got some (Ok more) = ap Ok (append_assoc got some more)

-- a list of answers goes one by one
abbrev pub OneByOne : {X A : Type 0} → (X → Outcome A) → (List X → Outcome (List A)) → Type 0
OneByOne {X} {A} f g = (x : X) (xs : List X) → g (x ∷ xs) ≡ then_to (f x) (λ a. with (a ∷ []) (g xs))

step : {X A : Type 0} (f : X → Outcome A) (g : List X → Outcome (List A)) → OneByOne f g → (xs : List X) (i : ℕ) (x : X) (v : A) (got : List A) → i < length xs → x ≡ get_or xs i x → f x ≡ Ok v
    → with got (g (drop i xs)) ≡ with (got ++ v ∷ []) (g (drop (i + 1) xs))
step f g one xs i x v got l e h =
    let d = from_place xs i x l e in
    rw (d, one x (drop (i + 1) xs), h) (sym (with_more got (v ∷ []) (g (drop (i + 1) xs))))

pub one_more : {X A : Type 0} (f : X → Outcome A) (g : List X → Outcome (List A)) → OneByOne f g → (xs : List X) (i : ℕ) (x : X) (v : A) (got : List A) (o : Outcome (List A)) → i < length xs → x ≡ get_or xs i x → f x ≡ Ok v
    → with got (g (drop i xs)) ≡ o → with (got ++ v ∷ []) (g (drop (i + 1) xs)) ≡ o
one_more f g one xs i x v got o l e h p = sym (step f g one xs i x v got l e h) ∙ p

pub one_fault : {X A : Type 0} (f : X → Outcome A) (g : List X → Outcome (List A)) → OneByOne f g → (xs : List X) (i : ℕ) (x : X) (got : List A) (o : Outcome (List A)) (fault : EvalFault) → i < length xs → x ≡ get_or xs i x
    → Answers {A = A} (f x) (Err fault) → with got (g (drop i xs)) ≡ o → Answers {A = List A} o (Err fault)
one_fault f g one xs i x got o OutOfMemory l e h p = tt
one_fault f g one xs i x got o (Rule r) l e h p = let d = from_place xs i x l e in sym p ∙ rw (d, one x (drop (i + 1) xs), h) refl

pub one_end : {X A : Type 0} (g : List X → Outcome (List A)) → g [] ≡ Ok [] → (xs : List X) (i : ℕ) (got : List A) (o : Outcome (List A)) → length xs ≤ i → with got (g (drop i xs)) ≡ o → o ≡ Ok got
one_end g none xs i got o l p = sym p ∙ rw (drop_all i xs l, none, append-nil got) refl

-- expressions
pub all_more : (f : Expr → Outcome Array) (xs : List Expr) (i : ℕ) (x : Expr) (v : Array) (got : List Array) (o : Outcome (List Array)) → i < length xs → x ≡ get_or xs i x → f x ≡ Ok v
    → with got (all (map f (drop i xs))) ≡ o → with (got ++ v ∷ []) (all (map f (drop (i + 1) xs))) ≡ o
all_more f xs i x v got o l e h p = one_more f (λ (ys : List Expr). all (map f ys)) (λ y ys. refl) xs i x v got o l e h p

pub all_fault : (f : Expr → Outcome Array) (xs : List Expr) (i : ℕ) (x : Expr) (got : List Array) (o : Outcome (List Array)) (fault : EvalFault) → i < length xs → x ≡ get_or xs i x
    → Answers {A = Array} (f x) (Err fault) → with got (all (map f (drop i xs))) ≡ o → Answers {A = List Array} o (Err fault)
all_fault f xs i x got o fault l e h p = one_fault f (λ (ys : List Expr). all (map f ys)) (λ y ys. refl) xs i x got o fault l e h p

pub all_end : (f : Expr → Outcome Array) (xs : List Expr) (i : ℕ) (got : List Array) (o : Outcome (List Array)) → length xs ≤ i → with got (all (map f (drop i xs))) ≡ o → o ≡ Ok got
all_end f xs i got o l p = one_end (λ (ys : List Expr). all (map f ys)) refl xs i got o l p

-- dimensions
pub dims_more : (f : Expr → Outcome Array) (xs : List Dim) (i : ℕ) (x : Dim) (v : Option ℕ) (got : List (Option ℕ)) (o : Outcome (List (Option ℕ))) → i < length xs → x ≡ get_or xs i x → dim_size f x ≡ Ok v
    → with got (dim_sizes f (drop i xs)) ≡ o → with (got ++ v ∷ []) (dim_sizes f (drop (i + 1) xs)) ≡ o
dims_more f xs i x v got o l e h p = one_more (dim_size f) (dim_sizes f) (λ y ys. refl) xs i x v got o l e h p

pub dims_fault : (f : Expr → Outcome Array) (xs : List Dim) (i : ℕ) (x : Dim) (got : List (Option ℕ)) (o : Outcome (List (Option ℕ))) (fault : EvalFault) → i < length xs → x ≡ get_or xs i x
    → Answers {A = Option ℕ} (dim_size f x) (Err fault) → with got (dim_sizes f (drop i xs)) ≡ o → Answers {A = List (Option ℕ)} o (Err fault)
dims_fault f xs i x got o fault l e h p = one_fault (dim_size f) (dim_sizes f) (λ y ys. refl) xs i x got o fault l e h p

pub dims_end : (f : Expr → Outcome Array) (xs : List Dim) (i : ℕ) (got : List (Option ℕ)) (o : Outcome (List (Option ℕ))) → length xs ≤ i → with got (dim_sizes f (drop i xs)) ≡ o → o ≡ Ok got
dims_end f xs i got o l p = one_end (dim_sizes f) refl xs i got o l p

-- ---- sizes that are gathered

gather_out : (ss : List (Outcome (List ℕ))) → gather [] ss ≡ Ok []
gather_out [] = refl
gather_out (s ∷ ss) = refl

pub gather_more : (outs : List Bool) (ss : List (Outcome (List ℕ))) (k j : ℕ) (out : Bool) (s : Outcome (List ℕ)) (got ns : List ℕ) (o : Outcome (List ℕ)) → k < length outs → out ≡ get_or outs k out → drop j ss ≡ s ∷ drop (j + 1) ss
    → cond out (Ok []) s ≡ Ok ns → with got (gather (drop k outs) (drop j ss)) ≡ o → with (got ++ ns) (gather (drop (k + 1) outs) (drop (j + 1) ss)) ≡ o
gather_more outs ss k j out s got ns o l e d h p =
    let front = from_place outs k out l e in
    let here : with got (gather (drop k outs) (drop j ss)) ≡ with got (with ns (gather (drop (k + 1) outs) (drop (j + 1) ss))) = rw (front, d, h) refl in
    with_more got ns (gather (drop (k + 1) outs) (drop (j + 1) ss)) ∙ (sym here ∙ p)

pub gather_fault : (outs : List Bool) (ss : List (Outcome (List ℕ))) (k j : ℕ) (out : Bool) (s : Outcome (List ℕ)) (got : List ℕ) (o : Outcome (List ℕ)) (fault : EvalFault) → k < length outs → out ≡ get_or outs k out → drop j ss ≡ s ∷ drop (j + 1) ss
    → Answers {A = List ℕ} (cond out (Ok []) s) (Err fault) → with got (gather (drop k outs) (drop j ss)) ≡ o → Answers {A = List ℕ} o (Err fault)
gather_fault outs ss k j out s got o OutOfMemory l e d h p = tt
gather_fault outs ss k j out s got o (Rule r) l e d h p = let front = from_place outs k out l e in sym p ∙ rw (front, d, h) refl

pub gather_few : (outs : List Bool) (ss : List (Outcome (List ℕ))) (k j : ℕ) (got : List ℕ) (o : Outcome (List ℕ)) → length outs ≤ k → with got (gather (drop k outs) (drop j ss)) ≡ o → o ≡ Ok got
gather_few outs ss k j got o l p = sym p ∙ rw (drop_all k outs l, gather_out (drop j ss), append-nil got) refl

pub gather_end : (outs : List Bool) (ss : List (Outcome (List ℕ))) (k j : ℕ) (got : List ℕ) (o : Outcome (List ℕ)) → length ss ≤ j → with got (gather (drop k outs) (drop j ss)) ≡ o → o ≡ Ok got
gather_end outs ss k j got o l p =
    let none : drop j ss ≡ [] = drop_all j ss l in
    let all : with got (gather (drop k outs) (drop j ss)) ≡ with got (Ok []) = ap (λ (xs : List (Outcome (List ℕ))). with got (gather (drop k outs) xs)) none in
    sym p ∙ (all ∙ ap (λ (xs : List ℕ). let o : Outcome (List ℕ) = Ok xs in o) (append-nil got))
