-- Where items and parts stand.
use Rattle.std.proofs.Common.{ℕ, ◌+◌, ◌-◌, ◌*◌, ◌≡◌, ◌<◌, ◌≤◌, suc, Bool, true, false, ◌&&◌, List, [], ◌∷◌, ◌++◌, Some, None, length, take, drop, min, inl, inr, zero, refl, arith, sym, ap, ◌∙◌, cond}
use Rattle.std.proofs.lemmas.Bool.Decides.{nat_tests}
use Rattle.std.proofs.lemmas.List.{take_all, drop_all, length-drop}
use Rattle.std.proofs.lemmas.Bool.{cases_lt}
use Rattle.std.proofs.lemmas.Nat.{mul-add-lt}
use Rattle.std.proofs.lemmas.Option.{cond_some}
use Rattle.std.proofs.Math.Nat.{mul_assoc, mul_comm, mul-le-mul_left}
use Rattle.cdl_values.specs.Values.{IsArray, items_of}
use Rattle.cdl_values.specs.declared.value.Array.{Array}
use Rattle.cdl_array.specs.Parts.{place, is_within}

grid : (n m i j : ℕ) → is_within n i && is_within m j ≡ true → (i - 1) * m + (j - 1) < n * (m * 1)
grid n m i j e =
    let low : 1 ≤ i = grind (arith, nat_tests) in
    let high : i ≤ n = grind (arith, nat_tests) in
    let left : 1 ≤ j = grind (arith, nat_tests) in
    let right : j ≤ m = grind (arith, nat_tests) in
    omega (arith, mul-add-lt (i - 1) m (j - 1) n (omega arith) (omega arith))

-- an item stands below the number of items
pub place_below : (s is : List ℕ) (k : ℕ) → place s is ≡ Some k → k < items_of s
unfolding place
place_below [] [] k e = grind arith
place_below (n ∷ []) (i ∷ []) k e = grind (arith, nat_tests)
place_below (n ∷ m ∷ []) (i ∷ j ∷ []) k e =
    let w = cond_some (is_within n i && is_within m j) ((i - 1) * m + (j - 1)) k e in
    omega (arith, grid n m i j w.0, w.1)
place_below _ _ k e = cc

-- more indices than sizes are none of them
place_none : (s is : List ℕ) → length s < length is → place s is ≡ None
unfolding place
place_none [] (i ∷ is) h = refl
place_none (n ∷ []) (i ∷ j ∷ is) h = refl
place_none (n ∷ m ∷ []) (i ∷ j ∷ l ∷ is) h = refl
place_none (n ∷ m ∷ p ∷ s) (i ∷ is) h = refl
place_none _ _ h = absurd (omega arith)

pub place_many : (s is : List ℕ) → 2 < length is → place s is ≡ None
unfolding place
place_many [] (i ∷ is) h = refl
place_many (n ∷ []) (i ∷ j ∷ is) h = refl
place_many (n ∷ m ∷ []) (i ∷ j ∷ l ∷ is) h = refl
place_many (n ∷ m ∷ p ∷ s) (i ∷ is) h = refl
place_many _ _ h = absurd (omega arith)

pub place_past : (s is : List ℕ) → length s < length is → place (take (length is) s) is ≡ None
place_past s is h =
    let all : length s ≤ length is = omega arith in
    rw (take_all (length is) s all) (place_none s is h)

pub items_of-append : (s rest : List ℕ) → items_of (s ++ rest) ≡ items_of s * items_of rest
items_of-append [] rest = grind arith
items_of-append (n ∷ s) rest = rw (items_of-append s rest) (sym (mul_assoc n (items_of s) (items_of rest)))

-- the part at a place lies in the array
pub part_fits : (a : Array) (s rest is : List ℕ) (k r : ℕ) → IsArray a → s ++ rest ≡ a.shape → place s is ≡ Some k → r ≡ items_of rest → k * r + r ≤ length a.items
part_fits a s rest is k r whole e p q =
    let lt : k < items_of s = place_below s is k p in
    let count : length a.items ≡ items_of s * items_of rest = whole.count ∙ ap items_of (sym e) ∙ items_of-append s rest in
    let more : suc k ≤ items_of s = omega arith in
    rw q (omega (arith, count, mul-le-mul_left (items_of rest) more))

one_up : (n : ℕ) → 1 ≤ suc n
one_up n = omega arith

-- a product of a number that was cut off, cut off again
pub cut_product : (n r m : ℕ) → min (min r m * n) m ≡ min (n * r) m
cut_product zero r m = grind arith
cut_product (suc n) r m = elim (cases_lt m r) [
  | inl lt ↦ (let cut : min r m ≡ m = omega arith in let more : m ≤ m * suc n = omega (arith, mul-le-mul_left m (one_up n)) in let most : r ≤ suc n * r = omega (arith, mul-le-mul_left r (one_up n)) in rw cut (omega (arith, more, most, lt)))
  | inr le ↦ (let whole : min r m ≡ r = omega arith in rw (whole, mul_comm r (suc n)) refl)
]

-- so many values of a list that has fewer than it is cut off at
take_cut : {X : Type 0} (xs : List X) (n m : ℕ) → length xs ≤ m → take (min n m) xs ≡ take n xs
take_cut xs n m h = elim (cases_lt m n) [
  | inl lt ↦ (let cut : min n m ≡ m = omega arith in let most : length xs ≤ n = omega (arith, h) in rw (cut, take_all m xs h, take_all n xs most) refl)
  | inr le ↦ (let whole : min n m ≡ n = omega arith in rw whole refl)
]

drop_cut : {X : Type 0} (xs : List X) (n m : ℕ) → length xs ≤ m → drop (min n m) xs ≡ drop n xs
drop_cut xs n m h = elim (cases_lt m n) [
  | inl lt ↦ (let cut : min n m ≡ m = omega arith in let most : length xs ≤ n = omega (arith, h) in rw (cut, drop_all m xs h, drop_all n xs most) refl)
  | inr le ↦ (let whole : min n m ≡ n = omega arith in rw whole refl)
]

-- a stretch of a list, by numbers that were cut off
pub stretch_is : {X : Type 0} (xs : List X) (at c m : ℕ) → length xs ≤ m → take (min c m) (drop (min (min c m * at) m) xs) ≡ take (at * c + c - at * c) (drop (at * c) xs)
stretch_is xs at c m h =
    let count : at * c + c - at * c ≡ c = omega arith in
    let start : drop (min (min c m * at) m) xs ≡ drop (at * c) xs = rw (cut_product at c m) (drop_cut xs (at * c) m h) in
    let short : length (drop (at * c) xs) ≤ m = rw (length-drop (at * c) xs) (omega (arith, h)) in
    rw (count, start) (take_cut (drop (at * c) xs) c m short)
