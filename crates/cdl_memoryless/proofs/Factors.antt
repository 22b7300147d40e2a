-- The factors of a sum are as many as its inputs.
use Rattle.std.proofs.Common.{ℕ, ◌≡◌, ◌<◌, ◌≤◌, ◌*◌, ℤ, List, [], ◌∷◌, ◌++◌, length, length-append, refl, true, None, arith}
use Rattle.std.specs.Prelude.{pos, negsuc, unsigned_abs}
use Rattle.std.proofs.lemmas.Int.{ints}
use Rattle.cdl_values.specs.declared.value.Array.{Array}
use Rattle.cdl_kinds.specs.declared.kind.Kind.TheVariants.{IntegersMultiSum, RealsMultiSum}
use Rattle.cdl_kinds.specs.Conditions.{Keeps, HasShape, first_broken, is_count}
use Rattle.cdl_kinds.proofs.Laws.{one_holds}
use Rattle.cdl_kinds.specs.Ports.{nin_or_nout}
use Rattle.cdl_values.specs.Values.{integer_at, items_at, items_of}

count_small : (z : ℤ) → is_count z ≡ true → (0 < unsigned_abs z) × (unsigned_abs z ≤ 256)
count_small (pos n) e = grind (arith, ints)
count_small (negsuc n) e = grind (arith, ints)

-- nin is from 1 to 256 where its condition holds
pub some_inputs : (z : ℤ) → first_broken (is_count z ∷ []) ≡ None → 0 < unsigned_abs z
some_inputs z e = (count_small z (one_holds (is_count z) e)).0

few_inputs : (z : ℤ) → first_broken (is_count z ∷ []) ≡ None → unsigned_abs z ≤ 256
few_inputs z e = (count_small z (one_holds (is_count z) e)).1

-- as many items as inputs
row_counted : (z : ℤ) (shape : List ℕ) (n : ℕ) → first_broken (is_count z ∷ []) ≡ None → HasShape z true shape → n ≡ items_of shape → n ≡ unsigned_abs z
row_counted z shape n e has c =
    let s : shape ≡ unsigned_abs z ∷ [] = has (one_holds (is_count z) e) in
    let k : n ≡ unsigned_abs z * 1 = rw s at c in
    omega arith

-- the items of the last of two arrays
pub last_of_two : (v front : List Array) (a : Array) → v ≡ front ++ a ∷ [] → length v ≡ 2 → a.items ≡ items_at v 1
last_of_two v [] a e n =
    let one : length (a ∷ []) ≡ 2 = rw e at n in
    absurd (omega arith)
last_of_two v (b ∷ []) a e n = rw e refl
last_of_two v (b ∷ d ∷ front) a e n =
    let more : length (b ∷ d ∷ (front ++ a ∷ [])) ≡ 2 = rw e at n in
    absurd (omega (arith, length-append front (a ∷ [])))

-- two parameters, the second of as many items as there are inputs
pub integer_factors : (v : List Array) → Keeps IntegersMultiSum v → (length v ≡ 2) × (length (items_at v 1) ≡ nin_or_nout v) × (nin_or_nout v ≤ 256)
integer_factors [] k = absurd k.fits.rows
integer_factors (a ∷ []) k = absurd k.fits.rows.1
integer_factors (a ∷ b ∷ []) k = (refl, row_counted (integer_at (a ∷ b ∷ []) 0) b.shape (length b.items) k.holds k.fits.rows.1.0.shape k.fits.rows.1.0.array.count, few_inputs (integer_at (a ∷ b ∷ []) 0) k.holds)
integer_factors (a ∷ b ∷ d ∷ v) k = absurd k.fits.rows.1.1

pub real_factors : (v : List Array) → Keeps RealsMultiSum v → (length v ≡ 2) × (length (items_at v 1) ≡ nin_or_nout v) × (nin_or_nout v ≤ 256)
real_factors [] k = absurd k.fits.rows
real_factors (a ∷ []) k = absurd k.fits.rows.1
real_factors (a ∷ b ∷ []) k = (refl, row_counted (integer_at (a ∷ b ∷ []) 0) b.shape (length b.items) k.holds k.fits.rows.1.0.shape k.fits.rows.1.0.array.count, few_inputs (integer_at (a ∷ b ∷ []) 0) k.holds)
real_factors (a ∷ b ∷ d ∷ v) k = absurd k.fits.rows.1.1
