-- Indices in rows and grids, and lists of what there is at each number.
use Rattle.std.proofs.Common.{◌≡◌, ◌<◌, ℕ, zero, suc, ◌+◌, ◌*◌, ◌/◌, ◌%◌, List, [], ◌∷◌, ◌++◌, length, get_or, refl, ap, arith, add-one, ◌↔◌}
use Rattle.std.proofs.Math.Nat.{div-lt_iff_lt-mul}
use Rattle.cdl_values.specs.Values.{items_of}
use Rattle.cdl_walk.specs.Elements.{tabulate, indices_at}

pub some_column : (k r c : ℕ) → k < r * c → 0 < c
some_column k r zero h = absurd (let none : r * 0 ≡ 0 = omega arith in omega (arith, none))
some_column k r (suc c) h = omega arith

pub row_below : (k r c : ℕ) → k < r * c → k / c < r
row_below k r c h = let both : (k / c < r) ↔ (k < r * c) = div-lt_iff_lt-mul (some_column k r c h) in both.1 h

pub one_size : (sizes : List ℕ) → length sizes ≡ 1 → items_of sizes ≡ get_or sizes 0 0
one_size [] h = cc
one_size (n ∷ []) h = omega arith
one_size (n ∷ m ∷ more) h = absurd (omega (arith, h))

pub two_sizes : (sizes : List ℕ) → length sizes ≡ 2 → items_of sizes ≡ get_or sizes 0 0 * get_or sizes 1 0
two_sizes [] h = cc
two_sizes (n ∷ []) h = absurd (omega (arith, h))
two_sizes (m ∷ n ∷ []) h = let one : n * 1 ≡ n = omega arith in ap (λ x. m * x) one
two_sizes (m ∷ n ∷ o ∷ more) h = absurd (omega (arith, h))

pub no_indices : (sizes : List ℕ) (k : ℕ) → length sizes ≡ 0 → indices_at sizes k ≡ []
no_indices [] k h = refl
no_indices (n ∷ more) k h = absurd (omega (arith, h))

pub one_index : (sizes : List ℕ) (k : ℕ) → length sizes ≡ 1 → indices_at sizes k ≡ (k + 1) ∷ []
one_index [] k h = cc
one_index (n ∷ []) k h = refl
one_index (n ∷ m ∷ more) k h = absurd (omega (arith, h))

pub two_indices : (sizes : List ℕ) (k : ℕ) → length sizes ≡ 2 → indices_at sizes k ≡ (k / get_or sizes 1 0 + 1) ∷ (k % get_or sizes 1 0 + 1) ∷ []
two_indices [] k h = cc
two_indices (n ∷ []) k h = absurd (omega (arith, h))
two_indices (m ∷ n ∷ []) k h = refl
two_indices (m ∷ n ∷ o ∷ more) k h = absurd (omega (arith, h))

pub one_more : {A : Type 0} (f : ℕ → A) (k : ℕ) → tabulate (k + 1) f ≡ tabulate k f ++ f k ∷ []
one_more f k = rw add-one refl
