-- Many words of one value.
use Rattle.std.proofs.Common.{ℕ, suc, ◌<◌, ◌≡◌, refl, ℤ, List, [], ◌∷◌, length, replicate, arith}
use Rattle.std.specs.Prelude.{pos}
use Rattle.std.proofs.lemmas.List.{get_or-replicate, length-replicate}
use Rattle.cdl_values.specs.declared.value.ValueType.{ValueType}
use Rattle.cdl_values.specs.History.{AreValues, IsValue, word}
use Rattle.cdl_memoryless.specs.Scalars.{copies}

-- words that are all the same
pub all_same : (xs : List ℤ) (w : ℤ) → ((k : ℕ) → k < length xs → word xs k ≡ w) → xs ≡ replicate (length xs) w
all_same [] w h = refl
all_same (x ∷ xs) w h =
    let here : x ≡ w = h 0 (omega arith) in
    let rest : xs ≡ replicate (length xs) w = all_same xs w (λ k l. h (suc k) (omega arith)) in
    rw (here, ← rest) refl

-- are values where the one is
pub copies_typed : (t : ValueType) (n : ℕ) (w : ℤ) → IsValue t w → AreValues (copies t n) (replicate n w)
copies_typed t n w v = record {
  size = length-replicate n w;
  each = λ i l. rw (get_or-replicate n i w (pos 0) l) v;
}
