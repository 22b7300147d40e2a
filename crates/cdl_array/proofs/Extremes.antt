-- The greatest and the least of many counts, found one by one.
use Rattle.std.proofs.Common.{ℕ, suc, ◌+◌, ◌≡◌, ◌<◌, ℤ, List, ◌∷◌, length, get_or, drop, map, add-one, sym, ap, ◌∙◌}
use Rattle.std.proofs.Math.Seq.{drop-cons}
use Rattle.cdl_values.specs.Extremes.{greater_of, greatest}
use Rattle.cdl_values.proofs.Extremes.{greatest_next}

-- one item more
pub greatest_step : {X : Type 0} (f : X → ℤ) (xs : List X) (i : ℕ) (x : X) (a r : ℤ) → i < length xs → x ≡ get_or xs i x → greatest (a ∷ map f (drop i xs)) ≡ greatest (map f xs) → r ≡ greater_of a (f x) → greatest (r ∷ map f (drop (i + 1) xs)) ≡ greatest (map f xs)
greatest_step f xs i x a r l e so_far q =
    let d : drop i xs ≡ x ∷ drop (suc i) xs = drop-cons xs i x l ∙ ap (λ y. y ∷ drop (suc i) xs) (sym e) in
    let s : greatest (a ∷ f x ∷ map f (drop (suc i) xs)) ≡ greatest (map f xs) = rw d at so_far in
    rw (add-one, q, ← (greatest_next a (f x) (map f (drop (suc i) xs)))) s
