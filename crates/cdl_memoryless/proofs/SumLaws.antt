-- A sum of products, one product more.
use Rattle.std.proofs.Common.{ℕ, suc, ◌+◌, ◌≡◌, ◌<◌, ℤ, List, ◌∷◌, length, drop, map, get_or, add-one, arith, ap, ◌∙◌, sym}
use Rattle.std.proofs.Math.Seq.{drop-cons}
use Rattle.std.specs.Prelude.{pos, ◌+ℤ◌, ◌*ℤ◌}
use Rattle.std.proofs.lemmas.Int.{ints}
use Rattle.cdl_decimal.specs.Counts.{dot}
use Rattle.cdl_values.specs.History.{word}
use Rattle.cdl_values.specs.Values.{integer_of}
use Rattle.cdl_values.specs.declared.value.Value.{Value}

pub sum_step : (ks : List Value) (xs : List ℤ) (i : ℕ) (k : Value) (s r all : ℤ) → i < length ks → i < length xs → k ≡ get_or ks i k
    → s +ℤ dot (map integer_of (drop i ks)) (drop i xs) ≡ all → r ≡ s +ℤ integer_of k *ℤ word xs i
    → r +ℤ dot (map integer_of (drop (i + 1) ks)) (drop (i + 1) xs) ≡ all
sum_step ks xs i k s r all l m is so_far e =
    let a : drop i ks ≡ k ∷ drop (suc i) ks = drop-cons ks i k l ∙ ap (λ z. z ∷ drop (suc i) ks) (sym is) in
    let b : drop i xs ≡ word xs i ∷ drop (suc i) xs = drop-cons xs i (pos 0) m in
    let t : s +ℤ (integer_of k *ℤ word xs i +ℤ dot (map integer_of (drop (suc i) ks)) (drop (suc i) xs)) ≡ all = rw (a, b) at so_far in
    rw (add-one, e) (omega (arith, ints))
