-- The texts of indices.
use Rattle.std.proofs.Common.{◌≡◌, ℕ, ◌+◌, ◌*◌, ◌/◌, ◌%◌, ◌<◌, ◌≤◌, ◌^◌, List, [], ◌∷◌, ◌++◌, decimal, codes, append_assoc, sym, subst, arith}
use Rattle.std.proofs.lemmas.Fmt.{decimal_by_steps}
use Rattle.std.proofs.lemmas.List.{append-nil}
use Rattle.cdl_connect.specs.Paths.{IsDecimal, IsIndexText, digit, more, none, one, two}
use Rattle.cdl_walk.specs.Texts.{indices_text}

one_digit : (n : ℕ) → n < 10 → IsDecimal n ((48 + n) ∷ [])
one_digit n l = let e : n + 48 ≡ 48 + n = omega arith in subst (λ k. IsDecimal n (k ∷ [])) e (digit n l)

next_digit : (n : ℕ) (ds : List ℕ) → 10 ≤ n → IsDecimal (n / 10) ds → IsDecimal n (ds ++ ((48 + n % 10) ∷ []))
next_digit n ds l h =
    let e : n % 10 + 48 ≡ 48 + n % 10 = omega arith in
    let w : n / 10 * 10 + n % 10 ≡ n = omega arith in
    subst (λ k. IsDecimal k (ds ++ ((48 + n % 10) ∷ []))) w (subst (λ k. IsDecimal (n / 10 * 10 + n % 10) (ds ++ (k ∷ []))) e (more (n / 10) (n % 10) ds (omega arith) (omega arith) h))

pub decimal_is : (n : ℕ) → n < 2 ^ 64 → IsDecimal n (decimal n)
decimal_is n l = decimal_by_steps IsDecimal one_digit next_digit n l

pub no_index : IsIndexText [] (indices_text [])
no_index = none

pub one_index : (n : ℕ) → n < 2 ^ 64 → IsIndexText (n ∷ []) (indices_text (n ∷ []))
one_index n l = one n (decimal n) (decimal_is n l)

two_text : (a b : List ℕ) → codes "[" ++ (a ++ ((codes "," ++ (b ++ [])) ++ codes "]")) ≡ codes "[" ++ a ++ codes "," ++ b ++ codes "]"
two_text a b = simp (append_assoc, append-nil)

pub two_indices : (m n : ℕ) → m < 2 ^ 64 → n < 2 ^ 64 → IsIndexText (m ∷ n ∷ []) (indices_text (m ∷ n ∷ []))
two_indices m n k l = subst (λ (t : List ℕ). IsIndexText (m ∷ n ∷ []) t) (sym (two_text (decimal m) (decimal n))) (two m n (decimal m) (decimal n) (decimal_is m k) (decimal_is n l))
