-- Indices behind places in turn.
use Rattle.std.proofs.Common.{◌≡◌, ◌<◌, ◌≤◌, ℕ, suc, ◌+◌, ◌-◌, List, [], ◌++◌, refl, sym, ap, ◌∙◌, append_assoc, arith}
use Rattle.std.specs.List.{flat_map, range_with_len}
use Rattle.std.proofs.lemmas.List.{append-nil}
use Rattle.cdl_joins.specs.declared.picks.Pick.{Pick}
use Rattle.cdl_joins.specs.Picks.{behind, count}

-- those behind the places from this one on
abbrev pub ahead : List (List ℕ) → Pick → ℕ → List (List ℕ)
ahead rows x k = flat_map (behind rows) (range_with_len (x.first + k) (count x - k))

all_ahead : (rows : List (List ℕ)) (a n : ℕ) → flat_map (behind rows) (range_with_len (a + 0) (n - 0)) ≡ flat_map (behind rows) (range_with_len a n)
all_ahead rows a n = let one : a + 0 ≡ a = omega arith in let two : n - 0 ≡ n = omega arith in rw (one, two) refl

next_ahead : (rows : List (List ℕ)) (a n k : ℕ) → k < n → flat_map (behind rows) (range_with_len (a + k) (n - k)) ≡ behind rows (a + k) ++ flat_map (behind rows) (range_with_len (a + (k + 1)) (n - (k + 1)))
next_ahead rows a n k h =
    let one : n - k ≡ suc (n - (k + 1)) = omega (arith, h) in
    let next : (a + k) + 1 ≡ a + (k + 1) = omega arith in
    rw one (ap (λ (b : ℕ). behind rows (a + k) ++ flat_map (behind rows) (range_with_len b (n - (k + 1)))) next)

none_ahead : (rows : List (List ℕ)) (a n k : ℕ) → n ≤ k → flat_map (behind rows) (range_with_len (a + k) (n - k)) ≡ []
none_ahead rows a n k h = let none : n - k ≡ 0 = omega (arith, h) in rw none refl

pub rows_start : (rows all : List (List ℕ)) (x : Pick) → all ++ ahead rows x 0 ≡ all ++ flat_map (behind rows) (range_with_len x.first (count x))
rows_start rows all x = ap (λ (zs : List (List ℕ)). all ++ zs) (all_ahead rows x.first (count x))

-- those behind one more place
pub rows_next : (rows all new total : List (List ℕ)) (x : Pick) (k i : ℕ) → k < count x → i ≡ x.first + k → new ≡ all ++ behind rows i → all ++ ahead rows x k ≡ total → new ++ ahead rows x (k + 1) ≡ total
rows_next rows all new total x k i h e f g =
    ap (λ (zs : List (List ℕ)). zs ++ ahead rows x (k + 1)) (f ∙ ap (λ (j : ℕ). all ++ behind rows j) e) ∙ append_assoc all (behind rows (x.first + k)) (ahead rows x (k + 1))
    ∙ ap (λ (zs : List (List ℕ)). all ++ zs) (sym (next_ahead rows x.first (count x) k h)) ∙ g

pub rows_end : (rows all total : List (List ℕ)) (x : Pick) (k : ℕ) → count x ≤ k → all ++ ahead rows x k ≡ total → all ≡ total
rows_end rows all total x k h g = sym (append-nil all) ∙ ap (λ (zs : List (List ℕ)). all ++ zs) (sym (none_ahead rows x.first (count x) k h)) ∙ g
