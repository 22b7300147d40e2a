-- Words of which a window is overwritten.
use Rattle.std.proofs.Common.{◌≡◌, ◌⊎◌, ◌+◌, ◌-◌, ◌≤◌, ℕ, ℤ, List, ◌++◌, length, take, drop, ap, sym, ◌∙◌, append_assoc, arith, inl, inr}
use Rattle.std.proofs.Math.Seq.{drop-append-add}
use Rattle.std.proofs.lemmas.List.{take-append-drop, take-append-le, drop-append-le, drop-drop, take_all, length-append, length-drop, length-take-le}
use Rattle.cdl_pool.specs.Windows.{Extent, window, overwritten, Fits, LieApart}

-- a window in the first of two lists
in_front : (xs ys : List ℤ) (a k : ℕ) → a + k ≤ length xs → take k (drop a (xs ++ ys)) ≡ take k (drop a xs)
in_front xs ys a k fits =
    let left : length (drop a xs) ≡ length xs - a = length-drop a xs in
    ap (take k) (drop-append-le a xs ys (omega arith)) ∙ take-append-le k (drop a xs) ys (omega arith)

-- what follows a place in the second of two lists
in_back : (xs ys : List ℤ) (m a : ℕ) → length xs ≡ m → m ≤ a → drop a (xs ++ ys) ≡ drop (a - m) ys
in_back xs ys m a long behind =
    let split : a ≡ length xs + (a - m) = omega arith in
    ap (λ n. drop n (xs ++ ys)) split ∙ drop-append-add xs ys (a - m)

-- three parts: before the window, the window, behind it
parts_are : (words new : List ℤ) (p k : ℕ) → p + k ≤ length words → length new ≡ k
    → overwritten words (record { place = p; len = k }) new ≡ (take p words ++ new) ++ drop (p + k) words
parts_are words new p k fits wide =
    let front : length (take p words) ≡ p = length-take-le p words (omega arith) in
    let behind : drop (length new) (drop p words) ≡ drop (p + k) words = drop-drop (length new) p words ∙ ap (λ n. drop (p + n) words) wide in
    let back : length (drop (length new) (drop p words)) ≡ length words - (p + k) = ap length behind ∙ length-drop (p + k) words in
    let ws : List ℤ = take p words ++ (new ++ drop (length new) (drop p words)) in
    let outer : length ws ≡ length (take p words) + length (new ++ drop (length new) (drop p words)) = length-append (take p words) (new ++ drop (length new) (drop p words)) in
    let inner : length (new ++ drop (length new) (drop p words)) ≡ length new + length (drop (length new) (drop p words)) = length-append new (drop (length new) (drop p words)) in
    let size : length ws ≡ length words = omega arith in
    take-append-le (length words) ws (drop (length ws) words) (omega arith) ∙ take_all (length words) ws (omega arith)
    ∙ ap (λ z. take p words ++ (new ++ z)) behind
    ∙ sym (append_assoc (take p words) new (drop (p + k) words))

before_it : (words new : List ℤ) (p k a n : ℕ) → p + k ≤ length words → length new ≡ k → a + n ≤ p
    → window (overwritten words (record { place = p; len = k }) new) (record { place = a; len = n }) ≡ window words (record { place = a; len = n })
before_it words new p k a n fits wide apart =
    let front : length (take p words) ≡ p = length-take-le p words (omega arith) in
    ap (λ z. take n (drop a z)) (parts_are words new p k fits wide ∙ append_assoc (take p words) new (drop (p + k) words))
    ∙ in_front (take p words) (new ++ drop (p + k) words) a n (omega arith)
    ∙ sym (in_front (take p words) (drop p words) a n (omega arith))
    ∙ ap (λ z. take n (drop a z)) (take-append-drop p words)

behind_it : (words new : List ℤ) (p k a n : ℕ) → p + k ≤ length words → length new ≡ k → p + k ≤ a
    → window (overwritten words (record { place = p; len = k }) new) (record { place = a; len = n }) ≡ window words (record { place = a; len = n })
behind_it words new p k a n fits wide apart =
    let front : length (take p words) ≡ p = length-take-le p words (omega arith) in
    let both : length (take p words ++ new) ≡ p + k = length-append (take p words) new ∙ omega arith in
    let whole : length (take (p + k) words) ≡ p + k = length-take-le (p + k) words fits in
    ap (take n)
    (ap (drop a) (parts_are words new p k fits wide)
    ∙ in_back (take p words ++ new) (drop (p + k) words) (p + k) a both apart
    ∙ sym (in_back (take (p + k) words) (drop (p + k) words) (p + k) a whole apart)
    ∙ ap (drop a) (take-append-drop (p + k) words))

pub others_stay : (words new : List ℤ) (w v : Extent) → Fits words w → length new ≡ w.len → LieApart v w → window (overwritten words w new) v ≡ window words v
others_stay words new w v fits wide (inl before) = before_it words new w.place w.len v.place v.len fits wide before
others_stay words new w v fits wide (inr behind) = behind_it words new w.place w.len v.place v.len fits wide behind
