-- There is one first broken rule.
use Rattle.std.proofs.Common.{◌≡◌, ◌<◌, ℕ, [], ◌∷◌, refl, sym, ap, ◌∙◌, subst, arith, inl, inr, ◌++◌}
use Rattle.std.proofs.lemmas.Bool.{cases_lt}
use Rattle.cdl_stations.specs.Keys.{Key, Before, Compared, earlier, same, later}
use Rattle.cdl_stations.specs.FirstBroken.{First, NoneBroken}

compared_heads : (m n : ℕ) (k l : Key) → Compared k l → m ≡ n → Compared (m ∷ k) (n ∷ l)
compared_heads m n k l (earlier h) e = earlier (inr (e, h))
compared_heads m n k l (same h) e = same (ap (λ (x : ℕ). x ∷ k) e ∙ ap (λ (x : Key). n ∷ x) h)
compared_heads m n k l (later h) e = later (inr (sym e, h))

pub compared : (a b : Key) → Compared a b
compared [] [] = same refl
compared [] (n ∷ l) = earlier tt
compared (m ∷ k) [] = later tt
compared (m ∷ k) (n ∷ l) = elim (cases_lt m n) as (λ _. Compared (m ∷ k) (n ∷ l)) [
  | inl lt ↦ earlier (inl lt)
  | inr le ↦ elim (cases_lt n m) as (λ _. Compared (m ∷ k) (n ∷ l)) [
    | inl gt ↦ later (inl gt)
    | inr ge ↦ compared_heads m n k l (compared k l) (omega (arith, le, ge))
  ]
]

pub inside : (j l : Key) (n : ℕ) → Before j (j ++ n ∷ l)
inside [] l n = tt
inside (m ∷ j) l n = inr (refl, inside j l n)

pub by_number : (j k l : Key) (m n : ℕ) → m < n → Before (j ++ m ∷ k) (j ++ n ∷ l)
by_number [] k l m n h = inl h
by_number (i ∷ j) k l m n h = inr (refl, by_number j k l m n h)

module _ {F : Type 0} where
  first_at : (B : Key → F → Type 0) (f g : F) (a : First B f) (b : First B g) → Compared a.key b.key → f ≡ g
  first_at B f g a b (earlier h) = absurd (b.least a.key f h a.broken)
  first_at B f g a b (same h) = b.alone f (subst (λ (k : Key). B k f) h a.broken)
  first_at B f g a b (later h) = absurd (a.least b.key g h b.broken)

  pub first_one : (B : Key → F → Type 0) (f g : F) → First B f → First B g → f ≡ g
  first_one B f g a b = first_at B f g a b (compared a.key b.key)

  pub first_none : (B : Key → F → Type 0) (f : F) → NoneBroken B → First B f → ⊥
  first_none B f n a = n.none a.key f a.broken
