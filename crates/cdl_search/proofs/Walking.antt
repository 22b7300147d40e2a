-- Walks, joined.
use Rattle.std.proofs.Common.{ℕ, zero, suc, ◌<◌, ◌≤◌, ◌≡◌, refl, subst, inl, inr, Bool, true, false}
use Rattle.std.proofs.lemmas.Bool.{cases_lt, cases_eq}
use Rattle.cdl_search.specs.Walks.{Walk, Reach, OnLoop}

pub by_lt : {P : Type 0} (m n : ℕ) → (m < n → P) → (n ≤ m → P) → P
by_lt {P} m n f g = elim (cases_lt m n) as (λ _. P) [ inl h ↦ f h | inr h ↦ g h ]

pub by_eq : {P : Type 0} (m n : ℕ) → (m ≡ n → P) → ((m ≡ n → ⊥) → P) → P
by_eq {P} m n f g = elim (cases_eq m n) as (λ _. P) [ inl h ↦ f h | inr h ↦ g h ]

-- a step, and then a walk
pub walk_from : (D : ℕ → ℕ → Type 0) (a b c n : ℕ) → D a b → Walk D b c n → Walk D a c (suc n)
walk_from D a b c zero d w = (a, refl, subst (λ x. D a x) w d)
walk_from D a b c (suc n) d w = (w.0, walk_from D a b w.0 n d w.1, w.2)

pub reach_from : (D : ℕ → ℕ → Type 0) (a b c : ℕ) → D a b → Reach D b c → Reach D a c
reach_from D a b c d r = (suc r.0, walk_from D a b c r.0 d r.1)

-- a walk, and then another
pub join_walk : (D : ℕ → ℕ → Type 0) (a b c m n : ℕ) → Walk D a b m → Walk D b c n → Reach D a c
join_walk D a b c m zero v w = (m, subst (λ x. Walk D a x m) w v)
join_walk D a b c m (suc n) v w =
    let r : Reach D a w.0 = join_walk D a b w.0 m n v w.1 in
    (suc r.0, (w.0, r.1, w.2))

pub reach_join : (D : ℕ → ℕ → Type 0) (a b c : ℕ) → Reach D a b → Reach D b c → Reach D a c
reach_join D a b c r s = join_walk D a b c r.0 s.0 r.1 s.1

pub reach_here : (D : ℕ → ℕ → Type 0) (a : ℕ) → Reach D a a
reach_here D a = (0, refl)

-- a walk of a step or more, and a walk back
loop_round : (D : ℕ → ℕ → Type 0) (a b n m : ℕ) → Walk D a b (suc n) → Walk D b a m → OnLoop D a
loop_round D a b n zero w v = (n, subst (λ x. Walk D a x (suc n)) v w)
loop_round D a b n (suc m) w v =
    let r : Reach D a v.0 = join_walk D a b v.0 (suc n) m w v.1 in
    (r.0, (v.0, r.1, v.2))

-- a walk to another place has a step
walk_away : (D : ℕ → ℕ → Type 0) (a b n : ℕ) → Walk D a b n → (a ≡ b → ⊥) → Reach D b a → OnLoop D a
walk_away D a b zero w f r = absurd (f w)
walk_away D a b (suc n) w f r = loop_round D a b n r.0 w r.1

pub loop_between : (D : ℕ → ℕ → Type 0) (a b : ℕ) → Reach D a b → Reach D b a → (a ≡ b → ⊥) → OnLoop D a
loop_between D a b r s f = walk_away D a b r.0 r.1 f s

pub loop_from : (D : ℕ → ℕ → Type 0) (a b : ℕ) → D a b → Reach D b a → OnLoop D a
loop_from D a b d r = (r.0, walk_from D a b a r.0 d r.1)

pub by_bool : {P : Type 0} (b : Bool) → (b ≡ true → P) → (b ≡ false → P) → P
by_bool true f g = f refl
by_bool false f g = g refl
