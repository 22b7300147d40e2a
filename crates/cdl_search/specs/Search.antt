-- What a search along a relation, backward, has found so far.
--
-- A vertex is new (0), done (1), or open at a place p (p + 2). The open ones stand in segments:
-- the segment i begins at the place bs i, and what is still to be looked at for it begins at bw i of the todo list.
use Rattle.std.specs.Prelude.{ℕ, suc, ◌+◌, ◌<◌, ◌≤◌, ◌≡◌, ◌⊎◌, Bool, true, false}
use Rattle.cdl_search.specs.Walks.{Reach, OnLoop}

pub record Stacks : Type 0 where
  pub mark : ℕ → ℕ
  pub looped : ℕ → Bool
  pub ns : ℕ
  pub open_at : ℕ → ℕ
  pub nw : ℕ
  pub todo_at : ℕ → ℕ
  pub nb : ℕ
  pub bs : ℕ → ℕ
  pub bw : ℕ → ℕ

-- each segment that begins at or below the place p begins at or below q
abbrev pub Below : (ℕ → ℕ) → (ℕ → ℕ) → ℕ → ℕ → ℕ → Type 0
Below f g nb p q = (i : ℕ) → i < nb → f i ≤ p → g i ≤ q

pub record OpenAt (x : Stacks) (v p u : ℕ) : Type 0 where
  pub place : ℕ
  pub is : x.mark u ≡ suc (suc place)
  pub below : Below x.bs x.bs x.nb p place
  pub self : u ≡ v → x.looped v ≡ true

pub record TodoAt (x : Stacks) (p u : ℕ) : Type 0 where
  pub place : ℕ
  pub within : place < x.nw
  pub is : x.todo_at place ≡ u
  pub below : Below x.bs x.bw x.nb p place

pub record Owed (D : ℕ → ℕ → Type 0) (x : Stacks) (a : ℕ) : Type 0 where
  pub owner : ℕ
  pub place : ℕ
  pub is : x.mark owner ≡ suc (suc place)
  pub step : D (x.todo_at a) owner
  pub up : Below x.bw x.bs x.nb a place
  pub down : Below x.bs x.bw x.nb place a

pub record Inv (D : ℕ → ℕ → Type 0) (x : Stacks) : Type 0 where
  pub opened : (v p : ℕ) → x.mark v ≡ suc (suc p) → (p < x.ns) × (x.open_at p ≡ v)
  pub placed : (p : ℕ) → p < x.ns → x.mark (x.open_at p) ≡ suc (suc p)
  pub closed : (v u : ℕ) → x.mark v ≡ 1 → D u v → x.mark u ≡ 1
  pub edges : (v p u : ℕ) → x.mark v ≡ suc (suc p) → D u v → (x.mark u ≡ 1) ⊎ (OpenAt x v p u ⊎ TodoAt x p u)
  pub todo : (a : ℕ) → a < x.nw → Owed D x a
  pub back : (p q : ℕ) → p ≤ q → q < x.ns → Reach D (x.open_at q) (x.open_at p)
  pub segment : (p q : ℕ) → p ≤ q → q < x.ns → Below x.bs x.bs x.nb q p → Reach D (x.open_at p) (x.open_at q)
  pub real : (v : ℕ) → x.looped v ≡ true → OnLoop D v
  pub free : (v : ℕ) → x.mark v ≡ 1 → x.looped v ≡ false → OnLoop D v → ⊥
  pub starts : (i : ℕ) → i < x.nb → (x.bs i < x.ns) × (x.bw i ≤ x.nw)
  pub rising : (i j : ℕ) → i < j → j < x.nb → (x.bs i < x.bs j) × (x.bw i ≤ x.bw j)
  pub first : 0 < x.nb → (x.bs 0 ≡ 0) × (x.bw 0 ≡ 0)
  pub none : x.nb ≡ 0 → (x.ns ≡ 0) × (x.nw ≡ 0)

-- a new vertex is opened, in a segment of its own, and all that determines it is to be looked at
pub record Opens (D : ℕ → ℕ → Type 0) (x y : Stacks) (a u : ℕ) : Type 0 where
  pub fresh : x.mark u ≡ 0
  pub reaches : (p : ℕ) → p < x.ns → Reach D u (x.open_at p)
  pub low : (i : ℕ) → i < x.nb → x.bw i ≤ a
  pub rest : (p : ℕ) → p < x.nw → (p < a) ⊎ (x.todo_at p ≡ u)
  pub size : a ≤ x.nw
  pub mark_u : y.mark u ≡ suc (suc x.ns)
  pub mark_v : (v : ℕ) → (v ≡ u → ⊥) → y.mark v ≡ x.mark v
  pub looped : (v : ℕ) → y.looped v ≡ x.looped v
  pub ns : y.ns ≡ x.ns + 1
  pub open_old : (p : ℕ) → p < x.ns → y.open_at p ≡ x.open_at p
  pub open_new : y.open_at x.ns ≡ u
  pub nw : a ≤ y.nw
  pub todo_old : (p : ℕ) → p < a → y.todo_at p ≡ x.todo_at p
  pub todo_in : (t : ℕ) → D t u → (p : ℕ) × (a ≤ p) × (p < y.nw) × (y.todo_at p ≡ t)
  pub todo_out : (p : ℕ) → a ≤ p → p < y.nw → D (y.todo_at p) u
  pub nb : y.nb ≡ x.nb + 1
  pub bs_old : (i : ℕ) → i < x.nb → y.bs i ≡ x.bs i
  pub bw_old : (i : ℕ) → i < x.nb → y.bw i ≡ x.bw i
  pub bs_new : y.bs x.nb ≡ x.ns
  pub bw_new : y.bw x.nb ≡ a

-- the last of the todo list is open: the segments from its own on become one
pub record Merges (x y : Stacks) (a u place : ℕ) : Type 0 where
  pub last : a + 1 ≡ x.nw
  pub at : x.todo_at a ≡ u
  pub low_todo : (i : ℕ) → i < x.nb → x.bw i ≤ a
  pub is : x.mark u ≡ suc (suc place)
  pub mark : (v : ℕ) → y.mark v ≡ x.mark v
  pub flag_u : y.looped u ≡ true
  pub flag_v : (v : ℕ) → (v ≡ u → ⊥) → y.looped v ≡ x.looped v
  pub ns : y.ns ≡ x.ns
  pub opens : (p : ℕ) → p < x.ns → y.open_at p ≡ x.open_at p
  pub nw : y.nw ≡ a
  pub todos : (p : ℕ) → p < a → y.todo_at p ≡ x.todo_at p
  pub nb : y.nb ≤ x.nb
  pub bs : (i : ℕ) → i < y.nb → y.bs i ≡ x.bs i
  pub bw : (i : ℕ) → i < y.nb → y.bw i ≡ x.bw i
  pub low : (i : ℕ) → i < y.nb → x.bs i ≤ place
  pub high : (i : ℕ) → y.nb ≤ i → i < x.nb → place < x.bs i

-- the last of the todo list is done
pub record Skips (x y : Stacks) (a u : ℕ) : Type 0 where
  pub last : a + 1 ≡ x.nw
  pub at : x.todo_at a ≡ u
  pub low_todo : (i : ℕ) → i < x.nb → x.bw i ≤ a
  pub is : x.mark u ≡ 1
  pub mark : (v : ℕ) → y.mark v ≡ x.mark v
  pub looped : (v : ℕ) → y.looped v ≡ x.looped v
  pub ns : y.ns ≡ x.ns
  pub opens : (p : ℕ) → p < x.ns → y.open_at p ≡ x.open_at p
  pub nw : y.nw ≡ a
  pub todos : (p : ℕ) → p < a → y.todo_at p ≡ x.todo_at p
  pub nb : y.nb ≡ x.nb
  pub bs : (i : ℕ) → i < x.nb → y.bs i ≡ x.bs i
  pub bw : (i : ℕ) → i < x.nb → y.bw i ≡ x.bw i

-- the last segment has nothing left to be looked at: its vertices are done
pub record Closes (x y : Stacks) (t : ℕ) : Type 0 where
  pub top : t + 1 ≡ x.nb
  pub empty : x.nw ≤ x.bw t
  pub ns : y.ns ≡ x.bs t
  pub opens : (p : ℕ) → p < x.bs t → y.open_at p ≡ x.open_at p
  pub nw : y.nw ≡ x.nw
  pub todos : (p : ℕ) → p < x.nw → y.todo_at p ≡ x.todo_at p
  pub nb : y.nb ≡ t
  pub bs : (i : ℕ) → i < t → y.bs i ≡ x.bs i
  pub bw : (i : ℕ) → i < t → y.bw i ≡ x.bw i
  pub gone : (p : ℕ) → x.bs t ≤ p → p < x.ns → y.mark (x.open_at p) ≡ 1
  pub kept : (v : ℕ) → ((p : ℕ) → x.bs t ≤ p → p < x.ns → x.open_at p ≡ v → ⊥) → y.mark v ≡ x.mark v
  pub many : x.bs t + 1 < x.ns → (p : ℕ) → x.bs t ≤ p → p < x.ns → y.looped (x.open_at p) ≡ true
  pub up : (v : ℕ) → x.looped v ≡ true → y.looped v ≡ true
  pub down : (v : ℕ) → y.looped v ≡ true → (x.looped v ≡ true) ⊎ ((p : ℕ) × (x.bs t ≤ p) × (p < x.ns) × (x.open_at p ≡ v) × (x.bs t + 1 < x.ns))

-- the done vertices, in the order in which they were done: each stands behind all that determines it, unless it is on a loop
pub record Sorted (D : ℕ → ℕ → Type 0) (x : Stacks) (nd : ℕ) (at : ℕ → ℕ) : Type 0 where
  pub listed : (v : ℕ) → x.mark v ≡ 1 → (j : ℕ) × (j < nd) × (at j ≡ v)
  pub done : (j : ℕ) → j < nd → x.mark (at j) ≡ 1
  pub once : (i j : ℕ) → i < j → j < nd → at i ≡ at j → ⊥
  pub sorted : (j u : ℕ) → j < nd → x.looped (at j) ≡ false → D u (at j) → (i : ℕ) × (i < j) × (at i ≡ u)
