-- Vertices with lists of what determines them, one list behind the other.
use Rattle.std.specs.Prelude.{ℕ, zero, suc, ◌+◌, ◌-◌, ◌*◌, ◌<◌, ◌≤◌, ◌≡◌, ◌⊎◌, Bool, true, false, List, [], ◌∷◌, ◌++◌, length, get_or, take, set, slice_range, nat_lt, cond}
use Rattle.cdl_search.specs.Search.{Stacks, Inv, Sorted}
use Rattle.cdl_search.specs.declared.search.Search.{Search}

pub record IsGraph (first edges : List ℕ) (n : ℕ) : Type 0 where
  pub size : length first ≡ n + 1
  pub rises : (v : ℕ) → v < n → get_or first v 0 ≤ get_or first (v + 1) 0
  pub ends : (v : ℕ) → v < n → get_or first (v + 1) 0 ≤ length edges
  pub inside : (k : ℕ) → k < length edges → get_or edges k 0 < n

abbrev pub Determines : List ℕ → List ℕ → ℕ → ℕ → Type 0
Determines first edges u v = (k : ℕ) × (get_or first v 0 ≤ k) × (k < get_or first (v + 1) 0) × (get_or edges k 0 ≡ u)

abbrev pub stacks : Search → Stacks
stacks s = record {
  mark = λ v. get_or s.marks.items v 0;
  looped = λ v. get_or s.looped.items v false;
  ns = length s.held.items;
  open_at = λ p. get_or s.held.items p 0;
  nw = length s.todo.items;
  todo_at = λ p. get_or s.todo.items p 0;
  nb = length s.starts.items;
  bs = λ i. get_or s.starts.items i 0;
  bw = λ i. get_or s.owed.items i 0;
}

abbrev pub order_at : Search → ℕ → ℕ
order_at s j = get_or s.order.items j 0

pub record Pushed (first edges : List ℕ) (u : ℕ) (s t : Search) : Type 0 where
  pub marks : t.marks.items ≡ set s.marks.items u (length s.held.items + 2)
  pub looped : t.looped.items ≡ s.looped.items
  pub held : t.held.items ≡ s.held.items ++ u ∷ []
  pub todo : t.todo.items ≡ s.todo.items ++ slice_range edges (get_or first u 0) (get_or first (u + 1) 0)
  pub starts : t.starts.items ≡ s.starts.items ++ length s.held.items ∷ []
  pub owed : t.owed.items ≡ s.owed.items ++ length s.todo.items ∷ []
  pub order : t.order.items ≡ s.order.items

-- a list of starts a and their todo places c were cut to b and d, at a start above a place
pub record Cut (place : ℕ) (a b c d : List ℕ) : Type 0 where
  pub fewer : length b ≤ length a
  pub pairs : length d ≡ length b
  pub starts : b ≡ take (length b) a
  pub owed : d ≡ take (length b) c
  pub high : (i : ℕ) → length b ≤ i → i < length a → place < get_or a i 0

pub record Dropped (place : ℕ) (s t : Search) : Type 0 where
  pub marks : t.marks.items ≡ s.marks.items
  pub looped : t.looped.items ≡ s.looped.items
  pub held : t.held.items ≡ s.held.items
  pub todo : t.todo.items ≡ s.todo.items
  pub order : t.order.items ≡ s.order.items
  pub cut : Cut place s.starts.items t.starts.items s.owed.items t.owed.items

pub record Merged (place : ℕ) (s t : Search) : Type 0 where
  pub dropped : Dropped place s t
  pub last : 0 < length t.starts.items → get_or t.starts.items (length t.starts.items - 1) 0 ≤ place

-- the vertices h at the places from a to b are done: marks m, flags l and the order o became m', l' and o'
pub record DoneFrom (h m m' : List ℕ) (l l' : List Bool) (o o' : List ℕ) (a b : ℕ) (shared : Bool) : Type 0 where
  pub marks : length m' ≡ length m
  pub flags : length l' ≡ length l
  pub gone : (p : ℕ) → a ≤ p → p < b → get_or m' (get_or h p 0) 0 ≡ 1
  pub kept : (v : ℕ) → ((p : ℕ) → a ≤ p → p < b → get_or h p 0 ≡ v → ⊥) → get_or m' v 0 ≡ get_or m v 0
  pub many : shared ≡ true → (p : ℕ) → a ≤ p → p < b → get_or l' (get_or h p 0) false ≡ true
  pub up : (v : ℕ) → get_or l v false ≡ true → get_or l' v false ≡ true
  pub down : (v : ℕ) → get_or l' v false ≡ true → (get_or l v false ≡ true) ⊎ ((p : ℕ) × (a ≤ p) × (p < b) × (get_or h p 0 ≡ v) × (shared ≡ true))
  pub listed : length o' ≡ length o + (b - a)
  pub old : (j : ℕ) → j < length o → get_or o' j 0 ≡ get_or o j 0
  pub new : (p : ℕ) → a ≤ p → p < b → get_or o' (length o + (p - a)) 0 ≡ get_or h p 0

pub record Finished (v : ℕ) (many : Bool) (s t : Search) : Type 0 where
  pub marks : t.marks.items ≡ set s.marks.items v 1
  pub looped : t.looped.items ≡ cond many (set s.looped.items v true) s.looped.items
  pub order : t.order.items ≡ s.order.items ++ v ∷ []
  pub held : t.held.items ≡ s.held.items
  pub todo : t.todo.items ≡ s.todo.items
  pub starts : t.starts.items ≡ s.starts.items
  pub owed : t.owed.items ≡ s.owed.items

abbrev pub last_start : Search → ℕ
last_start s = get_or s.starts.items (length s.starts.items - 1) 0

pub record Closed (s t : Search) : Type 0 where
  pub held : t.held.items ≡ take (last_start s) s.held.items
  pub todo : t.todo.items ≡ s.todo.items
  pub starts : t.starts.items ≡ take (length s.starts.items - 1) s.starts.items
  pub owed : t.owed.items ≡ take (length s.starts.items - 1) s.owed.items
  pub done : DoneFrom s.held.items s.marks.items t.marks.items s.looped.items t.looped.items s.order.items t.order.items (last_start s) (length s.held.items) (nat_lt (last_start s + 1) (length s.held.items))

-- all numbers are vertices
pub record Ranged (s : Search) (n : ℕ) : Type 0 where
  pub marks : length s.marks.items ≡ n
  pub looped : length s.looped.items ≡ n
  pub pairs : length s.starts.items ≡ length s.owed.items
  pub held : (p : ℕ) → p < length s.held.items → get_or s.held.items p 0 < n
  pub todo : (p : ℕ) → p < length s.todo.items → get_or s.todo.items p 0 < n
  pub order : (p : ℕ) → p < length s.order.items → get_or s.order.items p 0 < n

-- what a search has found stands
pub record Found (first edges : List ℕ) (n : ℕ) (s : Search) : Type 0 where
  pub ranged : Ranged s n
  pub inv : Inv (Determines first edges) (stacks s)
  pub sorted : Sorted (Determines first edges) (stacks s) (length s.order.items) (order_at s)

abbrev pub zeros : List ℕ → ℕ
zeros [] = 0
zeros (zero ∷ ms) = suc (zeros ms)
zeros (suc m ∷ ms) = zeros ms

-- what is left to be done at most
abbrev pub work : List ℕ → Search → ℕ
work edges s = zeros s.marks.items * (length edges + 2) + length s.todo.items + length s.starts.items

-- one step of the search
pub record Stepped (first edges : List ℕ) (n : ℕ) (s t : Search) : Type 0 where
  pub found : Found first edges n t
  pub less : work edges t < work edges s
  pub kept : (v : ℕ) → get_or s.marks.items v 0 ≡ 1 → get_or t.marks.items v 0 ≡ 1
  pub fresh : (v : ℕ) → get_or t.marks.items v 0 ≡ 0 → get_or s.marks.items v 0 ≡ 0
