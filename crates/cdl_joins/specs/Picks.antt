-- Which places subscripts select.
use Rattle.std.specs.Prelude.{ℕ, ◌+◌, ◌-◌, ℤ, pos, ◌+ℤ◌, ◌&&◌, true, false, cond, List, [], ◌∷◌, map, Option, Some, None, option_map, option_and_then, unsigned_abs, int_le}
use Rattle.std.specs.List.{flat_map, range_with_len}
use Rattle.cdl_tree.specs.declared.class.Sub.{Sub}
use Rattle.cdl_tree.specs.declared.class.Sub.TheVariants as sub
use Rattle.cdl_tree.specs.declared.expr.Expr.{Expr}
use Rattle.cdl_joins.specs.declared.picks.Pick.{Pick}

-- all places of a dimension of this size
abbrev pub whole : ℕ → Pick
whole n = record { first = 1; last = n; stays = true }

-- the place of this number; a single index drops its dimension
abbrev pub one : ℕ → ℤ → Option Pick
one n z = cond (int_le (pos 1) z && int_le z (pos n)) (Some (record { first = unsigned_abs z; last = unsigned_abs z; stays = false })) None

-- the places from one number to another, or none just before the first
abbrev pub range : ℕ → ℤ → ℤ → Option Pick
range n l h = cond (int_le (pos 1) l && int_le h (pos n) && int_le l (h +ℤ pos 1)) (Some (record { first = unsigned_abs l; last = unsigned_abs h; stays = true })) None

abbrev pub ranged : ℕ → Option ℤ → Option ℤ → Option Pick
ranged n None h = None
ranged n (Some l) None = None
ranged n (Some l) (Some h) = range n l h

-- what a subscript selects in a dimension of this size, where expressions are worth these Integers
abbrev pub pick : (Expr → Option ℤ) → ℕ → Sub → Option Pick
pick at n sub.All = Some (whole n)
pick at n (sub.One x) = option_and_then (one n) (at x)
pick at n (sub.Range x y) = ranged n (at x) (at y)

-- a subscript for each dimension
abbrev pub pick_each : (Expr → Option ℤ) → List ℕ → List Sub → Option (List Pick)
pick_each at [] [] = Some []
pick_each at [] (s ∷ subs) = None
pick_each at (n ∷ ns) [] = None
pick_each at (n ∷ ns) (s ∷ subs) = option_and_then (λ x. option_map (λ xs. x ∷ xs) (pick_each at ns subs)) (pick at n s)

-- what subscripts select in dimensions of these sizes: everything where there are none
abbrev pub picks : (Expr → Option ℤ) → List ℕ → List Sub → Option (List Pick)
picks at ns [] = Some (map whole ns)
picks at ns (s ∷ subs) = pick_each at ns (s ∷ subs)

abbrev pub count : Pick → ℕ
count x = (x.last + 1) - x.first

-- the shape of what is selected: the dimensions that stay
abbrev pub shape : List Pick → List ℕ
shape [] = []
shape (x ∷ xs) = cond x.stays (count x ∷ shape xs) (shape xs)

-- these indices, each with the first before it
abbrev pub behind : List (List ℕ) → ℕ → List (List ℕ)
behind rows i = map (λ is. i ∷ is) rows

-- the indices that are selected, row by row
abbrev pub indices : List Pick → List (List ℕ)
indices [] = [] ∷ []
indices (x ∷ xs) = flat_map (behind (indices xs)) (range_with_len x.first (count x))
