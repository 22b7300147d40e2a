-- The count that each operation answers, over the counts of its operands.
use Rattle.std.specs.Prelude.{◌+◌, ◌*◌, ◌/◌, ◌<◌, ◌≤◌, ◌≡◌, ℤ, pos, negsuc, ◌+ℤ◌, ◌-ℤ◌, ◌*ℤ◌, neg_ℤ, unsigned_abs, cond, List, [], ◌∷◌, length, Option, None, suc}
use Rattle.std.specs.Int.{int_div_euclid}
use Rattle.std.specs.Int.RustNames.{int_lt}
use Rattle.cdl_decimal.specs.Near.{near, near_signed, modulo_of, in_range, in_integer_range, unless_zero}

abbrev pub real_add : ℤ → ℤ → Option ℤ
real_add a b = in_range (a +ℤ b)

abbrev pub real_sub : ℤ → ℤ → Option ℤ
real_sub a b = in_range (a -ℤ b)

abbrev pub real_mul : ℤ → ℤ → Option ℤ
real_mul a b = in_range (near (a *ℤ b) 1000000)

abbrev pub real_div : ℤ → ℤ → Option ℤ
real_div a b = unless_zero b (in_range (near_signed (a *ℤ pos 1000000) b))

abbrev pub real_modulo : ℤ → ℤ → Option ℤ
real_modulo a b = unless_zero b (in_range (modulo_of a b))

-- the upper part of the height at x of the line through (x1, f1) and (x2, f2); its lower part is x2 - x1
abbrev pub line_upper : ℤ → ℤ → ℤ → ℤ → ℤ → ℤ
line_upper x1 f1 x2 f2 x = f1 *ℤ (x2 -ℤ x1) +ℤ (x -ℤ x1) *ℤ (f2 -ℤ f1)

abbrev pub real_line : ℤ → ℤ → ℤ → ℤ → ℤ → Option ℤ
real_line x1 f1 x2 f2 x =
    cond (int_lt x1 x2) (in_range (near (line_upper x1 f1 x2 f2 x) (unsigned_abs (x2 -ℤ x1)))) None

-- the sum of the products, item by item
abbrev pub dot : List ℤ → List ℤ → ℤ
dot [] us = pos 0
dot (k ∷ ks) [] = pos 0
dot (k ∷ ks) (u ∷ us) = k *ℤ u +ℤ dot ks us

abbrev pub real_weighted_sum : List ℤ → List ℤ → Option ℤ
real_weighted_sum ks us = in_range (near (dot ks us) 1000000)

-- the sum of the items
abbrev pub total : List ℤ → ℤ
total [] = pos 0
total (u ∷ us) = u +ℤ total us

abbrev pub real_mean : List ℤ → Option ℤ
real_mean us = in_range (near (total us) (length us))

-- the nearest whole number of a count of millionths, of two the one further from zero
abbrev pub nearest_whole : ℤ → ℤ
nearest_whole (pos n) = pos ((n + 500000) / 1000000)
nearest_whole (negsuc n) = neg_ℤ (pos ((suc n + 500000) / 1000000))

abbrev pub real_to_integer : ℤ → Option ℤ
real_to_integer c = in_integer_range (nearest_whole c)

-- the greatest whole number not above a count of millionths
abbrev pub floor_whole : ℤ → ℤ
floor_whole c = int_div_euclid c (pos 1000000)

abbrev pub real_floor_integer : ℤ → Option ℤ
real_floor_integer c = in_integer_range (floor_whole c)

-- w is a whole number nearest to c millionths, and where two are nearest the one further from zero
pub record IsNearestWhole (c w : ℤ) : Type 0 where
  pub within : 2 * unsigned_abs (c -ℤ w *ℤ pos 1000000) ≤ 1000000
  pub away : 2 * unsigned_abs (c -ℤ w *ℤ pos 1000000) ≡ 1000000 → unsigned_abs c < unsigned_abs w * 1000000
