-- The words of the columns of the tests.
use Rattle.std.proofs.Common.{◌≡◌, ◌≤◌, ℤ, pos, List, [], ◌∷◌}
use Rattle.std.specs.Prelude.{◌⊎◌, unsigned_abs}
use Rattle.cdl_decimal.specs.Near.{InRange}
use Rattle.cdl_table.specs.declared.column.Column.{Column}
use Rattle.cdl_command_tests.specs.Mixed.{AreMixed}
use Rattle.cdl_table.specs.Values.{AreValues}

mixed-columns : (columns : List Column) (a b c : ℤ) → AreMixed columns → (a ≡ pos 0) ⊎ (a ≡ pos 1) → unsigned_abs b ≤ 2147483647 → InRange c → AreValues columns (a ∷ b ∷ c ∷ [])
mixed-columns [] a b c h x y z = absurd h
mixed-columns (k ∷ []) a b c h x y z = absurd h
mixed-columns (k ∷ l ∷ []) a b c h x y z = absurd h
mixed-columns (k ∷ l ∷ m ∷ []) a b c h x y z = rw (h.0, h.1, h.2) (x, (y, (z, tt)))
mixed-columns (k ∷ l ∷ m ∷ n ∷ rest) a b c h x y z = absurd h

-- the words of a Boolean, an Integer and a Real
pub mixed : (columns writer : List Column) (a b c : ℤ) → AreMixed columns → writer ≡ columns → (a ≡ pos 0) ⊎ (a ≡ pos 1) → unsigned_abs b ≤ 2147483647 → InRange c → AreValues writer (a ∷ b ∷ c ∷ [])
mixed columns writer a b c h e x y z = rw e (mixed-columns columns a b c h x y z)
