-- The columns of the tests.
use Rattle.std.specs.Prelude.{◌≡◌, List, [], ◌∷◌}
use Rattle.cdl_values.specs.declared.value.ValueType.TheVariants.{Boolean, Integer, Real}
use Rattle.cdl_table.specs.declared.column.Column.{Column}

-- a Boolean, an Integer and a Real
abbrev pub AreMixed : List Column → Type 0
AreMixed [] = ⊥
AreMixed (a ∷ []) = ⊥
AreMixed (a ∷ b ∷ []) = ⊥
AreMixed (a ∷ b ∷ c ∷ []) = (a.value_type ≡ Boolean) × (b.value_type ≡ Integer) × (c.value_type ≡ Real)
AreMixed (a ∷ b ∷ c ∷ d ∷ rest) = ⊥
