-- How a value is handed out over arrays of components.
use Rattle.std.specs.Prelude.{ℕ, Bool, true, false, ◌&&◌, ◌==◌, List, [], ◌∷◌, map, Option, Some, None, nat_le, Ok, length, replicate}
use Rattle.std.specs.List.{list_all}
use Rattle.cdl_values.specs.declared.value.Array.{Array}
use Rattle.cdl_values.specs.declared.value.Value.{Value}
use Rattle.cdl_values.specs.declared.value.Value.TheVariants as value
use Rattle.cdl_values.specs.declared.value.ValueType.{ValueType}
use Rattle.cdl_values.specs.declared.value.ValueType.TheVariants as type
use Rattle.cdl_source.specs.declared.limits.TheConstants.{LONGEST_UNIT}
use Rattle.cdl_source.specs.declared.rules.TheConstants.{WRONG_SHAPE, UNIT_TOO_LONG}
use Rattle.cdl_array.specs.Outcomes.{Outcome, then_to, holds_or}
use Rattle.cdl_array.specs.Scalars.{scalar_of}
use Rattle.cdl_array.specs.Types.{converted}
use Rattle.cdl_array.specs.Sizes.{count_of}
use Rattle.cdl_array.specs.Parts.{part}
use Rattle.cdl_paths.specs.declared.path.Step.{Step}
use Rattle.cdl_paths.specs.Modifiers.{not_left_out}

abbrev pub indices_of : Step → List ℕ
indices_of s = s.indices

-- the indices of the steps that are not left out
abbrev pub indices_left : List Bool → List Step → List ℕ
indices_left outs steps = not_left_out outs (map indices_of steps)

-- a size that is wanted is this one, or any
abbrev pub is_wanted : Option ℕ → ℕ → Bool
is_wanted None n = true
is_wanted (Some m) n = m == n

abbrev pub fits : List (Option ℕ) → List ℕ → Bool
fits [] shape = length shape == 0
fits (w ∷ ws) [] = false
fits (w ∷ ws) (n ∷ ns) = is_wanted w n && fits ws ns

-- the part of an array of the wanted sizes at these indices, as an array of the declared type
abbrev pub handed : ValueType → List (Option ℕ) → List ℕ → Array → Outcome Array
handed t wanted is a = holds_or (fits wanted a.shape) WRONG_SHAPE (then_to (part a is) (converted t))

-- ---- units

-- a scalar is the unit of every element
abbrev pub unit_part : List (Option ℕ) → List ℕ → Array → Option Value → Outcome Array
unit_part wanted is a (Some v) = Ok a
unit_part wanted is a None = holds_or (fits wanted a.shape) WRONG_SHAPE (part a is)

-- an array of this shape: a scalar stands everywhere
abbrev pub spread : List ℕ → Array → Option Value → Outcome Array
spread shape a None = Ok (record { value_type = a.value_type; shape = shape; items = a.items })
spread shape a (Some v) = then_to (count_of shape) (λ n. Ok (record { value_type = a.value_type; shape = shape; items = replicate n v }))

unfoldable pub is_short : Value → Bool
is_short (value.Str text) = nat_le (length text) LONGEST_UNIT
is_short _ = true

abbrev pub all_short : Array → Outcome Array
all_short a = holds_or (list_all is_short a.items) UNIT_TOO_LONG (Ok a)

abbrev pub spread_text : List ℕ → Array → Outcome Array
spread_text shape u = then_to (converted type.Str u) (λ t. then_to (spread shape t (scalar_of t)) all_short)

-- the units of the elements of a connector of this shape: first the shape, then the type, then the length of each
abbrev pub units : List (Option ℕ) → List ℕ → List ℕ → Array → Outcome Array
units wanted is shape a = then_to (unit_part wanted is a (scalar_of a)) (spread_text shape)
