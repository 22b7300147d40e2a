-- The elements of connectors and of ports.
use Rattle.std.specs.Prelude.{ℕ, zero, suc, ◌+◌, ◌/◌, ◌%◌, Bool, true, false, cond, List, [], ◌∷◌, ◌++◌, Option, Some, None, slice_get}
use Rattle.cdl_values.specs.declared.value.Value.{Value}
use Rattle.cdl_values.specs.declared.value.Value.TheVariants.{Boolean, Integer, Real, Str, Enumeration}
use Rattle.cdl_values.specs.declared.value.ValueType.{ValueType}
use Rattle.cdl_values.specs.declared.value.ValueType.TheVariants as type
use Rattle.cdl_values.specs.Values.{items_of}
use Rattle.cdl_kinds.specs.Table.{Group}
use Rattle.cdl_walk.specs.declared.walked.Element.{Element}
use Rattle.cdl_walk.specs.declared.walked.Point.{Point}

-- what there is at 0, at 1, and so on, so many of them
abbrev pub tabulate : {A : Type 0} → ℕ → (ℕ → A) → List A
tabulate zero f = []
tabulate (suc n) f = tabulate n f ++ f n ∷ []

-- the indices of the element of that number, row by row; they count from 1
abbrev pub indices_at : List ℕ → ℕ → List ℕ
indices_at [] k = []
indices_at (n ∷ []) k = (k + 1) ∷ []
indices_at (m ∷ n ∷ []) k = (k / n + 1) ∷ (k % n + 1) ∷ []
indices_at (m ∷ n ∷ o ∷ more) k = []

abbrev pub text_of : Value → List ℕ
text_of (Str t) = t
text_of (Boolean b) = []
text_of (Integer z) = []
text_of (Real z) = []
text_of (Enumeration c o) = []

abbrev pub text_in : Option Value → List ℕ
text_in None = []
text_in (Some v) = text_of v

-- the text at that number; empty where there are no units
abbrev pub unit_at : List Value → ℕ → List ℕ
unit_at units k = text_in (slice_get units k)

-- the element of that number of a connector with these sizes
abbrev pub point_at : List ℕ → ValueType → Bool → List ℕ → List Value → ℕ → Point
point_at name t input sizes units k = record { name = name; indices = indices_at sizes k; value_type = t; input = input; unit = unit_at units k }

-- all of them, row by row
abbrev pub points : List ℕ → ValueType → Bool → List ℕ → List Value → List Point
points name t input sizes units = tabulate (items_of sizes) (point_at name t input sizes units)

-- the sizes of ports of one name, where an array has n
abbrev pub port_sizes : ℕ → Group → List ℕ
port_sizes n g = cond g.many (n ∷ []) []

-- the element of an instance
abbrev pub owned : ℕ → Point → Element
owned i p = record { instance = i; point = p }

abbrev pub is_real : ValueType → Bool
is_real type.Real = true
is_real type.Boolean = false
is_real type.Integer = false
is_real type.Str = false
is_real (type.Enumeration c) = false
