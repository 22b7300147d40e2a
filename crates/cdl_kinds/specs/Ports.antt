-- The ports of the kinds.
use Rattle.std.specs.Prelude.{ℕ, ◌+◌, ◌-◌, Bool, true, false, cond, nat_lt, List, [], ◌∷◌, unsigned_abs}
use Rattle.cdl_kinds.specs.declared.kind.Kind.{Kind}
use Rattle.cdl_kinds.specs.declared.ports.Port.{Port}
use Rattle.cdl_kinds.specs.Table.{Group, row}
use Rattle.cdl_values.specs.declared.value.Array.{Array}
use Rattle.cdl_values.specs.declared.value.ValueType.{ValueType}
use Rattle.cdl_values.specs.declared.value.ValueType.TheVariants.{Boolean}
use Rattle.cdl_values.specs.History.{Signature}
use Rattle.cdl_values.specs.Values.{integer_at}

-- a port: its name, 0 at a scalar one or its index from 1, its type, whether it is an input, and whether outputs rest on it at once
pub record PortRow : Type 0 where
  pub name : List ℕ
  pub index : ℕ
  pub value_type : ValueType
  pub input : Bool
  pub direct : Bool

abbrev pub port_row : Port → PortRow
port_row p = record { name = p.name.now; index = p.index; value_type = p.value_type; input = p.input; direct = p.direct }

-- nin or nout of these values; no kind has both, and each is the first parameter
abbrev pub nin_or_nout : List Array → ℕ
nin_or_nout v = unsigned_abs (integer_at v 0)

-- how many ports a group has, where an array has n
abbrev pub group_size : ℕ → Group → ℕ
group_size n g = cond g.many n 1

-- how many ports these groups have together
abbrev pub ports_count : ℕ → List Group → ℕ
ports_count n [] = 0
ports_count n (g ∷ []) = group_size n g
ports_count n (g ∷ f ∷ gs) = group_size n g + ports_count n (f ∷ gs)

-- the type of the port of that number
abbrev pub type_among : ℕ → List Group → ℕ → ValueType
type_among n [] i = Boolean
type_among n (g ∷ []) i = g.value_type
type_among n (g ∷ f ∷ gs) i = cond (nat_lt i (group_size n g)) g.value_type (type_among n (f ∷ gs) (i - group_size n g))

-- the port of that number in its group
abbrev pub port_in : Bool → Bool → Group → ℕ → PortRow
port_in input direct g i = record { name = g.name; index = cond g.many (i + 1) 0; value_type = g.value_type; input = input; direct = direct }

-- the port of that number of these groups, and past the last a blank that no clause asks for
abbrev pub port_among : Bool → Bool → ℕ → List Group → ℕ → PortRow
port_among input direct n [] i = record { name = []; index = 0; value_type = Boolean; input = input; direct = direct }
port_among input direct n (g ∷ gs) i = cond (nat_lt i (group_size n g)) (port_in input direct g i) (port_among input direct n gs (i - group_size n g))

abbrev pub side : ℕ → List Group → Bool → Signature
side n gs d = record { count = ports_count n gs; value_type = type_among n gs; direct = λ _. d }

-- the inputs of a block of the kind with these parameters: how many, of which types, and whether they are direct
abbrev pub inputs : Kind → List Array → Signature
inputs k v = side (nin_or_nout v) (row k).ins (row k).direct

-- its outputs
abbrev pub outputs : Kind → List Array → Signature
outputs k v = side (nin_or_nout v) (row k).outs true

-- the port of that number: first the inputs, then the outputs
abbrev pub port_at : Kind → List Array → ℕ → PortRow
port_at k v i = cond (nat_lt i (inputs k v).count)
    (port_among true (row k).direct (nin_or_nout v) (row k).ins i)
    (port_among false false (nin_or_nout v) (row k).outs (i - (inputs k v).count))
