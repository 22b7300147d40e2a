-- The rules on wires and elements, each by its number, and the first that is broken.
use Rattle.std.specs.Prelude.{ℕ, zero, suc, ◌+◌, ◌==◌, ◌&&◌, ◌||◌, Bool, true, false, cond, not, List, [], ◌∷◌, length, map, sum, filter, Option, Some, None}
use Rattle.std.specs.Str.{bytes_eq}
use Rattle.cdl_source.specs.declared.rules.TheConstants.{TWO_SOURCES_OR_SINKS, TYPES_DIFFER, MORE_THAN_ONE_SOURCE, NO_SOURCE, UNITS_DIFFER}
use Rattle.cdl_values.specs.declared.value.ValueType.{ValueType}
use Rattle.cdl_values.specs.declared.value.ValueType.TheVariants.{Boolean, Integer, Real, Str, Enumeration}
use Rattle.cdl_network.specs.Lists.{count, first_of, has_some}
use Rattle.cdl_network.specs.Network.{Network, Wire}

abbrev pub is_some_same : {A : Type 0} → (A → A → Bool) → A → Option A → Bool
is_some_same same s None = false
is_some_same same s (Some p) = same p s

-- the element is one of the scope's own
abbrev pub is_own : {I E : Type 0} → Network I E → I → E → Bool
is_own n s x = n.same_instance (n.owner x) s

-- the element is one of a child of the scope
abbrev pub is_inner : {I E : Type 0} → Network I E → I → E → Bool
is_inner n s x = is_some_same n.same_instance s (n.parent (n.owner x))

-- in a scope, its own inputs and its children's outputs are sources
abbrev pub is_source : {I E : Type 0} → Network I E → I → E → Bool
is_source n s x = cond (n.input x) (is_own n s x) (is_inner n s x)

-- its own outputs and its children's inputs are sinks
abbrev pub is_sink : {I E : Type 0} → Network I E → I → E → Bool
is_sink n s x = cond (n.input x) (is_inner n s x) (is_own n s x)

-- from a source to a sink
abbrev pub goes : {I E : Type 0} → Network I E → I → E → E → Bool
goes n s x y = is_source n s x && is_sink n s y

-- the ends of a wire, where it joins a source to a sink
abbrev pub source_of : {I E : Type 0} → Network I E → Wire I E → E
source_of n w = cond (goes n w.scope w.left w.right) w.left w.right

abbrev pub sink_of : {I E : Type 0} → Network I E → Wire I E → E
sink_of n w = cond (goes n w.scope w.left w.right) w.right w.left

abbrev pub same_type : ValueType → ValueType → Bool
same_type Boolean Boolean = true
same_type Integer Integer = true
same_type Real Real = true
same_type Str Str = true
same_type (Enumeration c) (Enumeration d) = c == d
same_type t u = false

abbrev pub is_real : ValueType → Bool
is_real Real = true
is_real t = false

abbrev pub is_empty : List ℕ → Bool
is_empty [] = true
is_empty (x ∷ xs) = false

-- a Real with a unit
abbrev pub has_unit : {I E : Type 0} → Network I E → E → Bool
has_unit n x = is_real (n.value_type x) && not (is_empty (n.unit x))

-- both are Reals with a unit, and the bytes differ
abbrev pub units_differ : {I E : Type 0} → Network I E → E → E → Bool
units_differ n x y = (has_unit n x && has_unit n y) && not (bytes_eq (n.unit x) (n.unit y))

-- The first rule that a wire breaks. C43: it joins no source to a sink; C44: the types differ; C48: the units differ.
abbrev pub wire_fault : {I E : Type 0} → Network I E → Wire I E → Option ℕ
wire_fault n w =
    cond (goes n w.scope w.left w.right || goes n w.scope w.right w.left)
    (cond (same_type (n.value_type w.left) (n.value_type w.right)) (cond (units_differ n w.left w.right) (Some UNITS_DIFFER) None) (Some TYPES_DIFFER))
    (Some TWO_SOURCES_OR_SINKS)

-- how many wires end at an element
abbrev pub arrivals : {I E : Type 0} → Network I E → E → ℕ
arrivals n e = count (λ w. n.same_element (sink_of n w) e) n.wires

-- all but the inputs of the root and the outputs of elementary instances are sinks
abbrev pub is_wanted : {I E : Type 0} → Network I E → E → Bool
is_wanted n x = cond (n.input x) (has_some (n.parent (n.owner x))) (not (n.elementary (n.owner x)))

-- C45: a sink has more than one source; C46: it has none
abbrev pub fault_by : Bool → ℕ → Option ℕ
fault_by false k = None
fault_by true zero = Some NO_SOURCE
fault_by true (suc zero) = None
fault_by true (suc (suc k)) = Some MORE_THAN_ONE_SOURCE

abbrev pub element_fault : {I E : Type 0} → Network I E → E → Option ℕ
element_fault n x = fault_by (is_wanted n x) (arrivals n x)

-- the first wire that breaks a rule, and the rule
abbrev pub first_wire : {I E : Type 0} → Network I E → Option (Wire I E × ℕ)
first_wire n = first_of (wire_fault n) n.wires

-- the first element that breaks a rule, and the rule
abbrev pub first_element : {I E : Type 0} → Network I E → Option (E × ℕ)
first_element n = first_of (element_fault n) n.elements

-- how many words a network keeps: one for each element, and those of its elementary instances
abbrev pub word_count : {I E : Type 0} → Network I E → ℕ
word_count n = length n.elements + sum (map n.state_words (filter n.elementary n.instances))
