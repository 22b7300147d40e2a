-- A network: its instances, elements and wires, each in order, under names of any kind. The names of a model are paths, those of a net are numbers.
use Rattle.std.specs.Prelude.{ℕ, Bool, List, Option}
use Rattle.cdl_values.specs.declared.value.ValueType.{ValueType}
use Rattle.cdl_values.specs.History.{Meaning}

-- a wire joins two elements in the scope of an instance
pub record Wire (I E : Type 0) : Type 0 where
  pub scope : I
  pub left : E
  pub right : E

pub record Network (I E : Type 0) : Type 0 where
  -- tests of names
  pub same_instance : I → I → Bool
  pub same_element : E → E → Bool
  -- instances in preorder, elements by instance, wires by scope
  pub instances : List I
  pub elements : List E
  pub wires : List (Wire I E)
  -- none for the root
  pub parent : I → Option I
  -- an instance of a kind, no composite
  pub elementary : I → Bool
  -- the instance that has the element
  pub owner : E → I
  pub input : E → Bool
  pub value_type : E → ValueType
  -- its bytes; none where there is no unit
  pub unit : E → List ℕ
  -- an input on which the outputs of its elementary instance rest at once, at the same tick
  pub direct : E → Bool
  -- what an elementary instance gives, by the history of all its inputs
  pub meaning : I → Meaning
  -- how many words an elementary instance keeps
  pub state_words : I → ℕ
