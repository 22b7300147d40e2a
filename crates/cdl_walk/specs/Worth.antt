-- What parameters, conditions, sizes and units are worth in a model.
use Rattle.std.specs.Prelude.{ℕ, Bool, List}
use Rattle.cdl_source.specs.declared.limits.TheConstants.{MOST_LINKS}
use Rattle.cdl_values.specs.declared.value.Array.{Array}
use Rattle.cdl_array.specs.Outcomes.{Outcome}
use Rattle.cdl_tree.specs.declared.class.Item.{Item}
use Rattle.cdl_paths.specs.declared.path.Step.{Step}
use Rattle.cdl_params.specs.Kept.{Model, classes}
use Rattle.cdl_worth.specs.Units.{unit as unit_by}
use Rattle.cdl_worth.specs.Values.{value as value_by, present as present_by, dims as dims_by}

-- the parameter or constant of this name in the instance at a path
abbrev pub value : Model → List Step → List ℕ → Outcome Array
value w p x = value_by (classes w) MOST_LINKS w.root p x

-- whether an item of its block is there
abbrev pub present : Model → List Step → Item → Outcome Bool
present w p item = present_by (classes w) MOST_LINKS w.root p item

-- the sizes of an item of its block
abbrev pub dims : Model → List Step → Item → Outcome (List ℕ)
dims w p item = dims_by (classes w) MOST_LINKS w.root p item

-- the units of its connector of this name, or of its ports of this name
abbrev pub unit : Model → List Step → List ℕ → Outcome Array
unit w p x = unit_by (classes w) MOST_LINKS w.root p x
