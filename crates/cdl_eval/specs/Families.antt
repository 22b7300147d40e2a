-- Instances that differ in indices alone: what is given to one of them was given to each.
use Rattle.std.specs.Prelude.{◌≡◌, ℕ, List, [], ◌++◌, map, take, drop, Some}
use Rattle.cdl_tree.specs.declared.class.FileTree.{FileTree}
use Rattle.cdl_scopes.specs.Classes.{declared}
use Rattle.cdl_paths.specs.declared.path.Step.{Step}
use Rattle.cdl_paths.specs.Bindings.{Given, by_text, binding_of}
use Rattle.cdl_worth.specs.Values.{Steps, the_class}

abbrev pub cleared : Step → Step
cleared s = record { name = s.name; indices = [] }

-- the steps, of which those behind so many have lost their indices
abbrev pub family : ℕ → Steps → Steps
family k p = take k p ++ map cleared (drop k p)

-- an expression is what binds a parameter
abbrev pub Binds : List FileTree → ℕ → Steps → List ℕ → Given → Type 0
Binds files r p n g = binding_of (declared files) (the_class r) 0 p n ≡ Some (by_text g)
