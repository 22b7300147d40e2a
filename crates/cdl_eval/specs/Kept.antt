-- What an elaborator is of, and the values that it keeps, which play no part in what it is.
use Rattle.std.specs.Prelude.{◌≡◌, ℕ, Bool, true, false, List, [], take, Option, Some, Ok, Err}
use Rattle.cdl_source.specs.declared.rules.TheConstants.{PARAMETER_WITHOUT_VALUE}
use Rattle.cdl_values.specs.declared.value.Array.{Array}
use Rattle.cdl_tree.specs.declared.class.FileTree.{FileTree}
use Rattle.cdl_array.specs.Outcomes.{Outcome}
use Rattle.cdl_scopes.specs.Classes.{Declared, declared}
use Rattle.cdl_paths.specs.Bindings.{Bound, by_text, binding_of}
use Rattle.cdl_eval.specs.declared.kept.Entry.{Entry}
use Rattle.cdl_worth.specs.Values.{Steps, evaluate, the_class, value}

-- the files of the classes, and the number of the root's class
pub record Model : Type 0 where
  pub files : List FileTree
  pub root : ℕ

abbrev pub classes : Model → List Declared
classes m = declared m.files

-- what the expression of a binding is worth, at its own place
abbrev pub bound_worth : List Declared → ℕ → ℕ → Steps → Option Bound → Outcome Array
bound_worth ds d r p (Some (by_text g)) = evaluate ds d r (take g.steps p) [] g.value
bound_worth ds d r p _ = Err PARAMETER_WITHOUT_VALUE

-- what the expression that is given to a parameter is worth, before it is handed out
abbrev pub given : List Declared → ℕ → ℕ → Steps → List ℕ → Outcome Array
given ds d r p n = bound_worth ds d r p (binding_of ds (the_class r) 0 p n)

-- the value of a parameter, or that of the expression that is given to it
abbrev pub kept : Bool → List Declared → ℕ → ℕ → Steps → List ℕ → Outcome Array
kept false ds d r p n = value ds d r p n
kept true ds d r p n = given ds d r p n

-- what was kept is so with so many links
pub record IsKept (ds : List Declared) (x : Entry) : Type 0 where
  pub worth : kept x.is_given ds x.links x.start.index x.steps x.name ≡ Ok x.value
