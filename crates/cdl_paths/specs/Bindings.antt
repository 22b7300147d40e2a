-- What binds a parameter: the outermost giver, else its own declaration or the default of its kind.
use Rattle.std.specs.Prelude.{ℕ, ◌+◌, cond, List, [], ◌∷◌, Option, Some, None, option_map, option_and_then}
use Rattle.std.specs.Str.{bytes_eq}
use Rattle.cdl_tree.specs.declared.expr.Expr.{Expr}
use Rattle.cdl_tree.specs.declared.class.Modifier.{Modifier}
use Rattle.cdl_kinds.specs.declared.parameter.Preset.{Preset}
use Rattle.cdl_kinds.specs.Table.{ParameterRow}
use Rattle.cdl_kinds.specs.Parameters.{parameters}
use Rattle.cdl_scopes.specs.Classes.{Declared}
use Rattle.cdl_classes.specs.declared.found.Found.{Found}
use Rattle.cdl_classes.specs.declared.found.Found.TheVariants as it
use Rattle.cdl_paths.specs.declared.path.Step.{Step}
use Rattle.cdl_paths.specs.declared.binding.Binding.{Binding}
use Rattle.cdl_paths.specs.declared.binding.Binding.TheVariants as binding
use Rattle.cdl_paths.specs.Members.{Declaration, inside}
use Rattle.cdl_paths.specs.Modifiers.{given}

-- An expression that gives a value: it is evaluated at the path of so many steps, and handed out over the steps from there on, of
-- which the first has these arguments.
pub record Given : Type 0 where
  pub steps : ℕ
  pub args : List Modifier
  pub value : Expr

abbrev pub the_given : ℕ → List Modifier → Expr → Given
the_given steps args value = record { steps = steps; args = args; value = value }

-- what binds a parameter: an expression, or what its kind presets
pub data Bound : Type 0 where
  by_text : Given → Bound
  by_kind : Preset → Bound

-- a binding as it is
abbrev pub bound : Binding → Bound
bound (binding.Text g) = by_text (the_given g.steps g.args.now g.value.now)
bound (binding.Kind p) = by_kind p

-- the parameter of this name in a row of the table
abbrev pub row_named : List ℕ → List ParameterRow → Option ParameterRow
row_named name [] = None
row_named name (r ∷ rs) = cond (bytes_eq r.name name) (Some r) (row_named name rs)

-- what a parameter's own declaration binds it to, at the path of so many steps
abbrev pub own : List Declared → Found → ℕ → List ℕ → Option Bound
own ds (it.Class c) k name = option_map (λ e. by_text (the_given k [] e)) (option_and_then (λ (m : Declaration). m.item.value) (inside ds (it.Class c) name))
own ds (it.Kind kind) k name = option_map (λ (r : ParameterRow). by_kind r.preset) (row_named name (parameters kind))
own ds _ k name = None

-- the expression that the arguments of a step give, else what is found further in
abbrev pub given_or : ℕ → List Modifier → Option Expr → Option Bound → Option Bound
given_or k args None inner = inner
given_or k args (Some e) inner = Some (by_text (the_given k args e))

-- from what stands at the path of so many steps, over the steps that are left
abbrev pub binding_of : List Declared → Found → ℕ → List Step → List ℕ → Option Bound
binding_of ds f k [] name = own ds f k name
binding_of ds f k (s ∷ rest) name =
    option_and_then (λ m. given_or k m.item.args (given m.item.args rest name) (binding_of ds m.class (k + 1) rest name)) (inside ds f s.name)
