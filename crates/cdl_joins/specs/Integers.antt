-- Integers that expressions are worth in an instance, with the indices of loops.
use Rattle.std.specs.Prelude.{ℤ, List, Option, Some, None, Ok, Err}
use Rattle.cdl_source.specs.declared.limits.TheConstants.{MOST_LINKS}
use Rattle.cdl_values.specs.declared.value.Array.{Array}
use Rattle.cdl_values.specs.declared.value.Value.{Value}
use Rattle.cdl_values.specs.declared.value.Value.TheVariants as value
use Rattle.cdl_array.specs.Outcomes.{Outcome}
use Rattle.cdl_array.specs.Scalars.{scalar_of}
use Rattle.cdl_tree.specs.declared.expr.Expr.{Expr}
use Rattle.cdl_paths.specs.declared.path.Local.{Local}
use Rattle.cdl_paths.specs.declared.path.Step.{Step}
use Rattle.cdl_params.specs.Kept.{Model, classes}
use Rattle.cdl_worth.specs.Values.{evaluate as evaluate_by}

abbrev pub integer_value : Option Value → Option ℤ
integer_value (Some (value.Integer z)) = Some z
integer_value _ = None

abbrev pub integer_in : Outcome Array → Option ℤ
integer_in (Ok a) = integer_value (scalar_of a)
integer_in (Err r) = None

-- what an expression is worth in the instance at a path
abbrev pub evaluate : Model → List Step → List Local → Expr → Outcome Array
evaluate w p locals x = evaluate_by (classes w) MOST_LINKS w.root p locals x

-- the Integer that it is worth; none where it has a fault or is no scalar Integer
abbrev pub integer : Model → List Step → List Local → Expr → Option ℤ
integer w p locals x = integer_in (evaluate w p locals x)
