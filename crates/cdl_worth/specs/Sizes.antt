-- Declared sizes, where expressions have these values.
use Rattle.std.specs.Prelude.{ℕ, Bool, cond, List, [], ◌∷◌, ◌++◌, length, nat_le, Option, Some, None, Ok, Err}
use Rattle.cdl_values.specs.declared.value.Array.{Array}
use Rattle.cdl_tree.specs.declared.expr.Expr.{Expr}
use Rattle.cdl_tree.specs.declared.class.Dim.{Dim}
use Rattle.cdl_tree.specs.declared.class.Dim.TheVariants as dim
use Rattle.cdl_source.specs.declared.rules.TheConstants.{WRONG_SHAPE, UNKNOWN_NAME}
use Rattle.cdl_array.specs.Outcomes.{Outcome, then_to, holds_or}
use Rattle.cdl_array.specs.Sizes.{size_of, count_of}
use Rattle.cdl_paths.specs.Members.{Declaration}

-- `:` is any size
abbrev pub dim_size : (Expr → Outcome Array) → Dim → Outcome (Option ℕ)
dim_size worth dim.Any = Ok None
dim_size worth (dim.Size e) = then_to (worth e) (λ a. then_to (size_of a) (λ n. Ok (Some n)))

abbrev pub dim_sizes : (Expr → Outcome Array) → List Dim → Outcome (List (Option ℕ))
dim_sizes worth [] = Ok []
dim_sizes worth (d ∷ ds) = then_to (dim_size worth d) (λ w. then_to (dim_sizes worth ds) (λ ws. Ok (w ∷ ws)))

abbrev pub known : List (Option ℕ) → List ℕ
known [] = []
known (None ∷ ws) = known ws
known (Some n ∷ ws) = n ∷ known ws

-- at most two sizes, and at most 65,536 items
abbrev pub counted : List ℕ → Outcome ℕ
counted ns = holds_or (nat_le (length ns) 2) WRONG_SHAPE (count_of ns)

-- the sizes of a declaration from the left, and then how many items they have together
abbrev pub declared_sizes : (Expr → Outcome Array) → List Dim → Outcome (List (Option ℕ))
declared_sizes worth dims = then_to (dim_sizes worth dims) (λ ws. then_to (counted (known ws)) (λ n. Ok ws))

-- the sizes of a component or a connector, which has no `:`
abbrev pub sizes_of : (Expr → Outcome Array) → List Dim → Outcome (List ℕ)
sizes_of worth dims = then_to (declared_sizes worth dims) (λ ws. Ok (known ws))

abbrev pub member_sizes : (Expr → Outcome Array) → Option Declaration → Outcome (List ℕ)
member_sizes worth None = Err UNKNOWN_NAME
member_sizes worth (Some m) = sizes_of worth m.item.dims

-- of the sizes that stand beside these, those that are not left out, one after the other
abbrev pub gather : List Bool → List (Outcome (List ℕ)) → Outcome (List ℕ)
gather outs [] = Ok []
gather [] (s ∷ ss) = Ok []
gather (out ∷ outs) (s ∷ ss) = then_to (cond out (Ok []) s) (λ ns. then_to (gather outs ss) (λ more. Ok (ns ++ more)))
