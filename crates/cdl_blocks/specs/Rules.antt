-- What is compared with a hysteresis.
use Rattle.std.specs.Prelude.{ℕ, ◌≡◌, refl, ℤ, Bool, true, List, [], ◌∷◌}
use Rattle.cdl_values.specs.declared.value.ValueType.TheVariants.{Real}
use Rattle.cdl_values.specs.History.{Signature, reals, typed}
use Rattle.cdl_kinds.specs.Meaning.Reals.{above, above_threshold, below, below_threshold, between}
use Rattle.cdl_blocks.specs.declared.hysteresis.Rule.{Rule}
use Rattle.cdl_blocks.specs.declared.hysteresis.Rule.TheVariants.{Above, Below, AboveThreshold, BelowThreshold, Between}

-- two inputs, or one beside a parameter
abbrev pub rule_inputs : Rule → Signature
rule_inputs (Above d) = typed (Real ∷ Real ∷ [])
rule_inputs (Below d) = typed (Real ∷ Real ∷ [])
rule_inputs (AboveThreshold t d) = reals 1
rule_inputs (BelowThreshold t d) = reals 1
rule_inputs (Between low high) = reals 1

-- each is direct
pub rule_direct : (r : Rule) (i : ℕ) → (rule_inputs r).direct i ≡ true
rule_direct (Above d) i = refl
rule_direct (Below d) i = refl
rule_direct (AboveThreshold t d) i = refl
rule_direct (BelowThreshold t d) i = refl
rule_direct (Between low high) i = refl

-- y from the y before and the inputs
abbrev pub rule_function : Rule → Bool → List ℤ → Bool
rule_function (Above d) = above d
rule_function (Below d) = below d
rule_function (AboveThreshold t d) = above_threshold t d
rule_function (BelowThreshold t d) = below_threshold t d
rule_function (Between low high) = between low high
