-- What an expression is worth: something, or the number of the rule that is broken first.
use Rattle.std.specs.Prelude.{ℕ, ◌≡◌, Bool, cond, Option, Some, None, Result, Ok, Err}
use Rattle.cdl_array.specs.declared.fault.EvalFault.{EvalFault}
use Rattle.cdl_array.specs.declared.fault.EvalFault.TheVariants.{Rule, OutOfMemory}

abbrev pub Outcome : Type 0 → Type 0
Outcome A = Result A ℕ

-- what comes behind a first thing, or the rule that this breaks
abbrev pub then_to : {A B : Type 0} → Outcome A → (A → Outcome B) → Outcome B
then_to (Ok a) f = f a
then_to (Err r) f = Err r

-- this rule where there is none
abbrev pub some_or : {A B : Type 0} → Option A → ℕ → (A → Outcome B) → Outcome B
some_or None rule f = Err rule
some_or (Some a) rule f = f a

-- this rule where the test fails
abbrev pub holds_or : {A : Type 0} → Bool → ℕ → Outcome A → Outcome A
holds_or test rule next = cond test next (Err rule)

-- the answer of a call is this outcome, unless memory ran out
abbrev pub Answers : {A : Type 0} → Outcome A → Result A EvalFault → Type 0
Answers outcome (Ok a) = outcome ≡ Ok a
Answers outcome (Err (Rule r)) = outcome ≡ Err r
Answers outcome (Err OutOfMemory) = Unit {0}
