-- The steps of the first vertices of an order.
use Rattle.std.specs.Prelude.{ℕ, suc, ◌+◌, ◌-◌, ◌<◌, ◌≡◌, ◌++◌, nat_lt, true, cond, List, [], ◌∷◌, filter, length, get_or, Option, Some, None, slice_get}
use Rattle.cdl_network.specs.Dependence.{Origin, Row, From, Out, HasOrigin, is_root_input}
use Rattle.cdl_network.specs.Lists.{numbers}
use Rattle.cdl_connect.specs.declared.net.Net.{Net}
use Rattle.cdl_connect.specs.Nets.{network_of}
use Rattle.cdl_schedule.specs.declared.steps.Step.{Step}
use Rattle.cdl_schedule.specs.declared.steps.Step.TheVariants.{Input, Copy, Emit}
use Rattle.cdl_schedule.specs.Passes.{IsStep, Reads, Writes}
use Rattle.cdl_schedule.specs.inner.Rows.{cause_of}

-- a step for each of these inputs of the root, which are those from place k on
abbrev pub input_steps : ℕ → List ℕ → List Step
input_steps k [] = []
input_steps k (x ∷ xs) = Input k x ∷ input_steps (suc k) xs

-- the inputs of the root among the first t elements
abbrev pub inputs_below : Net → ℕ → List ℕ
inputs_below n t = filter (is_root_input (network_of n)) (numbers 0 t)

-- the step of a vertex; none at an input of the root, at an output of an elementary instance and at a composite
abbrev pub copy_step : ℕ → ℕ → Option ℕ → Option Step
copy_step m x None = None
copy_step m x (Some u) = cond (nat_lt u m) (Some (Copy u x)) None

abbrev pub step_of : Net → List ℕ → ℕ → Option Step
step_of n sources v =
    cond (nat_lt v (length n.elements))
    (copy_step (length n.elements) v (cause_of n sources v))
    (cond ((network_of n).elementary (v - length n.elements)) (Some (Emit (v - length n.elements))) None)

abbrev pub with_step : List Step → Option Step → List Step
with_step steps None = steps
with_step steps (Some o) = steps ++ o ∷ []

-- the step that gives the element a value of this origin
abbrev pub step_by : ℕ → Origin ℕ ℕ → Step
step_by x (Row k) = Input k x
step_by x (From s) = Copy s x
step_by x (Out i k) = Emit i

-- the vertex whose step it is
abbrev pub vertex_at : ℕ → Step → Option ℕ
vertex_at m (Input k x) = None
vertex_at m (Copy s x) = Some x
vertex_at m (Emit i) = Some (m + i)

-- the step of the vertex is there
pub record Done (n : Net) (steps : List Step) (v : ℕ) : Type 0 where
  pub element : (c : Origin ℕ ℕ) → HasOrigin (network_of n) v c → (j : ℕ) × (slice_get steps j ≡ Some (step_by v c))
  pub instance : (i : ℕ) → v ≡ length n.elements + i → (network_of n).elementary i ≡ true → (j : ℕ) × (slice_get steps j ≡ Some (Emit i))

-- the steps of the inputs of the root, and behind them those of the first t vertices of an order
pub record Passed (n : Net) (order : List ℕ) (t : ℕ) (steps : List Step) : Type 0 where
  pub named : (j : ℕ) (o : Step) → slice_get steps j ≡ Some o → IsStep n o
  pub from : (j v : ℕ) (o : Step) → slice_get steps j ≡ Some o → vertex_at (length n.elements) o ≡ Some v → (p : ℕ) × (p < t) × (get_or order p 0 ≡ v)
  pub rows : (x k : ℕ) → HasOrigin (network_of n) x (Row k) → (j : ℕ) × (slice_get steps j ≡ Some (Input k x))
  pub done : (p : ℕ) → p < t → Done n steps (get_or order p 0)
  pub after : (j e : ℕ) (o : Step) → slice_get steps j ≡ Some o → Reads n o e → (i : ℕ) × (q : Step) × (i < j) × (slice_get steps i ≡ Some q) × Writes n q e
  pub alone : (i j : ℕ) (o : Step) → i < j → slice_get steps i ≡ Some o → slice_get steps j ≡ Some o → ⊥
