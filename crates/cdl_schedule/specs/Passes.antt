-- The steps of a tick of a net.
use Rattle.std.specs.Prelude.{ℕ, ◌<◌, ◌≡◌, true, List, length, Some, slice_get}
use Rattle.cdl_network.specs.Dependence.{Row, From, HasOrigin, direct_of, outputs_of}
use Rattle.cdl_network.specs.Lists.{In}
use Rattle.cdl_connect.specs.declared.net.Net.{Net}
use Rattle.cdl_connect.specs.Nets.{network_of}
use Rattle.cdl_schedule.specs.declared.steps.Step.{Step}
use Rattle.cdl_schedule.specs.declared.steps.Step.TheVariants.{Input, Copy, Emit}

-- what the step does is there: the place of the row is that of the input, the wire joins the source to the sink, and the instance is elementary
abbrev pub IsStep : Net → Step → Type 0
IsStep n (Input k x) = HasOrigin (network_of n) x (Row k)
IsStep n (Copy s x) = HasOrigin (network_of n) x (From s)
IsStep n (Emit i) = (i < length n.instances) × ((network_of n).elementary i ≡ true)

-- the step gives the element its value
abbrev pub Writes : Net → Step → ℕ → Type 0
Writes n (Input k x) e = e ≡ x
Writes n (Copy s x) e = e ≡ x
Writes n (Emit i) e = In e (outputs_of (network_of n) i)

-- the step takes the value of the element
abbrev pub Reads : Net → Step → ℕ → Type 0
Reads n (Input k x) e = ⊥
Reads n (Copy s x) e = e ≡ s
Reads n (Emit i) e = In e (direct_of (network_of n) i)

-- Each element is written by one step, behind those that write what the step reads, and each elementary instance has one step.
pub record IsPass (n : Net) (steps : List Step) : Type 0 where
  pub named : (j : ℕ) (o : Step) → slice_get steps j ≡ Some o → IsStep n o
  pub each : (e : ℕ) → e < length n.elements → (j : ℕ) × (o : Step) × (slice_get steps j ≡ Some o) × Writes n o e
  pub once : (i j e : ℕ) (o q : Step) → i < j → slice_get steps i ≡ Some o → slice_get steps j ≡ Some q → Writes n o e → Writes n q e → ⊥
  pub after : (j e : ℕ) (o : Step) → slice_get steps j ≡ Some o → Reads n o e → (i : ℕ) × (q : Step) × (i < j) × (slice_get steps i ≡ Some q) × Writes n q e
  pub all : (i : ℕ) → (network_of n).elementary i ≡ true → (j : ℕ) × (slice_get steps j ≡ Some (Emit i))
  pub alone : (i j : ℕ) (o : Step) → i < j → slice_get steps i ≡ Some o → slice_get steps j ≡ Some o → ⊥
