-- What a plan of a net is, and where there is none.
use Rattle.std.specs.Prelude.{ℕ, ◌<◌, ◌≡◌, true, List, length, get_or}
use Rattle.cdl_network.specs.Dependence.{Walk, FirstLoop, direct_of, outputs_of}
use Rattle.cdl_network.specs.Lists.{In}
use Rattle.cdl_connect.specs.declared.net.Net.{Net}
use Rattle.cdl_connect.specs.Nets.{network_of}
use Rattle.cdl_schedule.specs.declared.plans.OrderFault.{OrderFault}
use Rattle.cdl_schedule.specs.declared.plans.OrderFault.TheVariants.{Loop, OutOfMemory}

-- Each elementary instance once, and each behind all on which its direct inputs depend: where a walk leads from an output y of q to a direct input x of the instance at j, q stands before j.
pub record IsPlan (n : Net) (list : List ℕ) : Type 0 where
  pub each : (i : ℕ) → i < length n.instances → (network_of n).elementary i ≡ true → (j : ℕ) × (j < length list) × (get_or list j 0 ≡ i)
  pub only : (j : ℕ) → j < length list → (get_or list j 0 < length n.instances) × ((network_of n).elementary (get_or list j 0) ≡ true)
  pub once : (i j : ℕ) → i < j → j < length list → get_or list i 0 ≡ get_or list j 0 → ⊥
  pub behind : (j x q y k : ℕ) → j < length list → In x (direct_of (network_of n) (get_or list j 0)) → (network_of n).elementary q ≡ true → In y (outputs_of (network_of n) q) → Walk (network_of n) y x k
      → (i : ℕ) × (i < j) × (get_or list i 0 ≡ q)

-- A loop is that of the first instance in preorder that has an element on one; want of memory is free.
abbrev pub IsOrderFault : Net → OrderFault → Type 0
IsOrderFault n (Loop i) = FirstLoop (network_of n) i
IsOrderFault n OutOfMemory = Unit {0}
