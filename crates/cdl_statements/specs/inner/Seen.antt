-- What contracts see of scopes, states and faults.
use Rattle.std.specs.Prelude.{ℕ, ◌≡◌, List, [], ◌∷◌, map, Option, Some, None, slice_get}
use Rattle.cdl_classes.specs.declared.found.ClassId.{ClassId}
use Rattle.cdl_connect.specs.declared.net.RawWire.{RawWire}
use Rattle.cdl_paths.specs.declared.path.Step.{Step}
use Rattle.cdl_walk.specs.declared.walked.Content.TheVariants as content
use Rattle.cdl_walk.specs.declared.walked.Instance.{Instance}
use Rattle.cdl_statements.specs.declared.fault.Broken.{Broken}
use Rattle.cdl_statements.specs.declared.fault.Broken.TheVariants as broken
use Rattle.cdl_statements.specs.declared.fault.StatementFault.{StatementFault}
use Rattle.cdl_statements.specs.declared.fault.StatementFault.TheVariants as fault
use Rattle.cdl_statements.specs.declared.net.Net.{Net}
use Rattle.cdl_statements.specs.declared.net.Scope.{Scope as DeclaredScope}
use Rattle.cdl_params.specs.Kept.{Model}
use Rattle.cdl_statements.specs.Complete.{JoinStanding}
use Rattle.cdl_statements.specs.Directory.{Directory, wire_at}
use Rattle.cdl_statements.specs.Events.{Made}
use Rattle.cdl_statements.specs.Places.{Scope, Fault, spot}

abbrev pub scope_seen : DeclaredScope → Scope
scope_seen s = record { path = s.path.now; class = s.class; file = s.file }

-- what a fault tells, unless memory ran out
abbrev pub seen : Scope → Broken → Option Fault
seen s (broken.Rule r b) = Some (spot s b, r)
seen s broken.OutOfMemory = None

abbrev pub made : Directory → Net → Made
made d n = record { turns = n.turns; wires = map (wire_at d) n.wires }

-- the same with the path
abbrev pub tells : StatementFault → Option Fault
tells (fault.Rule r p at) = Some (record { path = p.steps; place = at }, r)
tells fault.OutOfMemory = None

-- the instance of that number has this path, and all that occurrences in it join has numbers
pub record IsScope (w : Model) (d : Directory) (number : ℕ) (p : List Step) (c : ClassId) : Type 0 where
  pub at : slice_get d.paths number ≡ Some p
  pub joins : JoinStanding w d.names p c

pub record IsInstance (w : Model) (d : Directory) (number : ℕ) (x : Instance) : Type 0 where
  pub at : slice_get d.paths number ≡ Some x.path.steps
  pub joins : (c : ClassId) → x.content ≡ content.Block c → JoinStanding w d.names x.path.steps c

pub record IsListed (w : Model) (d : Directory) (xs : List Instance) : Type 0 where
  pub each : (i : ℕ) (x : Instance) → slice_get xs i ≡ Some x → IsInstance w d i x

-- ---- wires between numbers

abbrev pub raw : ℕ → ℕ → ℕ → RawWire
raw s l r = record { scope = s; left = l; right = r }

abbrev pub raw_pairs : ℕ → List ℕ → List ℕ → List RawWire
raw_pairs s [] rs = []
raw_pairs s (l ∷ ls) [] = []
raw_pairs s (l ∷ ls) (r ∷ rs) = raw s l r ∷ raw_pairs s ls rs
