-- A runner's lists beside its net.
use Rattle.std.specs.Prelude.{ℕ, ◌≡◌, List, length, map, get_or}
use Rattle.cdl_values.specs.declared.value.ValueType.{ValueType}
use Rattle.cdl_network.specs.Dependence.{NoLoop}
use Rattle.cdl_network.specs.Ticks.{Seen, history}
use Rattle.cdl_connect.specs.declared.net.Net.{Net}
use Rattle.cdl_connect.specs.Faults.{IsChecked}
use Rattle.cdl_connect.specs.Nets.{network_of}
use Rattle.cdl_connect.specs.WellFormed.{AreOfKinds, ArePlain}
use Rattle.cdl_pass.specs.declared.net.Action.{Action}
use Rattle.cdl_pass.specs.declared.net.Node.{Node}
use Rattle.cdl_pass.specs.Net.{Blocks}
use Rattle.cdl_pass.specs.Tick.{Past}
use Rattle.cdl_schedule.specs.declared.steps.Step.{Step}
use Rattle.cdl_schedule.specs.Passes.{IsPass}
use Rattle.cdl_run.specs.Words.{elementary_below}
use Rattle.cdl_run.specs.inner.Laid.{ArePlaced, action_of, element_types, row_types}

-- the lists are those of a checked net without a loop, whose instances are of their kinds and whose elements are plain
pub record IsSet {B : Type 0} (m : Blocks B) (n : Net) (bs : List B) (ps : List Node) (actions : List Action) (kinds rows : List ValueType) : Type 0 where
  pub checked : IsChecked n
  pub of_kinds : AreOfKinds n
  pub plain : ArePlain n
  pub open_ended : NoLoop (network_of n)
  pub placed : ArePlaced m n (length n.instances) bs ps
  pub steps : List Step
  pub pass : IsPass n steps
  pub actions_are : actions ≡ map (action_of n) steps
  pub kinds_are : kinds ≡ element_types n
  pub rows_are : rows ≡ row_types n

-- what the blocks have seen in the ticks that are over
abbrev pub past_at : Net → List (Seen ℕ) → Past
past_at n past j = history (network_of n) past (get_or (elementary_below n (length n.instances)) j 0)
