-- A runner keeps its lists, and sound states as long as it has answered no fault.
use Rattle.std.specs.Prelude.{ℕ, ◌≡◌, ℤ, List, length, Option, None}
use Rattle.cdl_values.specs.declared.value.ValueType.{ValueType}
use Rattle.cdl_connect.specs.declared.net.Net.{Net}
use Rattle.cdl_pass.specs.declared.net.Action.{Action}
use Rattle.cdl_pass.specs.declared.net.Node.{Node}
use Rattle.cdl_pass.specs.Net.{AllAt, Blocks, net_of}
use Rattle.cdl_pass.specs.Windows.{state_of}
use Rattle.cdl_run.specs.Words.{elementary_below, root_outputs, state_place}
use Rattle.cdl_run.specs.inner.Setting.{IsSet}

-- the lists of a runner
pub record IsFixed {B : Type 0} (m : Blocks B) (n : Net) (bs : List B) (ps : List Node) (is : List ℕ) (actions : List Action) (kinds rows : List ValueType) (outs : List ℕ) : Type 0 where
  pub set : IsSet m n bs ps actions kinds rows
  pub instances : is ≡ elementary_below n (length n.instances)
  pub outputs : outs ≡ root_outputs n

-- its words
pub record IsReady {B : Type 0} (m : Blocks B) (n : Net) (bs : List B) (ps : List Node) (actions : List Action) (kinds rows : List ValueType) (words : List ℤ) (last : ℤ) (fault : Option ℕ) : Type 0 where
  pub size : length words ≡ state_place n (length n.instances)
  pub sound : fault ≡ None → AllAt (net_of bs ps actions kinds rows) (λ j b p. m.sound b (state_of p words) last)
