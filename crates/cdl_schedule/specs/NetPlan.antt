-- A net and the list of its instances in an order.
use Rattle.std.specs.Prelude.{ℕ, List}
use Rattle.cdl_connect.specs.declared.net.Net.{Net}

pub record NetPlan : Type 0 where
  pub net : Net
  pub list : List ℕ
