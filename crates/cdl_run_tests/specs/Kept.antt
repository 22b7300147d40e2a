-- Parameters that keep the rows of their kinds.
use Rattle.std.specs.Prelude.{ℕ, ◌≡◌, List, Some, slice_get}
use Rattle.cdl_kinds.specs.Conditions.{Keeps}
use Rattle.cdl_connect.specs.declared.net.NetInstance.{NetInstance}
use Rattle.cdl_connect.specs.declared.net.Body.{Body}
use Rattle.cdl_connect.specs.declared.net.Body.TheVariants.{Composite, Elementary}

abbrev pub IsKept : Body → Type 0
IsKept Composite = Unit {0}
IsKept (Elementary k p) = Keeps k p

abbrev pub AreKept : List NetInstance → Type 0
AreKept ts = (i : ℕ) (t : NetInstance) → slice_get ts i ≡ Some t → IsKept t.body
