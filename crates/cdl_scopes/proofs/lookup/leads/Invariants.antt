use Rattle.std.proofs.Common.{◌≡◌, Some, map, drop}
use Rattle.cdl_scopes.specs.Classes.{declared, text_of}
use Rattle.cdl_scopes.specs.Lookup.{Entity, leads}
use Rattle.cdl_scopes.specs.inner.Known.{Known, IsOver, means}
use Rattle.cdl_scopes.proofs.lookup.leads.Given as goal

abbrev pub invariant-loop-i : goal.invariant-loop-i
invariant-loop-i l =
    IsOver l.found × ((h : Known l.files l.all) (e : Entity) → means h.gathered.names.paths l.fn.first ≡ Some e
    → (f : Entity) × (means h.gathered.names.paths l.found ≡ Some f)
    × (leads (declared l.files) l.sought f (map text_of (drop l.i l.rest)) ≡ leads (declared l.files) l.sought e (map text_of l.rest)))
