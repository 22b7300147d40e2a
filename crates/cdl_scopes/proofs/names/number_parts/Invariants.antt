use Rattle.std.proofs.Common.{List, map, take}
use Rattle.cdl_scopes.specs.Classes.{Full, text_of}
use Rattle.cdl_scopes.specs.inner.Numbered.{Names, WithinAdded}
use Rattle.cdl_scopes.proofs.names.number_parts.Given as goal

abbrev pub invariant-loop-part : goal.invariant-loop-part
invariant-loop-part l =
    (whole : List Full) (h : Names l.fn.nodes.items whole) → WithinAdded h.paths l.nodes.items whole l.scope (map text_of (take l.part-index l.parts))
