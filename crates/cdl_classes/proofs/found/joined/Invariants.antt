use Rattle.std.proofs.Common.{◌≡◌, ◌++◌, map, drop}
use Rattle.cdl_scopes.specs.Classes.{text_of}
use Rattle.cdl_classes.specs.Found.{joined, pointed}
use Rattle.cdl_classes.proofs.found.joined.Given as goal

abbrev pub invariant-loop-part : goal.invariant-loop-part
invariant-loop-part l = l.text.items ++ pointed (map text_of (drop l.part-index l.rest)) ≡ joined (map text_of l.below)
