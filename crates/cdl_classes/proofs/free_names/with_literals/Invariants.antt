use Rattle.std.proofs.Common.{◌≡◌, drop}
use Rattle.cdl_classes.specs.Places.{least}
use Rattle.cdl_classes.specs.Rules.{type_names}
use Rattle.cdl_classes.proofs.free_names.with_literals.Given as goal

abbrev pub invariant-loop-literal : goal.invariant-loop-literal
invariant-loop-literal l = least l.first (type_names l.file (drop l.literal-index l.literals)) ≡ least l.fn.first (type_names l.file l.literals)
