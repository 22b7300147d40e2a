use Rattle.std.proofs.Common.{◌≡◌, drop}
use Rattle.cdl_paths.specs.Modifiers as spec
use Rattle.cdl_items.proofs.finals.first.Given as goal

abbrev pub invariant-loop-arg : goal.invariant-loop-arg
invariant-loop-arg l = spec.first l.name (drop l.arg-index l.args) ≡ spec.first l.name l.args
