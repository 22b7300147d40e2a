use Rattle.std.proofs.Common.{map}
use Rattle.cdl_statements.specs.inner.Keys as spec
use Rattle.cdl_statements.proofs.directory.path_numbers.Given as goal

abbrev pub invariant-loop-i : goal.invariant-loop-i
invariant-loop-i l = spec.IsIndex (map spec.instance_key l.instances) l.i l.numbers
