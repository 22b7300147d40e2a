use Rattle.std.proofs.Common.{map}
use Rattle.cdl_statements.specs.inner.Keys as spec
use Rattle.cdl_statements.proofs.directory.element_numbers.Given as goal

abbrev pub invariant-loop-i : goal.invariant-loop-i
invariant-loop-i l = spec.IsIndex (map (spec.key_of_element l.paths l.instances) l.elements) l.i l.numbers
