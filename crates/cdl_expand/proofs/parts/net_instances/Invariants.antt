use Rattle.std.proofs.Common.{◌≡◌, length}
use Rattle.cdl_expand.specs.inner.Numbered.{IsBoundary, at_numbers}
use Rattle.cdl_expand.proofs.parts.net_instances.Given as goal

abbrev pub invariant-loop-instance : goal.invariant-loop-instance
invariant-loop-instance l = record {
  so_far : l.all ≡ at_numbers l.elements 0 l.yielded;
  first : IsBoundary l.elements (length l.yielded) l.first;
}
