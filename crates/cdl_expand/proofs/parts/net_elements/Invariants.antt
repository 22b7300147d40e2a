use Rattle.std.proofs.Common.{◌≡◌, map}
use Rattle.cdl_expand.specs.inner.Numbered.{numbered}
use Rattle.cdl_expand.proofs.parts.net_elements.Given as goal

abbrev pub invariant-loop-element : goal.invariant-loop-element
invariant-loop-element l = l.all ≡ map numbered l.yielded
