use Rattle.std.proofs.Common.{◌≡◌, drop}
use Rattle.cdl_kinds.specs.Names.{found}
use Rattle.cdl_kinds.proofs.kind.find_in.Given as goal

abbrev pub invariant-loop-kind : goal.invariant-loop-kind
invariant-loop-kind l = found l.name (drop l.kind-index l.kinds) ≡ found l.name l.kinds
