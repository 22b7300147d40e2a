use Rattle.std.proofs.Common.{◌≡◌, ◌++◌, take}
use Rattle.cdl_paths.proofs.handing.push_all.Given as goal

abbrev pub invariant-loop-index : goal.invariant-loop-index
invariant-loop-index l = l.list ≡ l.fn.list ++ take l.index-index l.indices
