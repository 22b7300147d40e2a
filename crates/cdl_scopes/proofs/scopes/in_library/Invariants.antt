use Rattle.std.proofs.Common.{◌≡◌, length}
use Rattle.cdl_scopes.proofs.Passing.{Flags}
use Rattle.cdl_scopes.proofs.scopes.in_library.Given as goal

abbrev pub invariant-loop-scope : goal.invariant-loop-scope
invariant-loop-scope l = (l.scope ≡ length l.known.items) × Flags l.files l.all l.known.items l.scope
