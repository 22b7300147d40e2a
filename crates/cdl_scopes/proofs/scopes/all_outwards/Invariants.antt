use Rattle.std.proofs.Common.{◌≡◌, length}
use Rattle.cdl_scopes.proofs.Passing.{Lower, Passed}
use Rattle.cdl_scopes.proofs.scopes.all_outwards.Given as goal

abbrev pub invariant-loop-scope : goal.invariant-loop-scope
invariant-loop-scope l = (l.scope ≡ length l.each.items) × Lower l.each.items × Passed l.files l.all l.each.items
