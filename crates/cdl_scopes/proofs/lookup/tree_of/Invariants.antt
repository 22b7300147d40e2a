use Rattle.std.proofs.Common.{◌≡◌, drop}
use Rattle.cdl_scopes.specs.inner.Gathered.{descend, tree_at}
use Rattle.cdl_scopes.proofs.lookup.tree_of.Given as goal

abbrev pub invariant-loop-step : goal.invariant-loop-step
invariant-loop-step l = descend l.tree (drop l.step-index l.class.steps.items) ≡ tree_at l.files l.class.file l.class.top l.class.steps.items
