use Rattle.std.proofs.Common.{◌≡◌, map, take}
use Rattle.cdl_run.specs.inner.Laid.{action_of}
use Rattle.cdl_run.proofs.layout.actions_in.Given as goal

abbrev pub invariant-loop-t : goal.invariant-loop-t
invariant-loop-t l = l.actions.items ≡ map (action_of l.net) (take l.t l.steps)
