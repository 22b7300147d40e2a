use Rattle.std.proofs.Common.{◌≡◌, ◌≤◌, ◌-◌, drop}
use Rattle.cdl_worth.specs.Sizes.{gather}
use Rattle.cdl_eval.specs.Places.{sizes_of_steps}
use Rattle.cdl_eval.proofs.Rows.{with}
use Rattle.cdl_eval.proofs.eval.Evaluator.gathered.Given as goal

abbrev pub invariant-loop-step : goal.invariant-loop-step
invariant-loop-step g l = (l.e ≡ l.fn.e) × (l.from ≤ l.step) × (with l.sizes (gather (drop (l.step - l.from) l.outs) (drop l.step (sizes_of_steps l.self.table.now l.place))) ≡ gather l.outs (drop l.from (sizes_of_steps l.self.table.now l.place)))
