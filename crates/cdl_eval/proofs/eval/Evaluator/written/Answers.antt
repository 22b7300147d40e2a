use Rattle.cdl_scopes.specs.Classes.{declared}
use Rattle.cdl_eval.proofs.StepSizes.{at_written}
use Rattle.cdl_eval.proofs.eval.Evaluator.written.Goals as goal

pub returns-clause-answers : goal.returns-clause-answers
returns-clause-answers g c = at_written (declared c.args.self.now.table.now) c.args.place.now.links c.args.place.now.start.index c.args.place.now.steps.now c.args.giver.now.steps c.args.giver.now.args.now c.args.giver.now.value.now c.eval.result (rw c.front.ensures at c.eval.ensures.answers)
