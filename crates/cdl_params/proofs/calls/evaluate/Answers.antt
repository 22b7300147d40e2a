use Rattle.cdl_source.specs.declared.limits.TheConstants.{MOST_LINKS}
use Rattle.cdl_params.proofs.Telling.{same_worth}
use Rattle.cdl_params.proofs.calls.evaluate.Goals as goal

pub returns-clause-answers : goal.returns-clause-answers
returns-clause-answers c = same_worth c.table.result.now c.args.store.now.files MOST_LINKS c.root.result.index c.args.store.now.root c.args.steps.now c.args.locals.now c.args.expr.now c.eval.result c.table.ensures c.root.ensures c.eval.ensures.answers
