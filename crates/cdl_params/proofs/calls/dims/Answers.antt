use Rattle.cdl_source.specs.declared.limits.TheConstants.{MOST_LINKS}
use Rattle.cdl_params.proofs.Telling.{same_dims}
use Rattle.cdl_params.proofs.calls.dims.Goals as goal

pub returns-clause-answers : goal.returns-clause-answers
returns-clause-answers c = same_dims c.table.result.now c.args.store.now.files MOST_LINKS c.root.result.index c.args.store.now.root c.args.steps.now c.args.item.now c.sizes.result c.table.ensures c.root.ensures (rw c.items.ensures at c.sizes.ensures.answers)
