use Rattle.std.proofs.Common.{subst}
use Rattle.cdl_expand.specs.Expanded.{IsNetOfModel, Refuses}
use Rattle.cdl_command.specs.inner.Plans.{model_of}
use Rattle.cdl_command.proofs.NetFacts.{elements_refused, same_model}
use Rattle.cdl_command.proofs.plan.net_of.Goals as goal

pub returns-in-Ok-clause-ok : goal.returns-in-Ok-clause-ok
returns-in-Ok-clause-ok c =
    let e = same_model c.new-elaborator.result c.args.classes.now c.args.root c.new-elaborator.ensures.files c.new-elaborator.ensures.root in
    subst (λ w. IsNetOfModel w c.in-Ok.net) e c.in-Ok.ensures.net

pub returns-clause-err : goal.returns-clause-err
returns-clause-err c =
    let e = same_model c.new-elaborator.result c.args.classes.now c.args.root c.new-elaborator.ensures.files c.new-elaborator.ensures.root in
    rw c.expand_stop.ensures
    (elements_refused c.args.texts.now (model_of c.args.classes.now c.args.root) c.in-Err.fault (subst (λ w. Refuses w c.in-Err.fault) e c.in-Err.ensures.refused))
