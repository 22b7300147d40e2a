use Rattle.std.proofs.Common.{subst, Option}
use Rattle.cdl_array.specs.Outcomes.{Answers}
use Rattle.cdl_scopes.specs.Classes.{declared}
use Rattle.cdl_classes.specs.declared.found.Found.{Found}
use Rattle.cdl_worth.specs.Values.{value, value_in, link, sizes}
use Rattle.cdl_params.proofs.value.Valuation.value.Goals as goal

pub returns-in-Some-clause-answers : goal.returns-in-Some-clause-answers
unfolding value
returns-in-Some-clause-answers g c =
    let ds = declared c.args.self.now.evaluator.table.now in
    let r = c.args.place.now.start.index in
    let p = c.args.place.now.steps.now in
    subst (λ (o : Option Found). Answers (value_in ds (link ds c.args.place.now.links) r (sizes ds r p) p c.args.name.now o) c.value_in.result) c.in-Some.ensures c.value_in.ensures.answers
