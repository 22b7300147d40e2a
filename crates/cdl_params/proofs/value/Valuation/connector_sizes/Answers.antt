use Rattle.std.proofs.Common.{ℕ, List, subst, Option}
use Rattle.cdl_array.specs.Outcomes.{Answers}
use Rattle.cdl_scopes.specs.Classes.{declared}
use Rattle.cdl_classes.specs.declared.found.Found.{Found}
use Rattle.cdl_worth.specs.Units.{connector_sizes}
use Rattle.cdl_worth.specs.Values.{link, sizes}
use Rattle.cdl_params.proofs.value.Valuation.connector_sizes.Goals as goal

pub returns-in-Some-clause-answers : goal.returns-in-Some-clause-answers
returns-in-Some-clause-answers g c =
    let ds = declared c.args.self.now.evaluator.table.now in
    let r = c.args.place.now.start.index in
    let p = c.args.place.now.steps.now in
    subst (λ (o : Option Found). Answers {A = List ℕ} (connector_sizes ds (link ds c.args.place.now.links) r (sizes ds r p) p c.args.name.now o) c.sizes_in.result) c.in-Some.ensures c.sizes_in.ensures.answers
