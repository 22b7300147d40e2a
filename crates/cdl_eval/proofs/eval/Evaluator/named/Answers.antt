use Rattle.std.proofs.Common.{subst, Option}
use Rattle.cdl_array.specs.Outcomes.{Answers}
use Rattle.cdl_scopes.specs.Classes.{declared, parts_of}
use Rattle.cdl_classes.specs.declared.found.Found.{Found}
use Rattle.cdl_worth.specs.Values.{names_in, link, sizes}
use Rattle.cdl_eval.proofs.eval.Evaluator.named.Goals as goal

pub returns-in-Some-clause-answers : goal.returns-in-Some-clause-answers
returns-in-Some-clause-answers g c =
    let ds = declared c.args.self.now.table.now in
    let l = link ds c.args.place.now.links in
    let r = c.args.place.now.start.index in
    let p = c.args.place.now.steps.now in
    subst (λ (o : Option Found). Answers (names_in ds l (l r (sizes ds r p) p) c.args.locals.now (parts_of c.args.name.now) o) c.named_in.result) c.in-Some.ensures c.named_in.ensures.answers
