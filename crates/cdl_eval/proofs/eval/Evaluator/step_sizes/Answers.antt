use Rattle.std.proofs.Common.{◌≡◌, sym, ap, ◌∙◌, Option, Some, option_map, Bor}
use Rattle.cdl_tree.specs.declared.class.Item.{Item}
use Rattle.cdl_scopes.specs.Classes.{declared}
use Rattle.cdl_paths.specs.Members.{Declaration}
use Rattle.cdl_worth.specs.Values.{member_at}
use Rattle.cdl_eval.proofs.StepSizes.{step_some}
use Rattle.cdl_eval.proofs.eval.Evaluator.step_sizes.Goals as goal

pub returns-in-Some-clause-answers : goal.returns-in-Some-clause-answers
returns-in-Some-clause-answers g c =
    let found : option_map (λ (m : Declaration). m.item) (member_at (declared c.args.self.now.table.now) c.args.place.now.start.index c.front.result.now c.args.name.now) ≡ Some c.in-Some.item.now =
    sym c.member_at.ensures ∙ ap (λ (o : Option (Bor Item)). option_map (λ (x : Bor Item). x.now) o) c.in-Some.is in
    rw (sym c.front.ensures) (step_some (declared c.args.self.now.table.now) c.args.place.now.start.index c.front.result.now c.args.name.now c.in-Some.item.now c.sizes.result found (rw c.items.ensures at c.sizes.ensures.answers))
