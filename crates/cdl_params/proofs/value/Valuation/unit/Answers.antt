use Rattle.std.proofs.Common.{ℕ, ◌≡◌, List, ap, ◌∙◌, subst, Option, Some, None, codes}
use Rattle.cdl_array.specs.Outcomes.{Answers}
use Rattle.cdl_scopes.specs.Classes.{declared}
use Rattle.cdl_paths.specs.Members.{site}
use Rattle.cdl_paths.specs.Bindings.{Bound, bound, binding_of}
use Rattle.cdl_worth.specs.Units.{connector_sizes, through, unit, unit_by}
use Rattle.cdl_worth.specs.Values.{Steps, link, sizes, the_class}
use Rattle.cdl_params.proofs.Telling.{then_value}
use Rattle.cdl_params.proofs.value.Valuation.unit.Goals as goal

pub returns-in-Some-clause-answers : goal.returns-in-Some-clause-answers
unfolding unit
returns-in-Some-clause-answers g c =
    let ds = declared c.args.self.now.evaluator.table.now in
    let l = link ds c.args.place.now.links in
    let r = c.args.place.now.start.index in
    let p = c.args.place.now.steps.now in
    let n = c.args.name.now in
    let path : c.items.result.now ≡ through p n = c.items.ensures ∙ c.in_ok-steps.ensures in
    let binds : Some (bound c.in-Some.binding) ≡ binding_of ds (the_class r) 0 (through p n) (codes "unit") =
    c.in-Some.ensures ∙ (ap (λ (q : Steps). binding_of ds (the_class r) 0 q c.as_bytes.result.now) path ∙ ap (λ (m : List ℕ). binding_of ds (the_class r) 0 (through p n) m) c.as_bytes.ensures.value) in
    then_value (connector_sizes ds l r (sizes ds r p) p n (site ds (the_class r) p)) (λ (ns : List ℕ). unit_by ds l r (sizes ds r p) p n ns (binding_of ds (the_class r) 0 (through p n) (codes "unit"))) c.in-Ok.shape c.bound_unit.result c.in-Ok.ensures.answers
    (subst (λ (o : Option Bound). Answers (unit_by ds l r (sizes ds r p) p n c.in-Ok.shape o) c.bound_unit.result) binds c.bound_unit.ensures.answers)

pub returns-clause-answers : goal.returns-clause-answers
unfolding unit
returns-clause-answers g c =
    let ds = declared c.args.self.now.evaluator.table.now in
    let l = link ds c.args.place.now.links in
    let r = c.args.place.now.start.index in
    let p = c.args.place.now.steps.now in
    let n = c.args.name.now in
    let path : c.items.result.now ≡ through p n = c.items.ensures ∙ c.in_ok-steps.ensures in
    let none : None ≡ binding_of ds (the_class r) 0 (through p n) (codes "unit") =
    c.in-None.ensures ∙ (ap (λ (q : Steps). binding_of ds (the_class r) 0 q c.as_bytes.result.now) path ∙ ap (λ (m : List ℕ). binding_of ds (the_class r) 0 (through p n) m) c.as_bytes.ensures.value) in
    then_value (connector_sizes ds l r (sizes ds r p) p n (site ds (the_class r) p)) (λ (ns : List ℕ). unit_by ds l r (sizes ds r p) p n ns (binding_of ds (the_class r) 0 (through p n) (codes "unit"))) c.in-Ok.shape c.no_units.result c.in-Ok.ensures.answers
    (subst (λ (o : Option Bound). Answers (unit_by ds l r (sizes ds r p) p n c.in-Ok.shape o) c.no_units.result) none c.no_units.ensures)
