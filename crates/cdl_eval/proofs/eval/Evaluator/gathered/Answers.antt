use Rattle.std.proofs.Common.{ℕ, ◌≡◌, ◌<◌, ◌-◌, ◌++◌, [], List, length, get_or, sym, ap, ◌∙◌, subst, arith, take, drop, cond, Ok, Err}
use Rattle.cdl_array.specs.Outcomes.{Answers}
use Rattle.cdl_scopes.specs.Classes.{declared}
use Rattle.cdl_paths.specs.declared.path.Step.{Step}
use Rattle.cdl_worth.specs.Sizes.{gather}
use Rattle.cdl_worth.specs.Values.{sizes, step_size}
use Rattle.cdl_eval.proofs.Rows.{item_here, none_here}
use Rattle.cdl_eval.proofs.StepSizes.{gathered_more, gathered_fault, gathered_few}
use Rattle.cdl_eval.proofs.eval.Evaluator.gathered.Goals as goal

pub loop-step-preserved : goal.loop-step-preserved
loop-step-preserved g c =
    let ds = declared c.args.self.now.table.now in
    let r = c.args.place.now.start.index in
    let p = c.args.place.now.steps.now in
    let step = c.loop-step.step in
    let out = c.in-Some.out in
    let there : (step - c.args.from < length c.args.outs.now) × (out ≡ get_or c.args.outs.now (step - c.args.from) out) = item_here c.args.outs.now (step - c.args.from) out c.in-Some.ensures in
    let named : c.bytes-name.result.now ≡ c.index-steps-step.result.name = c.bytes-name.ensures ∙ ap (λ (s : Step). s.name) (sym c.index-steps-step.is) in
    let here : cond out (Ok []) (step_size ds r (sizes ds r (take step p)) (take step p) c.index-steps-step.result.name) ≡ Ok c.in-Ok.more =
    subst (λ (m : List ℕ). cond out (Ok []) (step_size ds r (sizes ds r (take step p)) (take step p) m) ≡ Ok c.in-Ok.more) named c.in-Ok.ensures.answers in
    let grown : c.push_all.new.sizes ≡ c.loop-step.sizes ++ c.in-Ok.more = c.in_ok-push_all-in-Ok.ensures ∙ ap (λ (m : List ℕ). c.loop-step.sizes ++ m) c.items.ensures in (
      c.in-Ok.ensures.same ∙ c.loop-step.invariant.0,
      omega (arith, c.loop-step.invariant.1),
      gathered_more ds r p c.args.outs.now c.args.from step out c.index-steps-step.result c.loop-step.sizes c.push_all.new.sizes c.in-Ok.more (gather c.args.outs.now (drop c.args.from (sizes ds r p)))
          c.loop-step.invariant.1 (omega (arith, c.loop-step-test.true)) c.index-steps-step.is there.0 there.1 here grown c.loop-step.invariant.2,
    )

pub returns-in-Err-clause-answers : goal.returns-in-Err-clause-answers
returns-in-Err-clause-answers g c =
    let ds = declared c.args.self.now.table.now in
    let r = c.args.place.now.start.index in
    let p = c.args.place.now.steps.now in
    let step = c.loop-step.step in
    let out = c.in-Some.out in
    let there : (step - c.args.from < length c.args.outs.now) × (out ≡ get_or c.args.outs.now (step - c.args.from) out) = item_here c.args.outs.now (step - c.args.from) out c.in-Some.ensures in
    let named : c.bytes-name.result.now ≡ c.index-steps-step.result.name = c.bytes-name.ensures ∙ ap (λ (s : Step). s.name) (sym c.index-steps-step.is) in
    gathered_fault ds r p c.args.outs.now c.args.from step out c.index-steps-step.result c.loop-step.sizes (gather c.args.outs.now (drop c.args.from (sizes ds r p))) c.in-Err.fault
    (omega (arith, c.loop-step-test.true)) c.index-steps-step.is there.0 there.1
    (subst (λ (m : List ℕ). Answers {A = List ℕ} (cond out (Ok []) (step_size ds r (sizes ds r (take step p)) (take step p) m)) (Err c.in-Err.fault)) named c.in-Err.ensures.answers)
    c.loop-step.invariant.2

pub returns-in-None-clause-answers : goal.returns-in-None-clause-answers
returns-in-None-clause-answers g c =
    let ds = declared c.args.self.now.table.now in
    let r = c.args.place.now.start.index in
    let p = c.args.place.now.steps.now in
    gathered_few ds r p c.args.outs.now (c.loop-step.step - c.args.from) c.loop-step.step c.loop-step.sizes (gather c.args.outs.now (drop c.args.from (sizes ds r p)))
    (none_here c.args.outs.now (c.loop-step.step - c.args.from) c.in-None.ensures) c.loop-step.invariant.2
