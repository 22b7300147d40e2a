use Rattle.std.proofs.Common.{arith, map, string_bytes}
use Rattle.std.proofs.lemmas.List.{length-map}
use Rattle.std.proofs.lemmas.Result.{err_from_is_err_and, IfOk-weaker, IfErr-weaker}
use Rattle.cdl_command.specs.Answer.{sequence}
use Rattle.cdl_command.specs.inner.Plans.{model_of}
use Rattle.cdl_command.proofs.ModelFacts.{are_short, as_many}
use Rattle.cdl_command.proofs.PlanFacts.{at_classes, at_model, at_root, has_net, in_texts, is_read}
use Rattle.cdl_command.proofs.TextFacts.{calm}
use Rattle.cdl_command.proofs.plan.plan_of.Goals as goal

pub returns-in_err-texts-clause-err : goal.returns-in_err-texts-clause-err
returns-in_err-texts-clause-err g c =
    let p = err_from_is_err_and c.from_residual.result c.from_residual.ensures.1 in
    rw (p.1, p.2)
    (in_texts (g.F.Files.contents c.args.files.now) (sequence c.args.class.now (map string_bytes c.args.models.now)) _ _ _ _ c.in_err-texts.ensures.err)

pub classes_of-requires-clause-few : goal.classes_of-requires-clause-few
classes_of-requires-clause-few g c =
    let m = c.in_ok-texts.field-0 in
    omega (arith, as_many m.texts m.trees c.in_ok-texts.ensures.ok.have, c.in_ok-texts.ensures.ok.all, length-map c.args.models.now string_bytes, c.requires.few)

pub returns-in_err-classes-clause-err : goal.returns-in_err-classes-clause-err
returns-in_err-classes-clause-err g c =
    let p = err_from_is_err_and c.from_residual-in_err-classes.result c.from_residual-in_err-classes.ensures.1 in
    rw (p.1, p.2)
    (at_classes (g.F.Files.contents c.args.files.now) (sequence c.args.class.now (map string_bytes c.args.models.now)) c.in_ok-texts.field-0 _ _ _ _ c.in_ok-texts.ensures.ok
    (omega (arith, c.in_ok-texts.ensures.begun, length-map c.args.models.now string_bytes)) (rw c.items.ensures at c.in_err-classes.ensures.err))

pub returns-in_err-classes-clause-answered : goal.returns-in_err-classes-clause-answered
returns-in_err-classes-clause-answered g c =
    let p = err_from_is_err_and c.from_residual-in_err-classes.result c.from_residual-in_err-classes.ensures.1 in
    rw (p.1, p.2) (calm _ _ _ _ c.in_ok-texts.ensures.kept c.in_err-classes.ensures.err)

pub returns-in_err-root-clause-err : goal.returns-in_err-root-clause-err
returns-in_err-root-clause-err g c =
    let p = err_from_is_err_and c.from_residual-in_err-root.result c.from_residual-in_err-root.ensures.1 in
    rw (p.1, p.2)
    (at_root (g.F.Files.contents c.args.files.now) (sequence c.args.class.now (map string_bytes c.args.models.now)) c.in_ok-texts.field-0 c.in_ok-classes.classes _ _ _ _ c.in_ok-texts.ensures.ok
    (omega (arith, c.in_ok-texts.ensures.begun, length-map c.args.models.now string_bytes)) c.in_ok-classes.ensures.same c.in_ok-classes.ensures.unbroken c.in_err-root.ensures.err)

pub returns-in_err-root-clause-answered : goal.returns-in_err-root-clause-answered
returns-in_err-root-clause-answered g c =
    let p = err_from_is_err_and c.from_residual-in_err-root.result c.from_residual-in_err-root.ensures.1 in
    rw (p.1, p.2) (calm _ _ _ _ c.in_ok-texts.ensures.kept c.in_err-root.ensures.err)

pub model_plan-requires : goal.model_plan-requires
model_plan-requires g c =
    let m = c.in_ok-texts.field-0 in
    rw c.items-2.ensures (are_short m.texts m.trees c.in_ok-texts.ensures.ok.have)

pub returns-clause-ok : goal.returns-clause-ok
returns-clause-ok g c =
    let s = sequence c.args.class.now (map string_bytes c.args.models.now) in
    let contents = g.F.Files.contents c.args.files.now in
    let w = model_of c.in_ok-classes.classes c.in_ok-root.root in
    let read = is_read contents s c.in_ok-texts.field-0 c.in_ok-classes.classes c.in_ok-root.root c.in_ok-texts.ensures.ok c.in_ok-classes.ensures.same c.in_ok-classes.ensures.unbroken c.in_ok-root.ensures.ok in
    IfOk-weaker c.model_plan.result _ _ (λ p h. has_net contents s w p.net read h) c.model_plan.ensures.ok

pub returns-clause-err : goal.returns-clause-err
returns-clause-err g c =
    let s = sequence c.args.class.now (map string_bytes c.args.models.now) in
    let contents = g.F.Files.contents c.args.files.now in
    let m = c.in_ok-texts.field-0 in
    let w = model_of c.in_ok-classes.classes c.in_ok-root.root in
    let read = is_read contents s m c.in_ok-classes.classes c.in_ok-root.root c.in_ok-texts.ensures.ok c.in_ok-classes.ensures.same c.in_ok-classes.ensures.unbroken c.in_ok-root.ensures.ok in
    IfErr-weaker c.model_plan.result _ _
    (λ stop h. at_model contents s m w _ _ _ stop c.in_ok-texts.ensures.ok (omega (arith, c.in_ok-texts.ensures.begun, length-map c.args.models.now string_bytes)) read (rw c.items-2.ensures at h))
    c.model_plan.ensures.err

pub returns-clause-answered : goal.returns-clause-answered
returns-clause-answered g c =
    IfErr-weaker c.model_plan.result _ _ (λ stop h. calm _ _ _ stop c.in_ok-texts.ensures.kept h) c.model_plan.ensures.err
