use Rattle.std.proofs.Common.{◌∙◌, arith, map, string_bytes}
use Rattle.std.proofs.lemmas.Result.{err_from_is_err_and}
use Rattle.cdl_command.proofs.ModelFacts.{named_at, next_due, read_more, stopped_at, no_memory_at, due_more}
use Rattle.cdl_command.proofs.TextFacts.{fault_behind}
use Rattle.cdl_command.proofs.texts.read_models.Goals as goal

pub read_model-requires-clause-next : goal.read_model-requires-clause-next
read_model-requires-clause-next g c =
    rw c.loop-i.invariant.due
    (next_due (g.F.Files.due c.args.files.now) (map string_bytes c.args.names.now) c.loop-i.i c.as_str.result.now c.requires.due
    (named_at string_bytes c.args.names.now c.loop-i.i c.index-names-i.result c.as_str.result.now c.loop-i-test.true c.index-names-i.is c.as_str.ensures.value))

pub returns-in_err-text-clause-err : goal.returns-in_err-text-clause-err
returns-in_err-text-clause-err g c =
    let p = err_from_is_err_and c.from_residual.result c.from_residual.ensures.1 in
    let named = named_at string_bytes c.args.names.now c.loop-i.i c.index-names-i.result c.as_str.result.now c.loop-i-test.true c.index-names-i.is c.as_str.ensures.value in
    rw (p.1, p.2)
    (stopped_at (g.F.Files.contents c.args.files.now) (g.F.Files.contents c.loop-i.files) (map string_bytes c.args.names.now) c.loop-i.models.texts c.loop-i.models.trees c.loop-i.i c.as_str.result.now _ _ _ _ _
    c.loop-i.invariant.hold c.loop-i.invariant.have c.loop-i.invariant.many named c.loop-i.invariant.contents
    (omega (arith, c.loop-i.invariant.begun, c.in_err-text.ensures.begun)) (λ rose. omega (arith, c.loop-i.invariant.kept, rose)) c.in_err-text.ensures.err)

pub returns-in_err-push-clause-err : goal.returns-in_err-push-clause-err
returns-in_err-push-clause-err g c =
    let p = err_from_is_err_and c.from_residual-in_err-push.result c.from_residual-in_err-push.ensures.1 in
    let named = named_at string_bytes c.args.names.now c.loop-i.i c.index-names-i.result c.as_str.result.now c.loop-i-test.true c.index-names-i.is c.as_str.ensures.value in
    rw (p.1, p.2)
    (no_memory_at (g.F.Files.contents c.args.files.now) (map string_bytes c.args.names.now) c.loop-i.models.texts c.loop-i.models.trees c.loop-i.i c.as_str.result.now _ _ _
    c.loop-i.invariant.hold c.loop-i.invariant.have c.loop-i.invariant.many named (omega (arith, c.loop-i.invariant.begun, c.in_ok-text.ensures.begun)))

pub returns-in_err-push-2-clause-err : goal.returns-in_err-push-2-clause-err
returns-in_err-push-2-clause-err g c =
    let p = err_from_is_err_and c.from_residual-in_err-push-2.result c.from_residual-in_err-push-2.ensures.1 in
    let named = named_at string_bytes c.args.names.now c.loop-i.i c.index-names-i.result c.as_str.result.now c.loop-i-test.true c.index-names-i.is c.as_str.ensures.value in
    rw (p.1, p.2)
    (no_memory_at (g.F.Files.contents c.args.files.now) (map string_bytes c.args.names.now) c.loop-i.models.texts c.loop-i.models.trees c.loop-i.i c.as_str.result.now _ _ _
    c.loop-i.invariant.hold c.loop-i.invariant.have c.loop-i.invariant.many named (omega (arith, c.loop-i.invariant.begun, c.in_ok-text.ensures.begun)))

pub loop-i-preserved : goal.loop-i-preserved
loop-i-preserved g c =
    let named = named_at string_bytes c.args.names.now c.loop-i.i c.index-names-i.result c.as_str.result.now c.loop-i-test.true c.index-names-i.is c.as_str.ensures.value in
    let more = read_more (g.F.Files.contents c.args.files.now) (g.F.Files.contents c.loop-i.files) (map string_bytes c.args.names.now) c.loop-i.models.texts c.loop-i.models.trees c.loop-i.i
    c.as_str.result.now c.in_ok-text.field-0.text c.in_ok-text.field-0.tree c.push.new.self c.push-in-loop-i.new.self c.loop-i.invariant.hold c.loop-i.invariant.have c.loop-i.invariant.many named
    c.loop-i.invariant.contents c.in_ok-text.ensures.holds c.in_ok-text.ensures.tree c.in_ok-push.ensures.ok c.in_ok-push-2.ensures.ok in
    record {
      hold = more.0;
      have = more.1;
      many = more.2;
      begun = omega (arith, c.loop-i.invariant.begun, c.in_ok-text.ensures.begun);
      due = due_more c.loop-i.i (g.F.Files.due c.args.files.now) (g.F.Files.due c.loop-i.files) _ c.loop-i.invariant.due c.in_ok-text.ensures.due;
      contents = c.in_ok-text.ensures.contents ∙ c.loop-i.invariant.contents;
      kept = c.in_ok-text.ensures.kept ∙ c.loop-i.invariant.kept;
      end = λ some. c.in_ok-text.ensures.end;
    }

pub returns-in_err-text-clause-answered : goal.returns-in_err-text-clause-answered
returns-in_err-text-clause-answered g c =
    let p = err_from_is_err_and c.from_residual.result c.from_residual.ensures.1 in
    rw (p.1, p.2) (fault_behind _ _ _ _ c.loop-i.invariant.kept c.in_err-text.ensures.answered)

pub returns-in_err-push-clause-answered : goal.returns-in_err-push-clause-answered
returns-in_err-push-clause-answered g c =
    let p = err_from_is_err_and c.from_residual-in_err-push.result c.from_residual-in_err-push.ensures.1 in
    rw (p.1, p.2) (c.in_ok-text.ensures.kept ∙ c.loop-i.invariant.kept)

pub returns-in_err-push-2-clause-answered : goal.returns-in_err-push-2-clause-answered
returns-in_err-push-2-clause-answered g c =
    let p = err_from_is_err_and c.from_residual-in_err-push-2.result c.from_residual-in_err-push-2.ensures.1 in
    rw (p.1, p.2) (c.in_ok-text.ensures.kept ∙ c.loop-i.invariant.kept)
