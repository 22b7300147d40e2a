use Rattle.std.proofs.Common.{[], ◌∷◌, arith, map, refl, string_bytes}
use Rattle.std.proofs.lemmas.List.{length-map}
use Rattle.std.proofs.lemmas.Result.{err_from_is_err_and}
use Rattle.cdl_job.specs.Job.{RunOf}
use Rattle.cdl_command.specs.Answer.{sequence}
use Rattle.cdl_command.specs.Verdict.{ForRun, Work}
use Rattle.cdl_command.proofs.ModelFacts.{front_due, last_due}
use Rattle.cdl_command.proofs.TextFacts.{fault_behind}
use Rattle.cdl_command.proofs.WorkFacts.{IsWork, at_table, cut_off, fault_told, halted, no_memory, ran_through, runs}
use Rattle.cdl_command.proofs.work.run.Goals as goal

pub plan_of-requires-clause-due : goal.plan_of-requires-clause-due
plan_of-requires-clause-due g c = front_due _ (map string_bytes c.args.models.now) (c.args.table.now ∷ []) c.requires.due

pub returns-in_err-plan-clause-works : goal.returns-in_err-plan-clause-works
returns-in_err-plan-clause-works g c =
    let p = err_from_is_err_and c.from_residual.result c.from_residual.ensures.1 in
    let models = map string_bytes c.args.models.now in
    let work : Work = record { sequence = sequence c.args.class.now models; ask = ForRun c.args.table.now } in
    let w : IsWork (RunOf c.args.class.now c.args.table.now models) work = record { is = refl; models = refl } in
    rw (p.1, p.2) (halted (RunOf c.args.class.now c.args.table.now models) (g.F.Files.contents c.args.files.now) work _ _ _ _ _ _ w c.in_err-plan.ensures.err)

pub returns-in_err-plan-clause-read_fault : goal.returns-in_err-plan-clause-read_fault
returns-in_err-plan-clause-read_fault g c = λ rose.
    let p = err_from_is_err_and c.from_residual.result c.from_residual.ensures.1 in
    rw (p.1, p.2) (fault_told _ _ _ c.in_err-plan.ensures.answered rose)

pub returns-in_err-inputs-clause-works : goal.returns-in_err-inputs-clause-works
returns-in_err-inputs-clause-works g c =
    let p = err_from_is_err_and c.from_residual-in_err-inputs.result c.from_residual-in_err-inputs.ensures.1 in
    let models = map string_bytes c.args.models.now in
    let work : Work = record { sequence = sequence c.args.class.now models; ask = ForRun c.args.table.now } in
    let w : IsWork (RunOf c.args.class.now c.args.table.now models) work = record { is = refl; models = refl } in
    rw (p.1, p.2)
    (no_memory (RunOf c.args.class.now c.args.table.now models) (g.F.Files.contents c.args.files.now) work _ _ _ _ _ _ w c.in_ok-plan.ensures.ok
    (omega (arith, c.in_ok-plan.ensures.begun, length-map c.args.models.now string_bytes)))

pub read_table-requires-clause-next : goal.read_table-requires-clause-next
read_table-requires-clause-next g c =
    rw (c.in_ok-plan.ensures.due, ← length-map c.args.models.now string_bytes) (last_due (g.F.Files.due c.args.files.now) (map string_bytes c.args.models.now) c.args.table.now c.requires.due)

pub returns-in_err-rows-clause-works : goal.returns-in_err-rows-clause-works
returns-in_err-rows-clause-works g c =
    let p = err_from_is_err_and c.from_residual-in_err-rows.result c.from_residual-in_err-rows.ensures.1 in
    let models = map string_bytes c.args.models.now in
    let work : Work = record { sequence = sequence c.args.class.now models; ask = ForRun c.args.table.now } in
    let w : IsWork (RunOf c.args.class.now c.args.table.now models) work = record { is = refl; models = refl } in
    rw (p.1, p.2)
    (at_table (RunOf c.args.class.now c.args.table.now models) (g.F.Files.contents c.args.files.now) (g.F.Files.contents c.plan_of.new.files) work c.in_ok-plan.plan.net c.args.table.now c.in_ok-inputs.inputs _
    (g.F.Files.begun c.plan_of.new.files) _ _ _ _ _ _ w refl c.in_ok-plan.ensures.ok c.in_ok-plan.ensures.contents (rw (c.net-2.ensures.same, c.net.ensures.same) at c.in_ok-inputs.ensures)
    (omega (arith, c.in_ok-plan.ensures.begun, length-map c.args.models.now string_bytes)) c.in_err-rows.ensures.begun (λ rose. omega (arith, c.in_ok-plan.ensures.kept, rose)) c.in_err-rows.ensures.err)

pub returns-in_err-rows-clause-read_fault : goal.returns-in_err-rows-clause-read_fault
returns-in_err-rows-clause-read_fault g c = λ rose.
    let p = err_from_is_err_and c.from_residual-in_err-rows.result c.from_residual-in_err-rows.ensures.1 in
    rw (p.1, p.2) (fault_told _ _ _ (fault_behind _ _ _ _ c.in_ok-plan.ensures.kept c.in_err-rows.ensures.answered) rose)

pub returns-in_err-write_trace-clause-works : goal.returns-in_err-write_trace-clause-works
returns-in_err-write_trace-clause-works g c =
    let p = err_from_is_err_and c.from_residual-in_err-write_trace.result c.from_residual-in_err-write_trace.ensures.1 in
    let models = map string_bytes c.args.models.now in
    let task = RunOf c.args.class.now c.args.table.now models in
    let contents = g.F.Files.contents c.args.files.now in
    let work : Work = record { sequence = sequence c.args.class.now models; ask = ForRun c.args.table.now } in
    let w : IsWork task work = record { is = refl; models = refl } in
    let n = c.in_ok-plan.plan.net in
    let rows = c.in_ok-rows.rows in
    let r = runs task contents (g.F.Files.contents c.plan_of.new.files) work n c.args.table.now c.in_ok-inputs.inputs rows (g.F.Files.begun c.args.files.now) (g.F.Files.begun c.plan_of.new.files) (g.F.Files.begun c.read_table.new.files) w refl
    c.in_ok-plan.ensures.ok c.in_ok-plan.ensures.contents (rw (c.net-2.ensures.same, c.net.ensures.same) at c.in_ok-inputs.ensures)
    (omega (arith, c.in_ok-plan.ensures.begun, length-map c.args.models.now string_bytes)) c.in_ok-rows.ensures.begun c.in_ok-rows.ensures.ok in
    rw (p.1, p.2)
    (cut_off task contents work n c.args.table.now rows (g.F.Files.begun c.args.files.now) (g.F.Files.begun c.read_table.new.files) _ _ _ c.in_err-write_trace.field-0.0 _ _ r c.in_err-write_trace.ensures.err c.in_err-write_trace.ensures.answered)

pub returns-clause-works : goal.returns-clause-works
returns-clause-works g c =
    let models = map string_bytes c.args.models.now in
    let task = RunOf c.args.class.now c.args.table.now models in
    let contents = g.F.Files.contents c.args.files.now in
    let work : Work = record { sequence = sequence c.args.class.now models; ask = ForRun c.args.table.now } in
    let w : IsWork task work = record { is = refl; models = refl } in
    let n = c.in_ok-plan.plan.net in
    let rows = c.in_ok-rows.rows in
    let r = runs task contents (g.F.Files.contents c.plan_of.new.files) work n c.args.table.now c.in_ok-inputs.inputs rows (g.F.Files.begun c.args.files.now) (g.F.Files.begun c.plan_of.new.files) (g.F.Files.begun c.read_table.new.files) w refl
    c.in_ok-plan.ensures.ok c.in_ok-plan.ensures.contents (rw (c.net-2.ensures.same, c.net.ensures.same) at c.in_ok-inputs.ensures)
    (omega (arith, c.in_ok-plan.ensures.begun, length-map c.args.models.now string_bytes)) c.in_ok-rows.ensures.begun c.in_ok-rows.ensures.ok in
    ran_through task contents work n c.args.table.now rows (g.F.Files.begun c.args.files.now) (g.F.Files.begun c.read_table.new.files) _ _ _ _ r c.in_ok-write_trace.ensures.ok
