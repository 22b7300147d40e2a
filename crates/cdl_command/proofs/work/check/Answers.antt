use Rattle.std.proofs.Common.{arith, map, refl, string_bytes}
use Rattle.std.proofs.lemmas.List.{length-map}
use Rattle.std.proofs.lemmas.Result.{err_from_is_err_and}
use Rattle.cdl_job.specs.Job.{CheckOf}
use Rattle.cdl_command.specs.Answer.{sequence}
use Rattle.cdl_command.specs.Verdict.{ForCheck, Work, checked_text}
use Rattle.cdl_command.proofs.WorkFacts.{IsWork, check_done, fault_told, halted, not_ok, ok}
use Rattle.cdl_command.proofs.work.check.Goals as goal

pub returns-in_err-plan_of-clause-works : goal.returns-in_err-plan_of-clause-works
returns-in_err-plan_of-clause-works g c =
    let p = err_from_is_err_and c.from_residual.result c.from_residual.ensures.1 in
    let models = map string_bytes c.args.models.now in
    let work : Work = record { sequence = sequence c.args.class.now models; ask = ForCheck } in
    let w : IsWork (CheckOf c.args.class.now models) work = record { is = refl; models = refl } in
    rw (p.1, p.2) (halted (CheckOf c.args.class.now models) (g.F.Files.contents c.args.files.now) work _ _ _ _ _ _ w c.in_err-plan_of.ensures.err)

pub returns-in_err-plan_of-clause-read_fault : goal.returns-in_err-plan_of-clause-read_fault
returns-in_err-plan_of-clause-read_fault g c = λ rose.
    let p = err_from_is_err_and c.from_residual.result c.from_residual.ensures.1 in
    rw (p.1, p.2) (fault_told _ _ _ c.in_err-plan_of.ensures.answered rose)

pub returns-in_err-write_whole-clause-works : goal.returns-in_err-write_whole-clause-works
returns-in_err-write_whole-clause-works g c =
    let p = err_from_is_err_and c.from_residual-in_err-write_whole.result c.from_residual-in_err-write_whole.ensures.1 in
    let models = map string_bytes c.args.models.now in
    let work : Work = record { sequence = sequence c.args.class.now models; ask = ForCheck } in
    let w : IsWork (CheckOf c.args.class.now models) work = record { is = refl; models = refl } in
    rw (p.1, p.2)
    (not_ok (CheckOf c.args.class.now models) (g.F.Files.contents c.args.files.now) work _ checked_text _ _ _ _ _ _ w (check_done (g.F.Files.contents c.args.files.now) work _ refl c.in_ok-plan_of.ensures.ok) c.in_ok-plan_of.ensures.ok
    (omega (arith, c.in_ok-plan_of.ensures.begun, length-map c.args.models.now string_bytes)) c.in_err-write_whole.ensures.err c.in_err-write_whole.ensures.cause.failed)

pub returns-clause-works : goal.returns-clause-works
returns-clause-works g c =
    let models = map string_bytes c.args.models.now in
    let work : Work = record { sequence = sequence c.args.class.now models; ask = ForCheck } in
    let w : IsWork (CheckOf c.args.class.now models) work = record { is = refl; models = refl } in
    ok (CheckOf c.args.class.now models) (g.F.Files.contents c.args.files.now) work _ checked_text _ _ _ _ _ _ w (check_done (g.F.Files.contents c.args.files.now) work _ refl c.in_ok-plan_of.ensures.ok) c.in_ok-plan_of.ensures.ok
    (omega (arith, c.in_ok-plan_of.ensures.begun, length-map c.args.models.now string_bytes)) c.in_ok-write_whole.ensures.ok
