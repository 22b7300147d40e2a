use Rattle.std.proofs.Common.{arith, map, refl, string_bytes, subst, sym}
use Rattle.std.proofs.lemmas.List.{length-map}
use Rattle.std.proofs.lemmas.Result.{err_from_is_err_and}
use Rattle.cdl_connect.specs.declared.net.Net.{Net}
use Rattle.cdl_connect.specs.WellFormed.{IsWellFormed}
use Rattle.cdl_job.specs.Job.{CxfOf}
use Rattle.cdl_command.specs.Answer.{sequence}
use Rattle.cdl_command.specs.Verdict.{ForDocument, Work}
use Rattle.cdl_command.proofs.WorkFacts.{IsWork, at_document, document_done, fault_told, halted, not_ok, ok}
use Rattle.cdl_command.proofs.work.cxf.Goals as goal

pub returns-in_err-checked-clause-works : goal.returns-in_err-checked-clause-works
returns-in_err-checked-clause-works g c =
    let p = err_from_is_err_and c.from_residual.result c.from_residual.ensures.1 in
    let models = map string_bytes c.args.models.now in
    let task = CxfOf c.args.class.now models in
    let contents = g.F.Files.contents c.args.files.now in
    let work : Work = record { sequence = sequence c.args.class.now models; ask = ForDocument } in
    let w : IsWork task work = record { is = refl; models = refl } in
    rw (p.1, p.2) (halted task contents work _ _ _ _ _ _ w c.in_err-checked.ensures.err)

pub returns-in_err-checked-clause-read_fault : goal.returns-in_err-checked-clause-read_fault
returns-in_err-checked-clause-read_fault g c = λ rose.
    let p = err_from_is_err_and c.from_residual.result c.from_residual.ensures.1 in
    rw (p.1, p.2) (fault_told _ _ _ c.in_err-checked.ensures.answered rose)

pub document_of-requires : goal.document_of-requires
document_of-requires g c = subst (λ (n : Net). IsWellFormed n) (sym c.net.ensures.same) c.in_ok-checked.ensures.ok.net_is.stands.formed

pub returns-in_err-text-clause-works : goal.returns-in_err-text-clause-works
returns-in_err-text-clause-works g c =
    let p = err_from_is_err_and c.from_residual-in_err-text.result c.from_residual-in_err-text.ensures.1 in
    let models = map string_bytes c.args.models.now in
    let task = CxfOf c.args.class.now models in
    let contents = g.F.Files.contents c.args.files.now in
    let work : Work = record { sequence = sequence c.args.class.now models; ask = ForDocument } in
    let w : IsWork task work = record { is = refl; models = refl } in
    rw (p.1, p.2)
    (at_document task contents work c.in_ok-checked.checked.net _ _ _ _ _ _ w refl c.in_ok-checked.ensures.ok
    (omega (arith, c.in_ok-checked.ensures.begun, length-map c.args.models.now string_bytes)) (rw c.net.ensures.same at c.in_err-text.ensures.err))

pub returns-in_err-write_whole-clause-works : goal.returns-in_err-write_whole-clause-works
returns-in_err-write_whole-clause-works g c =
    let p = err_from_is_err_and c.from_residual-in_err-write_whole.result c.from_residual-in_err-write_whole.ensures.1 in
    let models = map string_bytes c.args.models.now in
    let task = CxfOf c.args.class.now models in
    let contents = g.F.Files.contents c.args.files.now in
    let work : Work = record { sequence = sequence c.args.class.now models; ask = ForDocument } in
    let w : IsWork task work = record { is = refl; models = refl } in
    rw (p.1, p.2)
    (not_ok task contents work c.in_ok-checked.checked.net c.in_ok-text.text _ _ _ _ _ _ w
    (document_done contents work c.in_ok-checked.checked.net c.in_ok-text.text refl c.in_ok-checked.ensures.ok (rw c.net.ensures.same at c.in_ok-text.ensures.ok)) c.in_ok-checked.ensures.ok
    (omega (arith, c.in_ok-checked.ensures.begun, length-map c.args.models.now string_bytes)) (rw c.bytes.ensures at c.in_err-write_whole.ensures.err) c.in_err-write_whole.ensures.cause.failed)

pub returns-clause-works : goal.returns-clause-works
returns-clause-works g c =
    let models = map string_bytes c.args.models.now in
    let task = CxfOf c.args.class.now models in
    let contents = g.F.Files.contents c.args.files.now in
    let work : Work = record { sequence = sequence c.args.class.now models; ask = ForDocument } in
    let w : IsWork task work = record { is = refl; models = refl } in
    ok task contents work c.in_ok-checked.checked.net c.in_ok-text.text _ _ _ _ _ _ w
    (document_done contents work c.in_ok-checked.checked.net c.in_ok-text.text refl c.in_ok-checked.ensures.ok (rw c.net.ensures.same at c.in_ok-text.ensures.ok)) c.in_ok-checked.ensures.ok
    (omega (arith, c.in_ok-checked.ensures.begun, length-map c.args.models.now string_bytes)) (rw c.bytes.ensures at c.in_ok-write_whole.ensures.ok)
