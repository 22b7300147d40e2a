use Rattle.std.proofs.Common.{ap, Err, subst}
use Rattle.std.proofs.lemmas.Result.{err_from_is_err_and}
use Rattle.cdl_command.specs.inner.Reads.{RefusesBytes}
use Rattle.cdl_command.specs.Texts.{HasTree}
use Rattle.cdl_command.proofs.ReadFacts.{held}
use Rattle.cdl_command.proofs.TextFacts.{calm, fault_answered, not_whole_read, text_refused}
use Rattle.cdl_command.proofs.texts.read_model.Goals as goal

pub returns-in-Err-clause-err : goal.returns-in-Err-clause-err
returns-in-Err-clause-err g c =
    rw c.not_whole.ensures
    (not_whole_read (g.F.Files.contents c.args.files.now) c.args.name.now c.args.file c.in-Err.e _ (λ is. c.in-Err.ensures.failed (ap Err is)) (λ none. cc (c.in-Err.ensures.absent none)) c.in-Err.ensures.too_large)

pub returns-in-Err-clause-answered : goal.returns-in-Err-clause-answered
returns-in-Err-clause-answered g c =
    rw c.not_whole.ensures (fault_answered _ _ c.args.file c.in-Err.e c.in-Err.ensures.answered)

pub returns-in_err-tree-clause-err : goal.returns-in_err-tree-clause-err
returns-in_err-tree-clause-err g c =
    let p = err_from_is_err_and c.from_residual.result c.from_residual.ensures.1 in
    let holds = held (g.F.Files.contents c.args.files.now) c.args.name.now c.in-Ok.text (λ none. absurd (cc (c.in-Ok.ensures.absent none))) c.in-Ok.ensures.whole in
    rw (p.1, p.2) (text_refused (g.F.Files.contents c.args.files.now) c.args.name.now c.in-Ok.text c.args.file _ _ holds (rw c.bytes.ensures at c.in_err-tree.ensures.err))

pub returns-in_err-tree-clause-answered : goal.returns-in_err-tree-clause-answered
returns-in_err-tree-clause-answered g c =
    let p = err_from_is_err_and c.from_residual.result c.from_residual.ensures.1 in
    rw (p.1, p.2) (calm (RefusesBytes c.args.file c.bytes.result.now) _ _ _ c.in-Ok.ensures.answered c.in_err-tree.ensures.err)

pub returns-clause-holds : goal.returns-clause-holds
returns-clause-holds g c =
    held (g.F.Files.contents c.args.files.now) c.args.name.now c.in-Ok.text (λ none. absurd (cc (c.in-Ok.ensures.absent none))) c.in-Ok.ensures.whole

pub returns-clause-tree : goal.returns-clause-tree
returns-clause-tree g c = subst (λ b. HasTree b c.in_ok-tree.tree) c.bytes.ensures c.in_ok-tree.ensures.ok
