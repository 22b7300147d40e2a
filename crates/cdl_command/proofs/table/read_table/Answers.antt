use Rattle.cdl_command.proofs.ReadFacts.{held}
use Rattle.cdl_command.proofs.TableFacts.{rows_read, table_refused, too_long}
use Rattle.cdl_command.proofs.table.read_table.Goals as goal

pub returns-in-Err-TooLarge-clause-err : goal.returns-in-Err-TooLarge-clause-err
returns-in-Err-TooLarge-clause-err g c =
    too_long (g.F.Files.contents c.args.files.now) c.args.name.now c.args.inputs.now _ c.refusal_of.result
    (λ none. absurd (cc (rw c.in-Err-TooLarge.field-0-is at (c.in-Err-TooLarge.ensures.absent none)))) (rw c.in-Err-TooLarge.field-0-is at c.in-Err-TooLarge.ensures.too_large) c.refusal_of.ensures

pub returns-in-Ok-check-clause-ok : goal.returns-in-Ok-check-clause-ok
returns-in-Ok-check-clause-ok g c =
    rows_read (g.F.Files.contents c.args.files.now) c.args.name.now c.args.inputs.now c.in-Ok.text c.bytes.result.now c.in-Ok-check.table (held (g.F.Files.contents c.args.files.now) c.args.name.now c.in-Ok.text (λ none. absurd (cc (c.in-Ok.ensures.absent none))) c.in-Ok.ensures.whole) c.in-Ok.ensures.within c.bytes.ensures
    c.in-Ok-check.ensures.ok c.in-Ok-check.ensures.only

pub returns-clause-err : goal.returns-clause-err
returns-clause-err g c =
    table_refused (g.F.Files.contents c.args.files.now) c.args.name.now c.args.inputs.now c.in-Ok.text c.bytes.result.now _ _ _ c.refusal_of-in-Err-Rule.result (held (g.F.Files.contents c.args.files.now) c.args.name.now c.in-Ok.text (λ none. absurd (cc (c.in-Ok.ensures.absent none))) c.in-Ok.ensures.whole)
    c.in-Ok.ensures.within c.bytes.ensures (rw c.in-Err-Rule.field-0-is at c.in-Err-Rule.ensures.first) (rw c.in-Err-Rule.field-0-is at c.in-Err-Rule.ensures.refused)
    (rw c.in-Err-Rule.field-0-is at c.in-Err-Rule.ensures.only_first) c.refusal_of-in-Err-Rule.ensures
