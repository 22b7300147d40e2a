use Rattle.std.proofs.Common.{◌∙◌, List, ap}
use Rattle.csv.specs.Writing.{default_writer, row_text}
use Rattle.cdl_table.specs.declared.column.Column.{Column}
use Rattle.cdl_table.specs.Trace.{header_text}
use Rattle.cdl_table.proofs.TraceFacts.{on_err}
use Rattle.cdl_table.proofs.trace.TraceWriter.header.Goals as goal

pub returns-in_err-write_whole-clause-err : goal.returns-in_err-write_whole-clause-err
returns-in_err-write_whole-clause-err g c =
    let text = c.as_slice.ensures.value ∙ c.in_ok-text.ensures ∙ ap (row_text default_writer) c.in_ok-fields.ensures
    ∙ ap (λ (o : List Column). header_text o) (c.items.ensures ∙ c.self.view_is) in
    let some = c.in_err-write_whole.ensures.err in
    on_err _ (rw text at some)
