use Rattle.std.proofs.Common.{ℤ, ◌+◌, of_z, rules, to_z, w64, ◌≡◌, ◌∙◌, ◌∷◌, ◌++◌, [], ap, arith, length, refl, sym}
use Rattle.std.proofs.lemmas.Result.{err_from_is_err_and}
use mir.Val.{SFits}
use Rattle.std.proofs.lemmas.Int.{ints}
use Rattle.csv.specs.Records.{fields_of}
use Rattle.cdl_table.specs.inner.Scan.{rows_from, table_of}
use Rattle.cdl_table.specs.TableRow.{TableRow, row_with, rows_of}
use Rattle.cdl_table.proofs.FlatFacts.{flat-push, rows-push}
use Rattle.cdl_table.proofs.RowFacts.{first_record-few}
use Rattle.cdl_table.proofs.TableFacts.{rows-many, rows-more, rows-wrong, table-header, table-rows}
use Rattle.cdl_table.proofs.TableLaw.{header-width, row-width}
use Rattle.cdl_table.proofs.scan.scan.Goals as goal

pub returns-then-not-branch-clause-err : goal.returns-then-not-branch-clause-err
returns-then-not-branch-clause-err c =
    let none = rw c.if-not-branch.true at (c.in_ok-next_row.ensures _ c.open_rows-records.ensures) in
    ap (table_of c.args.inputs.now) none

pub header_column-requires : goal.header_column-requires
header_column-requires c =
    let g = rw c.if-not-branch.false at (c.in_ok-next_row.ensures _ c.open_rows-records.ensures) in
    omega (arith, first_record-few c.args.bytes.now (fields_of c.next_row.new.row) g.0 g.1)

pub returns-in-Some-clause-err : goal.returns-in-Some-clause-err
returns-in-Some-clause-err c =
    let g = rw c.if-not-branch.false at (c.in_ok-next_row.ensures _ c.open_rows-records.ensures) in
    ap (table_of c.args.inputs.now) g.1 ∙ table-header c.args.inputs.now (fields_of c.next_row.new.row) g.0 c.in-Some.column (sym c.in-Some.ensures)

pub loop-words-init : goal.loop-words-init
loop-words-init c =
    let g = rw c.if-not-branch.false at (c.in_ok-next_row.ensures _ c.open_rows-records.ensures) in
    let width = header-width c.args.inputs.now (fields_of c.next_row.new.row) (sym c.in_default.ensures) in
    let fields = first_record-few c.args.bytes.now (fields_of c.next_row.new.row) g.0 g.1 in
    record {
      counted = omega arith;
      few = omega (arith, width, fields);
      flat = rw (c.new-times.ensures, c.new-words.ensures) (omega arith);
      rest = g.0;
      gives = g.2;
      same = rw c.new-times.ensures (ap (table_of c.args.inputs.now) g.1 ∙ table-rows c.args.inputs.now (fields_of c.next_row.new.row) g.0 (sym c.in_default.ensures));
    }

pub returns-then-number-eq-FIRST_TOO_MANY-clause-err : goal.returns-then-number-eq-FIRST_TOO_MANY-clause-err
returns-then-number-eq-FIRST_TOO_MANY-clause-err c =
    let inv = c.loop-words.invariant in
    let g = rw c.if-branch.true at (c.in_ok-next_row-2.ensures inv.rest inv.gives) in
    rw (inv.same, g.1) (rows-many c.args.inputs.now c.loop-words.number (to_z w64 c.loop-words.last-bits) (rows_of (length c.args.inputs.now) c.loop-words.times c.loop-words.words) (fields_of c.next_row-in-loop-words.new.row) g.0 c.if-number-eq-FIRST_TOO_MANY.true)

pub returns-in_err-time-clause-err : goal.returns-in_err-time-clause-err
returns-in_err-time-clause-err c =
    let inv = c.loop-words.invariant in
    let g = rw c.if-branch.true at (c.in_ok-next_row-2.ensures inv.rest inv.gives) in
    let p = err_from_is_err_and c.from_residual-in_err-time.result c.from_residual-in_err-time.ensures.1 in
    rw (p.1, p.2, inv.same, g.1)
    (rows-wrong c.args.inputs.now c.loop-words.number (to_z w64 c.loop-words.last-bits) (rows_of (length c.args.inputs.now) c.loop-words.times c.loop-words.words) (fields_of c.next_row-in-loop-words.new.row) g.0 c.in_err-time.field-0.0 (omega arith) c.in_err-time.ensures.err)

pub loop-words-preserved : goal.loop-words-preserved
loop-words-preserved c =
    let inv = c.loop-words.invariant in
    let g = rw c.if-branch.true at (c.in_ok-next_row-2.ensures inv.rest inv.gives) in
    let fits : SFits w64 c.in_ok-time.time = search rules in
    let time : to_z w64 (of_z w64 c.in_ok-time.time) ≡ c.in_ok-time.time = omega (arith, ints) in
    let v = c.in_ok-time.ensures.ok in
    let row : TableRow = row_with c.in_ok-time.time v.0 in
    let last : ℤ = to_z w64 c.loop-words.last-bits in
    let width = row-width c.args.inputs.now last (fields_of c.next_row-in-loop-words.new.row) row v.2 in
    let pushed : c.push.new.self ≡ c.loop-words.times ++ c.in_ok-time.time ∷ [] = c.in_ok-push.ensures.ok ∙ ap (λ t. c.loop-words.times ++ t ∷ []) time in
    record {
      counted = omega arith;
      few = inv.few;
      flat = rw (v.1, pushed) (flat-push (length c.args.inputs.now) c.loop-words.times c.loop-words.words c.in_ok-time.time v.0 inv.flat width);
      rest = g.0;
      gives = g.2;
      same =
          inv.same
          ∙ ap (rows_from c.args.inputs.now c.loop-words.number last (rows_of (length c.args.inputs.now) c.loop-words.times c.loop-words.words)) g.1
          ∙ rows-more c.args.inputs.now c.loop-words.number last (rows_of (length c.args.inputs.now) c.loop-words.times c.loop-words.words) (fields_of c.next_row-in-loop-words.new.row) g.0 row (omega arith) v.2
          ∙ ap (λ d. rows_from c.args.inputs.now (c.loop-words.number + 1) c.in_ok-time.time d g.0) (
          sym (rows-push (length c.args.inputs.now) c.loop-words.times c.loop-words.words c.in_ok-time.time v.0 inv.flat width)
          ∙ ap (λ ts. rows_of (length c.args.inputs.now) ts (c.loop-words.words ++ v.0)) (sym pushed)
          ∙ ap (λ ws. rows_of (length c.args.inputs.now) c.push.new.self ws) (sym v.1)
          )
          ∙ ap (λ t. rows_from c.args.inputs.now (c.loop-words.number + 1) t (rows_of (length c.args.inputs.now) c.push.new.self c.read_row.new.words) g.0) (sym time);
    }

pub returns-clause-ok : goal.returns-clause-ok
returns-clause-ok c =
    let inv = c.loop-words.invariant in
    let none = rw c.if-branch.false at (c.in_ok-next_row-2.ensures inv.rest inv.gives) in
    rw (inv.same, none) refl

pub next_row-requires : goal.next_row-requires
next_row-requires c = (c.open_rows-records.ensures.flexible, c.open_rows-records.ensures.ready)
