use Rattle.std.proofs.Common.{◌≡◌, ◌∙◌, Ok, ap, arith, refl, rules, sym, ◌<ℤ◌, ◌≤ℤ◌, to_z, of_z, w64}
use mir.Val.{SFits}
use Rattle.std.proofs.lemmas.Int.{ints}
use Rattle.std.specs.Prelude.{pos}
use Rattle.csv.specs.Records.{fields_of}
use Rattle.cdl_table.specs.inner.Scan.{with_time}
use Rattle.cdl_table.specs.TableRow.{row_with}
use Rattle.cdl_table.proofs.TableFacts.{row-early, row-no_time, row-none, row-rises, words-names}
use Rattle.cdl_table.proofs.record.read_row.Goals as goal

pub returns-in_default-clause-err : goal.returns-in_default-clause-err
returns-in_default-clause-err c = (refl, row-none c.args.inputs.now c.args.last (fields_of c.args.csv_record.now) (sym c.in_default.ensures.value))

pub returns-in_default-read_time-clause-err : goal.returns-in_default-read_time-clause-err
returns-in_default-read_time-clause-err c =
    (refl, row-no_time c.args.inputs.now c.args.last (fields_of c.args.csv_record.now) c.in-Some.field.now (sym c.len.ensures ∙ c.if-len-inputs.false) (sym c.in-Some.ensures.value) (sym c.in_default-read_time.ensures))

pub returns-then-time-last-clause-err : goal.returns-then-time-last-clause-err
returns-then-time-last-clause-err c =
    let fits : SFits w64 c.in-Some-read_time.time = search rules in
    let early : c.in-Some-read_time.time ≤ℤ c.args.last = grind (arith, ints) in
    (refl, row-early c.args.inputs.now c.args.last (fields_of c.args.csv_record.now) c.in-Some.field.now c.in-Some-read_time.time (sym c.len.ensures ∙ c.if-len-inputs.false) (sym c.in-Some.ensures.value) (sym c.in-Some-read_time.ensures) early)

pub returns-in-Ok-clause-ok : goal.returns-in-Ok-clause-ok
returns-in-Ok-clause-ok c =
    let v = c.in-Ok.ensures.ok in
    let fits : SFits w64 c.in-Some-read_time.time = search rules in
    let rises : c.args.last <ℤ c.in-Some-read_time.time = grind (arith, ints) in
    let same : to_z w64 (of_z w64 c.in-Some-read_time.time) ≡ c.in-Some-read_time.time = omega (arith, ints) in (
      v.0,
      v.1,
      row-rises c.args.inputs.now c.args.last (fields_of c.args.csv_record.now) c.in-Some.field.now c.in-Some-read_time.time (sym c.len.ensures ∙ c.if-len-inputs.false) (sym c.in-Some.ensures.value)
          (sym c.in-Some-read_time.ensures) rises
          ∙ ap (with_time c.in-Some-read_time.time) v.2
          ∙ ap (λ t. Ok (row_with t v.0)) (sym same),
    )

pub returns-in-Err-clause-err : goal.returns-in-Err-clause-err
returns-in-Err-clause-err c =
    let fits : SFits w64 c.in-Some-read_time.time = search rules in
    let rises : c.args.last <ℤ c.in-Some-read_time.time = grind (arith, ints) in
    rw (row-rises c.args.inputs.now c.args.last (fields_of c.args.csv_record.now) c.in-Some.field.now c.in-Some-read_time.time (sym c.len.ensures ∙ c.if-len-inputs.false) (sym c.in-Some.ensures.value) (sym c.in-Some-read_time.ensures) rises)
    (words-names c.args.number (pos 0) c.in-Some-read_time.time _ c.in-Err.e c.in-Err.ensures.err)
