use Rattle.std.proofs.Common.{◌∙◌, arith, codes, refl, sym, ◌+◌}
use Rattle.std.proofs.lemmas.Bool.{false≢true}
use Rattle.csv.specs.Records.{fields_of}
use Rattle.cdl_table.specs.IsTable.{names_of}
use Rattle.cdl_table.proofs.TableFacts.{field-within, header-differs, header-ends, header-first, header-goes_on, header-miss, header-more}
use Rattle.cdl_table.proofs.header.header_column.Goals as goal

pub returns-then-not-has_field : goal.returns-then-not-has_field
returns-then-not-has_field c = sym (header-miss 1 (codes "time") (names_of c.args.inputs.now) (fields_of c.args.csv_record.now) 0 (λ e. absurd (false≢true (c.if-not-has_field.ensures.1 e))))

pub loop-i-init : goal.loop-i-init
loop-i-init c =
    let first = c.if-not-has_field.ensures.0 refl in
    record {
      rest = header-first (codes "time") (names_of c.args.inputs.now) (fields_of c.args.csv_record.now) first;
      found = field-within (fields_of c.args.csv_record.now) 0 (codes "time") first;
      few = c.requires;
    }

pub returns-then-not-has_field-2 : goal.returns-then-not-has_field-2
returns-then-not-has_field-2 c =
    let never = rw c.bytes.ensures at c.if-not-has_field-2.ensures.1 in
    sym (c.loop-i.invariant.rest ∙ header-differs c.args.inputs.now (fields_of c.args.csv_record.now) c.loop-i.i c.index-inputs-i.result c.loop-i-test.true c.index-inputs-i.is (λ e. absurd (false≢true (never e))))

pub loop-i-preserved : goal.loop-i-preserved
loop-i-preserved c =
    let found = rw c.bytes.ensures at c.if-not-has_field-2.ensures.0 refl in
    record {
      rest = c.loop-i.invariant.rest ∙ header-more c.args.inputs.now (fields_of c.args.csv_record.now) c.loop-i.i c.index-inputs-i.result c.loop-i-test.true c.index-inputs-i.is found;
      found = field-within (fields_of c.args.csv_record.now) (c.loop-i.i + 1) _ found;
      few = c.loop-i.invariant.few;
    }

pub returns-in-None : goal.returns-in-None
returns-in-None c = sym (c.loop-i.invariant.rest ∙ header-ends c.args.inputs.now (fields_of c.args.csv_record.now) c.loop-i.i (omega arith) (sym c.in-None.ensures.value))

pub returns-in-Some : goal.returns-in-Some
returns-in-Some c = sym (c.loop-i.invariant.rest ∙ header-goes_on c.args.inputs.now (fields_of c.args.csv_record.now) c.loop-i.i c.in-Some.field-0.now (omega arith) (sym c.in-Some.ensures.value))
