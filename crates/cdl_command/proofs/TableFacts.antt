-- What was read of a table.
use Rattle.std.proofs.Common.{◌≡◌, ◌∙◌, ◌≤◌, ◌<◌, ℕ, List, length, refl, sym, ap, subst, inl, inr, arith}
use Rattle.cdl_source.specs.Outside.{told, IsAbsent}
use Rattle.cdl_source.specs.Whole.{KeepsHead}
use Rattle.cdl_source.specs.declared.limits.TheConstants.{LONGEST_TABLE}
use Rattle.cdl_source.specs.declared.rules.TheConstants.{TABLE_TOO_LONG}
use Rattle.cdl_source.specs.declared.whole.ReadError.TheVariants.{TooLarge}
use Rattle.cdl_table.specs.declared.column.Column.{Column}
use Rattle.cdl_table.specs.Broken.{IsFirstBroken}
use Rattle.cdl_table.specs.IsTable.{IsTable}
use Rattle.cdl_table.specs.Rows.{table_records}
use Rattle.cdl_table.specs.TableRow.{TableRow}
use Rattle.cdl_command.specs.inner.Reads.{RefusesTable}
use Rattle.cdl_command.specs.inner.Stops.{refusal_of}
use Rattle.cdl_command.specs.Tables.{HoldsRows, BreaksTable, IsOnlyFirst}
use Rattle.cdl_command.specs.Texts.{Contents, Holds}
use Rattle.cdl_job.specs.declared.outcome.Spot.TheVariants.{Cell, Whole}
use Rattle.cdl_command.specs.declared.stop.Refusal.{Refusal}
use Rattle.cdl_command.proofs.ReadFacts.{longer}

pub rows_read : (contents : Contents) (name : List ℕ) (inputs : List Column) (text read : List ℕ) (rows : List TableRow) → Holds contents name text → length text ≤ LONGEST_TABLE → read ≡ text
    → IsTable inputs (table_records read) rows → ((other : List TableRow) → IsTable inputs (table_records read) other → other ≡ rows) → HoldsRows contents name inputs rows
rows_read contents name inputs text read rows holds within e is only =
    (text, holds, ((within, subst (λ b. IsTable inputs (table_records b) rows) e is), λ other o. only other (subst (λ b. IsTable inputs (table_records b) other) (sym e) o.1)))

long_table : (inputs : List Column) (bytes : List ℕ) → LONGEST_TABLE < length bytes → BreaksTable inputs bytes 60 Whole
long_table inputs bytes long =
    record {
      none = λ rows t. absurd (omega (arith, t.0, long));
      first = inl (long, refl, refl);
      only = λ r s b. elim b [
        | inl t ↦ (t.1, t.2)
        | inr h ↦ absurd (omega (arith, h.short, long))
      ];
    }

pub too_long : (contents : Contents) (name : List ℕ) (inputs : List Column) (head : List ℕ) (r : Refusal) → (IsAbsent contents name → ⊥) → KeepsHead LONGEST_TABLE (told contents name) (TooLarge head)
    → r ≡ refusal_of TABLE_TOO_LONG Whole → RefusesTable contents name inputs r
too_long contents name inputs head r there keeps is =
    let t = longer LONGEST_TABLE contents name head there keeps in
    record { bytes = t.0; rule = TABLE_TOO_LONG; spot = Whole; holds = t.1.holds; broken = long_table inputs t.0 t.1.long; refusal_is = is }

only_cell : (inputs : List Column) (bytes : List ℕ) (rule row column : ℕ) → length bytes ≤ LONGEST_TABLE
    → ((a b c : ℕ) → IsFirstBroken inputs (table_records bytes) a b c → (a ≡ rule) × (b ≡ row) × (c ≡ column)) → IsOnlyFirst inputs bytes rule (Cell row column)
only_cell inputs bytes rule row column short only = λ r s b.
    elim b [
      | inl t ↦ absurd (omega (arith, t.0, short))
      | inr h ↦
          let o = only r h.row h.column h.broken in
          (o.0, h.spot_is ∙ ap (λ n. Cell n h.column) o.1 ∙ ap (Cell row) o.2)
    ]

broken_cell : (inputs : List Column) (bytes : List ℕ) (rule row column : ℕ) → length bytes ≤ LONGEST_TABLE → IsFirstBroken inputs (table_records bytes) rule row column
    → ((rows : List TableRow) → IsTable inputs (table_records bytes) rows → ⊥)
    → ((a b c : ℕ) → IsFirstBroken inputs (table_records bytes) a b c → (a ≡ rule) × (b ≡ row) × (c ≡ column)) → BreaksTable inputs bytes rule (Cell row column)
broken_cell inputs bytes rule row column short first none only =
    record {
      none = λ rows t. none rows t.1;
      first = inr (record { short = short; row = row; column = column; broken = first; spot_is = refl });
      only = only_cell inputs bytes rule row column short only;
    }

-- what `Table::check` says of bytes that it refuses
abbrev Refused : List Column → ℕ → ℕ → ℕ → List ℕ → Type 0
Refused inputs rule row column bytes =
    IsFirstBroken inputs (table_records bytes) rule row column × ((rows : List TableRow) → IsTable inputs (table_records bytes) rows → ⊥)
    × ((a b c : ℕ) → IsFirstBroken inputs (table_records bytes) a b c → (a ≡ rule) × (b ≡ row) × (c ≡ column))

pub table_refused : (contents : Contents) (name : List ℕ) (inputs : List Column) (text read : List ℕ) (rule row column : ℕ) (r : Refusal) → Holds contents name text → length text ≤ LONGEST_TABLE
    → read ≡ text → IsFirstBroken inputs (table_records read) rule row column → ((rows : List TableRow) → IsTable inputs (table_records read) rows → ⊥)
    → ((a b c : ℕ) → IsFirstBroken inputs (table_records read) a b c → (a ≡ rule) × (b ≡ row) × (c ≡ column)) → r ≡ refusal_of rule (Cell row column)
    → RefusesTable contents name inputs r
table_refused contents name inputs text read rule row column r holds within e first none only is =
    let here : Refused inputs rule row column text = subst (Refused inputs rule row column) e (first, none, only) in
    record {
      bytes = text;
      rule = rule;
      spot = Cell row column;
      holds = holds;
      broken = broken_cell inputs text rule row column within here.0 here.1 here.2;
      refusal_is = is;
    }
