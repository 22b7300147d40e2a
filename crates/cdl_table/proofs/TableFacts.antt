-- How the loops over a record's fields and over the records follow what a table's rows are.
use Rattle.std.proofs.Common.{◌≡◌, ◌≤◌, ◌<◌, ◌+◌, ◌++◌, true, false, ℕ, ℤ, List, [], ◌∷◌, length, drop, get_or, Option, Some, None, Result, Ok, Err, zero, suc, refl, sym, ap, arith, ◌∙◌, inl, inr, add-one, eq-eqb}
use Rattle.std.specs.Prelude.{◌==◌, ◌<ℤ◌, ◌≤ℤ◌, option_and_then}
use Rattle.std.specs.Int.RustNames.{int_lt}
use Rattle.std.specs.Str.{bytes_eq}
use Rattle.std.proofs.lemmas.Bool.{cases_Bool}
use Rattle.std.proofs.lemmas.Bool.Decides.{nat_tests}
use Rattle.std.proofs.lemmas.Int.{ints}
use Rattle.std.proofs.lemmas.List.{drop_all, length-map}
use Rattle.std.proofs.lemmas.Slice.Eq.{bytes_eq-Decides}
use Rattle.std.proofs.Math.Seq.{drop-cons}
use Rattle.csv.specs.Records.{field_at}
use Rattle.cdl_table.specs.declared.column.Column.{Column}
use Rattle.cdl_table.specs.declared.table.TableFault.{TableFault}
use Rattle.cdl_table.specs.declared.table.TableFault.TheVariants.{OutOfMemory, Rule}
use Rattle.cdl_table.specs.Broken.{first_too_many}
use Rattle.cdl_table.specs.Cells.{time_of, word_of}
use Rattle.cdl_table.specs.IsTable.{before_all, header_of, names_of}
use Rattle.cdl_table.specs.inner.Scan.{Broken, Names, NamesIn, at_time, cells_of, header_fault, row_of, row_or, rows_from, table_of, with_time, words_from}
use Rattle.cdl_table.specs.TableRow.{TableRow}

-- the fields from a place on, by the field there
pub drop-field : (fs : List (List ℕ)) (i : ℕ) (f : List ℕ) → field_at fs i ≡ Some f → drop i fs ≡ f ∷ drop (suc i) fs
unfolding field_at
drop-field [] i f e = cc
drop-field (x ∷ xs) zero f e = cc
drop-field (x ∷ xs) (suc i) f e = drop-field xs i f e

pub drop-no_field : (fs : List (List ℕ)) (i : ℕ) → field_at fs i ≡ None → drop i fs ≡ []
unfolding field_at
drop-no_field [] zero e = refl
drop-no_field [] (suc i) e = refl
drop-no_field (x ∷ xs) zero e = cc
drop-no_field (x ∷ xs) (suc i) e = drop-no_field xs i e

-- a field stands among the fields
pub field-within : (fs : List (List ℕ)) (i : ℕ) (f : List ℕ) → field_at fs i ≡ Some f → i < length fs
unfolding field_at
field-within [] i f e = absurd (cc e)
field-within (x ∷ xs) zero f e = omega arith
field-within (x ∷ xs) (suc i) f e = omega (arith, field-within xs i f e)

-- the names from a column on
drop-names : (inputs : List Column) (i : ℕ) (x : Column) → i < length inputs → x ≡ get_or inputs i x → drop i (names_of inputs) ≡ x.name ∷ drop (suc i) (names_of inputs)
drop-names [] i x h e = absurd (omega arith)
drop-names (y ∷ ys) zero x h e = rw e refl
drop-names (y ∷ ys) (suc i) x h e = drop-names ys i x (omega arith) e

header-hit : (column : ℕ) (n : List ℕ) (ns fs : List (List ℕ)) → header_fault column (n ∷ ns) (n ∷ fs) ≡ header_fault (column + 1) ns fs
header-hit column n ns fs =
    let same : bytes_eq n n ≡ true = (bytes_eq-Decides n n).1 refl in
    rw same refl

pub header-miss : (column : ℕ) (n : List ℕ) (ns fs : List (List ℕ)) (i : ℕ) → (field_at fs i ≡ Some n → ⊥) → header_fault column (n ∷ ns) (drop i fs) ≡ Some column
header-miss column n ns fs i never =
    let go : (o : Option (List ℕ)) → field_at fs i ≡ o → header_fault column (n ∷ ns) (drop i fs) ≡ Some column =
    λ o. elim o as (λ o. field_at fs i ≡ o → header_fault column (n ∷ ns) (drop i fs) ≡ Some column) [
      | None ↦ λ e. rw (drop-no_field fs i e) refl
      | Some f ↦ λ e. elim (cases_Bool (bytes_eq f n)) [
        | inl same ↦ absurd (never (e ∙ ap Some ((bytes_eq-Decides f n).0 same)))
        | inr differs ↦ rw (drop-field fs i f e, differs) refl
      ]
    ]
    in go (field_at fs i) refl

pub header-first : (n : List ℕ) (ns fs : List (List ℕ)) → field_at fs 0 ≡ Some n → header_fault 1 (n ∷ ns) fs ≡ header_fault 2 ns (drop 1 fs)
header-first n ns fs e =
    let first : fs ≡ n ∷ drop 1 fs = drop-field fs 0 n e in
    ap (header_fault 1 (n ∷ ns)) first ∙ header-hit 1 n ns (drop 1 fs)

-- one more column, whose name stands in the header
pub header-more : (inputs : List Column) (fs : List (List ℕ)) (i : ℕ) (x : Column) → i < length inputs → x ≡ get_or inputs i x → field_at fs (i + 1) ≡ Some x.name
    → header_fault (i + 2) (drop i (names_of inputs)) (drop (i + 1) fs) ≡ header_fault (i + 1 + 2) (drop (i + 1) (names_of inputs)) (drop (i + 1 + 1) fs)
header-more inputs fs i x h e f =
    let column : i + 2 + 1 ≡ i + 1 + 2 = omega arith in
    rw (drop-names inputs i x h e, drop-field fs (i + 1) x.name f)
    (header-hit (i + 2) x.name (drop (suc i) (names_of inputs)) (drop (suc (i + 1)) fs)
    ∙ rw (column, add-one, add-one) refl)

pub header-differs : (inputs : List Column) (fs : List (List ℕ)) (i : ℕ) (x : Column) → i < length inputs → x ≡ get_or inputs i x → (field_at fs (i + 1) ≡ Some x.name → ⊥)
    → header_fault (i + 2) (drop i (names_of inputs)) (drop (i + 1) fs) ≡ Some (i + 2)
header-differs inputs fs i x h e f =
    rw (drop-names inputs i x h e) (header-miss (i + 2) x.name (drop (suc i) (names_of inputs)) fs (i + 1) f)

no-names : (inputs : List Column) (i : ℕ) → length inputs ≤ i → drop i (names_of inputs) ≡ []
no-names inputs i h = drop_all i (names_of inputs) (rw length-map h)

pub header-ends : (inputs : List Column) (fs : List (List ℕ)) (i : ℕ) → length inputs ≡ i → field_at fs (length inputs + 1) ≡ None
    → header_fault (i + 2) (drop i (names_of inputs)) (drop (i + 1) fs) ≡ None
header-ends inputs fs i h f =
    let here : field_at fs (i + 1) ≡ None = rw h at f in
    rw (no-names inputs i (omega arith), drop-no_field fs (i + 1) here) refl

pub header-goes_on : (inputs : List Column) (fs : List (List ℕ)) (i : ℕ) (x : List ℕ) → length inputs ≡ i → field_at fs (length inputs + 1) ≡ Some x
    → header_fault (i + 2) (drop i (names_of inputs)) (drop (i + 1) fs) ≡ Some (length inputs + 2)
header-goes_on inputs fs i x h f =
    let here : field_at fs (i + 1) ≡ Some x = rw h at f in
    rw (no-names inputs i (omega arith), drop-field fs (i + 1) x here, h) refl

-- the columns from a place on, by the column there
pub drop-column : (columns : List Column) (i : ℕ) (x : Column) → i < length columns → x ≡ get_or columns i x → drop i columns ≡ x ∷ drop (suc i) columns
drop-column columns i x h at = rw (sym at) at (drop-cons columns i x h)

-- a field without a word, and one more word
pub words-stop : (column : ℕ) (done : List ℤ) (columns : List Column) (fs : List (List ℕ)) (i : ℕ) (x : Column) → i < length columns → x ≡ get_or columns i x
    → option_and_then (word_of x.value_type) (field_at fs (i + 1)) ≡ None → words_from column done (drop i columns) (drop (i + 1) fs) ≡ Err column
words-stop column done columns fs i x h at is =
    let go : (g : Option (List ℕ)) → field_at fs (i + 1) ≡ g → option_and_then (word_of x.value_type) g ≡ None → words_from column done (drop i columns) (drop (i + 1) fs) ≡ Err column =
    λ g. elim g as (λ g. field_at fs (i + 1) ≡ g → option_and_then (word_of x.value_type) g ≡ None → words_from column done (drop i columns) (drop (i + 1) fs) ≡ Err column) [
      | None ↦ λ e b. rw (drop-column columns i x h at, drop-no_field fs (i + 1) e) refl
      | Some f ↦ λ e b. let none : word_of x.value_type f ≡ None = b in rw (drop-column columns i x h at, drop-field fs (i + 1) f e, none) refl
    ]
    in go (field_at fs (i + 1)) refl is

pub words-more : (column : ℕ) (done : List ℤ) (columns : List Column) (fs : List (List ℕ)) (i : ℕ) (x : Column) (w : ℤ) → i < length columns → x ≡ get_or columns i x
    → option_and_then (word_of x.value_type) (field_at fs (i + 1)) ≡ Some w
    → words_from column done (drop i columns) (drop (i + 1) fs) ≡ words_from (column + 1) (done ++ w ∷ []) (drop (i + 1) columns) (drop (i + 1 + 1) fs)
words-more column done columns fs i x w h at is =
    let go : (g : Option (List ℕ)) → field_at fs (i + 1) ≡ g → option_and_then (word_of x.value_type) g ≡ Some w
    → words_from column done (drop i columns) (drop (i + 1) fs) ≡ words_from (column + 1) (done ++ w ∷ []) (drop (i + 1) columns) (drop (i + 1 + 1) fs) =
    λ g. elim g as (λ g. field_at fs (i + 1) ≡ g → option_and_then (word_of x.value_type) g ≡ Some w
    → words_from column done (drop i columns) (drop (i + 1) fs) ≡ words_from (column + 1) (done ++ w ∷ []) (drop (i + 1) columns) (drop (i + 1 + 1) fs)) [
      | None ↦ λ e b. absurd (cc b)
      | Some f ↦ λ e b. let some : word_of x.value_type f ≡ Some w = b in rw (drop-column columns i x h at, drop-field fs (i + 1) f e, some, add-one i, add-one (suc i)) refl
    ]
    in go (field_at fs (i + 1)) refl is

pub words-end : (column : ℕ) (done : List ℤ) (columns : List Column) (fs : List (List ℕ)) (i : ℕ) → length columns ≤ i → words_from column done (drop i columns) fs ≡ Ok done
words-end column done columns fs i h = rw (drop_all i columns h) refl

-- a record of the right length, by its first field
row-first : (columns : List Column) (last : ℤ) (fs : List (List ℕ)) (f : List ℕ) → length fs ≡ length columns + 1 → field_at fs 0 ≡ Some f
    → row_of columns last fs ≡ at_time columns last (drop 1 fs) (time_of f)
row-first columns last fs f h e =
    let long : (length fs == length columns + 1) ≡ true = eq-eqb _ _ h in
    let first : fs ≡ f ∷ drop 1 fs = drop-field fs 0 f e in
    rw long (ap (λ (t : List (List ℕ)). cells_of columns last t) first)

pub row-none : (columns : List Column) (last : ℤ) (fs : List (List ℕ)) → field_at fs 0 ≡ None → row_of columns last fs ≡ Err (61, 1)
row-none columns last fs e =
    let empty : fs ≡ [] = drop-no_field fs 0 e in
    rw empty (elim (cases_Bool (0 == length columns + 1)) [ inl same ↦ rw same refl | inr differs ↦ rw differs refl ])

pub time-early : (columns : List Column) (last t : ℤ) (fs : List (List ℕ)) → t ≤ℤ last → at_time columns last fs (Some t) ≡ Err (64, 1)
time-early columns last t fs h =
    let late : int_lt last t ≡ false = grind (arith, ints) in
    rw late refl

pub time-rises : (columns : List Column) (last t : ℤ) (fs : List (List ℕ)) → last <ℤ t → at_time columns last fs (Some t) ≡ with_time t (words_from 2 [] columns fs)
time-rises columns last t fs h =
    let late : int_lt last t ≡ true = grind (arith, ints) in
    rw late refl

-- what a row is, by what its first field and its other fields are
pub row-no_time : (columns : List Column) (last : ℤ) (fs : List (List ℕ)) (f : List ℕ) → length fs ≡ length columns + 1 → field_at fs 0 ≡ Some f → time_of f ≡ None
    → row_of columns last fs ≡ Err (63, 1)
row-no_time columns last fs f h e t = row-first columns last fs f h e ∙ ap (at_time columns last (drop 1 fs)) t

pub row-early : (columns : List Column) (last : ℤ) (fs : List (List ℕ)) (f : List ℕ) (t : ℤ) → length fs ≡ length columns + 1 → field_at fs 0 ≡ Some f → time_of f ≡ Some t
    → t ≤ℤ last → row_of columns last fs ≡ Err (64, 1)
row-early columns last fs f t h e at early = row-first columns last fs f h e ∙ ap (at_time columns last (drop 1 fs)) at ∙ time-early columns last t (drop 1 fs) early

pub row-rises : (columns : List Column) (last : ℤ) (fs : List (List ℕ)) (f : List ℕ) (t : ℤ) → length fs ≡ length columns + 1 → field_at fs 0 ≡ Some f → time_of f ≡ Some t
    → last <ℤ t → row_of columns last fs ≡ with_time t (words_from 2 [] columns (drop 1 fs))
row-rises columns last fs f t h e at rises = row-first columns last fs f h e ∙ ap (at_time columns last (drop 1 fs)) at ∙ time-rises columns last t (drop 1 fs) rises

-- an error of the words tells the same, at whatever time
pub words-names : (number : ℕ) (t u : ℤ) (r : Result (List ℤ) ℕ) (e : TableFault) → NamesIn number (with_time t r) e → NamesIn number (with_time u r) e
words-names number t u (Ok ws) (Rule rule row column) h = cc h.1
words-names number t u (Err c) (Rule rule row column) h = h
words-names number t u r OutOfMemory h = tt

-- a table, by its header and by one more record
pub table-rows : (inputs : List Column) (h : List (List ℕ)) (rs : List (List (List ℕ))) → header_fault 1 (header_of inputs) h ≡ None
    → table_of inputs (h ∷ rs) ≡ rows_from inputs 2 before_all [] rs
table-rows inputs h rs e = rw e refl

pub table-header : (inputs : List Column) (h : List (List ℕ)) (rs : List (List (List ℕ))) (column : ℕ) → header_fault 1 (header_of inputs) h ≡ Some column
    → table_of inputs (h ∷ rs) ≡ Err (62, 1, column)
table-header inputs h rs column e = rw e refl

pub rows-row : (columns : List Column) (number : ℕ) (last : ℤ) (done : List TableRow) (r : List (List ℕ)) (rs : List (List (List ℕ))) → number < first_too_many
    → rows_from columns number last done (r ∷ rs) ≡ row_or (λ t. rows_from columns (number + 1) t.time (done ++ t ∷ []) rs) number (row_of columns last r)
rows-row columns number last done r rs h =
    let earlier : (number == first_too_many) ≡ false = grind (arith, nat_tests) in
    rw earlier refl

pub rows-more : (columns : List Column) (number : ℕ) (last : ℤ) (done : List TableRow) (r : List (List ℕ)) (rs : List (List (List ℕ))) (t : TableRow) → number < first_too_many
    → row_of columns last r ≡ Ok t → rows_from columns number last done (r ∷ rs) ≡ rows_from columns (number + 1) t.time (done ++ t ∷ []) rs
rows-more columns number last done r rs t h e = rows-row columns number last done r rs h ∙ rw e refl

names-row : {A : Type 0} (number : ℕ) (r : Result TableRow (ℕ × ℕ)) (e : TableFault) (more : TableRow → Result A Broken) → NamesIn number r e → Names (row_or more number r) e
names-row number r (Rule rule row column) more h = rw (h.1, h.0) refl
names-row number r OutOfMemory more h = tt

pub rows-wrong : (columns : List Column) (number : ℕ) (last : ℤ) (done : List TableRow) (r : List (List ℕ)) (rs : List (List (List ℕ))) (e : TableFault) → number < first_too_many
    → NamesIn number (row_of columns last r) e → Names (rows_from columns number last done (r ∷ rs)) e
rows-wrong columns number last done r rs e h n =
    rw (rows-row columns number last done r rs h) (names-row number (row_of columns last r) e (λ t. rows_from columns (number + 1) t.time (done ++ t ∷ []) rs) n)

pub rows-many : (columns : List Column) (number : ℕ) (last : ℤ) (done : List TableRow) (r : List (List ℕ)) (rs : List (List (List ℕ))) → number ≡ first_too_many
    → rows_from columns number last done (r ∷ rs) ≡ Err (66, number, 1)
rows-many columns number last done r rs h =
    let last_one : (number == first_too_many) ≡ true = eq-eqb _ _ h in
    rw last_one refl
