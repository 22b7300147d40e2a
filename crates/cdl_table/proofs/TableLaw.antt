-- The scan gives rows exactly where they make the records a table.
use Rattle.std.proofs.Common.{◌≡◌, ◌≤◌, ◌+◌, ◌++◌, ◌∙◌, true, ℕ, ℤ, List, [], ◌∷◌, length, Option, Some, None, Result, Ok, Err, refl, sym, ap, arith, inl, inr, append_assoc, eq-eqb}
use Rattle.std.specs.Prelude.{◌==◌, ◌<ℤ◌}
use Rattle.std.specs.Int.RustNames.{int_lt}
use Rattle.std.specs.Str.{bytes_eq}
use Rattle.std.proofs.lemmas.Bool.{cases_Bool}
use Rattle.std.proofs.lemmas.Bool.Decides.{nat_tests}
use Rattle.std.proofs.lemmas.Int.{ints}
use Rattle.std.proofs.lemmas.List.{append-nil, length-map}
use Rattle.std.proofs.lemmas.Slice.Eq.{bytes_eq-Decides}
use borrow.Author.Tests.{eqb-true}
use Rattle.cdl_table.specs.declared.column.Column.{Column}
use Rattle.cdl_table.specs.declared.table.TableFault.{TableFault}
use Rattle.cdl_table.specs.declared.table.TableFault.TheVariants.{OutOfMemory, Rule}
use Rattle.cdl_table.specs.Broken.{Refuses, first_too_many}
use Rattle.cdl_table.specs.Cells.{time_of, word_of}
use Rattle.cdl_table.specs.IsTable.{AreRows, AreWords, IsRow, IsTable, before_all, header_of, names_of}
use Rattle.cdl_table.specs.inner.Scan.{Names, at_time, cells_of, header_fault, header_or, row_of, row_or, rows_from, table_of, with_time, word_or, words_from}
use Rattle.cdl_table.specs.TableRow.{TableRow, row_with}
use Rattle.cdl_table.proofs.TableFacts.{rows-row, table-rows, time-rises}

-- as many cells as columns, and as many words
pub words-count : (cs : List Column) (fs : List (List ℕ)) (ws : List ℤ) → AreWords cs fs ws → (length fs ≡ length cs) × (length ws ≡ length cs)
words-count [] [] [] h = (refl, refl)
words-count [] [] (w ∷ ws) h = absurd h
words-count [] (f ∷ fs) ws h = absurd h
words-count (c ∷ cs) [] ws h = absurd h
words-count (c ∷ cs) (f ∷ fs) [] h = absurd h
words-count (c ∷ cs) (f ∷ fs) (w ∷ ws) h = let rest = words-count cs fs ws h.1 in (omega (arith, rest.0), omega (arith, rest.1))

words-complete : (column : ℕ) (done : List ℤ) (cs : List Column) (fs : List (List ℕ)) (ws : List ℤ) → AreWords cs fs ws → words_from column done cs fs ≡ Ok (done ++ ws)
words-complete column done [] [] [] h = ap Ok (sym (append-nil done))
words-complete column done [] [] (w ∷ ws) h = absurd h
words-complete column done [] (f ∷ fs) ws h = absurd h
words-complete column done (c ∷ cs) [] ws h = absurd h
words-complete column done (c ∷ cs) (f ∷ fs) [] h = absurd h
words-complete column done (c ∷ cs) (f ∷ fs) (w ∷ ws) h =
    let here : word_of c.value_type f ≡ Some w = h.0 in
    rw here (words-complete (column + 1) (done ++ w ∷ []) cs fs ws h.1 ∙ ap Ok (append_assoc done (w ∷ []) ws))

pub row-complete : (columns : List Column) (last : ℤ) (r : List (List ℕ)) (t : TableRow) → IsRow columns r t → last <ℤ t.time → row_of columns last r ≡ Ok t
row-complete columns last r t h rises =
    let count = words-count columns h.cells t.words h.words in
    let many : length r ≡ length columns + 1 = rw h.fields_are (omega (arith, count.0)) in
    let long : (length r == length columns + 1) ≡ true = eq-eqb _ _ many in
    rw long (
    ap (cells_of columns last) h.fields_are
    ∙ ap (at_time columns last h.cells) h.time
    ∙ time-rises columns last t.time h.cells rises
    ∙ ap (with_time t.time) (words-complete 2 [] columns h.cells t.words h.words)
    )

-- where rows stand before other records, the scan goes on behind them
pub rows-through : (columns : List Column) (number : ℕ) (last : ℤ) (done ts : List TableRow) (rs : List (List (List ℕ))) → AreRows columns last rs ts → number + length ts ≤ first_too_many
    → rows_from columns number last done rs ≡ Ok (done ++ ts)
rows-through columns number last done [] [] h few = ap Ok (sym (append-nil done))
rows-through columns number last done (t ∷ ts) [] h few = absurd h
rows-through columns number last done [] (r ∷ rs) h few = absurd h
rows-through columns number last done (t ∷ ts) (r ∷ rs) h few =
    rows-row columns number last done r rs (omega (arith, few))
    ∙ ap (row_or (λ u. rows_from columns (number + 1) u.time (done ++ u ∷ []) rs) number) (row-complete columns last r t h.0 h.1)
    ∙ rows-through columns (number + 1) t.time (done ++ t ∷ []) ts rs h.2 (omega (arith, few))
    ∙ ap Ok (append_assoc done (t ∷ []) ts)

header-same : (column : ℕ) (ns : List (List ℕ)) → header_fault column ns ns ≡ None
header-same column [] = refl
header-same column (n ∷ ns) =
    let same : bytes_eq n n ≡ true = (bytes_eq-Decides n n).1 refl in
    rw same (header-same (column + 1) ns)

pub header-right : (columns : List Column) → header_fault 1 (header_of columns) (header_of columns) ≡ None
header-right columns = header-same 1 (header_of columns)

-- Where rows make the records a table, the scan gives them.
pub table-complete : (columns : List Column) (recs : List (List (List ℕ))) (ts : List TableRow) → IsTable columns recs ts → table_of columns recs ≡ Ok ts
table-complete columns recs ts h =
    ap (table_of columns) h.records_are
    ∙ table-rows columns (header_of columns) h.rest (header-right columns)
    ∙ rows-through columns 2 before_all [] ts h.rest h.rows_are (omega (arith, h.few))

-- A table has one list of rows.
pub table-unique : (columns : List Column) (recs : List (List (List ℕ))) (ts us : List TableRow) → IsTable columns recs ts → IsTable columns recs us → ts ≡ us
table-unique columns recs ts us h g =
    let one = table-complete columns recs ts h in
    let other = table-complete columns recs us g in
    cc (one, other)

-- what words that were found are
record Words (done all : List ℤ) (cs : List Column) (fs : List (List ℕ)) : Type 0 where
  ws : List ℤ
  all_is : all ≡ done ++ ws
  words : AreWords cs fs ws

more-words : (done all : List ℤ) (w : ℤ) (c : Column) (cs : List Column) (f : List ℕ) (fs : List (List ℕ)) → word_of c.value_type f ≡ Some w → Words (done ++ w ∷ []) all cs fs
    → Words done all (c ∷ cs) (f ∷ fs)
more-words done all w c cs f fs e h = record { ws = w ∷ h.ws; all_is = h.all_is ∙ append_assoc done (w ∷ []) h.ws; words = (e, h.words) }

words-sound : (column : ℕ) (done all : List ℤ) (cs : List Column) (fs : List (List ℕ)) → length fs ≡ length cs → words_from column done cs fs ≡ Ok all → Words done all cs fs
words-sound column done all [] [] n e = record { ws = []; all_is = let same : done ≡ all = cc e in sym same ∙ sym (append-nil done); words = tt }
words-sound column done all [] (f ∷ fs) n e = absurd (omega (arith, n))
words-sound column done all (c ∷ cs) [] n e = absurd (cc e)
words-sound column done all (c ∷ cs) (f ∷ fs) n e =
    let go : (o : Option ℤ) → word_of c.value_type f ≡ o → word_or (λ w. words_from (column + 1) (done ++ w ∷ []) cs fs) column o ≡ Ok all → Words done all (c ∷ cs) (f ∷ fs) =
    λ o. elim o as (λ o. word_of c.value_type f ≡ o → word_or (λ w. words_from (column + 1) (done ++ w ∷ []) cs fs) column o ≡ Ok all → Words done all (c ∷ cs) (f ∷ fs)) [
      | None ↦ λ b h. absurd (cc h)
      | Some w ↦ λ b h. more-words done all w c cs f fs b (words-sound (column + 1) (done ++ w ∷ []) all cs fs (omega (arith, n)) h)
    ]
    in go (word_of c.value_type f) refl e

with_time-sound : (u : ℤ) (x : Result (List ℤ) ℕ) (t : TableRow) → with_time u x ≡ Ok t → (ws : List ℤ) × (x ≡ Ok ws) × (t ≡ row_with u ws)
with_time-sound u (Ok ws) t e = let same : row_with u ws ≡ t = cc e in (ws, refl, sym same)
with_time-sound u (Err c) t e = absurd (cc e)

rises-sound : (columns : List Column) (last u : ℤ) (fs : List (List ℕ)) (t : TableRow) → at_time columns last fs (Some u) ≡ Ok t
    → (last <ℤ u) × (ws : List ℤ) × (words_from 2 [] columns fs ≡ Ok ws) × (t ≡ row_with u ws)
rises-sound columns last u fs t e =
    elim (cases_Bool (int_lt last u)) [
      | inl late ↦
          let le : last <ℤ u = grind (arith, ints) in
          let w = with_time-sound u (words_from 2 [] columns fs) t (rw late at e) in
          (le, w.0, w.1, w.2)
      | inr early ↦ let h = rw early at e in absurd (cc h)
    ]

-- a record that is a row, with a time above `last`
record RowIs (columns : List Column) (last : ℤ) (r : List (List ℕ)) (t : TableRow) : Type 0 where
  row : IsRow columns r t
  rises : last <ℤ t.time

row-here : (columns : List Column) (last u : ℤ) (f : List ℕ) (fs : List (List ℕ)) (ws : List ℤ) (t : TableRow) → length fs ≡ length columns → time_of f ≡ Some u → last <ℤ u
    → words_from 2 [] columns fs ≡ Ok ws → t ≡ row_with u ws → RowIs columns last (f ∷ fs) t
row-here columns last u f fs ws t many at le e same =
    let w = words-sound 2 [] ws columns fs many e in
    let time : t.time ≡ u = ap (λ (x : TableRow). x.time) same in
    let words : t.words ≡ ws = ap (λ (x : TableRow). x.words) same in
    let all : ws ≡ w.ws = w.all_is in
    record {
      row = record { first = f; cells = fs; fields_are = refl; time = at ∙ ap Some (sym time); words = rw (words, all) w.words };
      rises = rw time le;
    }

cells-sound : (columns : List Column) (last : ℤ) (r : List (List ℕ)) (t : TableRow) → length r ≡ length columns + 1 → cells_of columns last r ≡ Ok t → RowIs columns last r t
cells-sound columns last [] t h e = absurd (cc e)
cells-sound columns last (f ∷ fs) t h e =
    let go : (o : Option ℤ) → time_of f ≡ o → at_time columns last fs o ≡ Ok t → RowIs columns last (f ∷ fs) t =
    λ o. elim o as (λ o. time_of f ≡ o → at_time columns last fs o ≡ Ok t → RowIs columns last (f ∷ fs) t) [
      | None ↦ λ a b. absurd (cc b)
      | Some u ↦ λ a b. let s = rises-sound columns last u fs t b in row-here columns last u f fs s.1 t (omega (arith, h)) a s.0 s.2 s.3
    ]
    in go (time_of f) refl e

pub row-sound : (columns : List Column) (last : ℤ) (r : List (List ℕ)) (t : TableRow) → row_of columns last r ≡ Ok t → IsRow columns r t × (last <ℤ t.time)
row-sound columns last r t e =
    elim (cases_Bool (length r == length columns + 1)) [
      | inl long ↦ let many : length r ≡ length columns + 1 = eqb-true _ _ long in let s = cells-sound columns last r t many (rw long at e) in (s.row, s.rises)
      | inr short ↦ let h = rw short at e in absurd (cc h)
    ]

-- a row has a word for each column
pub row-width : (columns : List Column) (last : ℤ) (r : List (List ℕ)) (t : TableRow) → row_of columns last r ≡ Ok t → length t.words ≡ length columns
row-width columns last r t e = let s = row-sound columns last r t e in (words-count columns s.0.cells t.words s.0.words).1

-- what rows that were found are
record RowsAre (columns : List Column) (number : ℕ) (last : ℤ) (done all : List TableRow) (rs : List (List (List ℕ))) : Type 0 where
  ts : List TableRow
  all_is : all ≡ done ++ ts
  rows : AreRows columns last rs ts
  few : number + length ts ≤ first_too_many

more-rows : (columns : List Column) (number : ℕ) (last : ℤ) (done all : List TableRow) (r : List (List ℕ)) (rs : List (List (List ℕ))) (t : TableRow) → IsRow columns r t × (last <ℤ t.time)
    → RowsAre columns (number + 1) t.time (done ++ t ∷ []) all rs → RowsAre columns number last done all (r ∷ rs)
more-rows columns number last done all r rs t here h = record {
  ts = t ∷ h.ts;
  all_is = h.all_is ∙ append_assoc done (t ∷ []) h.ts;
  rows = (here.0, here.1, h.rows);
  few = omega (arith, h.few);
}

rows-sound : (columns : List Column) (number : ℕ) (last : ℤ) (done all : List TableRow) (rs : List (List (List ℕ))) → number ≤ first_too_many → rows_from columns number last done rs ≡ Ok all
    → RowsAre columns number last done all rs
rows-sound columns number last done all [] le e =
    let same : done ≡ all = cc e in
    record { ts = []; all_is = sym same ∙ sym (append-nil done); rows = tt; few = omega arith }
rows-sound columns number last done all (r ∷ rs) le e =
    elim (cases_Bool (number == first_too_many)) [
      | inl last_one ↦ let h = rw last_one at e in absurd (cc h)
      | inr earlier ↦
          let below : number + 1 ≤ first_too_many = grind (arith, nat_tests) in
          let go : (x : Result TableRow (ℕ × ℕ)) → row_of columns last r ≡ x → row_or (λ t. rows_from columns (number + 1) t.time (done ++ t ∷ []) rs) number x ≡ Ok all → RowsAre columns number last done all (r ∷ rs) =
          λ x. elim x as (λ x. row_of columns last r ≡ x → row_or (λ t. rows_from columns (number + 1) t.time (done ++ t ∷ []) rs) number x ≡ Ok all → RowsAre columns number last done all (r ∷ rs)) [
            | Ok t ↦ λ a b. more-rows columns number last done all r rs t (row-sound columns last r t a) (rows-sound columns (number + 1) t.time (done ++ t ∷ []) all rs below b)
            | Err x ↦ λ a b. absurd (cc b)
          ]
          in go (row_of columns last r) refl (rw earlier at e)
    ]

pub header-sound : (column : ℕ) (ns h : List (List ℕ)) → header_fault column ns h ≡ None → h ≡ ns
header-sound column [] [] e = refl
header-sound column [] (f ∷ fs) e = absurd (cc e)
header-sound column (n ∷ ns) [] e = absurd (cc e)
header-sound column (n ∷ ns) (f ∷ fs) e =
    elim (cases_Bool (bytes_eq f n)) [
      | inl same ↦
          let first : f ≡ n = (bytes_eq-Decides f n).0 same in
          let rest : fs ≡ ns = header-sound (column + 1) ns fs (rw same at e) in
          cc (first, rest)
      | inr differs ↦ let h = rw differs at e in absurd (cc h)
    ]

-- the header has a field for each column and one more
pub header-width : (columns : List Column) (h : List (List ℕ)) → header_fault 1 (header_of columns) h ≡ None → length h ≡ length columns + 1
header-width columns h e =
    let names : length (names_of columns) ≡ length columns = simp length-map in
    let same : length h ≡ length (header_of columns) = ap (λ (x : List (List ℕ)). length x) (header-sound 1 (header_of columns) h e) in
    omega (arith, names, same)

-- The rows that the scan gives make the records a table.
pub table-sound : (columns : List Column) (recs : List (List (List ℕ))) (ts : List TableRow) → table_of columns recs ≡ Ok ts → IsTable columns recs ts
table-sound columns [] ts e = absurd (cc e)
table-sound columns (h ∷ rs) ts e =
    let go : (o : Option ℕ) → header_fault 1 (header_of columns) h ≡ o → header_or (rows_from columns 2 before_all [] rs) o ≡ Ok ts → IsTable columns (h ∷ rs) ts =
    λ o. elim o as (λ o. header_fault 1 (header_of columns) h ≡ o → header_or (rows_from columns 2 before_all [] rs) o ≡ Ok ts → IsTable columns (h ∷ rs) ts) [
      | None ↦ λ a b.
          let are = rows-sound columns 2 before_all [] ts rs (omega arith) b in
          let all : ts ≡ are.ts = are.all_is in
          record { rest = rs; records_are = ap (λ (x : List (List ℕ)). x ∷ rs) (header-sound 1 (header_of columns) h a); rows_are = rw all are.rows; few = rw all (omega (arith, are.few)) }
      | Some c ↦ λ a b. absurd (cc b)
    ]
    in go (header_fault 1 (header_of columns) h) refl e

-- A fault that the scan names leaves no table.
pub names-refuses : (columns : List Column) (recs : List (List (List ℕ))) (e : TableFault) → Names (table_of columns recs) e → Refuses columns recs e
names-refuses columns recs (Rule rule row column) h = λ ts is. let ok = table-complete columns recs ts is in absurd (cc (h, ok))
names-refuses columns recs OutOfMemory h = tt
