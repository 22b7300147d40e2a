-- The fault that the scan names is the first broken rule, and no other is.
use Rattle.std.proofs.Common.{◌≡◌, ◌≢◌, ◌≤◌, ◌<◌, ◌+◌, ◌++◌, ◌∙◌, true, ℕ, ℤ, zero, suc, List, [], ◌∷◌, length, Option, Some, None, Result, Ok, Err, refl, sym, ap, arith, inl, inr, append_assoc, eq-eqb}
use Rattle.std.specs.Prelude.{◌==◌, ◌<ℤ◌, ◌≤ℤ◌}
use Rattle.std.specs.Int.RustNames.{int_lt}
use Rattle.std.specs.Str.{bytes_eq}
use Rattle.std.proofs.lemmas.Bool.{cases_Bool, false≢true}
use Rattle.std.proofs.lemmas.Bool.Decides.{nat_tests}
use Rattle.std.proofs.lemmas.Int.{ints}
use Rattle.std.proofs.lemmas.List.{append-nil}
use Rattle.std.proofs.lemmas.Slice.Eq.{bytes_eq-Decides}
use borrow.Author.Tests.{eqb-true}
use Rattle.csv.specs.Records.{field_at}
use Rattle.cdl_table.specs.declared.column.Column.{Column}
use Rattle.cdl_table.specs.declared.table.TableFault.{TableFault}
use Rattle.cdl_table.specs.declared.table.TableFault.TheVariants.{OutOfMemory, Rule}
use Rattle.cdl_table.specs.Broken.{DifferFirst, Flaw, HasFirst, HasOtherHeader, IsFirstBad, IsFirstBroken, IsFlawed, IsOnly, IsWhole, NamesFirst, column_of, first_of, first_too_many, no_rise, no_time, no_value, rule_of, time_after, too_many, word_at, wrong_count}
use Rattle.cdl_table.specs.Cells.{time_of, word_of}
use Rattle.cdl_table.specs.IsTable.{AreRows, IsRow, before_all, header_of}
use Rattle.cdl_table.specs.inner.Scan.{Broken, Names, at_time, cells_of, header_fault, header_or, row_of, row_or, rows_from, table_of, with_time, word_or, words_from}
use Rattle.cdl_table.specs.TableRow.{TableRow}
use Rattle.cdl_table.proofs.TableFacts.{rows-many, rows-more, rows-row, table-header, table-rows, time-early, time-rises}
use Rattle.cdl_table.proofs.TableLaw.{header-right, header-sound, row-complete, row-sound}

-- errors of a record and of a table
abbrev row_err : ℕ × ℕ → Result TableRow (ℕ × ℕ)
row_err e = Err e

abbrev table_err : Broken → Result (List TableRow) Broken
table_err b = Err b

-- the header

record Difference (column here : ℕ) (fs ns : List (List ℕ)) : Type 0 where
  place : ℕ
  column_is : here ≡ column + place
  differ : DifferFirst fs ns place

before-more : (f n : List ℕ) (fs ns : List (List ℕ)) (place : ℕ) → f ≡ n → ((k : ℕ) → k < place → field_at fs k ≡ field_at ns k) → (k : ℕ) → k < suc place
    → field_at (f ∷ fs) k ≡ field_at (n ∷ ns) k
unfolding field_at
before-more f n fs ns place e h zero p = ap Some e
before-more f n fs ns place e h (suc k) p = h k (omega (arith, p))

here-more : (f n : List ℕ) (fs ns : List (List ℕ)) (place : ℕ) → (field_at fs place ≡ field_at ns place → ⊥) → field_at (f ∷ fs) (suc place) ≡ field_at (n ∷ ns) (suc place) → ⊥
unfolding field_at
here-more f n fs ns place h e = h e

differ-more : (column here : ℕ) (f n : List ℕ) (fs ns : List (List ℕ)) → f ≡ n → Difference (column + 1) here fs ns → Difference column here (f ∷ fs) (n ∷ ns)
differ-more column here f n fs ns e d = record {
  place = suc d.place;
  column_is = omega (arith, d.column_is);
  differ = record { before = before-more f n fs ns d.place e d.differ.before; here = here-more f n fs ns d.place d.differ.here };
}

differ-now : (column here : ℕ) (fs ns : List (List ℕ)) → here ≡ column → (field_at fs 0 ≡ field_at ns 0 → ⊥) → Difference column here fs ns
differ-now column here fs ns e h = record { place = 0; column_is = omega (arith, e); differ = record { before = λ k p. absurd (omega (arith, p)); here = h } }

header-differs : (column here : ℕ) (ns fs : List (List ℕ)) → header_fault column ns fs ≡ Some here → Difference column here fs ns
unfolding field_at
header-differs column here [] [] e = absurd (cc e)
header-differs column here [] (f ∷ fs) e = differ-now column here (f ∷ fs) [] (let same : column ≡ here = cc e in sym same) (λ h. cc h)
header-differs column here (n ∷ ns) [] e = differ-now column here [] (n ∷ ns) (let same : column ≡ here = cc e in sym same) (λ h. cc h)
header-differs column here (n ∷ ns) (f ∷ fs) e =
    elim (cases_Bool (bytes_eq f n)) [
      | inl same ↦ differ-more column here f n fs ns ((bytes_eq-Decides f n).0 same) (header-differs (column + 1) here ns fs (rw same at e))
      | inr differs ↦
          let now : Some column ≡ Some here = rw differs at e in
          differ-now column here (f ∷ fs) (n ∷ ns) (let same : column ≡ here = cc now in sym same)
          (λ h. let same : f ≡ n = cc h in absurd (false≢true (sym differs ∙ (bytes_eq-Decides f n).1 same)))
    ]

header-found : (column : ℕ) (ns fs : List (List ℕ)) (place : ℕ) → ((k : ℕ) → k < place → field_at fs k ≡ field_at ns k) → (field_at fs place ≡ field_at ns place → ⊥)
    → header_fault column ns fs ≡ Some (column + place)
unfolding field_at
header-found column [] [] place b h = absurd (h refl)
header-found column [] (f ∷ fs) zero b h = ap Some (omega arith)
header-found column [] (f ∷ fs) (suc place) b h = let first = b 0 (omega arith) in absurd (cc first)
header-found column (n ∷ ns) [] zero b h = ap Some (omega arith)
header-found column (n ∷ ns) [] (suc place) b h = let first = b 0 (omega arith) in absurd (cc first)
header-found column (n ∷ ns) (f ∷ fs) zero b h =
    elim (cases_Bool (bytes_eq f n)) [
      | inl same ↦ absurd (h (ap Some ((bytes_eq-Decides f n).0 same)))
      | inr differs ↦ rw differs (ap Some (omega arith))
    ]
header-found column (n ∷ ns) (f ∷ fs) (suc place) b h =
    let first = b 0 (omega arith) in
    let name : f ≡ n = cc first in
    let same : bytes_eq f n ≡ true = (bytes_eq-Decides f n).1 name in
    rw same (header-found (column + 1) ns fs place (λ k p. b (suc k) (omega (arith, p))) h ∙ ap Some (omega arith))

-- the cells

record BadCell (column here : ℕ) (cs : List Column) (fs : List (List ℕ)) : Type 0 where
  place : ℕ
  column_is : here ≡ column + place
  first : IsFirstBad cs fs place

good-more : (c : Column) (cs : List Column) (f : List ℕ) (fs : List (List ℕ)) (w : ℤ) (i : ℕ) → word_of c.value_type f ≡ Some w → ((k : ℕ) → k < i → (v : ℤ) × (word_at cs fs k ≡ Some v))
    → (k : ℕ) → k < suc i → (v : ℤ) × (word_at (c ∷ cs) (f ∷ fs) k ≡ Some v)
good-more c cs f fs w i e h zero p = (w, e)
good-more c cs f fs w i e h (suc k) p = h k (omega (arith, p))

bad-more : (column here : ℕ) (c : Column) (cs : List Column) (f : List ℕ) (fs : List (List ℕ)) (w : ℤ) → word_of c.value_type f ≡ Some w → BadCell (column + 1) here cs fs
    → BadCell column here (c ∷ cs) (f ∷ fs)
bad-more column here c cs f fs w e b = record {
  place = suc b.place;
  column_is = omega (arith, b.column_is);
  first = record { within = omega (arith, b.first.within); bad = b.first.bad; good = good-more c cs f fs w b.place e b.first.good };
}

cells-bad : (column here : ℕ) (done : List ℤ) (cs : List Column) (fs : List (List ℕ)) → length fs ≡ length cs → words_from column done cs fs ≡ Err here → BadCell column here cs fs
cells-bad column here done [] fs n e = absurd (cc e)
cells-bad column here done (c ∷ cs) [] n e = absurd (omega (arith, n))
cells-bad column here done (c ∷ cs) (f ∷ fs) n e =
    let go : (o : Option ℤ) → word_of c.value_type f ≡ o → word_or (λ w. words_from (column + 1) (done ++ w ∷ []) cs fs) column o ≡ Err here → BadCell column here (c ∷ cs) (f ∷ fs) =
    λ o. elim o as (λ o. word_of c.value_type f ≡ o → word_or (λ w. words_from (column + 1) (done ++ w ∷ []) cs fs) column o ≡ Err here → BadCell column here (c ∷ cs) (f ∷ fs)) [
      | None ↦ λ b h. let same : column ≡ here = cc h in record { place = 0; column_is = omega (arith, same); first = record { within = omega arith; bad = b; good = λ k p. absurd (omega (arith, p)) } }
      | Some w ↦ λ b h. bad-more column here c cs f fs w b (cells-bad (column + 1) here (done ++ w ∷ []) cs fs (omega (arith, n)) h)
    ]
    in go (word_of c.value_type f) refl e

cells-found : (column : ℕ) (done : List ℤ) (cs : List Column) (fs : List (List ℕ)) (i : ℕ) → i < length cs → word_at cs fs i ≡ None
    → ((k : ℕ) → k < i → (v : ℤ) × (word_at cs fs k ≡ Some v)) → words_from column done cs fs ≡ Err (column + i)
cells-found column done [] fs i p b g = absurd (omega (arith, p))
cells-found column done (c ∷ cs) [] zero p b g = ap Err (omega arith)
cells-found column done (c ∷ cs) [] (suc i) p b g = let first = g 0 (omega arith) in let wrong = first.1 in absurd (cc wrong)
cells-found column done (c ∷ cs) (f ∷ fs) zero p b g =
    let none : word_of c.value_type f ≡ None = b in
    rw none (ap Err (omega arith))
cells-found column done (c ∷ cs) (f ∷ fs) (suc i) p b g =
    let first = g 0 (omega arith) in
    let some : word_of c.value_type f ≡ Some first.0 = first.1 in
    rw some (cells-found (column + 1) (done ++ first.0 ∷ []) cs fs i (omega (arith, p)) b (λ k q. g (suc k) (omega (arith, q))) ∙ ap Err (omega arith))

-- a record

record RowFlaw (columns : List Column) (number : ℕ) (last : ℤ) (fields : List (List ℕ)) (e : ℕ × ℕ) : Type 0 where
  flaw : Flaw
  has : HasFirst columns number last fields flaw
  rule_is : e.0 ≡ rule_of flaw
  column_is : e.1 ≡ column_of flaw

rule-same : (r c : ℕ) (e : ℕ × ℕ) → row_err (r, c) ≡ row_err e → (e.0 ≡ r) × (e.1 ≡ c)
rule-same r c e h = let same : (r, c) ≡ e = cc h in (sym (ap (λ (p : ℕ × ℕ). p.0) same), sym (ap (λ (p : ℕ × ℕ). p.1) same))

value-flaw : (columns : List Column) (number : ℕ) (last t : ℤ) (f : List ℕ) (fs : List (List ℕ)) (e : ℕ × ℕ) → number < first_too_many → length fs ≡ length columns → time_of f ≡ Some t → last <ℤ t
    → (x : Result (List ℤ) ℕ) → words_from 2 [] columns fs ≡ x → with_time t x ≡ Err e → RowFlaw columns number last (f ∷ fs) e
value-flaw columns number last t f fs e few n at rises (Ok ws) is h = absurd (cc h)
value-flaw columns number last t f fs e few n at rises (Err here) is h =
    let b = cells-bad 2 here [] columns fs n is in
    let same = rule-same 65 here e h in
    record {
      flaw = no_value b.place;
      has = (record { few = few; first = f; cells = fs; fields_are = refl; count = n }, t, at, rises, b.first);
      rule_is = same.0;
      column_is = omega (arith, same.1, b.column_is);
    }

time-flaw : (columns : List Column) (number : ℕ) (last : ℤ) (f : List ℕ) (fs : List (List ℕ)) (e : ℕ × ℕ) → number < first_too_many → length fs ≡ length columns
    → (o : Option ℤ) → time_of f ≡ o → at_time columns last fs o ≡ Err e → RowFlaw columns number last (f ∷ fs) e
time-flaw columns number last f fs e few n None at h =
    let same = rule-same 63 1 e h in
    record { flaw = no_time; has = (record { few = few; first = f; cells = fs; fields_are = refl; count = n }, at); rule_is = same.0; column_is = same.1 }
time-flaw columns number last f fs e few n (Some t) at h =
    elim (cases_Bool (int_lt last t)) [
      | inl late ↦
          let rises : last <ℤ t = grind (arith, ints) in
          value-flaw columns number last t f fs e few n at rises (words_from 2 [] columns fs) refl (rw late at h)
      | inr early ↦
          let before : t ≤ℤ last = grind (arith, ints) in
          let same = rule-same 64 1 e (rw early at h) in
          record { flaw = no_rise; has = (record { few = few; first = f; cells = fs; fields_are = refl; count = n }, t, at, before); rule_is = same.0; column_is = same.1 }
    ]

fields-flaw : (columns : List Column) (number : ℕ) (last : ℤ) (r : List (List ℕ)) (e : ℕ × ℕ) → number < first_too_many → length r ≡ length columns + 1 → cells_of columns last r ≡ Err e
    → RowFlaw columns number last r e
fields-flaw columns number last [] e few n h = absurd (omega (arith, n))
fields-flaw columns number last (f ∷ fs) e few n h = time-flaw columns number last f fs e few (omega (arith, n)) (time_of f) refl h

row-flaw : (columns : List Column) (number : ℕ) (last : ℤ) (r : List (List ℕ)) (e : ℕ × ℕ) → number < first_too_many → row_of columns last r ≡ Err e → RowFlaw columns number last r e
row-flaw columns number last r e few h =
    elim (cases_Bool (length r == length columns + 1)) [
      | inl long ↦ let many : length r ≡ length columns + 1 = eqb-true _ _ long in fields-flaw columns number last r e few many (rw long at h)
      | inr short ↦
          let other : length r ≢ length columns + 1 = λ same. absurd (false≢true (sym short ∙ eq-eqb _ _ same)) in
          let same = rule-same 61 1 e (rw short at h) in
          record { flaw = wrong_count; has = (few, other); rule_is = same.0; column_is = same.1 }
    ]

whole-row : (columns : List Column) (number : ℕ) (last : ℤ) (r : List (List ℕ)) (w : IsWhole columns number r) → row_of columns last r ≡ at_time columns last w.cells (time_of w.first)
whole-row columns number last r w =
    let many : length r ≡ length columns + 1 = rw w.fields_are (omega (arith, w.count)) in
    let long : (length r == length columns + 1) ≡ true = eq-eqb _ _ many in
    rw long (ap (cells_of columns last) w.fields_are)

stop : (columns : List Column) (number : ℕ) (last : ℤ) (done : List TableRow) (r : List (List ℕ)) (rs : List (List (List ℕ))) (e : ℕ × ℕ) → number < first_too_many → row_of columns last r ≡ Err e
    → rows_from columns number last done (r ∷ rs) ≡ Err (e.0, number, e.1)
stop columns number last done r rs e few h = rows-row columns number last done r rs few ∙ ap (row_or (λ t. rows_from columns (number + 1) t.time (done ++ t ∷ []) rs) number) h

flaw-stops : (columns : List Column) (number : ℕ) (last : ℤ) (done : List TableRow) (r : List (List ℕ)) (rs : List (List (List ℕ))) (flaw : Flaw) → HasFirst columns number last r flaw
    → rows_from columns number last done (r ∷ rs) ≡ Err (rule_of flaw, number, column_of flaw)
flaw-stops columns number last done r rs too_many h = rows-many columns number last done r rs h
flaw-stops columns number last done r rs wrong_count h =
    elim (cases_Bool (length r == length columns + 1)) [
      | inl long ↦ absurd (h.1 (eqb-true _ _ long))
      | inr short ↦ stop columns number last done r rs (61, 1) h.0 (rw short refl)
    ]
flaw-stops columns number last done r rs no_time h =
    stop columns number last done r rs (63, 1) h.0.few (whole-row columns number last r h.0 ∙ ap (at_time columns last h.0.cells) h.1)
flaw-stops columns number last done r rs no_rise h =
    stop columns number last done r rs (64, 1) h.0.few (whole-row columns number last r h.0 ∙ ap (at_time columns last h.0.cells) h.2 ∙ time-early columns last h.1 h.0.cells h.3)
flaw-stops columns number last done r rs (no_value i) h =
    let column : 2 + i ≡ i + 2 = omega arith in
    let found = cells-found 2 [] columns h.0.cells i h.4.within h.4.bad h.4.good in
    stop columns number last done r rs (65, i + 2) h.0.few (
    whole-row columns number last r h.0
    ∙ ap (at_time columns last h.0.cells) h.2
    ∙ time-rises columns last h.1 h.0.cells h.3
    ∙ ap (with_time h.1) (found ∙ ap Err column)
    )

-- the records

record Stops (columns : List Column) (number : ℕ) (last : ℤ) (rs : List (List (List ℕ))) (b : Broken) : Type 0 where
  before : List (List (List ℕ))
  fields : List (List ℕ)
  after : List (List (List ℕ))
  rs_are : rs ≡ before ++ fields ∷ after
  ts : List TableRow
  rows : AreRows columns last before ts
  few : number + length ts ≤ first_too_many
  row_is : b.1 ≡ number + length before
  flaw : Flaw
  has : HasFirst columns b.1 (time_after last ts) fields flaw
  rule_is : b.0 ≡ rule_of flaw
  column_is : b.2 ≡ column_of flaw

stops-now : (columns : List Column) (number : ℕ) (last : ℤ) (r : List (List ℕ)) (rs : List (List (List ℕ))) (b : Broken) (flaw : Flaw) → number ≤ first_too_many → HasFirst columns number last r flaw
    → (rule_of flaw, number, column_of flaw) ≡ b → Stops columns number last (r ∷ rs) b
stops-now columns number last r rs b flaw le h e =
    let row : number ≡ b.1 = ap (λ (p : Broken). p.1) e in
    record {
      before = [];
      fields = r;
      after = rs;
      rs_are = refl;
      ts = [];
      rows = tt;
      few = omega arith;
      row_is = omega (arith, row);
      flaw = flaw;
      has = rw (sym row) h;
      rule_is = sym (ap (λ (p : Broken). p.0) e);
      column_is = sym (ap (λ (p : Broken). p.2) e);
    }

stops-later : (columns : List Column) (number : ℕ) (last : ℤ) (r : List (List ℕ)) (rs : List (List (List ℕ))) (b : Broken) (t : TableRow) → IsRow columns r t × (last <ℤ t.time)
    → Stops columns (number + 1) t.time rs b → Stops columns number last (r ∷ rs) b
stops-later columns number last r rs b t here s = record {
  before = r ∷ s.before;
  fields = s.fields;
  after = s.after;
  rs_are = ap (λ (x : List (List (List ℕ))). r ∷ x) s.rs_are;
  ts = t ∷ s.ts;
  rows = (here.0, here.1, s.rows);
  few = omega (arith, s.few);
  row_is = omega (arith, s.row_is);
  flaw = s.flaw;
  has = s.has;
  rule_is = s.rule_is;
  column_is = s.column_is;
}

stops : (columns : List Column) (number : ℕ) (last : ℤ) (done : List TableRow) (rs : List (List (List ℕ))) (b : Broken) → number ≤ first_too_many → rows_from columns number last done rs ≡ Err b
    → Stops columns number last rs b
stops columns number last done [] b le e = absurd (cc e)
stops columns number last done (r ∷ rs) b le e =
    elim (cases_Bool (number == first_too_many)) [
      | inl last_one ↦
          let many : number ≡ first_too_many = eqb-true _ _ last_one in
          let now : table_err (66, number, 1) ≡ table_err b = rw last_one at e in
          stops-now columns number last r rs b too_many le many (cc now)
      | inr earlier ↦
          let below : number + 1 ≤ first_too_many = grind (arith, nat_tests) in
          let go : (x : Result TableRow (ℕ × ℕ)) → row_of columns last r ≡ x → row_or (λ t. rows_from columns (number + 1) t.time (done ++ t ∷ []) rs) number x ≡ Err b → Stops columns number last (r ∷ rs) b =
          λ x. elim x as (λ x. row_of columns last r ≡ x → row_or (λ t. rows_from columns (number + 1) t.time (done ++ t ∷ []) rs) number x ≡ Err b → Stops columns number last (r ∷ rs) b) [
            | Ok t ↦ λ a h. stops-later columns number last r rs b t (row-sound columns last r t a) (stops columns (number + 1) t.time (done ++ t ∷ []) rs b below h)
            | Err x ↦ λ a h.
                let f = row-flaw columns number last r x (omega (arith, below)) a in
                let at : (x.0, number, x.1) ≡ b = cc h in
                stops-now columns number last r rs b f.flaw le f.has (ap (λ n. (n, number, column_of f.flaw)) (sym f.rule_is) ∙ ap (λ n. (x.0, number, n)) (sym f.column_is) ∙ at)
          ]
          in go (row_of columns last r) refl (rw earlier at e)
    ]

rows-past : (columns : List Column) (number : ℕ) (last : ℤ) (done ts : List TableRow) (rs more : List (List (List ℕ))) → AreRows columns last rs ts → number + length ts ≤ first_too_many
    → rows_from columns number last done (rs ++ more) ≡ rows_from columns (number + length ts) (time_after last ts) (done ++ ts) more
rows-past columns number last done [] [] more h few =
    let n : number ≡ number + 0 = omega arith in
    ap (λ d. rows_from columns number last d more) (sym (append-nil done)) ∙ ap (λ k. rows_from columns k last (done ++ []) more) n
rows-past columns number last done (t ∷ ts) [] more h few = absurd h
rows-past columns number last done [] (r ∷ rs) more h few = absurd h
rows-past columns number last done (t ∷ ts) (r ∷ rs) more h few =
    let n : number + 1 + length ts ≡ number + length (t ∷ ts) = omega arith in
    rows-more columns number last done r (rs ++ more) t (omega (arith, few)) (row-complete columns last r t h.0 h.1)
    ∙ rows-past columns (number + 1) t.time (done ++ t ∷ []) ts rs more h.2 (omega (arith, few))
    ∙ ap (λ k. rows_from columns k (time_after t.time ts) ((done ++ t ∷ []) ++ ts) more) n
    ∙ ap (λ d. rows_from columns (number + length (t ∷ ts)) (time_after t.time ts) d more) (append_assoc done (t ∷ []) ts)

rows-number : (columns : List Column) (last : ℤ) (rs : List (List (List ℕ))) (ts : List TableRow) → AreRows columns last rs ts → length rs ≡ length ts
rows-number columns last [] [] h = refl
rows-number columns last [] (t ∷ ts) h = absurd h
rows-number columns last (r ∷ rs) [] h = absurd h
rows-number columns last (r ∷ rs) (t ∷ ts) h = ap suc (rows-number columns t.time rs ts h.2)

-- the table

other-header : (columns : List Column) (records : List (List (List ℕ))) (rule row column here : ℕ) → header_fault 1 (header_of columns) (first_of records) ≡ Some here → rule ≡ 62 → row ≡ 1 → column ≡ here
    → HasOtherHeader columns records rule row column
other-header columns records rule row column here e a b c =
    let d = header-differs 1 here (header_of columns) (first_of records) e in
    record { place = d.place; differ = d.differ; rule_is = a; row_is = b; column_is = omega (arith, d.column_is, c) }

flawed : (columns : List Column) (h : List (List ℕ)) (rs : List (List (List ℕ))) (rule row column : ℕ) → h ≡ header_of columns → Stops columns 2 before_all rs (rule, row, column)
    → IsFlawed columns (h ∷ rs) rule row column
flawed columns h rs rule row column e s = record {
  before = h ∷ s.before;
  fields = s.fields;
  after = s.after;
  records_are = ap (λ (x : List (List (List ℕ))). h ∷ x) s.rs_are;
  rows = s.ts;
  table = record { rest = s.before; records_are = ap (λ (x : List (List ℕ)). x ∷ s.before) e; rows_are = s.rows; few = omega (arith, s.few) };
  row_is = omega (arith, s.row_is);
  flaw = s.flaw;
  has = s.has;
  rule_is = s.rule_is;
  column_is = s.column_is;
}

broken-sound : (columns : List Column) (records : List (List (List ℕ))) (rule row column : ℕ) → table_of columns records ≡ Err (rule, row, column) → IsFirstBroken columns records rule row column
broken-sound columns [] rule row column e =
    let same : (62, 1, 1) ≡ (rule, row, column) = cc e in
    inl (other-header columns [] rule row column 1 refl (sym (ap (λ (p : Broken). p.0) same)) (sym (ap (λ (p : Broken). p.1) same)) (sym (ap (λ (p : Broken). p.2) same)))
broken-sound columns (h ∷ rs) rule row column e =
    let go : (o : Option ℕ) → header_fault 1 (header_of columns) h ≡ o → header_or (rows_from columns 2 before_all [] rs) o ≡ Err (rule, row, column) → IsFirstBroken columns (h ∷ rs) rule row column =
    λ o. elim o as (λ o. header_fault 1 (header_of columns) h ≡ o → header_or (rows_from columns 2 before_all [] rs) o ≡ Err (rule, row, column) → IsFirstBroken columns (h ∷ rs) rule row column) [
      | None ↦ λ a b. inr (flawed columns h rs rule row column (header-sound 1 (header_of columns) h a) (stops columns 2 before_all [] rs (rule, row, column) (omega arith) b))
      | Some here ↦ λ a b.
          let same : (62, 1, here) ≡ (rule, row, column) = cc b in
          inl (other-header columns (h ∷ rs) rule row column here a (sym (ap (λ (p : Broken). p.0) same)) (sym (ap (λ (p : Broken). p.1) same)) (sym (ap (λ (p : Broken). p.2) same)))
    ]
    in go (header_fault 1 (header_of columns) h) refl e

triple : (a b c d e f : ℕ) → a ≡ d → b ≡ e → c ≡ f → table_err (a, b, c) ≡ table_err (d, e, f)
triple a b c d e f p q r = ap (λ n. table_err (n, b, c)) p ∙ ap (λ n. table_err (d, n, c)) q ∙ ap (λ n. table_err (d, e, n)) r

header-broken : (columns : List Column) (records : List (List (List ℕ))) (rule row column : ℕ) → HasOtherHeader columns records rule row column → table_of columns records ≡ Err (rule, row, column)
header-broken columns [] rule row column h =
    let found : Some 1 ≡ Some (1 + h.place) = header-found 1 (header_of columns) [] h.place h.differ.before h.differ.here in
    let place : 1 ≡ 1 + h.place = cc found in
    triple 62 1 1 rule row column (sym h.rule_is) (sym h.row_is) (omega (arith, h.column_is, place))
header-broken columns (f ∷ rs) rule row column h =
    table-header columns f rs (1 + h.place) (header-found 1 (header_of columns) f h.place h.differ.before h.differ.here)
    ∙ triple 62 1 (1 + h.place) rule row column (sym h.rule_is) (sym h.row_is) (omega (arith, h.column_is))

flaw-broken : (columns : List Column) (records : List (List (List ℕ))) (rule row column : ℕ) → IsFlawed columns records rule row column → table_of columns records ≡ Err (rule, row, column)
flaw-broken columns records rule row column h =
    let rest = h.table.rest in
    let before : length h.before ≡ length rest + 1 = ap (λ (x : List (List (List ℕ))). length x) h.table.records_are ∙ omega arith in
    let count = rows-number columns before_all rest h.rows h.table.rows_are in
    let number : 2 + length h.rows ≡ row = omega (arith, before, count, h.row_is) in
    ap (table_of columns) (h.records_are ∙ ap (λ (x : List (List (List ℕ))). x ++ h.fields ∷ h.after) h.table.records_are)
    ∙ table-rows columns (header_of columns) (rest ++ h.fields ∷ h.after) (header-right columns)
    ∙ rows-past columns 2 before_all [] h.rows rest (h.fields ∷ h.after) h.table.rows_are (omega (arith, h.table.few))
    ∙ ap (λ k. rows_from columns k (time_after before_all h.rows) ([] ++ h.rows) (h.fields ∷ h.after)) number
    ∙ flaw-stops columns row (time_after before_all h.rows) ([] ++ h.rows) h.fields h.after h.flaw h.has
    ∙ triple (rule_of h.flaw) row (column_of h.flaw) rule row column (sym h.rule_is) refl (sym h.column_is)

broken-complete : (columns : List Column) (records : List (List (List ℕ))) (rule row column : ℕ) → IsFirstBroken columns records rule row column → table_of columns records ≡ Err (rule, row, column)
broken-complete columns records rule row column (inl h) = header-broken columns records rule row column h
broken-complete columns records rule row column (inr h) = flaw-broken columns records rule row column h

-- A fault that the scan names is the first broken rule.
pub names-first : (columns : List Column) (records : List (List (List ℕ))) (e : TableFault) → Names (table_of columns records) e → NamesFirst columns records e
names-first columns records (Rule rule row column) h = broken-sound columns records rule row column h
names-first columns records OutOfMemory h = tt

only-one : (rule row column a b c : ℕ) (r : Result (List TableRow) Broken) → r ≡ Err (rule, row, column) → r ≡ Err (a, b, c) → (a ≡ rule) × (b ≡ row) × (c ≡ column)
only-one rule row column a b c r p q =
    let both : table_err (a, b, c) ≡ table_err (rule, row, column) = sym q ∙ p in
    let same : (a, b, c) ≡ (rule, row, column) = cc both in
    (ap (λ (x : Broken). x.0) same, ap (λ (x : Broken). x.1) same, ap (λ (x : Broken). x.2) same)

-- No other rule, row or column is the first.
pub names-only : (columns : List Column) (records : List (List (List ℕ))) (e : TableFault) → Names (table_of columns records) e → IsOnly columns records e
names-only columns records (Rule rule row column) h = λ a b c is. only-one rule row column a b c (table_of columns records) h (broken-complete columns records a b c is)
names-only columns records OutOfMemory h = tt
