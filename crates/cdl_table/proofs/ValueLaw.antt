-- The words of a table are values of their columns' types.
use Rattle.std.proofs.Common.{◌≡◌, ◌≤◌, Bool, true, false, ℕ, ℤ, pos, zero, suc, List, [], ◌∷◌, length, Option, Some, None, refl, sym, arith, inl, inr}
use Rattle.std.specs.Prelude.{◌&&◌, ◌||◌, ◌==◌, ◌*ℤ◌, ◌⊎◌, codes, nat_le, option_and_then, option_map, unsigned_abs, if◌then◌else◌}
use Rattle.std.specs.Result.{result_ok}
use Rattle.std.specs.Option.{ok_or}
use Rattle.std.specs.Str.{bytes_eq}
use Rattle.std.proofs.lemmas.Bool.{cases_Bool}
use Rattle.std.proofs.lemmas.Bool.Decides.{nat_tests}
use Rattle.std.proofs.lemmas.Int.{ints}
use Rattle.cdl_decimal.specs.Near.{InRange, near}
use Rattle.cdl_decimal.specs.Spells.{Parts, lower, upper}
use Rattle.cdl_decimal.specs.Split.{count_of, is_long, judged, parse_of, split}
use Rattle.cdl_decimal.specs.declared.numeral.DecimalError.TheVariants.{OutOfRange}
use Rattle.cdl_decimal.proofs.ScaleLaws.{in_range-some}
use Rattle.cdl_values.specs.History.{IsTime, IsValue}
use Rattle.cdl_values.specs.declared.value.ValueType.{ValueType}
use Rattle.cdl_values.specs.declared.value.ValueType.TheVariants.{Boolean, Integer, Real, Str, Enumeration}
use Rattle.cdl_table.specs.declared.column.Column.{Column}
use Rattle.cdl_source.specs.declared.limits.TheConstants.{LATEST_TIME}
use Rattle.cdl_table.specs.Cells.{boolean_word, digits_after, integer_word, magnitude_of, negative, number_of, real_word, time_of, up_to, word_of}
use Rattle.cdl_table.specs.IsTable.{AreRows, AreWords, IsRow, IsTable, before_all}
use Rattle.cdl_table.specs.TableRow.{TableRow}
use Rattle.cdl_table.specs.Values.{AreValues, HaveValues}

up_to-most : (greatest n m : ℕ) → up_to greatest n ≡ Some m → m ≤ greatest
up_to-most greatest n m e =
    elim (cases_Bool (nat_le n greatest)) [
      | inl small ↦
          let few : n ≤ greatest = grind (arith, nat_tests) in
          let now : Some n ≡ Some m = rw small at e in
          let same : n ≡ m = cc now in
          omega (arith, few, same)
      | inr large ↦ let none = rw large at e in absurd (cc none)
    ]

then-most : (greatest m : ℕ) (o : Option ℕ) → option_and_then (up_to greatest) o ≡ Some m → m ≤ greatest
then-most greatest m None e = absurd (cc e)
then-most greatest m (Some n) e = up_to-most greatest n m e

number-most : (most greatest : ℕ) (field : List ℕ) (m : ℕ) → number_of most greatest field ≡ Some m → m ≤ greatest
number-most most greatest field m e =
    elim (cases_Bool (nat_le 1 (length field) && nat_le (length field) most)) [
      | inl fits ↦ then-most greatest m (digits_after 0 field) (rw fits at e)
      | inr other ↦ let none = rw other at e in absurd (cc none)
    ]

-- the word of a number that is at most so great
mapped : (f : ℕ → ℤ) (greatest : ℕ) (P : ℤ → Type 0) (o : Option ℕ) (w : ℤ) → ((n : ℕ) → o ≡ Some n → n ≤ greatest) → ((n : ℕ) → n ≤ greatest → P (f n)) → option_map f o ≡ Some w → P w
mapped f greatest P None w few each e = absurd (cc e)
mapped f greatest P (Some n) w few each e =
    let same : f n ≡ w = cc e in
    rw (sym same) (each n (few n refl))

time-value : (field : List ℕ) (t : ℤ) → time_of field ≡ Some t → IsTime t
time-value field t e = mapped pos LATEST_TIME IsTime (number_of 14 LATEST_TIME field) t (number-most 14 LATEST_TIME field) (λ n h. (omega (arith, ints), omega (arith, ints, h))) e

negative-small : (n : ℕ) → n ≤ 2147483647 → unsigned_abs (negative n) ≤ 2147483647
negative-small zero h = omega arith
negative-small (suc n) h = omega (arith, h)

integer-value : (field : List ℕ) (w : ℤ) → integer_word field ≡ Some w → unsigned_abs w ≤ 2147483647
integer-value [] w e = absurd (cc e)
integer-value (b ∷ bs) w e =
    elim (cases_Bool (b == 45)) [
      | inl minus ↦ mapped negative 2147483647 (λ z. unsigned_abs z ≤ 2147483647) (magnitude_of bs) w (number-most 10 2147483647 bs) negative-small (rw minus at e)
      | inr other ↦ mapped pos 2147483647 (λ z. unsigned_abs z ≤ 2147483647) (magnitude_of (b ∷ bs)) w (number-most 10 2147483647 (b ∷ bs)) (λ n h. omega (arith, h)) (rw other at e)
    ]

chosen : (a b : Bool) (w : ℤ) → (if a then Some (pos 1) else if b then Some (pos 0) else None) ≡ Some w → (w ≡ pos 0) ⊎ (w ≡ pos 1)
chosen true b w e = let same : pos 1 ≡ w = cc e in inr (sym same)
chosen false true w e = let same : pos 0 ≡ w = cc e in inl (sym same)
chosen false false w e = absurd (cc e)

boolean-value : (field : List ℕ) (w : ℤ) → boolean_word field ≡ Some w → (w ≡ pos 0) ⊎ (w ≡ pos 1)
boolean-value field w e = chosen (bytes_eq field (codes "true") || bytes_eq field (codes "1")) (bytes_eq field (codes "false") || bytes_eq field (codes "0")) w e

ok_or-is : (o : Option ℤ) (w : ℤ) → ((z : ℤ) → o ≡ Some z → InRange z) → result_ok (ok_or o OutOfRange) ≡ Some w → InRange w
ok_or-is None w each e = absurd (cc e)
ok_or-is (Some z) w each e = let same : z ≡ w = cc e in rw (sym same) (each z refl)

count-is : (p : Parts) (z : ℤ) → count_of p ≡ Some z → InRange z
unfolding count_of
count-is p z e = in_range-some (near (upper p *ℤ pos 1000000) (lower p)) z e

judged-is : (o : Option Parts) (w : ℤ) → result_ok (judged o) ≡ Some w → InRange w
judged-is None w e = absurd (cc e)
judged-is (Some p) w e =
    elim (cases_Bool (is_long p)) [
      | inl long ↦ let none = rw long at e in absurd (cc none)
      | inr short ↦ ok_or-is (count_of p) w (count-is p) (rw short at e)
    ]

real-value : (field : List ℕ) (w : ℤ) → real_word field ≡ Some w → InRange w
unfolding parse_of
real-value field w e = judged-is (split field) w e

-- a word that a field's text is read as is a value of the type
pub word-value : (value_type : ValueType) (field : List ℕ) (w : ℤ) → word_of value_type field ≡ Some w → IsValue value_type w
word-value Boolean field w e = boolean-value field w e
word-value Integer field w e = integer-value field w e
word-value Real field w e = real-value field w e
word-value Str field w e = absurd (cc e)
word-value (Enumeration c) field w e = absurd (cc e)

words-values : (cs : List Column) (fs : List (List ℕ)) (ws : List ℤ) → AreWords cs fs ws → AreValues cs ws
words-values [] [] [] h = tt
words-values [] [] (w ∷ ws) h = absurd h
words-values [] (f ∷ fs) ws h = absurd h
words-values (c ∷ cs) [] ws h = absurd h
words-values (c ∷ cs) (f ∷ fs) [] h = absurd h
words-values (c ∷ cs) (f ∷ fs) (w ∷ ws) h = (word-value c.value_type f w h.0, words-values cs fs ws h.1)

row-values : (columns : List Column) (fields : List (List ℕ)) (row : TableRow) → IsRow columns fields row → IsTime row.time × AreValues columns row.words
row-values columns fields row h = (time-value h.first row.time h.time, words-values columns h.cells row.words h.words)

rows-values : (columns : List Column) (last : ℤ) (rs : List (List (List ℕ))) (rows : List TableRow) → AreRows columns last rs rows → HaveValues columns rows
rows-values columns last [] [] h i p = absurd (omega (arith, p))
rows-values columns last [] (t ∷ ts) h i p = absurd h
rows-values columns last (r ∷ rs) [] h i p = absurd h
rows-values columns last (r ∷ rs) (t ∷ ts) h zero p = row-values columns r t h.0
rows-values columns last (r ∷ rs) (t ∷ ts) h (suc i) p = rows-values columns t.time rs ts h.2 i (omega (arith, p))

-- Each row of a table has a time and values.
pub have-values : (columns : List Column) (records : List (List (List ℕ))) (rows : List TableRow) → IsTable columns records rows → HaveValues columns rows
have-values columns records rows h = rows-values columns before_all h.rest rows h.rows_are
