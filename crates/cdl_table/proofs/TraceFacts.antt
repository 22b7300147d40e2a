-- How a trace's record grows field by field.
use Rattle.std.proofs.Common.{◌≡◌, ◌+◌, ◌-◌, ◌<◌, ℕ, ℤ, suc, List, [], ◌∷◌, length, drop, get_or, ap, arith, refl, add-one, Result, Ok, Err, OnErr}
use Rattle.std.specs.Prelude.{pos}
use Rattle.std.proofs.lemmas.List.{length-drop}
use Rattle.std.proofs.Math.Seq.{drop-cons}
use Rattle.cdl_values.specs.History.{IsValue}
use Rattle.cdl_table.specs.declared.column.Column.{Column}
use Rattle.cdl_table.specs.Trace.{word_text, word_texts}
use Rattle.cdl_table.specs.Values.{AreValues}
use Rattle.cdl_table.proofs.TableFacts.{drop-column}

-- the columns and words from a place on, by the column and the word there
pub record Here (columns : List Column) (words : List ℤ) (i : ℕ) (c : Column) (w : ℤ) : Type 0 where
  pub value : IsValue c.value_type w
  pub left : AreValues (drop (i + 1) columns) (drop (i + 1) words)
  pub texts : word_texts (drop i columns) (drop i words) ≡ word_text c.value_type w ∷ word_texts (drop (i + 1) columns) (drop (i + 1) words)

values-many : (columns : List Column) (words : List ℤ) → AreValues columns words → length words ≡ length columns
values-many [] [] h = refl
values-many [] (w ∷ ws) h = absurd h
values-many (c ∷ cs) [] h = absurd h
values-many (c ∷ cs) (w ∷ ws) h = ap suc (values-many cs ws h.1)

-- the next word stands among the words
pub word-within : (columns : List Column) (words : List ℤ) (i : ℕ) → i < length columns → AreValues (drop i columns) (drop i words) → i < length words
word-within columns words i p h =
    let many = values-many (drop i columns) (drop i words) h in
    let left : length words - i ≡ length columns - i = simp length-drop at many in
    omega (arith, left, p)

pub here : (columns : List Column) (words : List ℤ) (i : ℕ) (c : Column) → i < length columns → c ≡ get_or columns i c → AreValues (drop i columns) (drop i words)
    → Here columns words i c (get_or words i (pos 0))
here columns words i c p at h =
    let column = drop-column columns i c p at in
    let word = drop-cons words i (pos 0) (word-within columns words i p h) in
    let values = rw (column, word) at h in
    record { value = values.0; left = rw (add-one i) values.1; texts = rw (column, word, add-one i) refl }

pub on_err : {A E P : Type 0} (r : Result A E) → P → OnErr r P
on_err (Ok a) p = tt
on_err (Err e) p = p
