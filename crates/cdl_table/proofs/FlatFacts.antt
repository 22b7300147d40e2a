-- How rows lie in a list of times and a list of words.
use Rattle.std.proofs.Common.{◌≡◌, ◌≤◌, ◌<◌, ◌+◌, ◌*◌, ◌++◌, ◌∙◌, ℕ, ℤ, List, [], ◌∷◌, length, take, drop, get_or, zero, suc, refl, sym, ap, arith, length-append}
use Rattle.std.specs.Prelude.{pos}
use Rattle.std.proofs.Math.Nat.{mul-le-mul_right}
use Rattle.std.proofs.lemmas.List.{take-append-le, drop-append-le, length-drop, drop-drop, take_all}
use Rattle.cdl_table.specs.TableRow.{TableRow, row_at, row_with, rows_of}

pub rows-count : (width : ℕ) (times words : List ℤ) → length (rows_of width times words) ≡ length times
rows-count width [] words = refl
rows-count width (t ∷ ts) words = ap suc (rows-count width ts (drop width words))

-- the row of a number: its time, and the words behind those of the rows before it
pub row-there : (width : ℕ) (times words : List ℤ) (i : ℕ) → i < length times → row_at (rows_of width times words) i ≡ row_with (get_or times i (pos 0)) (take width (drop (i * width) words))
row-there width [] words i h = absurd (omega arith)
row-there width (t ∷ ts) words zero h =
    let none : 0 * width ≡ 0 = omega arith in
    rw none refl
row-there width (t ∷ ts) words (suc i) h =
    let past : width + i * width ≡ suc i * width = omega arith in
    row-there width ts (drop width words) i (omega (arith, h))
    ∙ ap (λ x. row_with (get_or ts i (pos 0)) (take width x)) (drop-drop (i * width) width words ∙ ap (λ n. drop n words) past)

-- one more row
pub rows-push : (width : ℕ) (times words : List ℤ) (t : ℤ) (v : List ℤ) → length words ≡ length times * width → length v ≡ width
    → rows_of width (times ++ t ∷ []) (words ++ v) ≡ rows_of width times words ++ row_with t v ∷ []
rows-push width [] [] t v h e = ap (λ x. row_with t x ∷ []) (take_all width v (omega (arith, e)))
rows-push width [] (w ∷ ws) t v h e = absurd (omega (arith, h))
rows-push width (x ∷ xs) words t v h e =
    let enough : width ≤ length words = omega (arith, h) in
    let left : length (drop width words) ≡ length xs * width = simp length-drop (omega (arith, h)) in
    rw (take-append-le width words v enough, drop-append-le width words v enough)
    (ap (λ (r : List TableRow). row_with x (take width words) ∷ r) (rows-push width xs (drop width words) t v left e))

-- the lists grow by a row
pub flat-push : (width : ℕ) (times words : List ℤ) (t : ℤ) (v : List ℤ) → length words ≡ length times * width → length v ≡ width
    → length (words ++ v) ≡ length (times ++ t ∷ []) * width
flat-push width times words t v h e = simp length-append (omega (arith, h, e))

-- the words of a row stand among the words
pub row-within : (width i n size : ℕ) → i < n → size ≡ n * width → i * width + width ≤ size
row-within width i n size h e =
    let grows : suc i * width ≤ n * width = mul-le-mul_right {m = suc i} {n = n} width (omega (arith, h)) in
    omega (arith, grows, e)

-- rows, as contracts see them
pub count-of : (width : ℕ) (times words : List ℤ) (rows : List TableRow) → rows_of width times words ≡ rows → length rows ≡ length times
count-of width times words rows e = ap (λ (x : List TableRow). length x) (sym e) ∙ rows-count width times words

there : (width : ℕ) (times words : List ℤ) (rows : List TableRow) (i : ℕ) → rows_of width times words ≡ rows → i < length rows
    → row_at rows i ≡ row_with (get_or times i (pos 0)) (take width (drop (i * width) words))
there width times words rows i e h =
    let count = count-of width times words rows e in
    ap (λ (x : List TableRow). row_at x i) (sym e) ∙ row-there width times words i (omega (arith, count, h))

pub time-of : (width : ℕ) (times words : List ℤ) (rows : List TableRow) (i : ℕ) → rows_of width times words ≡ rows → i < length rows → (row_at rows i).time ≡ get_or times i (pos 0)
time-of width times words rows i e h = ap (λ (r : TableRow). r.time) (there width times words rows i e h)

pub words-of : (width : ℕ) (times words : List ℤ) (rows : List TableRow) (i : ℕ) → rows_of width times words ≡ rows → i < length rows
    → (row_at rows i).words ≡ take width (drop (i * width) words)
words-of width times words rows i e h = ap (λ (r : TableRow). r.words) (there width times words rows i e h)
