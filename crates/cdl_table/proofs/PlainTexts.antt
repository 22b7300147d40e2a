-- The texts of a tick's values call for no quotes.
use Rattle.std.proofs.Common.{◌≡◌, ◌+◌, ◌<◌, ◌≤◌, ◌^◌, ◌/◌, ◌%◌, ◌∙◌, ℕ, ℤ, zero, suc, Bool, true, false, List, [], ◌∷◌, ◌++◌, map, length, ap, sym, arith, refl, append_assoc, pos, negsuc, lit≤, cond, ◌==◌}
use lib.Signed.{mag}
use Rattle.std.specs.Prelude.{unsigned_abs}
use Rattle.std.specs.Fmt.{decimal as std_decimal, signed_decimal}
use Rattle.std.specs.Int.Digits.{digits_of}
use Rattle.std.specs.Int.RustNames.{int_lt}
use Rattle.std.proofs.lemmas.Bool.Decides.{nat_tests}
use Rattle.std.proofs.lemmas.Fmt.{decimal_by_steps, decimal_nonempty}
use Rattle.csv.specs.Quoting.{needs_byte}
use Rattle.csv.specs.Writing.{default_writer, field_text, fields_text, is_blank, needs_quotes, row_text, comma}
use Rattle.cdl_decimal.specs.Canon.{canon, decimal, digit, places_of, point_of, sign_of}
use Rattle.cdl_table.specs.Trace.{boolean_text}

-- every byte is that of `-` or above it, so no comma, no quote and no end of a line
pub data IsPlain : List ℕ → Type 0 where
  none : IsPlain []
  more : (b : ℕ) (bs : List ℕ) → 45 ≤ b → IsPlain bs → IsPlain (b ∷ bs)

needs-above : (b : ℕ) → 45 ≤ b → needs_byte default_writer b ≡ false
needs-above b h = grind (arith, nat_tests)

needs-plain : (text : List ℕ) → IsPlain text → needs_quotes default_writer text ≡ false
needs-plain _ none = refl
needs-plain _ (more b bs h p) = rw (needs-above b h) (needs-plain bs p)

pub field_text-plain : (text : List ℕ) → IsPlain text → field_text default_writer text ≡ text
field_text-plain text h = rw (needs-plain text h) refl

pub plain-append : (a b : List ℕ) → IsPlain a → IsPlain b → IsPlain (a ++ b)
plain-append _ b none q = q
plain-append _ b (more x xs h p) q = more x (xs ++ b) h (plain-append xs b p q)

plain-digits : (ds : List ℕ) → IsPlain (map digit ds)
plain-digits [] = none
plain-digits (d ∷ ds) = more (48 + d) (map digit ds) (omega arith) (plain-digits ds)

plain-decimal : (n : ℕ) → IsPlain (decimal n)
plain-decimal n = elim (n == 0) as (λ b. IsPlain (cond b (48 ∷ []) (map digit (digits_of 10 n)))) [ true ↦ more 48 [] (lit≤ tt) none | false ↦ plain-digits (digits_of 10 n) ]

plain-places : (places n : ℕ) → IsPlain (places_of places n)
plain-places zero n = none
plain-places (suc places) n =
    elim (n == 0) as (λ b. IsPlain (cond b [] (digit (n / 10 ^ places) ∷ places_of places (n % 10 ^ places)))) [ true ↦ none | false ↦ more (48 + n / 10 ^ places) (places_of places (n % 10 ^ places)) (omega arith) (plain-places places (n % 10 ^ places)) ]

plain-point : (n : ℕ) → IsPlain (point_of n)
plain-point n = elim (n == 0) as (λ b. IsPlain (cond b [] (46 ∷ places_of 6 n))) [ true ↦ none | false ↦ more 46 (places_of 6 n) (lit≤ tt) (plain-places 6 n) ]

plain-sign : (c : ℤ) → IsPlain (sign_of c)
plain-sign c = elim (int_lt c (pos 0)) as (λ b. IsPlain (cond b (45 ∷ []) [])) [ true ↦ more 45 [] (lit≤ tt) none | false ↦ none ]

pub plain-canon : (c : ℤ) → IsPlain (canon c)
unfolding canon
plain-canon c =
    plain-append (sign_of c ++ decimal (unsigned_abs c / 1000000)) (point_of (unsigned_abs c % 1000000)) (plain-append (sign_of c) (decimal (unsigned_abs c / 1000000)) (plain-sign c) (plain-decimal (unsigned_abs c / 1000000))) (plain-point (unsigned_abs c % 1000000))

plain-std_decimal : (n : ℕ) → n < 2 ^ 64 → IsPlain (std_decimal n)
plain-std_decimal n h =
    decimal_by_steps (λ _ ds. IsPlain ds) (λ d _. more (48 + d) [] (omega arith) none) (λ m ds _ p. plain-append ds ((48 + m % 10) ∷ []) p (more (48 + m % 10) [] (omega arith) none)) n h

pub plain-signed : (z : ℤ) → mag z < 2 ^ 63 → IsPlain (signed_decimal z)
plain-signed (pos n) h = plain-std_decimal n (omega arith)
plain-signed (negsuc n) h = more 45 (std_decimal (suc n)) (lit≤ tt) (plain-std_decimal (suc n) (omega arith))

pub signed-some : (z : ℤ) → mag z < 2 ^ 63 → 0 < length (signed_decimal z)
signed-some (pos n) h = decimal_nonempty n (omega arith)
signed-some (negsuc n) h = omega arith

pub plain-boolean : (b : Bool) → IsPlain (boolean_text b)
plain-boolean true = more 116 _ (lit≤ tt) (more 114 _ (lit≤ tt) (more 117 _ (lit≤ tt) (more 101 _ (lit≤ tt) none)))
plain-boolean false = more 102 _ (lit≤ tt) (more 97 _ (lit≤ tt) (more 108 _ (lit≤ tt) (more 115 _ (lit≤ tt) (more 101 _ (lit≤ tt) none))))

-- a comma and a plain text behind what stands is a field more
pub next_field : (old comma_behind now field text : List ℕ) → comma_behind ≡ old ++ 44 ∷ [] → now ≡ comma_behind ++ field → field ≡ text → IsPlain text
    → now ≡ old ++ comma ∷ field_text default_writer text
next_field old comma_behind now field text a b e p = rw (field_text-plain text p, b, a, e) (append_assoc old (44 ∷ []) text)

-- the texts of one field more
pub fields_text-more : (field : List ℕ) (rest : List (List ℕ)) → fields_text default_writer (field ∷ rest) ≡ comma ∷ (field_text default_writer field ++ fields_text default_writer rest)
unfolding fields_text
fields_text-more field rest = refl

pub fields_text-none : fields_text default_writer [] ≡ []
unfolding fields_text
fields_text-none = refl

is_blank-plain : (first : List ℕ) (rest : List (List ℕ)) → IsPlain first → 0 < length first → is_blank default_writer (first ∷ rest) ≡ false
unfolding is_blank
is_blank-plain [] rest p some = absurd (omega arith)
is_blank-plain (b ∷ bs) [] p some =
    let some_byte : (suc (length bs) == 0) ≡ false = grind (arith, nat_tests) in
    rw (needs-plain (b ∷ bs) p) some_byte
is_blank-plain (b ∷ bs) (next ∷ rest) p some = refl

-- a plain text and the fields behind it, ended by a line feed, are a record
row_text-plain : (first : List ℕ) (rest : List (List ℕ)) → IsPlain first → 0 < length first → row_text default_writer (first ∷ rest) ≡ (first ++ fields_text default_writer rest) ++ 10 ∷ []
row_text-plain first rest p some = rw (is_blank-plain first rest p some, needs-plain first p) refl

-- what a buffer holds as a record is put into it
pub record_put : (cleared with_first with_rest whole first : List ℕ) (rest : List (List ℕ)) → cleared ≡ [] → with_first ≡ cleared ++ first
    → with_rest ≡ with_first ++ fields_text default_writer rest → whole ≡ with_rest ++ 10 ∷ [] → IsPlain first → 0 < length first → whole ≡ row_text default_writer (first ∷ rest)
record_put cleared with_first with_rest whole first rest a b c d p some = rw (row_text-plain first rest p some, d, c, b, a) refl

-- one field more was put behind what stood there
pub field_put : (start old new text : List ℕ) (texts rest : List (List ℕ)) → new ≡ old ++ comma ∷ field_text default_writer text → texts ≡ text ∷ rest
    → old ++ fields_text default_writer texts ≡ start → new ++ fields_text default_writer rest ≡ start
field_put start old new text texts rest e t h =
    ap (λ (x : List ℕ). x ++ fields_text default_writer rest) e ∙ append_assoc old (comma ∷ field_text default_writer text) (fields_text default_writer rest)
    ∙ ap (λ (x : List ℕ). old ++ x) (sym (fields_text-more text rest)) ∙ ap (λ (x : List (List ℕ)). old ++ fields_text default_writer x) (sym t) ∙ h
