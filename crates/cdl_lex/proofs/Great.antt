-- Literals that are past their limits.
use Rattle.std.proofs.Common.{◌≡◌, ℕ, ◌+◌, ◌-◌, ◌*◌, ◌<◌, ◌≤◌, List, ◌∷◌, length, drop, get_or, sym, ap, ◌∙◌, arith, add-one, drop-cons}
use Rattle.cdl_source.specs.declared.limits.TheConstants.{LARGEST_INTEGER}
use Rattle.std.proofs.Common.{inl, inr, ℤ, Result, Ok, Err, IsTrue}
use Rattle.cdl_decimal.specs.Spells.{number, number_after, Parses}
use Rattle.cdl_decimal.specs.declared.numeral.DecimalError.{DecimalError}
use Rattle.cdl_decimal.specs.declared.numeral.DecimalError.TheVariants.{NotDecimal, TooLong, OutOfRange}
use Rattle.cdl_decimal.proofs.DigitLaws.{number_after-grows}
use Rattle.cdl_lex.specs.Limits.{IsRefused}
use Rattle.cdl_lex.specs.Steps.{refuses}

pub next_digit : (ds : List ℕ) (i n : ℕ) → i < length ds → number_after n (drop i ds) ≡ number_after (n * 10 + (get_or ds i 0 - 48)) (drop (i + 1) ds)
next_digit ds i n l = let front : drop i ds ≡ get_or ds i 0 ∷ drop (i + 1) ds = rw add-one (drop-cons ds i 0 l) in ap (number_after n) front

pub is_above : (ds : List ℕ) (i n m : ℕ) → i < length ds → number_after n (drop i ds) ≡ number ds → m ≡ n * 10 + (get_or ds i 0 - 48) → LARGEST_INTEGER < m → LARGEST_INTEGER < number ds
is_above ds i n m l e same great =
    let more : m ≤ number_after m (drop (i + 1) ds) = number_after-grows (drop (i + 1) ds) m in
    let whole : number_after m (drop (i + 1) ds) ≡ number ds = ap (λ z. number_after z (drop (i + 1) ds)) same ∙ sym (next_digit ds i n l) ∙ e in
    omega arith

-- ---- decimal texts

refused_by : (text : List ℕ) (r : Result ℤ DecimalError) → Parses text r → IsTrue (refuses r) → IsRefused text
refused_by text (Ok q) h e = cc
refused_by text (Err NotDecimal) h e = cc
refused_by text (Err TooLong) h e = inl h
refused_by text (Err OutOfRange) h e = inr h

pub refused_law : (text : List ℕ) (r : Result ℤ DecimalError) → Parses text r → ((q : Result ℤ DecimalError) → Parses text q → r ≡ q) → (IsTrue (refuses r) → IsRefused text) × (IsRefused text → IsTrue (refuses r))
refused_law text r h only = (refused_by text r h, λ x. elim x [ inl y ↦ ap refuses (only (Err TooLong) y) | inr y ↦ ap refuses (only (Err OutOfRange) y) ])
