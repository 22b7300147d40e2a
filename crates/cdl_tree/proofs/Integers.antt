-- A whole number read digit by digit is the number that its digits write.
use Rattle.std.proofs.Common.{◌≡◌, ℕ, ◌+◌, ◌-◌, ◌*◌, ◌≤◌, ℤ, pos, Bool, true, false, ◌&&◌, nat_le, if◌then◌else◌, List, [], ◌∷◌, Option, Some, None, refl, sym, ap, ◌∙◌, arith}
use Rattle.cdl_source.specs.declared.limits.TheConstants.{LARGEST_INTEGER}
use Rattle.std.specs.Char.{is_ascii_digit}
use Rattle.std.specs.List.{list_all}
use Rattle.std.specs.Option.{option_map}
use Rattle.std.proofs.lemmas.Bool.{le-leb, leb-true}
use Rattle.std.proofs.lemmas.Bool.Decides.{nat_tests}
use Rattle.cdl_decimal.specs.Spells.{number_after}
use Rattle.cdl_decimal.proofs.DigitLaws.{number_after-grows}
use Rattle.cdl_tree.specs.Literals.{integer_from, integer_of}

abbrev wanted : ℕ → List ℕ → Option ℤ
wanted n ds = if list_all is_ascii_digit ds && nat_le (number_after n ds) LARGEST_INTEGER then Some (pos (number_after n ds)) else None

too_great : (ds : List ℕ) (n : ℕ) → nat_le n LARGEST_INTEGER ≡ false → nat_le (number_after n ds) LARGEST_INTEGER ≡ false
too_great ds n e = let h : n ≤ number_after n ds = number_after-grows ds n in grind (arith, nat_tests)

none_of : (b : Bool) (m : ℕ) → nat_le m LARGEST_INTEGER ≡ false → None ≡ (if b && nat_le m LARGEST_INTEGER then Some (pos m) else None)
none_of true m e = rw e refl
none_of false m e = refl

one_more : (b c : Bool) (m : ℕ) (ds : List ℕ) → (c ≡ true → option_map pos (integer_from (Some m) ds) ≡ wanted m ds)
    → (c ≡ false → nat_le (number_after m ds) LARGEST_INTEGER ≡ false)
    → option_map pos (integer_from (if b && c then Some m else None) ds)
    ≡ (if (b && list_all is_ascii_digit ds) && nat_le (number_after m ds) LARGEST_INTEGER then Some (pos (number_after m ds)) else None)
one_more false c m ds small great = refl
one_more true true m ds small great = small refl
one_more true false m ds small great = none_of (list_all is_ascii_digit ds) _ (great refl)

from_is : (ds : List ℕ) (n : ℕ) → n ≤ LARGEST_INTEGER → option_map pos (integer_from (Some n) ds) ≡ wanted n ds
from_is [] n h = let t : nat_le n LARGEST_INTEGER ≡ true = le-leb _ _ h in rw t refl
from_is (d ∷ ds) n h = one_more (is_ascii_digit d) (nat_le (n * 10 + (d - 48)) LARGEST_INTEGER) (n * 10 + (d - 48)) ds (λ e. from_is ds _ (leb-true _ _ e)) (λ e. too_great ds _ e)

pub integer_is : (text : List ℕ) → option_map pos (integer_from (Some 0) text) ≡ integer_of text
unfolding integer_of
integer_is text = from_is text 0 (leb-true _ _ refl)

pub integer_some : (text : List ℕ) (n : ℕ) → integer_from (Some 0) text ≡ Some n → Some (pos n) ≡ integer_of text
integer_some text n e = ap (λ z. option_map pos z) (sym e) ∙ integer_is text

pub integer_none : (text : List ℕ) → integer_from (Some 0) text ≡ None → None ≡ integer_of text
integer_none text e = ap (λ z. option_map pos z) (sym e) ∙ integer_is text
