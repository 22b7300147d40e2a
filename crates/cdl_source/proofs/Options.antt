-- Laws of options and tests that std lacks and that several crates need.
use Rattle.std.proofs.Common.{◌≡◌, ◌<◌, ℕ, true, false, List, Option, Some, None, is_none, refl, arith}
use Rattle.std.specs.Prelude.{◌==◌, option_and_then}
use Rattle.std.specs.Option.{option_map}
use Rattle.std.specs.Str.{bytes_eq}
use Rattle.std.proofs.lemmas.Bool.{false≢true}
use Rattle.std.proofs.lemmas.Bool.Decides.{nat_tests}
use Rattle.std.proofs.lemmas.Slice.Eq.{bytes_eq-Decides}

-- what a value came from
pub option_map-some : {X Y : Type 0} (f : X → Y) (o : Option X) (y : Y) → option_map f o ≡ Some y → (x : X) × (o ≡ Some x) × (f x ≡ y)
option_map-some f None y h = absurd (cc)
option_map-some f (Some x) y h = (x, refl, cc)

-- the two steps that gave a value
pub option_and_then-some : {X Y : Type 0} (f : X → Option Y) (o : Option X) (y : Y) → option_and_then f o ≡ Some y
    → (x : X) × (o ≡ Some x) × (f x ≡ Some y)
option_and_then-some f None y h = absurd (cc)
option_and_then-some f (Some x) y h = (x, refl, h)

pub is_none-true : {X : Type 0} (o : Option X) → is_none o ≡ true → o ≡ None
is_none-true None h = refl
is_none-true (Some x) h = absurd (false≢true h)

pub bytes_eq-true : (x y : List ℕ) → bytes_eq x y ≡ true → x ≡ y
bytes_eq-true x y h = (bytes_eq-Decides x y).0 h

pub bytes_eq-same : (x y : List ℕ) → x ≡ y → bytes_eq x y ≡ true
bytes_eq-same x y h = (bytes_eq-Decides x y).1 h

pub not_zero : (n : ℕ) → 0 < n → (n == 0) ≡ false
not_zero n h = grind (arith, nat_tests)
