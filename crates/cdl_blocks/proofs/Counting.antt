-- Counters and changes, a tick further.
use Rattle.std.proofs.Common.{◌≡◌, ◌≤◌, ◌∙◌, ap, refl, ℤ, List, [], ◌∷◌, Bool, true, false, cond, not, ◌&&◌, Some, None, Result, Ok, Err, arith}
use Rattle.std.specs.Prelude.{IsSome, MatchResult, OnErr, OnOk, pos, ◌+ℤ◌, unsigned_abs}
use Rattle.std.proofs.lemmas.Int.{ints}
use Rattle.std.proofs.lemmas.Bool.Decides.{nat_tests}
use Rattle.cdl_values.specs.declared.value.ValueType.TheVariants.{Boolean}
use Rattle.cdl_values.specs.History.{AreValues, History, before, bit, integer, integers, is_on, tick, typed, word}
use Rattle.cdl_kinds.specs.Meaning.Integers.{changes, counted, on_counter}
use Rattle.cdl_kind_laws.proofs.TypedWords.{integer_typed}
use Rattle.cdl_kind_laws.proofs.ValueWords.{bit_value, integer_fits, three_values}
use Rattle.cdl_timed.proofs.ValueStates.{bit_again}
use Rattle.cdl_timed.proofs.SumStates.{rises_before}
use Rattle.cdl_blocks.specs.Counter.{count_next}

pub changes_typed : (u p : ℤ) → AreValues (typed (Boolean ∷ Boolean ∷ Boolean ∷ [])) (changes u p)
changes_typed u p = three_values Boolean Boolean Boolean _ _ _ (bit_value _) (bit_value _) (bit_value _)

-- the count of the state is that of the history, and so it is a tick later
pub count_further : (start now : ℤ) (s x : List ℤ) (h : History) (count r : ℤ) (trigger reset : Bool) → r ≡ count_next start count trigger reset x → count ≡ word s 0 → trigger ≡ is_on (word s 1) → reset ≡ is_on (word s 2)
    → s ≡ counted start h ∷ before (pos 1) 0 h ∷ before (pos 1) 1 h ∷ [] → r ≡ counted start (tick now x ∷ h)
count_further start now s x h count r trigger reset n c t q e = rw (n, c, t, q, e) (rw (rises_before h x 1, rises_before h x 0) refl)

pub given_typed : {A B : Type 0} (r : Result A B) (z : ℤ) (y : List ℤ) → MatchResult r (λ _. integer z ≡ Some y) (λ _. integer z ≡ None) → OnOk r (AreValues (integers 1) y)
given_typed (Ok a) z y e = integer_typed z y e
given_typed (Err b) z y e = tt

out_of_range : (z : ℤ) → integer z ≡ None → 2147483648 ≤ unsigned_abs z
out_of_range z e = grind (arith, nat_tests)

-- only a count that goes up passes the range
passes : (start count : ℤ) (r t : Bool) (u : Bool) → unsigned_abs start ≤ 2147483647 → unsigned_abs count ≤ 2147483647 → 2147483648 ≤ unsigned_abs (cond r start (count +ℤ bit (u && t))) → u ≡ true
passes start count true t u s c e = absurd (omega arith)
passes start count false t true s c e = refl
passes start count false t false s c e = absurd (omega (arith, ints))

pub lacks_count : {A B : Type 0} (r : Result A B) (z start count : ℤ) (trigger reset : Bool) (x y : List ℤ) → z ≡ count_next start count trigger reset x → unsigned_abs start ≤ 2147483647 → unsigned_abs count ≤ 2147483647
    → MatchResult r (λ _. integer z ≡ Some y) (λ _. integer z ≡ None) → OnErr r (is_on (word x 0) ≡ true)
lacks_count (Ok a) z start count trigger reset x y e s c m = tt
lacks_count (Err b) z start count trigger reset x y e s c m =
    passes start count (is_on (word x 1) && not reset) (not trigger) (is_on (word x 0)) s c (rw (← e) (out_of_range z m))

-- what is kept stands for one tick more
pub counter_stands : (start now : ℤ) (x y : List ℤ) (h : History) (k r : ℤ) (t q : Bool) → AreValues (typed (Boolean ∷ Boolean ∷ [])) x → y ≡ k ∷ bit t ∷ bit q ∷ [] → (unsigned_abs r ≤ 2147483647 → k ≡ r) → t ≡ is_on (word x 0) → q ≡ is_on (word x 1)
    → r ≡ counted start (tick now x ∷ h) → IsSome (on_counter start h now x) → y ≡ counted start (tick now x ∷ h) ∷ word x 0 ∷ word x 1 ∷ []
counter_stands start now x y h k r t q v e f i j n s =
    let l : unsigned_abs r ≤ 2147483647 = rw n (integer_fits (counted start (tick now x ∷ h)) s) in
    let m : k ≡ counted start (tick now x ∷ h) = f l ∙ n in
    rw (e, i, j) (rw (bit_again (word x 0) (v.each 0 (omega arith)), bit_again (word x 1) (v.each 1 (omega arith))) (ap (λ (z : ℤ). z ∷ word x 0 ∷ word x 1 ∷ []) m))
