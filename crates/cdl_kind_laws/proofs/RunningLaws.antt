-- The meanings that carry a state through a history, without it.
use Rattle.std.proofs.Common.{ℕ, ◌+◌, ◌≡◌, refl, sym, ◌∙◌, ap, ℤ, List, [], ◌∷◌, Bool, true, false, not, cond, ◌||◌, Option, Some, arith}
use Rattle.std.specs.Prelude.{pos, ◌+ℤ◌, ◌-ℤ◌, ◌<ℤ◌, ◌≤ℤ◌, count_by, map}
use Rattle.std.specs.List.{list_any}
use Rattle.std.specs.Int.RustNames.{int_le, int_lt}
use Rattle.std.proofs.lemmas.Int.{ints}
use Rattle.std.proofs.lemmas.Bool.Decides.{nat_tests}
use Rattle.std.proofs.lemmas.List.Sums.{sum_by-cons}
use Rattle.cdl_decimal.specs.Counts.{total}
use Rattle.cdl_values.specs.History.{History, Tick, bit, is_on, rises, starts, word}
use Rattle.cdl_kinds.specs.Meaning.Edges.{latched, toggled}
use Rattle.cdl_kinds.specs.Meaning.Integers.{counted}
use Rattle.cdl_kinds.specs.Meaning.Reals.{above, above_threshold, below, below_threshold, between, remembered}
use Rattle.cdl_kinds.specs.Meaning.Timers.{accumulated, since}
use Rattle.cdl_kind_laws.specs.Moments.{Moment, decision, is_on_at, is_odd, last_decision, latest, moment, moments, rises_at, since_last, starts_at, time_on}

latch_step : (c s y : Bool) (f : Moment → Bool) (m : Moment) (ms : List Moment) → f m ≡ s → y ≡ list_any f ms → cond c false (cond s true y) ≡ list_any f (cond c [] (m ∷ ms))
latch_step true s y f m ms e g = refl
latch_step false true y f m ms e g = rw e refl
latch_step false false y f m ms e g = rw e g

pub latched_is : (h : History) → latched h ≡ list_any (starts_at 0) (since_last (is_on_at 1) (moments h))
latched_is [] = refl
latched_is (t ∷ h) = latch_step (is_on (word t.ins 1)) (starts h t.ins 0) (latched h) (starts_at 0) (moment t h) (since_last (is_on_at 1) (moments h)) refl (latched_is h)

count-on : (f : Moment → Bool) (m : Moment) (ms : List Moment) → f m ≡ true → count_by f (m ∷ ms) ≡ 1 + count_by f ms
count-on f m ms e = sum_by-cons (λ x. cond (f x) 1 0) m ms ∙ ap (λ (b : Bool). cond b 1 0 + count_by f ms) e

count-off : (f : Moment → Bool) (m : Moment) (ms : List Moment) → f m ≡ false → count_by f (m ∷ ms) ≡ count_by f ms
count-off f m ms e = let c : count_by f (m ∷ ms) ≡ 0 + count_by f ms = sum_by-cons (λ x. cond (f x) 1 0) m ms ∙ ap (λ (b : Bool). cond b 1 0 + count_by f ms) e in omega arith

odd_next : (n : ℕ) → is_odd (1 + n) ≡ not (is_odd n)
odd_next n = grind (arith, nat_tests)

toggle_step : (c s y : Bool) (f : Moment → Bool) (m : Moment) (ms : List Moment) → f m ≡ s → y ≡ is_odd (count_by f ms) → cond c false (cond s (not y) y) ≡ is_odd (count_by f (cond c [] (m ∷ ms)))
toggle_step true s y f m ms e g = refl
toggle_step false true y f m ms e g = ap not g ∙ sym (odd_next (count_by f ms)) ∙ ap is_odd (sym (count-on f m ms e))
toggle_step false false y f m ms e g = g ∙ ap is_odd (sym (count-off f m ms e))

pub toggled_is : (h : History) → toggled h ≡ is_odd (count_by (starts_at 0) (since_last (is_on_at 1) (moments h)))
toggled_is [] = refl
toggled_is (t ∷ h) = toggle_step (is_on (word t.ins 1)) (starts h t.ins 0) (toggled h) (starts_at 0) (moment t h) (since_last (is_on_at 1) (moments h)) refl (toggled_is h)

count_step : (start y : ℤ) (r s : Bool) (f : Moment → Bool) (m : Moment) (ms : List Moment) → f m ≡ s → y ≡ start +ℤ pos (count_by f ms) → cond r start (y +ℤ bit s) ≡ start +ℤ pos (count_by f (cond r [] (m ∷ ms)))
count_step start y true s f m ms e g = omega (arith, ints)
count_step start y false true f m ms e g = omega (arith, ints, count-on f m ms e)
count_step start y false false f m ms e g = omega (arith, ints, count-off f m ms e)

pub counted_is : (start : ℤ) (h : History) → counted start h ≡ start +ℤ pos (count_by (rises_at 0) (since_last (rises_at 1) (moments h)))
counted_is start [] = omega (arith, ints)
counted_is start (t ∷ h) = count_step start (counted start h) (rises h t.ins 1) (rises h t.ins 0) (rises_at 0) (moment t h) (since_last (rises_at 1) (moments h)) refl (counted_is start h)

add_step : (y d : ℤ) (r : Bool) (f : Moment → ℤ) (m : Moment) (ms : List Moment) → f m ≡ d → y ≡ total (map f ms) → cond r (pos 0) (y +ℤ d) ≡ total (map f (cond r [] (m ∷ ms)))
add_step y d true f m ms e g = refl
add_step y d false f m ms e g = rw e (omega (arith, ints))

pub accumulated_is : (h : History) → accumulated h ≡ total (map time_on (since_last (rises_at 1) (moments h)))
accumulated_is [] = refl
accumulated_is (t ∷ h) = add_step (accumulated h) (since h t.time) (rises h t.ins 1) time_on (moment t h) (since_last (rises_at 1) (moments h)) refl (accumulated_is h)

decide_step : (sets : List ℤ → Bool) (start s r y : Bool) (t : Tick) (o : Option Tick) → sets t.ins ≡ s → y ≡ decision sets start o → cond s true (cond r false y) ≡ decision sets start (cond (s || r) (Some t) o)
decide_step sets start true r y t o e g = sym e
decide_step sets start false true y t o e g = sym e
decide_step sets start false false y t o e g = g

remembered_is : (f : Bool → List ℤ → Bool) (sets resets : List ℤ → Bool) (start : Bool) → ((y : Bool) (x : List ℤ) → f y x ≡ cond (sets x) true (cond (resets x) false y)) → (h : History) → remembered f start h ≡ last_decision sets resets start h
remembered_is f sets resets start e [] = refl
remembered_is f sets resets start e (t ∷ h) =
    e (remembered f start h) t.ins ∙ decide_step sets start (sets t.ins) (resets t.ins) (remembered f start h) t (latest (λ s. sets s.ins || resets s.ins) h) refl (remembered_is f sets resets start e h)

above_test : (d a b : ℤ) (y : Bool) → pos 0 ≤ℤ d → int_lt (b -ℤ cond y d (pos 0)) a ≡ cond (int_lt b a) true (cond (int_le a (b -ℤ d)) false y)
above_test d a b true l = grind (arith, ints, nat_tests)
above_test d a b false l = grind (arith, ints, nat_tests)

below_test : (d a b : ℤ) (y : Bool) → pos 0 ≤ℤ d → int_lt a (b +ℤ cond y d (pos 0)) ≡ cond (int_lt a b) true (cond (int_le (b +ℤ d) a) false y)
below_test d a b true l = grind (arith, ints, nat_tests)
below_test d a b false l = grind (arith, ints, nat_tests)

between_test : (low high a : ℤ) (y : Bool) → low <ℤ high → cond y (int_le low a) (int_lt high a) ≡ cond (int_lt high a) true (cond (int_lt a low) false y)
between_test low high a true l = grind (arith, ints, nat_tests)
between_test low high a false l = grind (arith, ints, nat_tests)

pub above_is : (d : ℤ) (start : Bool) (h : History) → pos 0 ≤ℤ d → remembered (above d) start h ≡ last_decision (λ x. int_lt (word x 1) (word x 0)) (λ x. int_le (word x 0) (word x 1 -ℤ d)) start h
above_is d start h l = remembered_is (above d) _ _ start (λ y x. above_test d (word x 0) (word x 1) y l) h

pub below_is : (d : ℤ) (start : Bool) (h : History) → pos 0 ≤ℤ d → remembered (below d) start h ≡ last_decision (λ x. int_lt (word x 0) (word x 1)) (λ x. int_le (word x 1 +ℤ d) (word x 0)) start h
below_is d start h l = remembered_is (below d) _ _ start (λ y x. below_test d (word x 0) (word x 1) y l) h

pub above_threshold_is : (t d : ℤ) (start : Bool) (h : History) → pos 0 ≤ℤ d → remembered (above_threshold t d) start h ≡ last_decision (λ x. int_lt t (word x 0)) (λ x. int_le (word x 0) (t -ℤ d)) start h
above_threshold_is t d start h l = remembered_is (above_threshold t d) _ _ start (λ y x. above_test d (word x 0) t y l) h

pub below_threshold_is : (t d : ℤ) (start : Bool) (h : History) → pos 0 ≤ℤ d → remembered (below_threshold t d) start h ≡ last_decision (λ x. int_lt (word x 0) t) (λ x. int_le (t +ℤ d) (word x 0)) start h
below_threshold_is t d start h l = remembered_is (below_threshold t d) _ _ start (λ y x. below_test d (word x 0) t y l) h

pub between_is : (low high : ℤ) (start : Bool) (h : History) → low <ℤ high → remembered (between low high) start h ≡ last_decision (λ x. int_lt high (word x 0)) (λ x. int_lt (word x 0) low) start h
between_is low high start h l = remembered_is (between low high) _ _ start (λ y x. between_test low high (word x 0) y l) h
