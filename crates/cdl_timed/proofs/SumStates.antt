-- Times that are added up, a tick further.
use Rattle.std.proofs.Common.{ℕ, ◌≡◌, zero, suc, refl, ap, inl, inr, ℤ, List, [], ◌∷◌, Bool, true, false, cond, not, ◌&&◌, arith}
use Rattle.std.specs.Prelude.{pos, negsuc, ◌≤ℤ◌, ◌<ℤ◌, ◌+ℤ◌, ◌*ℤ◌}
use Rattle.std.proofs.lemmas.Int.{ints}
use Rattle.std.proofs.lemmas.Bool.{and_right}
use Rattle.cdl_values.specs.declared.value.ValueType.TheVariants.{Boolean}
use Rattle.cdl_values.specs.History.{AreValues, History, IsHistory, before, bit, is_on, last_time, rises, tick, typed, word}
use Rattle.cdl_kinds.specs.Meaning.Timers.{accumulated, elapsed, since, timer_accumulating}
use Rattle.cdl_kinds.specs.States.{IsAccumulatingState}
use Rattle.cdl_kind_laws.proofs.Past.{accumulated_added}
use Rattle.cdl_kind_laws.proofs.ValueWords.{before_value, bit_value}
use Rattle.cdl_timed.specs.Sums.{IsSum, sum_next}
use Rattle.cdl_timed.proofs.ValueStates.{bit_again}

-- where u was true there was a tick
pub time_known : (sum last : ℤ) (u : Bool) → IsSum sum last u → u ≡ true → pos 0 ≤ℤ last
time_known sum (pos last) u s e = omega (arith, ints)
time_known sum (negsuc zero) u s e = let f : u ≡ false = (s.none refl).1 in cc
time_known sum (negsuc (suc last)) u s e = absurd (omega (arith, ints, s.low))

pub sum_known : (sum last now : ℤ) (u : Bool) → IsSum sum last u → last <ℤ now → pos 0 ≤ℤ now → (pos 0 ≤ℤ (sum +ℤ cond u (elapsed last now) (pos 0))) × ((sum +ℤ cond u (elapsed last now) (pos 0)) ≤ℤ (now *ℤ pos 1000))
sum_known sum (pos last) now true s l n = let k = s.some (omega (arith, ints)) in (omega (arith, ints, k.0), omega (arith, ints, k.0, k.1))
sum_known sum (pos last) now false s l n = let k = s.some (omega (arith, ints)) in (omega (arith, ints, k.0), omega (arith, ints, k.0, k.1))
sum_known sum (negsuc zero) now true s l n = let f : true ≡ false = (s.none refl).1 in cc
sum_known sum (negsuc zero) now false s l n = let k = s.none refl in (omega (arith, ints, k.0), omega (arith, ints, k.0))
sum_known sum (negsuc (suc last)) now u s l n = absurd (omega (arith, ints, s.low))

pub rises_before : (h : History) (x : List ℤ) (i : ℕ) → (is_on (word x i) && not (is_on (before (pos 1) i h))) ≡ rises h x i
rises_before [] x i = and_right (is_on (word x i)) false refl
rises_before (t ∷ h) x i = refl

since_before : (h : History) (now : ℤ) → cond (is_on (before (pos 0) 0 h)) (elapsed (last_time h) now) (pos 0) ≡ since h now
since_before [] now = refl
since_before (t ∷ h) now = refl

pub sum_further : (now n r sum last : ℤ) (u q : Bool) (s x : List ℤ) (h : History) → s ≡ accumulated h ∷ last_time h ∷ before (pos 0) 0 h ∷ before (pos 1) 1 h ∷ [] → sum ≡ word s 0 → last ≡ word s 1 → u ≡ is_on (word s 2) → q ≡ is_on (word s 3)
    → n ≡ now → r ≡ sum_next sum last u q n x → r ≡ accumulated (tick now x ∷ h)
sum_further now n r sum last u q s x h e f g i j k l = rw (l, k, f, g, i, j, e) (rw (rises_before h x 1, since_before h now) refl)

pub sum_stands : (now r k : ℤ) (u q : Bool) (x y : List ℤ) (h : History) → AreValues (typed (Boolean ∷ Boolean ∷ [])) x → r ≡ accumulated (tick now x ∷ h) → k ≡ now → u ≡ is_on (word x 0) → q ≡ is_on (word x 1) → y ≡ r ∷ k ∷ bit u ∷ bit q ∷ []
    → y ≡ accumulated (tick now x ∷ h) ∷ now ∷ word x 0 ∷ word x 1 ∷ []
sum_stands now r k u q x y h v e f g i j =
    rw (j, f, g, i) (rw (bit_again (word x 0) (v.each 0 (omega arith)), bit_again (word x 1) (v.each 1 (omega arith))) (ap (λ (z : ℤ). z ∷ now ∷ word x 0 ∷ word x 1 ∷ []) e))

pub sum_kept : (now r k : ℤ) (u q : Bool) (y : List ℤ) → pos 0 ≤ℤ now → pos 0 ≤ℤ r → r ≤ℤ (now *ℤ pos 1000) → k ≡ now → y ≡ r ∷ k ∷ bit u ∷ bit q ∷ [] → IsAccumulatingState y now
sum_kept now r k u q y n l m f j = rw (j, f) (record {
  size = refl;
  time = record { low = omega (arith, ints); high = omega (arith, ints) };
  input = bit_value u;
  reset = bit_value q;
  none = λ e. absurd (omega (arith, ints));
  some = λ _. (l, m);
})

pub sum_sound : (t last : ℤ) (s : List ℤ) (h : History) → IsHistory (typed (Boolean ∷ Boolean ∷ [])) (timer_accumulating t) h → s ≡ accumulated h ∷ last_time h ∷ before (pos 0) 0 h ∷ before (pos 1) 1 h ∷ [] → last ≡ last_time h → IsAccumulatingState s last
sum_sound t last s [] i e l = rw (e, l) (record {
  size = refl;
  time = record { low = omega (arith, ints); high = omega (arith, ints) };
  input = inl refl;
  reset = inr refl;
  none = λ _. (refl, refl);
  some = λ m. absurd (omega (arith, ints));
})
sum_sound t last s (a ∷ h) i e l = rw (e, l) (record {
  size = refl;
  time = record { low = omega (arith, ints, i.ticks.0.0); high = omega (arith, ints) };
  input = before_value Boolean (pos 0) 0 (a ∷ h) (omega arith) refl (inl refl) i;
  reset = before_value Boolean (pos 1) 1 (a ∷ h) (omega arith) refl (inr refl) i;
  none = λ f. absurd (omega (arith, ints, i.ticks.0.0));
  some = λ _. accumulated_added a h i;
})
