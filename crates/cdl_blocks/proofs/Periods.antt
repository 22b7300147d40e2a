-- Parameters that keep their conditions.
use Rattle.std.proofs.Common.{◌<◌, ◌≤◌, ◌≡◌, ℤ, List, true, arith}
use Rattle.std.specs.Prelude.{pos, negsuc, ◌<ℤ◌, unsigned_abs}
use Rattle.std.proofs.lemmas.Int.{ints}
use Rattle.std.proofs.lemmas.Bool.Decides.{nat_tests}
use Rattle.cdl_kinds.specs.declared.kind.Kind.TheVariants.{DiscreteSampler, DiscreteTriggeredMovingMean, DiscreteUnitDelay, DiscreteZeroOrderHold, LogicalSourcesPulse}
use Rattle.cdl_kinds.specs.Conditions.{Keeps, is_positive, is_share, is_window}
use Rattle.cdl_kinds.proofs.Laws.{both_hold, one_holds}
use Rattle.cdl_kind_laws.proofs.ParameterRanges.{not_empty, positive}
use Rattle.cdl_values.specs.declared.value.Array.{Array}
use Rattle.cdl_values.specs.Values.{integer_at, real_at}

pub sampler_period : (v : List Array) → Keeps DiscreteSampler v → pos 0 <ℤ real_at v 0
sampler_period v k = positive (real_at v 0) (one_holds (is_positive (real_at v 0)) k.holds)

pub hold_period : (v : List Array) → Keeps DiscreteZeroOrderHold v → pos 0 <ℤ real_at v 0
hold_period v k = positive (real_at v 0) (one_holds (is_positive (real_at v 0)) k.holds)

pub delay_period : (v : List Array) → Keeps DiscreteUnitDelay v → pos 0 <ℤ real_at v 0
delay_period v k = positive (real_at v 0) (one_holds (is_positive (real_at v 0)) k.holds)

pub pulse_period : (v : List Array) → Keeps LogicalSourcesPulse v → pos 0 <ℤ real_at v 1
pulse_period v k = positive (real_at v 1) (both_hold (is_share (real_at v 0)) (is_positive (real_at v 1)) k.holds).1

window_small : (z : ℤ) → is_window z ≡ true → unsigned_abs z ≤ 1024
window_small (pos n) e = grind (arith, ints, nat_tests)
window_small (negsuc n) e = grind (arith, ints, nat_tests)

pub window_size : (v : List Array) → Keeps DiscreteTriggeredMovingMean v → (0 < unsigned_abs (integer_at v 0)) × (unsigned_abs (integer_at v 0) ≤ 1024)
window_size v k = let w = one_holds (is_window (integer_at v 0)) k.holds in (not_empty (integer_at v 0) w, window_small (integer_at v 0) w)
