use Rattle.std.proofs.Common.{arith, ℕ, suc, ◌+◌, ◌-◌, ◌*◌, ◌^◌, ◌≤◌, sym, ◌∙◌, ap, length, drop, get_or, add-one}
use Rattle.cdl_decimal.specs.Spells.{IsDigit, AllDigits, number_after}
use Rattle.cdl_decimal.proofs.DigitLaws.{digit_left, number_left, room_at, more_at}
use Rattle.cdl_decimal.proofs.numeral.number_after.Goals.{After-from, In-loop-digit}
use Rattle.cdl_decimal.proofs.numeral.number_after.Goals as goal

pub overflow_mul-sum : goal.overflow_mul-sum
overflow_mul-sum c =
    let room : (c.loop-digit.sum + 1) * 10 ≤ (c.args.n + 1) * 10 ^ length c.args.digits.now = room_at c.loop-digit.sum c.loop-digit.digit-index (length c.args.digits.now) _ c.loop-digit-test.true c.loop-digit.invariant.below in
    omega arith

digit : (c : After-from) → IsDigit (get_or c.args.digits.now c.loop-digit.digit-index 0) × AllDigits (drop (suc c.loop-digit.digit-index) c.args.digits.now)
digit c = digit_left c.args.digits.now c.loop-digit.digit-index c.loop-digit-test.true c.loop-digit.invariant.left

small : (c : After-from) → c.from.result ≤ 9
small c = let d = digit c in omega (arith, d.0.0, d.0.1, c.from.ensures)

pub overflow_add-sum : goal.overflow_add-sum
overflow_add-sum c =
    let room : (c.loop-digit.sum + 1) * 10 ≤ (c.args.n + 1) * 10 ^ length c.args.digits.now = room_at c.loop-digit.sum c.loop-digit.digit-index (length c.args.digits.now) _ c.loop-digit-test.true c.loop-digit.invariant.below in
    omega (arith, small c)

pub loop-digit-preserved : goal.loop-digit-preserved
loop-digit-preserved c =
    let i = c.loop-digit.digit-index in
    let ds = c.args.digits.now in
    let more : (c.loop-digit.sum * 10 + c.from.result + 1) * 10 ^ (length ds - (i + 1)) ≤ (c.args.n + 1) * 10 ^ length ds = more_at c.loop-digit.sum c.from.result i (length ds) _ c.loop-digit-test.true (small c) c.loop-digit.invariant.below in
    record {
      rest = rw add-one (ap (λ (d : ℕ). number_after (c.loop-digit.sum * 10 + d) (drop (suc i) ds)) c.from.ensures ∙ sym (number_left c.loop-digit.sum ds i c.loop-digit-test.true) ∙ c.loop-digit.invariant.rest);
      left = rw add-one (digit c).1;
      below = more;
      small = c.loop-digit.invariant.small;
    }
