use Rattle.std.proofs.Common.{◌≤◌, ◌<◌, ◌^◌, ℕ, arith}
use Rattle.std.proofs.Math.Nat.{pow-le-pow_right}
use Rattle.cdl_table.proofs.cells.read_number.Goals as goal

-- a number of less than 14 digits is small
small : (number index n most : ℕ) → number < 10 ^ index → index < n → n ≤ most → most ≤ 14 → number < 100000000000000
small number index n most p q r s =
    let grows : 10 ^ index ≤ 10 ^ 14 = pow-le-pow_right {n = 10} (omega arith) {i = index} {j = 14} (omega arith) in
    omega arith

pub overflow_mul-number : goal.overflow_mul-number
overflow_mul-number c =
    let inv = c.loop-digit.invariant in
    omega (arith, small c.loop-digit.number c.loop-digit.digit-index _ _ inv.size c.loop-digit-test.true inv.short inv.few)

pub overflow_add-number : goal.overflow_add-number
overflow_add-number c =
    let inv = c.loop-digit.invariant in
    omega (arith, c.from.ensures, small c.loop-digit.number c.loop-digit.digit-index _ _ inv.size c.loop-digit-test.true inv.short inv.few)
