use Rattle.std.proofs.Common.{◌≡◌, ◌≤◌, ◌+◌, ◌-◌, ◌*◌, ◌^◌, drop, length}
use Rattle.cdl_decimal.specs.Spells.{AllDigits, number_after}
use Rattle.cdl_decimal.proofs.numeral.number_after.Given as goal

abbrev pub invariant-loop-digit : goal.invariant-loop-digit
invariant-loop-digit l = record {
  rest : number_after l.sum (drop l.digit-index l.digits) ≡ number_after l.n l.digits;
  left : AllDigits (drop l.digit-index l.digits);
  below : (l.sum + 1) * 10 ^ (length l.digits - l.digit-index) ≤ (l.n + 1) * 10 ^ length l.digits;
  small : (l.n + 1) * 10 ^ length l.digits ≤ 1000000000000000000000000000000;
}
