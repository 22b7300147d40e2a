use Rattle.std.proofs.Common.{rules, ◌≡◌, ◌∙◌, ◌+◌, ◌^◌, cond, pos, ◌*ℤ◌, length}
use Rattle.cdl_decimal.specs.Near.{near, in_range}
use Rattle.cdl_decimal.specs.Spells.{with_sign, number}
use Rattle.cdl_decimal.specs.Split.{parts_of, significand}
use Rattle.cdl_decimal.proofs.DigitLaws.{count_is}
use Rattle.cdl_decimal.proofs.numeral.Numeral.value.Goals as goal

pub returns : goal.returns
returns c =
    let n = c.args.self.now in
    let e : c.scaled.result ≡ in_range (near (with_sign n.negative (significand (parts_of n)) *ℤ pos (10 ^ (6 + cond n.exponent_negative 0 (number n.exponent.now)))) (10 ^ (length n.fraction.now + cond n.exponent_negative (number n.exponent.now) 0))) = search rules in
    e ∙ count_is (parts_of n)
