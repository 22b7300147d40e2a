use Rattle.std.proofs.Common.{arith, rules, ℕ, ◌+◌, ◌*◌, ◌^◌, ◌≤◌, ◌∙◌, sym, ap, length}
use Rattle.cdl_decimal.specs.Spells.{number_after}
use Rattle.cdl_decimal.specs.Split.{parts_of}
use Rattle.cdl_decimal.proofs.DigitLaws.{short_parts, first_room, next_room, number_after-append}
use Rattle.cdl_decimal.proofs.numeral.Numeral.significand.Goals as goal

pub number_after-requires-clause-small : goal.number_after-requires-clause-small
number_after-requires-clause-small c = first_room (length c.args.self.now.whole.now) (omega (arith, (short_parts (parts_of c.args.self.now) c.requires.short).0))

pub number_after-requires-2-clause-small : goal.number_after-requires-2-clause-small
number_after-requires-2-clause-small c =
    next_room c.number_after.result (length c.args.self.now.whole.now) (length c.args.self.now.fraction.now) (search rules) (short_parts (parts_of c.args.self.now) c.requires.short).0

pub returns-clause-value : goal.returns-clause-value
returns-clause-value c =
    c.number_after-2.ensures.value ∙ ap (λ (n : ℕ). number_after n c.args.self.now.fraction.now) c.number_after.ensures.value ∙ sym (number_after-append 0 c.args.self.now.whole.now c.args.self.now.fraction.now)

pub returns-clause-small : goal.returns-clause-small
returns-clause-small c =
    let r : (c.number_after.result + 1) * 10 ^ length c.args.self.now.fraction.now ≤ 1000000000000000000000000000000 = next_room c.number_after.result (length c.args.self.now.whole.now) (length c.args.self.now.fraction.now) (search rules) (short_parts (parts_of c.args.self.now) c.requires.short).0 in
    omega (arith, c.number_after-2.ensures.below)
