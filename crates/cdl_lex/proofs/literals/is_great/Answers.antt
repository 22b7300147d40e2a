use Rattle.std.proofs.Common.{refl, ap, ◌+◌, ◌*◌}
use Rattle.cdl_lex.proofs.Great.{is_above}
use Rattle.cdl_lex.proofs.literals.is_great.Goals as goal

pub returns-then-number-gt-MOST_INTEGER : goal.returns-then-number-gt-MOST_INTEGER
returns-then-number-gt-MOST_INTEGER c = (
  λ _. is_above c.args.digits.now c.loop-digit.digit-index c.loop-digit.number _ c.loop-digit-test.true c.loop-digit.invariant.same
      (ap (λ z. c.loop-digit.number * 10 + z) c.saturating_sub.ensures) c.if-number-gt-MOST_INTEGER.true,
  λ _. refl,
)
