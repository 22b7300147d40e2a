use Rattle.std.proofs.Common.{◌≡◌, ◌≤◌, drop}
use Rattle.cdl_source.specs.declared.limits.TheConstants.{LARGEST_INTEGER}
use Rattle.cdl_decimal.specs.Spells.{number, number_after}
use Rattle.cdl_lex.proofs.literals.is_great.Given as goal

abbrev pub invariant-loop-digit : goal.invariant-loop-digit
invariant-loop-digit l =
    record {
      same : number_after l.number (drop l.digit-index l.digits) ≡ number l.digits;
      small : l.number ≤ LARGEST_INTEGER;
    }
