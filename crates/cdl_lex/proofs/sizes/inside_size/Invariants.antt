use Rattle.std.proofs.Common.{◌≡◌, ◌-◌, ◌≤◌, false, length, drop}
use Rattle.cdl_lex.specs.Steps.{inside_len, plus}
use Rattle.cdl_lex.proofs.sizes.inside_size.Given as goal

abbrev pub invariant-loop-at : goal.invariant-loop-at
invariant-loop-at l =
    record {
      same : plus l.at (inside_len l.escape (drop l.at l.bytes)) ≡ inside_len false l.bytes;
      within : l.at ≤ length l.bytes;
    }

abbrev pub decreases-loop-at : goal.decreases-loop-at
decreases-loop-at l = length l.bytes - l.at
