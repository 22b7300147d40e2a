use Rattle.std.proofs.Common.{◌-◌, ◌≤◌, length, drop}
use Rattle.cdl_lex.specs.Splits.{mark}
use Rattle.cdl_lex.proofs.Continues.{Continues}
use Rattle.cdl_lex.proofs.split.split.Given as goal

abbrev pub invariant-loop-at : goal.invariant-loop-at
invariant-loop-at l =
    record {
      within : l.at ≤ length l.bytes;
      reached : Continues (mark l.bytes) (drop (mark l.bytes) l.bytes) l.found l.at (drop l.at l.bytes);
    }

abbrev pub decreases-loop-at : goal.decreases-loop-at
decreases-loop-at l = length l.bytes - l.at
