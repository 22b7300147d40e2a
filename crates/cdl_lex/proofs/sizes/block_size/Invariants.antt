use Rattle.std.proofs.Common.{◌≡◌, ◌-◌, ◌≤◌, length, drop}
use Rattle.cdl_lex.specs.Steps.{block_len, plus}
use Rattle.cdl_lex.proofs.sizes.block_size.Given as goal

abbrev pub invariant-loop-at : goal.invariant-loop-at
invariant-loop-at l =
    record {
      same : plus l.at (block_len (drop l.at l.bytes)) ≡ block_len l.bytes;
      within : l.at ≤ length l.bytes;
    }

abbrev pub decreases-loop-at : goal.decreases-loop-at
decreases-loop-at l = length l.bytes - l.at
