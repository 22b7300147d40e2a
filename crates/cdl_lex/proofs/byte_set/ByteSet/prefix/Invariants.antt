use Rattle.std.proofs.Common.{◌≡◌, ◌+◌, ◌-◌, ◌≤◌, length, drop}
use Rattle.std.specs.List.{prefix_len}
use Rattle.cdl_lex.specs.ByteSets.{is_in}
use Rattle.cdl_lex.proofs.byte_set.ByteSet.prefix.Given as goal

abbrev pub invariant-loop-size : goal.invariant-loop-size
invariant-loop-size l =
    record {
      same : l.size + prefix_len (is_in l.self) (drop l.size l.bytes) ≡ prefix_len (is_in l.self) l.bytes;
      within : l.size ≤ length l.bytes;
    }

abbrev pub decreases-loop-size : goal.decreases-loop-size
decreases-loop-size l = length l.bytes - l.size
