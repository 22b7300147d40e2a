use Rattle.std.proofs.Common.{ℕ, ◌<◌, ◌≤◌}
use Rattle.cdl_values.specs.History.{IsValue, word}
use Rattle.cdl_kinds.specs.Ports.{inputs}
use Rattle.cdl_block_tests.proofs.blocks.are_ready.Given as goal

abbrev pub invariant-loop-i : goal.invariant-loop-i
invariant-loop-i l = record {
  within : l.i ≤ (inputs l.kind l.params).count;
  each : (k : ℕ) → k < l.i → IsValue ((inputs l.kind l.params).value_type k) (word l.ins k);
}
