use Rattle.std.proofs.Common.{◌≡◌, ℕ, ◌<◌}
use Rattle.cdl_values.specs.History.{word}
use Rattle.cdl_memoryless.proofs.sources.fill.Given as goal

abbrev pub invariant-loop-word : goal.invariant-loop-word
invariant-loop-word l = (k : ℕ) → k < l.word-index → word l.words k ≡ l.w
