use Rattle.std.proofs.Common.{◌≡◌, ◌-◌, ◌+◌, ◌*◌}
use Rattle.cdl_clauses.specs.Declarations.{balanced, balanced_from}
use Rattle.cdl_clauses.proofs.declaration.+balanced.Given as goal

abbrev pub decreases-balanced : goal.decreases-balanced
decreases-balanced l = 3 * l.depth

abbrev pub decreases-balanced_part : goal.decreases-balanced_part
decreases-balanced_part l = 3 * l.depth + 1

abbrev pub decreases-balanced_parts : goal.decreases-balanced_parts
decreases-balanced_parts l = 3 * l.depth + 2

abbrev pub invariant-balanced_parts-loop-turn : goal.invariant-balanced_parts-loop-turn
invariant-balanced_parts-loop-turn l = balanced_from (balanced l.fn.depth) l.fn.turns l.fn.tokens ≡ balanced_from (balanced l.fn.depth) (l.fn.turns - l._turn) l.tokens
