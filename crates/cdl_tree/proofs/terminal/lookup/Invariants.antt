use Rattle.std.proofs.Common.{◌≡◌, length, map}
use Rattle.cdl_tree.specs.Terminals as spec
use Rattle.cdl_tree.proofs.terminal.lookup.Given as goal

abbrev pub invariant-loop-table : goal.invariant-loop-table
invariant-loop-table l = spec.lookup (map (λ row. (row.0.now, row.1)) l.table) l.text ≡ spec.lookup (map (λ row. (row.0.now, row.1)) l.initial.table) l.text

abbrev pub decreases-loop-table : goal.decreases-loop-table
decreases-loop-table l = length l.table
