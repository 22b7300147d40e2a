use Rattle.std.proofs.Common.{◌≡◌, length, map}
use Rattle.cdl_lex.specs.Roles as spec
use Rattle.cdl_lex.proofs.role.lookup.Given as goal

abbrev pub invariant-loop-table : goal.invariant-loop-table
invariant-loop-table l = spec.lookup (map (λ row. (row.0.now, row.1)) l.table) l.text ≡ spec.lookup (map (λ row. (row.0.now, row.1)) l.initial.table) l.text

abbrev pub decreases-loop-table : goal.decreases-loop-table
decreases-loop-table l = length l.table
