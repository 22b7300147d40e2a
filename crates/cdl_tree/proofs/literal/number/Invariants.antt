use Rattle.std.proofs.Common.{◌≡◌, ◌≤◌, drop, Some}
use Rattle.cdl_source.specs.declared.limits.TheConstants.{LARGEST_INTEGER}
use Rattle.cdl_tree.specs.Literals as spec
use Rattle.cdl_tree.proofs.literal.number.Given as goal

abbrev pub invariant-loop-digit : goal.invariant-loop-digit
invariant-loop-digit l = (spec.integer_from (Some l.number) (drop l.digit-index l.text) ≡ spec.integer_from (Some 0) l.text) × (l.number ≤ LARGEST_INTEGER)
