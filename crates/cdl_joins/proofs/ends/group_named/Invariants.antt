use Rattle.std.proofs.Common.{◌≡◌, drop, map}
use Rattle.cdl_kinds.specs.Groups.{group_row}
use Rattle.cdl_worth.specs.Units as spec
use Rattle.cdl_joins.proofs.ends.group_named.Given as goal

abbrev pub invariant-loop-group : goal.invariant-loop-group
invariant-loop-group l = spec.group_named l.name (map group_row (drop l.group-index l.groups)) ≡ spec.group_named l.name (map group_row l.groups)
