use Rattle.std.proofs.Common.{◌≡◌, ◌+◌, ◌*◌, ◌≤◌, drop, map}
use Rattle.cdl_kinds.specs.inner.Declared.{group_of}
use Rattle.cdl_kinds.specs.Ports.{ports_count}
use Rattle.cdl_kinds.proofs.port_list.count_all.Given as goal

abbrev pub invariant-loop-group : goal.invariant-loop-group
invariant-loop-group l = record {
  so_far : l.count + ports_count l.n (map group_of (drop l.group-index l.groups)) ≡ ports_count l.n (map group_of l.groups);
  small : l.count ≤ 4294967296 * l.group-index;
}
