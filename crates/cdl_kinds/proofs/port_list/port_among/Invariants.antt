use Rattle.std.proofs.Common.{◌≡◌, ◌<◌, drop, map}
use Rattle.cdl_kinds.specs.inner.Declared.{group_of}
use Rattle.cdl_kinds.specs.Ports.{ports_count, port_among}
use Rattle.cdl_kinds.proofs.port_list.port_among.Given as goal

abbrev pub invariant-loop-group : goal.invariant-loop-group
invariant-loop-group l = record {
  within : l.left < ports_count l.n (map group_of (drop l.group-index l.groups));
  same : port_among l.input l.direct l.n (map group_of (drop l.group-index l.groups)) l.left ≡ port_among l.input l.direct l.n (map group_of l.groups) l.i;
}
