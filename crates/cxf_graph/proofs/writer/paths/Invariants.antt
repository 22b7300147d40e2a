use Rattle.std.proofs.Common.{◌≡◌, map, take}
use Rattle.cxf_graph.proofs.writer.paths.Given as goal

abbrev pub invariant-loop-instance : goal.invariant-loop-instance
invariant-loop-instance l = l.ids ≡ map (λ t. t.path) (map (λ t. t.now) (take l.instance-index l.instances))
