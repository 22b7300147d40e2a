use Rattle.std.proofs.Common.{◌≡◌, ◌-◌}
use Rattle.cdl_parse.specs.Classes.{class, package_parts, package_parts_from}
use Rattle.cdl_parse.proofs.class.Classes.parts.Given as goal

abbrev pub invariant-loop-turn : goal.invariant-loop-turn
invariant-loop-turn g l = package_parts l.self.depth (class l.self.depth) l.fn.tokens ≡ package_parts_from l.self.depth (class l.self.depth) (l._turn-end - l._turn) l.found l.tokens
