use Rattle.std.proofs.Common.{◌≡◌, ◌++◌, map, take, drop}
use Rattle.cdl_eval.specs.Families.{cleared}
use Rattle.cdl_eval.proofs.place.family.Given as goal

abbrev pub invariant-loop-i : goal.invariant-loop-i
invariant-loop-i l = l.all ≡ take l.count l.steps ++ map cleared (take l.i (drop l.count l.steps))
