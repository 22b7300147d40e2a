use Rattle.std.proofs.Common.{◌≡◌, None, drop}
use Rattle.cdl_scopes.specs.Classes.{declared}
use Rattle.cdl_classes.specs.Places.{least}
use Rattle.cdl_classes.specs.Rules.{again_of, broken_10}
use Rattle.cdl_classes.proofs.duplicates.first_twice.Given as goal

abbrev pub invariant-loop-class : goal.invariant-loop-class
invariant-loop-class l = least l.first (again_of (drop l.class (declared l.classes))) ≡ least None (broken_10 (declared l.classes))
