use Rattle.std.proofs.Common.{◌≡◌, None, drop}
use Rattle.cdl_scopes.specs.Classes.{declared}
use Rattle.cdl_classes.specs.Places.{least}
use Rattle.cdl_classes.specs.Rules.{taken_of, broken_11}
use Rattle.cdl_classes.proofs.free_names.first_taken.Given as goal

abbrev pub invariant-loop-class : goal.invariant-loop-class
invariant-loop-class l = least l.first (taken_of (declared l.classes) (drop l.class (declared l.classes))) ≡ least None (broken_11 (declared l.classes))
