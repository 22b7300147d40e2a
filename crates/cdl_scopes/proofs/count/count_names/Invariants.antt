use Rattle.std.proofs.Common.{◌≡◌, ◌+◌, ◌<◌, ◌^◌, drop}
use Rattle.cdl_scopes.specs.Classes.{declared}
use Rattle.cdl_scopes.specs.inner.Kept.{name_count, names_of}
use Rattle.cdl_scopes.proofs.count.count_names.Given as goal

abbrev pub invariant-loop-class : goal.invariant-loop-class
invariant-loop-class l = (l.count < 2 ^ 32) × (l.count + names_of (drop l.class-index (declared l.files)) ≡ name_count l.files)
