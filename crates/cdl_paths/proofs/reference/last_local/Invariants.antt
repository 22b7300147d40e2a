use Rattle.std.proofs.Common.{◌≡◌, drop}
use Rattle.std.specs.Option.{option_or}
use Rattle.cdl_paths.specs.References as spec
use Rattle.cdl_paths.proofs.reference.last_local.Given as goal

abbrev pub invariant-loop-local : goal.invariant-loop-local
invariant-loop-local l = option_or (spec.last_local l.name (drop l.local-index l.locals)) l.last ≡ spec.last_local l.name l.locals
