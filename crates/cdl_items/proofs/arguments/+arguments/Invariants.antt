use Rattle.std.proofs.Common.{◌≡◌, [], map, take, drop}
use Rattle.cdl_scopes.specs.Classes.{declared}
use Rattle.cdl_paths.specs.Modifiers.{name_of}
use Rattle.cdl_items.specs.Arguments as spec
use Rattle.cdl_items.proofs.arguments.+arguments.Given as goal

abbrev pub invariant-broken_arguments-loop-i : goal.invariant-broken_arguments-loop-i
invariant-broken_arguments-loop-i l =
    spec.first_rule l.target (map name_of (take l.i l.args)) (map (spec.argument (declared l.table)) (drop l.i l.args)) ≡ spec.arguments_rule (declared l.table) l.target [] l.args
