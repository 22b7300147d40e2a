use Rattle.std.proofs.Common.{rules, refl}
use Rattle.cdl_statements.specs.Events.{pairs}
use Rattle.cdl_statements.specs.Places.{spot}
use Rattle.cdl_joins.specs.Sides.{elements}
use Rattle.cdl_statements.specs.inner.Seen.{scope_seen}
use Rattle.cdl_statements.proofs.Wires.{sides_joined, wires_fit, wires_past}
use Rattle.cdl_statements.proofs.net.add_wires.Goals as goal

pub returns-then-has_room : goal.returns-then-has_room
returns-then-has_room c = wires_fit c.args.directory.now c.args.net.now (record { turns = c.args.net.now.turns; wires = c.join.new.wires }) (spot (scope_seen c.args.scope) c.args.byte) c.in_ok-wires.wires (pairs c.args.scope.path.now (elements c.args.left) (elements c.args.right))
    (sides_joined c.args.directory.now c.args.scope.number c.args.scope.path.now c.args.left c.args.right c.bytes.result.now c.bytes-2.result.now c.items.result.now c.items-2.result.now c.in_ok-first.first c.in_ok-second.second c.items-3.result.now c.items-4.result.now c.in_ok-wires.wires
    c.requires.scope c.bytes.ensures c.items.ensures c.bytes-2.ensures c.items-2.ensures c.in_ok-first.ensures c.in_ok-second.ensures c.items-3.ensures c.items-4.ensures c.in_ok-wires.ensures)
    (search rules) refl c.in_ok-join.ensures

pub returns : goal.returns
returns c = wires_past c.args.directory.now c.args.net.now (spot (scope_seen c.args.scope) c.args.byte) c.in_ok-wires.wires (pairs c.args.scope.path.now (elements c.args.left) (elements c.args.right))
    (sides_joined c.args.directory.now c.args.scope.number c.args.scope.path.now c.args.left c.args.right c.bytes.result.now c.bytes-2.result.now c.items.result.now c.items-2.result.now c.in_ok-first.first c.in_ok-second.second c.items-3.result.now c.items-4.result.now c.in_ok-wires.wires
    c.requires.scope c.bytes.ensures c.items.ensures c.bytes-2.ensures c.items-2.ensures c.in_ok-first.ensures c.in_ok-second.ensures c.items-3.ensures c.items-4.ensures c.in_ok-wires.ensures)
    (search rules)
