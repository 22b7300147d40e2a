use Rattle.std.proofs.Common.{◌<◌, ap, arith, length}
use Rattle.std.proofs.lemmas.Option.{slice_get_within}
use Rattle.cdl_connect.proofs.Checks.{at_index}
use Rattle.cdl_check.proofs.FirstRule.{wire_refused}
use Rattle.cdl_check.proofs.spots.at_wire.Goals as goal

pub element_path-requires-clause-inside : goal.element_path-requires-clause-inside
element_path-requires-clause-inside c =
    let w = slice_get_within c.args.net.now.wires c.args.wire c.requires.first.wire c.requires.first.there in
    let l = ap length c.items.ensures in
    let h : c.args.wire < length c.items.result.now = omega (arith, w, l) in
    c.requires.indexed.numbers.left c.args.wire _ (at_index c.items.result.now c.args.net.now.wires c.args.wire (record { scope = 0; left = 0; right = 0 }) c.items.ensures h)

pub element_path-requires-2-clause-inside : goal.element_path-requires-2-clause-inside
element_path-requires-2-clause-inside c =
    let w = slice_get_within c.args.net.now.wires c.args.wire c.requires.first.wire c.requires.first.there in
    let l = ap length c.items.ensures in
    let h : c.args.wire < length c.items.result.now = omega (arith, w, l) in
    c.requires.indexed.numbers.right c.args.wire _ (at_index c.items.result.now c.args.net.now.wires c.args.wire (record { scope = 0; left = 0; right = 0 }) c.items.ensures h)

pub returns : goal.returns
returns c =
    let w = slice_get_within c.args.net.now.wires c.args.wire c.requires.first.wire c.requires.first.there in
    let l = ap length c.items.ensures in
    let h : c.args.wire < length c.items.result.now = omega (arith, w, l) in
    wire_refused c.args.net.now c.args.wire c.args.rule _ c.in_ok-left.left c.in_ok-right.right c.requires.first (at_index c.items.result.now c.args.net.now.wires c.args.wire (record { scope = 0; left = 0; right = 0 }) c.items.ensures h) c.in_ok-left.ensures c.in_ok-right.ensures
