use Rattle.std.proofs.Common.{ap, ◌∙◌, ◌&&◌}
use Rattle.cdl_connect.specs.Nets.{network_of}
use Rattle.cdl_schedule.proofs.Causes.{instance_start, instance_next, instance_end, read_is, below_items}
use Rattle.cdl_schedule.proofs.rows.add_instance.Goals as goal

pub loop-x-init : goal.loop-x-init
loop-x-init c =
    let s = read_is c.items.result.now c.args.net.now.instances c.args.i c.index-items-i.result c.items.ensures c.requires.inside c.index-items-i.is in
    instance_start c.args.net.now c.args.i c.index-items-i.result _ _ c.requires.checked s c.requires.rows

pub is_taken-requires : goal.is_taken-requires
is_taken-requires c =
    let s = read_is c.items.result.now c.args.net.now.instances c.args.i c.index-items-i.result c.items.ensures c.requires.inside c.index-items-i.is in
    below_items c.args.net.now c.args.i c.loop-x.x c.index-items-i.result c.requires.checked s c.loop-x-test.true

pub loop-x-preserved : goal.loop-x-preserved
loop-x-preserved c =
    let s = read_is c.items.result.now c.args.net.now.instances c.args.i c.index-items-i.result c.items.ensures c.requires.inside c.index-items-i.is in
    instance_next c.args.net.now c.args.i c.loop-x.x c.index-items-i.result c.is_taken.result _ _ _ c.requires.checked s c.loop-x.auto.x c.loop-x-test.true
    (c.is_taken.ensures ∙ ap (λ b. b && (network_of c.args.net.now).input c.loop-x.x) c.is_direct-direct.ensures) c.in_ok-add_if.ensures c.loop-x.invariant

pub end_row-requires-clause-rows : goal.end_row-requires-clause-rows
end_row-requires-clause-rows c =
    let s = read_is c.items.result.now c.args.net.now.instances c.args.i c.index-items-i.result c.items.ensures c.requires.inside c.index-items-i.is in
    instance_end c.args.net.now c.args.i c.loop-x.x c.index-items-i.result _ _ _ c.requires.checked s c.items-2.ensures c.loop-x-test.false c.loop-x.invariant
