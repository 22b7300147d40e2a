use Rattle.std.proofs.Common.{arith, ap, sym, ◌∙◌, ◌+◌, ◌≡◌}
use Rattle.std.proofs.lemmas.Result.{IfOk-weaker}
use Rattle.cdl_pass.specs.declared.net.Node.{Node}
use Rattle.cdl_run.specs.Words.{state_place}
use Rattle.cdl_connect.proofs.Windows.{of_kind}
use Rattle.cdl_schedule.proofs.Causes.{read_is}
use Rattle.cdl_run.specs.inner.AnyBlocks.{any_blocks}
use Rattle.cdl_run.proofs.Building.{built_add, built_skip, ok_of, place_add, place_skip}
use Rattle.cdl_run.proofs.layout.add_instance.Goals as goal

pub block-requires : goal.block-requires
block-requires c =
    let s = read_is c.items.result.now c.args.net.now.instances c.args.i c.index-items-i.result c.items.ensures c.requires.inside c.index-items-i.is in
    (of_kind c.args.net.now c.args.i c.index-items-i.result c.in-Elementary.kind c.in-Elementary.params c.requires.checked.indexed c.requires.kinds s c.in-Elementary.is).ports.keeps

pub returns-in-Composite-clause-built : goal.returns-in-Composite-clause-built
returns-in-Composite-clause-built c =
    let s = read_is c.items.result.now c.args.net.now.instances c.args.i c.index-items-i.result c.items.ensures c.requires.inside c.index-items-i.is in
    built_skip any_blocks c.args.net.now c.args.i c.index-items-i.result _ _ _ _ _ c.len.result s c.in-Composite.is c.requires.built (let e = c.len.ensures in omega (arith, e)) c.in_ok-push.ensures.items

pub returns-in-Composite-clause-place : goal.returns-in-Composite-clause-place
returns-in-Composite-clause-place c =
    let s = read_is c.items.result.now c.args.net.now.instances c.args.i c.index-items-i.result c.items.ensures c.requires.inside c.index-items-i.is in
    c.requires.place ∙ sym (place_skip c.args.net.now c.args.i c.index-items-i.result s c.in-Composite.is)

pub returns-in_ok-push-in-Elementary-3-clause-built : goal.returns-in_ok-push-in-Elementary-3-clause-built
returns-in_ok-push-in-Elementary-3-clause-built c =
    let s = read_is c.items.result.now c.args.net.now.instances c.args.i c.index-items-i.result c.items.ensures c.requires.inside c.index-items-i.is in
    ok_of c.place_behind.result _ (built_add any_blocks c.args.net.now c.args.i c.index-items-i.result c.in-Elementary.kind c.in-Elementary.params c.in_ok-block-in-Elementary.field-0 c.node-node.result _ _ _ _ _ _ _ _ c.len.result s c.in-Elementary.is c.in_ok-block-in-Elementary.ensures c.node-node.ensures c.requires.built (let e = c.len.ensures in omega (arith, e)) c.in_ok-push.ensures.items c.in_ok-push-in-Elementary.ensures.items c.in_ok-push-in-Elementary-2.ensures.items c.in_ok-push-in-Elementary-3.ensures.items)

pub returns-in_ok-push-in-Elementary-3-clause-place : goal.returns-in_ok-push-in-Elementary-3-clause-place
returns-in_ok-push-in-Elementary-3-clause-place c =
    let s = read_is c.items.result.now c.args.net.now.instances c.args.i c.index-items-i.result c.items.ensures c.requires.inside c.index-items-i.is in
    let w = ap (λ (z : Node). z.width) c.node-node.ensures in
    let a = place_add c.args.net.now c.args.i c.index-items-i.result c.in-Elementary.kind c.in-Elementary.params s c.in-Elementary.is in
    let b = c.requires.place in
    let behind : c.args.place + c.node-node.result.width ≡ state_place c.args.net.now (c.args.i + 1) = omega (arith, w, a, b) in
    IfOk-weaker c.place_behind.result (λ p. p ≡ c.args.place + c.node-node.result.width) (λ p. p ≡ state_place c.args.net.now (c.args.i + 1)) (λ p e. e ∙ behind) c.place_behind.ensures
