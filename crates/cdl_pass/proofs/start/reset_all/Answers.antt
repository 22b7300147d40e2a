use Rattle.std.proofs.Common.{arith, length, ◌∙◌}
use Rattle.std.proofs.lemmas.Option.{slice_get-get_or, slice_get_within}
use Rattle.cdl_pass.specs.declared.net.Node.{Node}
use Rattle.cdl_pass.proofs.Passing.{here, resized}
use Rattle.cdl_pass.proofs.Running.{began_next}
use Rattle.cdl_pass.proofs.start.reset_all.Goals as goal

abbrev node0 : Node
node0 = record { ins = 0; nin = 0; reads = 0; outs = 0; nout = 0; state = 0; width = 0 }

pub reset_one-requires-clause-lies : goal.reset_one-requires-clause-lies
reset_one-requires-clause-lies g c =
    let i = c.loop-i.i in
    let b = here c.args.blocks.now i c.index-blocks-i.result (omega (arith, c.requires.laid.same, c.loop-i-test.true)) c.index-blocks-i.is in
    let p = slice_get-get_or c.args.nodes.now i node0 (omega (arith, c.loop-i-test.true)) in
    let q = (resized {k = length c.loop-i.words} c.requires.laid c.loop-i.invariant.size).each i _ _ b p in q.lies

pub reset_one-requires-clause-state : goal.reset_one-requires-clause-state
reset_one-requires-clause-state g c =
    let i = c.loop-i.i in
    let b = here c.args.blocks.now i c.index-blocks-i.result (omega (arith, c.requires.laid.same, c.loop-i-test.true)) c.index-blocks-i.is in
    let p = slice_get-get_or c.args.nodes.now i node0 (omega (arith, c.loop-i-test.true)) in
    let f = c.requires.laid.each i _ _ b p in f.width

pub loop-i-preserved : goal.loop-i-preserved
loop-i-preserved g c =
    let i = c.loop-i.i in
    let inv = c.loop-i.invariant in
    let b = here c.args.blocks.now i c.index-blocks-i.result (omega (arith, c.requires.laid.same, c.loop-i-test.true)) c.index-blocks-i.is in
    let p = slice_get-get_or c.args.nodes.now i node0 (omega (arith, c.loop-i-test.true)) in
    let e = c.reset_one.ensures in
    record { size = e.size ∙ inv.size; began = began_next _ _ _ c.requires.laid inv.began b p e.only e.stands e.sound }

pub returns-clause-sound : goal.returns-clause-sound
returns-clause-sound g c = λ j b p u v. let k = slice_get_within c.args.nodes.now j p v in (c.loop-i.invariant.began.done j b p u v (omega (arith, k, c.loop-i-test.false))).1

pub returns-clause-stands : goal.returns-clause-stands
returns-clause-stands g c = λ j b p u v. let k = slice_get_within c.args.nodes.now j p v in (c.loop-i.invariant.began.done j b p u v (omega (arith, k, c.loop-i-test.false))).0
