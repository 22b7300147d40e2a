use Rattle.std.proofs.Common.{arith, ◌≡◌, ◌∙◌, sym, true, false}
use Rattle.std.proofs.lemmas.Bool.{false≢true}
use Rattle.std.proofs.lemmas.Int.{to_z-of_z}
use Rattle.std.proofs.lemmas.Option.{slice_get-get_or, slice_get_within}
use Rattle.std.specs.Int.{w64}
use Rattle.cdl_pass.specs.declared.net.Node.{Node}
use Rattle.cdl_pass.proofs.Passing.{here}
use Rattle.cdl_pass.proofs.Running.{checked_next, first_unsound}
use Rattle.cdl_pass.proofs.start.first_unsound.Goals as goal

abbrev node0 : Node
node0 = record { ins = 0; nin = 0; reads = 0; outs = 0; nout = 0; state = 0; width = 0 }

pub sound_one-requires-clause-lies : goal.sound_one-requires-clause-lies
sound_one-requires-clause-lies g c =
    let i = c.loop-i.i in
    let t = to_z-of_z w64 c.args.last c.ranges.last in
    let b = here c.args.blocks.now i c.index-blocks-i.result (omega (arith, c.requires.laid.same, c.loop-i-test.true)) c.index-blocks-i.is in
    let p = slice_get-get_or c.args.nodes.now i node0 (omega (arith, c.loop-i-test.true)) in
    let f = c.requires.laid.each i _ _ b p in
    f.lies

pub sound_one-requires-clause-state : goal.sound_one-requires-clause-state
sound_one-requires-clause-state g c =
    let i = c.loop-i.i in
    let t = to_z-of_z w64 c.args.last c.ranges.last in
    let b = here c.args.blocks.now i c.index-blocks-i.result (omega (arith, c.requires.laid.same, c.loop-i-test.true)) c.index-blocks-i.is in
    let p = slice_get-get_or c.args.nodes.now i node0 (omega (arith, c.loop-i-test.true)) in
    let f = c.requires.laid.each i _ _ b p in
    f.width

pub returns-then-not-sound_one-clause-first : goal.returns-then-not-sound_one-clause-first
returns-then-not-sound_one-clause-first g c =
    let i = c.loop-i.i in
    let t = to_z-of_z w64 c.args.last c.ranges.last in
    let b = here c.args.blocks.now i c.index-blocks-i.result (omega (arith, c.requires.laid.same, c.loop-i-test.true)) c.index-blocks-i.is in
    let p = slice_get-get_or c.args.nodes.now i node0 (omega (arith, c.loop-i-test.true)) in
    let f = c.requires.laid.each i _ _ b p in
    let k : c.sound_one.result ≡ false = cc in
    let a = rw t at c.sound_one.ensures.answer in
    first_unsound _ _ (omega (arith, c.loop-i-test.true)) (rw t at c.loop-i.invariant.checked) b p (λ s. false≢true (sym k ∙ a.1 s))

pub returns-then-not-sound_one-clause-standing : goal.returns-then-not-sound_one-clause-standing
returns-then-not-sound_one-clause-standing g c =
    let i = c.loop-i.i in
    let t = to_z-of_z w64 c.args.last c.ranges.last in
    let b = here c.args.blocks.now i c.index-blocks-i.result (omega (arith, c.requires.laid.same, c.loop-i-test.true)) c.index-blocks-i.is in
    let p = slice_get-get_or c.args.nodes.now i node0 (omega (arith, c.loop-i-test.true)) in
    let f = c.requires.laid.each i _ _ b p in
    let k : c.sound_one.result ≡ false = cc in
    λ s. let z = s i _ _ b p in
    let a = c.sound_one.ensures.answer in
    let q = c.sound_one.ensures.standing z.0 z.1 z.2 (rw t z.3) in
    absurd (false≢true (sym k ∙ a.1 q))

pub loop-i-preserved : goal.loop-i-preserved
loop-i-preserved g c =
    let i = c.loop-i.i in
    let t = to_z-of_z w64 c.args.last c.ranges.last in
    let b = here c.args.blocks.now i c.index-blocks-i.result (omega (arith, c.requires.laid.same, c.loop-i-test.true)) c.index-blocks-i.is in
    let p = slice_get-get_or c.args.nodes.now i node0 (omega (arith, c.loop-i-test.true)) in
    let f = c.requires.laid.each i _ _ b p in
    let k : c.sound_one.result ≡ true = cc in
    record { checked = checked_next _ _ c.loop-i.invariant.checked b p (c.sound_one.ensures.answer.0 k) }

pub returns-clause-sound : goal.returns-clause-sound
returns-clause-sound g c =
    let t = to_z-of_z w64 c.args.last c.ranges.last in
    λ _ j b p u v. let k = slice_get_within c.args.nodes.now j p v in rw t at (c.loop-i.invariant.checked.done j b p u v (omega (arith, k, c.loop-i-test.false)))
