use Rattle.std.proofs.Common.{arith, ◌<◌, ℕ, length, ◌∙◌, sym, subst, get_or}
use Rattle.std.proofs.lemmas.Int.{to_z-of_z}
use Rattle.std.proofs.lemmas.Option.{slice_get-get_or}
use Rattle.std.specs.Int.{w64}
use Rattle.cdl_values.specs.History.{word, IsValue}
use Rattle.cdl_pass.specs.declared.net.Node.{Node}
use Rattle.cdl_pass.specs.Net.{sort_at, blocks_of, net_of}
use Rattle.cdl_pass.specs.Tick.{IsTyped}
use Rattle.cdl_pass.proofs.Ready.{ready_all, value_some}
use Rattle.cdl_pass.proofs.Lacking.{lack_at}
use Rattle.cdl_pass.proofs.Passing.{none_of, first_none, lacks_none, here, gives_at, fault_at, lesser_inside, written_at}
use Rattle.cdl_pass.proofs.pass.advance.Goals as goal

abbrev node0 : Node
node0 = record { ins = 0; nin = 0; reads = 0; outs = 0; nout = 0; state = 0; width = 0 }

pub emit_strict-fault-requires-clause-fits : goal.emit_strict-fault-requires-clause-fits
emit_strict-fault-requires-clause-fits g c =
    let j = c.in-Emit.block in
    let hn : j < length c.args.nodes.now = rw c.in-Emit.is at c.requires.names in
    let b = here c.args.blocks.now j c.index-blocks-block.result (omega (arith, c.requires.laid.same)) c.index-blocks-block.is in
    let p = slice_get-get_or c.args.nodes.now j node0 hn in
    let node : Node = get_or c.args.nodes.now j node0 in
    c.requires.laid.each j _ _ b p

pub emit_strict-fault-requires-clause-typed : goal.emit_strict-fault-requires-clause-typed
emit_strict-fault-requires-clause-typed g c =
    let j = c.in-Emit.block in
    let hn : j < length c.args.nodes.now = rw c.in-Emit.is at c.requires.names in
    let b = here c.args.blocks.now j c.index-blocks-block.result (omega (arith, c.requires.laid.same)) c.index-blocks-block.is in
    let p = slice_get-get_or c.args.nodes.now j node0 hn in
    let node : Node = get_or c.args.nodes.now j node0 in
    λ e x y. c.requires.typed e (rw c.in-Emit.is (node, p, x, y))

pub emit_strict-fault-requires-clause-whole : goal.emit_strict-fault-requires-clause-whole
emit_strict-fault-requires-clause-whole g c =
    let j = c.in-Emit.block in
    let hn : j < length c.args.nodes.now = rw c.in-Emit.is at c.requires.names in
    let b = here c.args.blocks.now j c.index-blocks-block.result (omega (arith, c.requires.laid.same)) c.index-blocks-block.is in
    let p = slice_get-get_or c.args.nodes.now j node0 hn in
    let node : Node = get_or c.args.nodes.now j node0 in
    λ t. let nn = none_of c.args.least (sym c.is_whole-whole.ensures ∙ t) in ready_all (word c.args.words.now) node.ins node.reads (λ e x y. value_some (sort_at c.args._kinds.now e) _ (c.requires.whole nn e (rw c.in-Emit.is (node, p, x, y))))

pub emit_strict-fault-requires-clause-sound : goal.emit_strict-fault-requires-clause-sound
emit_strict-fault-requires-clause-sound g c =
    let j = c.in-Emit.block in
    let hn : j < length c.args.nodes.now = rw c.in-Emit.is at c.requires.names in
    let b = here c.args.blocks.now j c.index-blocks-block.result (omega (arith, c.requires.laid.same)) c.index-blocks-block.is in
    let p = slice_get-get_or c.args.nodes.now j node0 hn in
    let node : Node = get_or c.args.nodes.now j node0 in
    let t = to_z-of_z w64 c.args.now c.ranges.now in
    (c.requires.sound.0, rw t c.requires.sound.1, c.requires.sound.2 j _ _ b p)

pub returns-in-Emit-clause-others : goal.returns-in-Emit-clause-others
returns-in-Emit-clause-others g c =
    let j = c.in-Emit.block in
    let hn : j < length c.args.nodes.now = rw c.in-Emit.is at c.requires.names in
    let b = here c.args.blocks.now j c.index-blocks-block.result (omega (arith, c.requires.laid.same)) c.index-blocks-block.is in
    let p = slice_get-get_or c.args.nodes.now j node0 hn in
    let node : Node = get_or c.args.nodes.now j node0 in
    λ e f. c.emit_strict-fault.ensures.others e (λ x y. f (rw c.in-Emit.is (node, p, x, y)))

pub returns-in-Emit-clause-typed : goal.returns-in-Emit-clause-typed
returns-in-Emit-clause-typed g c =
    let j = c.in-Emit.block in
    let hn : j < length c.args.nodes.now = rw c.in-Emit.is at c.requires.names in
    let b = here c.args.blocks.now j c.index-blocks-block.result (omega (arith, c.requires.laid.same)) c.index-blocks-block.is in
    let p = slice_get-get_or c.args.nodes.now j node0 hn in
    let node : Node = get_or c.args.nodes.now j node0 in
    λ e w. let z = written_at c.args.nodes.now j node e p (rw c.in-Emit.is at w) in
    subst (λ (x : ℕ). IsTyped c.args._kinds.now (word c.emit_strict-fault.new.words) x) z.2 (c.emit_strict-fault.ensures.typed z.0 z.1)

pub returns-in-Emit-clause-values : goal.returns-in-Emit-clause-values
returns-in-Emit-clause-values g c =
    let j = c.in-Emit.block in
    let hn : j < length c.args.nodes.now = rw c.in-Emit.is at c.requires.names in
    let b = here c.args.blocks.now j c.index-blocks-block.result (omega (arith, c.requires.laid.same)) c.index-blocks-block.is in
    let p = slice_get-get_or c.args.nodes.now j node0 hn in
    let node : Node = get_or c.args.nodes.now j node0 in
    λ h e w. let y = first_none c.args.least c.emit_strict-fault.result j (sym c.first_of.ensures ∙ h) in let z = written_at c.args.nodes.now j node e p (rw c.in-Emit.is at w) in
    subst (λ (x : ℕ). IsValue (sort_at c.args._kinds.now x) (word c.emit_strict-fault.new.words x)) z.2 (c.emit_strict-fault.ensures.values (c.is_whole-whole.ensures ∙ lacks_none c.args.least y.0) y.1 z.0 z.1)

pub returns-in-Emit-clause-gives : goal.returns-in-Emit-clause-gives
returns-in-Emit-clause-gives g c =
    let j = c.in-Emit.block in
    let hn : j < length c.args.nodes.now = rw c.in-Emit.is at c.requires.names in
    let b = here c.args.blocks.now j c.index-blocks-block.result (omega (arith, c.requires.laid.same)) c.index-blocks-block.is in
    let p = slice_get-get_or c.args.nodes.now j node0 hn in
    let node : Node = get_or c.args.nodes.now j node0 in
    let t = to_z-of_z w64 c.args.now c.ranges.now in
    λ r s. let z = s j _ _ b p in
    let m = blocks_of g.B.Elementary.inputs g.B.Elementary.results g.B.Elementary.width g.B.Elementary.meaning g.B.Elementary.stands g.B.Elementary.is_sound g.B.Elementary.may_lack in
    let n = net_of c.args.blocks.now c.args.nodes.now c.args._actions.now c.args._kinds.now c.args._rows.now in
    rw c.in-Emit.is (gives_at m n c.args.now c.args.row.now r (word c.args.words.now) (word c.emit_strict-fault.new.words) j _ node b p (rw t at (c.emit_strict-fault.ensures.gives (r j) z.0 (rw t z.1) z.2)))

pub returns-in-Emit-clause-fault : goal.returns-in-Emit-clause-fault
returns-in-Emit-clause-fault g c =
    let j = c.in-Emit.block in
    let hn : j < length c.args.nodes.now = rw c.in-Emit.is at c.requires.names in
    let b = here c.args.blocks.now j c.index-blocks-block.result (omega (arith, c.requires.laid.same)) c.index-blocks-block.is in
    let p = slice_get-get_or c.args.nodes.now j node0 hn in
    let node : Node = get_or c.args.nodes.now j node0 in
    let t = to_z-of_z w64 c.args.now c.ranges.now in
    λ r s. let z = s j _ _ b p in
    let m = blocks_of g.B.Elementary.inputs g.B.Elementary.results g.B.Elementary.width g.B.Elementary.meaning g.B.Elementary.stands g.B.Elementary.is_sound g.B.Elementary.may_lack in
    let n = net_of c.args.blocks.now c.args.nodes.now c.args._actions.now c.args._kinds.now c.args._rows.now in
    rw c.in-Emit.is (c.emit_strict-fault.result, fault_at m n c.args.now r (word c.args.words.now) _ j _ node b p (rw t at (c.emit_strict-fault.ensures.fault (r j) z.0 (rw t z.1) z.2)), c.first_of.ensures)

pub returns-in-Emit-clause-plain : goal.returns-in-Emit-clause-plain
returns-in-Emit-clause-plain g c = λ h. (first_none c.args.least c.emit_strict-fault.result c.in-Emit.block (sym c.first_of.ensures ∙ h)).0

pub returns-in-Emit-clause-step : goal.returns-in-Emit-clause-step
returns-in-Emit-clause-step g c = λ h. rw c.in-Emit.is (c.emit_strict-fault.ensures.step (c.is_whole-whole.ensures ∙ lacks_none c.args.least h))

pub returns-in-Emit-clause-inside : goal.returns-in-Emit-clause-inside
returns-in-Emit-clause-inside g c =
    let hn : c.in-Emit.block < length c.args.nodes.now = rw c.in-Emit.is at c.requires.names in
    rw c.first_of.ensures (lesser_inside c.args.least c.in-Emit.block (length c.args.nodes.now) c.emit_strict-fault.result c.requires.inside hn)

pub returns-in-Emit-clause-tried : goal.returns-in-Emit-clause-tried
returns-in-Emit-clause-tried g c =
    let j = c.in-Emit.block in
    let hn : j < length c.args.nodes.now = rw c.in-Emit.is at c.requires.names in
    let b = here c.args.blocks.now j c.index-blocks-block.result (omega (arith, c.requires.laid.same)) c.index-blocks-block.is in
    let p = slice_get-get_or c.args.nodes.now j node0 hn in
    let node : Node = get_or c.args.nodes.now j node0 in
    let t = to_z-of_z w64 c.args.now c.ranges.now in
    let m = blocks_of g.B.Elementary.inputs g.B.Elementary.results g.B.Elementary.width g.B.Elementary.meaning g.B.Elementary.stands g.B.Elementary.is_sound g.B.Elementary.may_lack in
    let n = net_of c.args.blocks.now c.args.nodes.now c.args._actions.now c.args._kinds.now c.args._rows.now in
    let e = c.emit_strict-fault.ensures in
    rw c.in-Emit.is (c.emit_strict-fault.result, lack_at m n c.args.now c.args.words.now c.emit_strict-fault.new.words c.emit_strict-fault.result j _ node b p (c.requires.laid.each j _ _ b p) e.others e.ready (λ z. rw t at (e.lacks z)) e.none e.answers, c.first_of.ensures)
