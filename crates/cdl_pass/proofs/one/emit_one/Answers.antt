use Rattle.std.proofs.Common.{arith, rules, sym, ap, ◌≡◌, ◌+◌, ◌-◌, length, ℤ, List, take}
use Rattle.std.proofs.lemmas.Int.{to_z-of_z}
use Rattle.std.specs.Int.{w64}
use Rattle.cdl_pass.specs.Windows.{state_of}
use Rattle.cdl_pass.proofs.Places.{after_emit, only_outs, ins_there, lacking, moved}
use Rattle.cdl_pass.proofs.one.emit_one.Goals as goal

pub returns-clause-only : goal.returns-clause-only
returns-clause-only g c =
    let n : length c.emit.new.outs ≡ c.args.node.now.nout = search rules in
    (only_outs c.args.node.now c.args.words.now c.emit.new.outs _ c.requires.lies n
    (after_emit c.args.node.now c.args.words.now c.split_at_mut-elements.result.0.now c.split_at_mut-elements.result.1.now c.split_at_mut-front.result.0.now c.split_at_mut-front.result.1.now c.emit.new.outs c.requires.lies c.split_at_mut-elements.ensures.front c.split_at_mut-elements.ensures.back c.split_at_mut-front.ensures.front c.split_at_mut-front.ensures.back n)).0

pub returns-clause-gives : goal.returns-clause-gives
returns-clause-gives g c h k l m =
    let n : length c.emit.new.outs ≡ c.args.node.now.nout = search rules in
    let t = to_z-of_z w64 c.args.now c.ranges.now in
    let s : take c.args.node.now.width c.split_at_mut-elements.result.1.now ≡ state_of c.args.node.now c.args.words.now = ap (λ (x : List ℤ). take c.args.node.now.width x) c.split_at_mut-elements.ensures.back in
    let w = only_outs c.args.node.now c.args.words.now c.emit.new.outs _ c.requires.lies n
    (after_emit c.args.node.now c.args.words.now c.split_at_mut-elements.result.0.now c.split_at_mut-elements.result.1.now c.split_at_mut-front.result.0.now c.split_at_mut-front.result.1.now c.emit.new.outs c.requires.lies c.split_at_mut-elements.ensures.front c.split_at_mut-elements.ensures.back c.split_at_mut-front.ensures.front c.split_at_mut-front.ensures.back n) in
    moved (g.B.Elementary.meaning c.args.block.now h) c.emit.result c.args.now _ _ _ _ _ t
    (ins_there c.args.node.now c.args.words.now _ _ (c.args.node.now.ins + c.args.node.now.nin - c.args.node.now.ins) c.requires.lies c.split_at_mut-elements.ensures.front c.split_at_mut-front.ensures.front (omega arith))
    (sym w.1)
    (c.emit.ensures.gives h k (rw t l) (rw s m))

pub returns-clause-lacks : goal.returns-clause-lacks
returns-clause-lacks g c =
    let t = to_z-of_z w64 c.args.now c.ranges.now in
    lacking (g.B.Elementary.may_lack c.args.block.now) c.emit.result c.args.now _ _ _ t
    (ins_there c.args.node.now c.args.words.now _ _ (c.args.node.now.ins + c.args.node.now.nin - c.args.node.now.ins) c.requires.lies c.split_at_mut-elements.ensures.front c.split_at_mut-front.ensures.front (omega arith))
    c.emit.ensures.lacks
