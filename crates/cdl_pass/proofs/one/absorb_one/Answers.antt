use Rattle.std.proofs.Common.{arith, rules, ap, ◌≡◌, ◌+◌, ◌-◌, length, ℤ, List, take}
use Rattle.std.proofs.lemmas.Int.{to_z-of_z}
use Rattle.std.specs.Int.{w64}
use Rattle.cdl_pass.specs.Windows.{state_of}
use Rattle.cdl_pass.proofs.Places.{only_state, ins_first}
use Rattle.cdl_pass.proofs.one.absorb_one.Goals as goal

pub returns-clause-only : goal.returns-clause-only
returns-clause-only g c =
    let n : length c.absorb.new.state ≡ c.args.node.now.width = search rules in
    (only_state c.args.node.now c.args.words.now _ _ c.absorb.new.state c.requires.lies c.split_at_mut-elements.ensures.front c.split_at_mut-elements.ensures.back n).0

pub returns-clause-stands : goal.returns-clause-stands
returns-clause-stands g c h m k =
    let n : length c.absorb.new.state ≡ c.args.node.now.width = search rules in
    let t = to_z-of_z w64 c.args.now c.ranges.now in
    let s : take c.args.node.now.width c.split_at_mut-elements.result.1.now ≡ state_of c.args.node.now c.args.words.now = ap (λ (x : List ℤ). take c.args.node.now.width x) c.split_at_mut-elements.ensures.back in
    let o = (only_state c.args.node.now c.args.words.now _ _ c.absorb.new.state c.requires.lies c.split_at_mut-elements.ensures.front c.split_at_mut-elements.ensures.back n).1 in
    let i = ins_first c.args.node.now c.args.words.now c.split_at_mut-elements.result.0.now (c.args.node.now.ins + c.args.node.now.nin - c.args.node.now.ins) c.requires.lies c.split_at_mut-elements.ensures.front (omega arith) in
    let e = c.absorb.ensures.stands h (rw s m) in
    let f = rw (i, t) at e in rw o (f k)
