use Rattle.std.proofs.Common.{arith, rules, ℕ, ◌≡◌, ◌<◌, length, ◌∙◌, get_or, refl, sym, ◌+◌}
use Rattle.cdl_source.proofs.Cases.{by_lt}
use Rattle.std.proofs.lemmas.Int.{to_z-of_z}
use Rattle.std.proofs.lemmas.Option.{slice_get-get_or, slice_get_within}
use Rattle.std.specs.Int.{w64}
use Rattle.cdl_pass.specs.declared.net.Node.{Node}
use Rattle.cdl_pass.specs.Windows.{ins_of}
use Rattle.cdl_pass.proofs.Passing.{here, resized}
use Rattle.cdl_pass.proofs.Absorbing.{absorbed_next, absorbed_start, ins_kept, kept_next, moved_next, moved_start, values_in}
use Rattle.cdl_pass.proofs.Remembering.{absorbed_over, left_over, moved_over, passed_over, upto_next, upto_start}
use Rattle.cdl_pass.proofs.absorb.absorb_all.Goals as goal

abbrev node0 : Node
node0 = record { ins = 0; nin = 0; reads = 0; outs = 0; nout = 0; state = 0; width = 0 }

pub loop-k-init : goal.loop-k-init
loop-k-init g c = record {
  size = refl;
  kept = refl;
  place = 0;
  upto = upto_start c.args.stateful.now;
  moved = moved_start;
  so_far = λ r s. absorbed_start;
}

pub offset_bounds-blocks-i : goal.offset_bounds-blocks-i
offset_bounds-blocks-i g c =
    let i : ℕ = get_or c.args.stateful.now c.loop-k.k 0 in
    let at = slice_get-get_or c.args.stateful.now c.loop-k.k 0 (omega (arith, c.loop-k-test.true)) in
    let within : i < length c.args.nodes.now = c.requires.stateful.inside c.loop-k.k i at in
    omega (arith, within, c.requires.laid.same)

pub bounds-blocks-i : goal.bounds-blocks-i
bounds-blocks-i g c =
    let i : ℕ = get_or c.args.stateful.now c.loop-k.k 0 in
    let at = slice_get-get_or c.args.stateful.now c.loop-k.k 0 (omega (arith, c.loop-k-test.true)) in
    let within : i < length c.args.nodes.now = c.requires.stateful.inside c.loop-k.k i at in
    omega (arith, within, c.requires.laid.same)

pub offset_bounds-nodes-i : goal.offset_bounds-nodes-i
offset_bounds-nodes-i g c =
    let i : ℕ = get_or c.args.stateful.now c.loop-k.k 0 in
    let at = slice_get-get_or c.args.stateful.now c.loop-k.k 0 (omega (arith, c.loop-k-test.true)) in
    let within : i < length c.args.nodes.now = c.requires.stateful.inside c.loop-k.k i at in
    search rules

pub bounds-nodes-i : goal.bounds-nodes-i
bounds-nodes-i g c =
    let i : ℕ = get_or c.args.stateful.now c.loop-k.k 0 in
    let at = slice_get-get_or c.args.stateful.now c.loop-k.k 0 (omega (arith, c.loop-k-test.true)) in
    let within : i < length c.args.nodes.now = c.requires.stateful.inside c.loop-k.k i at in
    within

pub absorb_one-requires-clause-lies : goal.absorb_one-requires-clause-lies
absorb_one-requires-clause-lies g c =
    let i : ℕ = get_or c.args.stateful.now c.loop-k.k 0 in
    let at = slice_get-get_or c.args.stateful.now c.loop-k.k 0 (omega (arith, c.loop-k-test.true)) in
    let within : i < length c.args.nodes.now = c.requires.stateful.inside c.loop-k.k i at in
    let inv = c.loop-k.invariant in
    let t = to_z-of_z w64 c.args.now c.ranges.now in
    let b = here c.args.blocks.now i c.index-blocks-i.result (omega (arith, c.requires.laid.same, within)) c.index-blocks-i.is in
    let p = slice_get-get_or c.args.nodes.now i node0 within in
    let node : Node = get_or c.args.nodes.now i node0 in
    let f = c.requires.laid.each i _ _ b p in
    let q = (resized {k = length c.loop-k.words} c.requires.laid inv.size).each i _ _ b p in q.lies

pub absorb_one-requires-clause-state : goal.absorb_one-requires-clause-state
absorb_one-requires-clause-state g c =
    let i : ℕ = get_or c.args.stateful.now c.loop-k.k 0 in
    let at = slice_get-get_or c.args.stateful.now c.loop-k.k 0 (omega (arith, c.loop-k-test.true)) in
    let within : i < length c.args.nodes.now = c.requires.stateful.inside c.loop-k.k i at in
    let inv = c.loop-k.invariant in
    let t = to_z-of_z w64 c.args.now c.ranges.now in
    let b = here c.args.blocks.now i c.index-blocks-i.result (omega (arith, c.requires.laid.same, within)) c.index-blocks-i.is in
    let p = slice_get-get_or c.args.nodes.now i node0 within in
    let node : Node = get_or c.args.nodes.now i node0 in
    let f = c.requires.laid.each i _ _ b p in
    f.width

pub absorb_one-requires-clause-ready : goal.absorb_one-requires-clause-ready
absorb_one-requires-clause-ready g c =
    let i : ℕ = get_or c.args.stateful.now c.loop-k.k 0 in
    let at = slice_get-get_or c.args.stateful.now c.loop-k.k 0 (omega (arith, c.loop-k-test.true)) in
    let within : i < length c.args.nodes.now = c.requires.stateful.inside c.loop-k.k i at in
    let inv = c.loop-k.invariant in
    let t = to_z-of_z w64 c.args.now c.ranges.now in
    let b = here c.args.blocks.now i c.index-blocks-i.result (omega (arith, c.requires.laid.same, within)) c.index-blocks-i.is in
    let p = slice_get-get_or c.args.nodes.now i node0 within in
    let node : Node = get_or c.args.nodes.now i node0 in
    let f = c.requires.laid.each i _ _ b p in
    let ins : ins_of node c.loop-k.words ≡ ins_of node c.args.words.now = ins_kept c.args.words.now c.loop-k.words f inv.kept in
    rw ins (values_in c.args.words.now f c.requires.values)

pub absorb_one-requires-clause-sound : goal.absorb_one-requires-clause-sound
absorb_one-requires-clause-sound g c =
    let i : ℕ = get_or c.args.stateful.now c.loop-k.k 0 in
    let at = slice_get-get_or c.args.stateful.now c.loop-k.k 0 (omega (arith, c.loop-k-test.true)) in
    let within : i < length c.args.nodes.now = c.requires.stateful.inside c.loop-k.k i at in
    let inv = c.loop-k.invariant in
    let t = to_z-of_z w64 c.args.now c.ranges.now in
    let b = here c.args.blocks.now i c.index-blocks-i.result (omega (arith, c.requires.laid.same, within)) c.index-blocks-i.is in
    let p = slice_get-get_or c.args.nodes.now i node0 within in
    let node : Node = get_or c.args.nodes.now i node0 in
    let f = c.requires.laid.each i _ _ b p in
    let reached = inv.upto.above c.loop-k.k i at (omega arith) in
    (c.requires.sound.0, rw t c.requires.sound.1, rw (inv.moved.todo i _ _ b p reached) (c.requires.sound.2 i _ _ b p))

pub loop-k-preserved : goal.loop-k-preserved
loop-k-preserved g c =
    let i : ℕ = get_or c.args.stateful.now c.loop-k.k 0 in
    let at = slice_get-get_or c.args.stateful.now c.loop-k.k 0 (omega (arith, c.loop-k-test.true)) in
    let within : i < length c.args.nodes.now = c.requires.stateful.inside c.loop-k.k i at in
    let inv = c.loop-k.invariant in
    let t = to_z-of_z w64 c.args.now c.ranges.now in
    let b = here c.args.blocks.now i c.index-blocks-i.result (omega (arith, c.requires.laid.same, within)) c.index-blocks-i.is in
    let p = slice_get-get_or c.args.nodes.now i node0 within in
    let node : Node = get_or c.args.nodes.now i node0 in
    let f = c.requires.laid.each i _ _ b p in
    let ins : ins_of node c.loop-k.words ≡ ins_of node c.args.words.now = ins_kept c.args.words.now c.loop-k.words f inv.kept in
    let e = c.absorb_one.ensures in
    let reached = inv.upto.above c.loop-k.k i at (omega arith) in
    let over = passed_over c.args.stateful.now i c.requires.stateful at inv.upto in
    let law = g.met.B.Elementary.idle in
    let moved = moved_over i c.requires.sound.0 law c.requires.laid reached over c.requires.sound.2 inv.moved in
    record {
      size = e.size ∙ inv.size;
      kept = kept_next c.loop-k.words _ c.args.words.now node.state (length c.args._kinds.now) e.only.before f.state inv.kept;
      place = i + 1;
      upto = upto_next c.args.stateful.now i c.requires.stateful at inv.upto;
      moved = moved_next _ _ _ c.requires.laid moved b p e.only e.sound;
      so_far = λ r s.
          let z = s i _ _ b p in
          let q = e.stands (r i) (rw (inv.moved.todo i _ _ b p reached) z.1) (rw ins z.0) in
          absorbed_next _ _ _ c.requires.laid (absorbed_over i r law c.requires.laid over s inv.moved (inv.so_far r s)) b p e.only (rw ins at q);
    }

pub returns-clause-sound : goal.returns-clause-sound
returns-clause-sound g c =
    let inv = c.loop-k.invariant in
    let t = to_z-of_z w64 c.args.now c.ranges.now in
    let over = left_over c.args.stateful.now c.requires.stateful (omega (arith, c.loop-k-test.false)) inv.upto in
    λ j b p u v.
    let within = slice_get_within c.args.nodes.now j p v in
    by_lt j inv.place
    (λ k. rw t at (inv.moved.sound j b p u v k))
    (λ k. rw (inv.moved.todo j b p u v k) ((g.met.B.Elementary.idle b (sym (c.requires.laid.each j b p u v).width ∙ over j p k within v)).1 _ c.requires.sound.0 c.args.now (c.requires.sound.2 j b p u v)))

pub returns-clause-stands : goal.returns-clause-stands
returns-clause-stands g c =
    let inv = c.loop-k.invariant in
    let t = to_z-of_z w64 c.args.now c.ranges.now in
    let over = left_over c.args.stateful.now c.requires.stateful (omega (arith, c.loop-k-test.false)) inv.upto in
    λ r s j b p u v.
    let within = slice_get_within c.args.nodes.now j p v in
    by_lt j inv.place
    (λ k. rw t at ((inv.so_far r (rw t s)).done j b p u v k))
    (λ k. rw (inv.moved.todo j b p u v k) ((g.met.B.Elementary.idle b (sym (c.requires.laid.each j b p u v).width ∙ over j p k within v)).0 _ (r j) _ (s j b p u v).1))
