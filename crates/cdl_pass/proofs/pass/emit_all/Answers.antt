use Rattle.std.proofs.Common.{arith, ℕ, ◌∙◌, get_or, Option}
use Rattle.std.proofs.lemmas.Int.{to_z-of_z}
use Rattle.std.proofs.lemmas.Option.{slice_get-get_or}
use Rattle.std.specs.Int.{w64}
use Rattle.cdl_values.specs.History.{word}
use Rattle.cdl_pass.specs.declared.net.Action.{Action}
use Rattle.cdl_pass.specs.Net.{blocks_of, net_of}
use Rattle.cdl_pass.proofs.Lacking.{first_lack, tried_next}
use Rattle.cdl_pass.proofs.Passing.{passed_next, typed_next, all_solved, all_typed, all_values, first_fault, no_fault, agree_all, starts_kept, state_kept, spent_next, found, found_none, none_found}
use Rattle.cdl_pass.proofs.pass.emit_all.Goals as goal

pub advance-least-requires-clause-sound : goal.advance-least-requires-clause-sound
advance-least-requires-clause-sound g c =
    let m = blocks_of g.B.Elementary.inputs g.B.Elementary.results g.B.Elementary.width g.B.Elementary.meaning g.B.Elementary.stands g.B.Elementary.is_sound g.B.Elementary.may_lack in
    let n = net_of c.args.blocks.now c.args.nodes.now c.args.actions.now c.args.kinds.now c.args.rows.now in
    let t = to_z-of_z w64 c.args.now c.ranges.now in
    let inv = c.loop-action.invariant in
    (c.requires.sound.0, rw t c.requires.sound.1, λ j b p hb hp. rw (state_kept c.args.words.now c.loop-action.words (c.requires.laid.each j b p hb hp) inv.states) (c.requires.sound.2 j b p hb hp))

pub loop-action-preserved : goal.loop-action-preserved
loop-action-preserved g c =
    let m = blocks_of g.B.Elementary.inputs g.B.Elementary.results g.B.Elementary.width g.B.Elementary.meaning g.B.Elementary.stands g.B.Elementary.is_sound g.B.Elementary.may_lack in
    let n = net_of c.args.blocks.now c.args.nodes.now c.args.actions.now c.args.kinds.now c.args.rows.now in
    let t = to_z-of_z w64 c.args.now c.ranges.now in
    let inv = c.loop-action.invariant in
    let i = c.loop-action.action-index in
    let action : Action = get_or c.args.actions.now i (Action.Input 0 0) in
    let is = slice_get-get_or c.args.actions.now i (Action.Input 0 0) (omega (arith, c.loop-action-test.true)) in
    let e = c.advance-least.ensures in
    let new : Option ℕ = c.advance-least.result in
    let s = spent_next c.args.actions.now i action is in
    record {
      size = e.size ∙ inv.size;
      inside = e.inside;
      states = e.states ∙ inv.states;
      few = omega (arith, s, e.few, inv.few);
      step = λ z. let y = e.plain z in let a = inv.step y in let b = e.step y in omega (arith, s, a, b);
      typed = typed_next (word c.loop-action.words) (word c.advance-least.new.words) new action (found new) c.requires.planned inv.typed is e.others e.typed (λ z f. e.values (none_found new f)) (λ z. (e.plain z, found_none new z));
      tried = rw t (tried_next (word c.loop-action.words) (word c.advance-least.new.words) new action e.tried.0 c.requires.planned (rw t at inv.tried) is e.others (rw t at e.tried.1) e.tried.2);
      so_far = λ r st.
          let here = starts_kept c.args.now r c.args.words.now c.loop-action.words c.requires.laid inv.states (rw t at st) in
          let gives = e.gives r (rw t here) in
          let fault = e.fault r (rw t here) in
          rw t (passed_next (word c.loop-action.words) (word c.advance-least.new.words) new action fault.0 g.met.B.Elementary.direct_only c.requires.laid c.requires.planned (rw t at (inv.so_far r st)) is (rw t at gives) e.others (rw t at fault.1) fault.2);
    }

pub returns-clause-values : goal.returns-clause-values
returns-clause-values g c =
    let m = blocks_of g.B.Elementary.inputs g.B.Elementary.results g.B.Elementary.width g.B.Elementary.meaning g.B.Elementary.stands g.B.Elementary.is_sound g.B.Elementary.may_lack in
    let n = net_of c.args.blocks.now c.args.nodes.now c.args.actions.now c.args.kinds.now c.args.rows.now in
    let t = to_z-of_z w64 c.args.now c.ranges.now in
    let inv = c.loop-action.invariant in
    all_values c.requires.planned inv.typed (omega (arith, c.loop-action-test.false))

pub returns-clause-solves : goal.returns-clause-solves
returns-clause-solves g c =
    let m = blocks_of g.B.Elementary.inputs g.B.Elementary.results g.B.Elementary.width g.B.Elementary.meaning g.B.Elementary.stands g.B.Elementary.is_sound g.B.Elementary.may_lack in
    let n = net_of c.args.blocks.now c.args.nodes.now c.args.actions.now c.args.kinds.now c.args.rows.now in
    let t = to_z-of_z w64 c.args.now c.ranges.now in
    let inv = c.loop-action.invariant in
    λ r s. all_solved (rw t at (inv.so_far r (rw t s))) (omega (arith, c.loop-action-test.false))

pub returns-clause-only : goal.returns-clause-only
returns-clause-only g c =
    let m = blocks_of g.B.Elementary.inputs g.B.Elementary.results g.B.Elementary.width g.B.Elementary.meaning g.B.Elementary.stands g.B.Elementary.is_sound g.B.Elementary.may_lack in
    let n = net_of c.args.blocks.now c.args.nodes.now c.args.actions.now c.args.kinds.now c.args.rows.now in
    let t = to_z-of_z w64 c.args.now c.ranges.now in
    let inv = c.loop-action.invariant in
    λ r s v f e h. agree_all c.args.now c.args.row.now r v (word c.loop-action.words) g.met.B.Elementary.direct_only c.requires.laid c.requires.planned f (all_solved (rw t at (inv.so_far r (rw t s))) (omega (arith, c.loop-action-test.false))) e h

pub returns-clause-fault : goal.returns-clause-fault
returns-clause-fault g c =
    let m = blocks_of g.B.Elementary.inputs g.B.Elementary.results g.B.Elementary.width g.B.Elementary.meaning g.B.Elementary.stands g.B.Elementary.is_sound g.B.Elementary.may_lack in
    let n = net_of c.args.blocks.now c.args.nodes.now c.args.actions.now c.args.kinds.now c.args.rows.now in
    let t = to_z-of_z w64 c.args.now c.ranges.now in
    let inv = c.loop-action.invariant in
    λ r s. first_fault c.loop-action.least c.requires.planned (rw t at (inv.so_far r (rw t s))) (omega (arith, c.loop-action-test.false))

pub returns-clause-none : goal.returns-clause-none
returns-clause-none g c =
    let m = blocks_of g.B.Elementary.inputs g.B.Elementary.results g.B.Elementary.width g.B.Elementary.meaning g.B.Elementary.stands g.B.Elementary.is_sound g.B.Elementary.may_lack in
    let n = net_of c.args.blocks.now c.args.nodes.now c.args.actions.now c.args.kinds.now c.args.rows.now in
    let t = to_z-of_z w64 c.args.now c.ranges.now in
    let inv = c.loop-action.invariant in
    λ r s. no_fault c.loop-action.least c.requires.planned (rw t at (inv.so_far r (rw t s))) (omega (arith, c.loop-action-test.false))

pub returns-clause-typed : goal.returns-clause-typed
returns-clause-typed g c =
    let inv = c.loop-action.invariant in
    all_typed c.requires.planned inv.typed (omega (arith, c.loop-action-test.false))

pub returns-clause-lacks : goal.returns-clause-lacks
returns-clause-lacks g c =
    let m = blocks_of g.B.Elementary.inputs g.B.Elementary.results g.B.Elementary.width g.B.Elementary.meaning g.B.Elementary.stands g.B.Elementary.is_sound g.B.Elementary.may_lack in
    let n = net_of c.args.blocks.now c.args.nodes.now c.args.actions.now c.args.kinds.now c.args.rows.now in
    let t = to_z-of_z w64 c.args.now c.ranges.now in
    let inv = c.loop-action.invariant in
    first_lack c.loop-action.least c.requires.planned (rw t at inv.tried) (omega (arith, c.loop-action-test.false))
