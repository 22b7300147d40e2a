use Rattle.std.proofs.Common.{◌≡◌, ◌∙◌, None, ap, arith, length, refl, subst, sym, to_z, of_z}
use Rattle.std.proofs.lemmas.Int.{to_z-of_z}
use Rattle.std.specs.Int.{w64}
use Rattle.std.specs.List.{refill}
use Rattle.cdl_schedule.specs.NetPlan.{NetPlan}
use Rattle.cdl_run.specs.Runs.{RunStands}
use Rattle.cdl_run.specs.Running.{FirstUnsound}
use Rattle.cdl_run.specs.inner.AnyBlocks.{any_blocks}
use Rattle.cdl_run.specs.inner.Ready.{IsFixed, IsReady}
use Rattle.cdl_run.proofs.Resuming.{all_sound, none_is, refilled, resumed_ready, run_of, running_is, some_none}
use Rattle.cdl_run.proofs.Ticking.{region_size, words_total}
use Rattle.cdl_run.proofs.runner.Runner.resume.Goals as goal

pub returns-then-words-size-clause-refused : goal.returns-then-words-size-clause-refused
returns-then-words-size-clause-refused c = λ e.
    let a = c.in_ok-parts.ensures.size in
    let b = words_total c.args.plan.net in
    omega (arith, c.if-words-size.true, a, b, e)

pub returns-then-words-size-clause-stands : goal.returns-then-words-size-clause-stands
returns-then-words-size-clause-stands c = λ ts e r.
    let a = c.in_ok-parts.ensures.size in
    let b = words_total c.args.plan.net in
    absurd (omega (arith, c.if-words-size.true, a, b, e))

pub returns-in-Some-clause-refused : goal.returns-in-Some-clause-refused
returns-in-Some-clause-refused c =
    let t = to_z-of_z w64 c.args.last c.ranges.last in
    let a = c.in_ok-parts.ensures.size in
    let b = words_total c.args.plan.net in (
      omega (arith, c.if-words-size.false, a, b),
      subst (λ (p : NetPlan). FirstUnsound p.net c.args.last c.args.words.now c.in-Some.instance) c.in_ok-parts.ensures.net (rw t at c.in-Some.ensures.first),
    )

pub returns-in-Some-clause-stands : goal.returns-in-Some-clause-stands
returns-in-Some-clause-stands c = λ ts e r.
    let t = to_z-of_z w64 c.args.last c.ranges.last in
    absurd (some_none (c.in-Some.ensures.standing ts (rw t (subst (λ (p : NetPlan). RunStands p.net ts c.args.last c.args.words.now) (sym c.in_ok-parts.ensures.net) r))))

pub invariant_of-result : goal.invariant_of-result
invariant_of-result c =
    let t = to_z-of_z w64 c.args.last c.ranges.last in
    let count : length c.args.words.now ≡ c.in_ok-parts.size = omega (arith, c.if-words-size.false) in
    let size = region_size c.in_ok-region.region c.in_ok-parts.size c.in_ok-region.ensures in
    let same = refilled c.in_ok-region.region.words c.args.words.now c.copy_from_slice.new.self (count ∙ sym size) c.copy_from_slice.ensures.after in
    let sound = rw t at (c.first_unsound_in.ensures.sound (none_is c.first_unsound_in.result c.in_default.not-Some)) in
    let made = subst (λ (p : NetPlan). IsFixed any_blocks p.net c.in_ok-parts.parts.blocks.items c.in_ok-parts.parts.nodes.items c.in_ok-parts.parts.instances.items c.in_ok-parts.parts.actions.items c.in_ok-parts.parts.types.items c.in_ok-parts.parts.rows.items c.in_ok-parts.parts.outputs.items
    × IsReady any_blocks p.net c.in_ok-parts.parts.blocks.items c.in_ok-parts.parts.nodes.items c.in_ok-parts.parts.actions.items c.in_ok-parts.parts.types.items c.in_ok-parts.parts.rows.items (refill (length c.in_ok-region.region.words) c.in_ok-region.region.words c.copy_from_slice.new.self) (to_z w64 (of_z w64 c.args.last)) None) (sym c.in_ok-parts.ensures.net)
    (c.in_ok-parts.ensures.fixed, resumed_ready c.args.words.now _ c.args.last _ same t (count ∙ c.in_ok-parts.ensures.size) sound) in
    (made.0, made.1, c.in_ok-parts.ensures.stateful)

pub returns-clause-ok : goal.returns-clause-ok
returns-clause-ok c =
    let t = to_z-of_z w64 c.args.last c.ranges.last in
    let count : length c.args.words.now ≡ c.in_ok-parts.size = omega (arith, c.if-words-size.false) in
    let size = region_size c.in_ok-region.region c.in_ok-parts.size c.in_ok-region.ensures in
    let same = refilled c.in_ok-region.region.words c.args.words.now c.copy_from_slice.new.self (count ∙ sym size) c.copy_from_slice.ensures.after in
    running_is c.in_ok-parts.parts.plan.net c.args.plan.net _ c.args.words.now _ c.args.last (ap (λ (p : NetPlan). p.net) c.in_ok-parts.ensures.net) same t

pub returns-clause-sound : goal.returns-clause-sound
returns-clause-sound c =
    let t = to_z-of_z w64 c.args.last c.ranges.last in
    let count : length c.args.words.now ≡ c.in_ok-parts.size = omega (arith, c.if-words-size.false) in
    let sound = rw t at (c.first_unsound_in.ensures.sound (none_is c.first_unsound_in.result c.in_default.not-Some)) in
    record {
      size = count ∙ c.in_ok-parts.ensures.size ∙ words_total c.args.plan.net;
      states = all_sound c.args.words.now c.args.last c.in_ok-parts.ensures.fixed.set sound;
    }

pub returns-clause-stands : goal.returns-clause-stands
returns-clause-stands c = λ ts e r.
    let t = to_z-of_z w64 c.args.last c.ranges.last in
    let count : length c.args.words.now ≡ c.in_ok-parts.size = omega (arith, c.if-words-size.false) in
    let size = region_size c.in_ok-region.region c.in_ok-parts.size c.in_ok-region.ensures in
    let same = refilled c.in_ok-region.region.words c.args.words.now c.copy_from_slice.new.self (count ∙ sym size) c.copy_from_slice.ensures.after in
    record {
      calm = refl;
      run = run_of c.in_ok-parts.parts.plan.net c.args.plan.net _ c.args.words.now _ c.args.last (ap (λ (p : NetPlan). p.net) c.in_ok-parts.ensures.net) same t r;
    }
