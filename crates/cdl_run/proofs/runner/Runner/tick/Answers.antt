use Rattle.std.proofs.Common.{◌++◌, ◌∷◌, [], ◌<ℤ◌, ◌∙◌, ap, arith, length, subst, sym}
use Rattle.std.proofs.lemmas.Int.{to_z-of_z}
use Rattle.std.specs.Int.{w64}
use Rattle.std.proofs.Common.{of_z, to_z}
use Rattle.cdl_values.specs.History.{word}
use Rattle.cdl_pass.specs.Absorb.{Stood}
use Rattle.cdl_pass.specs.Net.{net_of}
use Rattle.cdl_pass.specs.Tick.{FirstFault, FirstLack, NoFault, Past, Solves, Starts}
use Rattle.cdl_run.specs.inner.AnyBlocks.{any_blocks}
use Rattle.cdl_run.specs.Runs.{HasFault, IsRow, RunStands, tick_at}
use Rattle.std.specs.List.{refill}
use Rattle.cdl_run.specs.Running.{FirstLacks, Stands}
use Rattle.cdl_run.proofs.Lacking.{first_lacks}
use Rattle.cdl_run.proofs.Ticking.{element_values, fault_at, laid_at, moved, next_ready, none_fault, planned_at, refill_all, row_at, tick_fault, tick_ok}
use Rattle.std.proofs.Common.{◌+◌, ◌<◌, List}
use Rattle.cdl_values.specs.History.{IsValue}
use Rattle.cdl_connect.specs.Nets.{network_of}
use Rattle.cdl_pass.specs.declared.net.Action.{Action}
use Rattle.cdl_pass.specs.Tick.{spent_in}
use Rattle.cdl_run.specs.Words.{elementary_count}
use Rattle.cdl_run.proofs.Counting.{one_emit_each}
use Rattle.cdl_run.proofs.runner.Runner.tick.Goals as goal

pub tick_all-requires-clause-laid : goal.tick_all-requires-clause-laid
tick_all-requires-clause-laid g c = rw (c.deref.ensures.value, c.deref-2.ensures.value, c.deref-3.ensures.value, c.deref-4.ensures.value, c.deref-5.ensures.value, c.all_mut-words.ensures.value) (laid_at (length c.self.inside.region.words) c.self.invariant.0.set c.self.invariant.1.size)

pub tick_all-requires-clause-planned : goal.tick_all-requires-clause-planned
tick_all-requires-clause-planned g c = rw (c.deref.ensures.value, c.deref-2.ensures.value, c.deref-3.ensures.value, c.deref-4.ensures.value, c.deref-5.ensures.value) (planned_at c.self.invariant.0.set)

pub tick_all-requires-clause-stateful : goal.tick_all-requires-clause-stateful
tick_all-requires-clause-stateful g c = rw (c.deref-2.ensures.value, c.deref-6.ensures.value) c.self.invariant.2

pub tick_all-requires-clause-row : goal.tick_all-requires-clause-row
tick_all-requires-clause-row g c = rw c.deref-5.ensures.value (row_at c.args.row.now c.self.invariant.0.set (subst (λ r. IsRow r.net c.args.row.now) (sym c.self.view_is) c.requires.row))

pub tick_all-requires-clause-sound : goal.tick_all-requires-clause-sound
tick_all-requires-clause-sound g c =
    let t = to_z-of_z w64 c.args.now c.ranges.now in
    let none = none_fault c.self.inside.fault c.in_default.not-Some in
    rw (t, c.deref.ensures.value, c.deref-2.ensures.value, c.all_mut-words.ensures.value) (c.self.inside.last, subst (λ r. r.last <ℤ c.args.now) (sym c.self.view_is) c.requires.later, c.self.invariant.1.sound none)

pub invariant_of-self : goal.invariant_of-self
invariant_of-self g c =
    let size = c.in-Ok.ensures.size ∙ ap length c.all_mut-words.ensures.value in
    let sound = rw (c.deref.ensures.value, c.deref-2.ensures.value) at c.in-Ok.ensures.sound in
    (c.self.invariant.0, next_ready c.self.inside.region.words c.tick_all.new.words _ _ _ c.self.invariant.1 size sound, c.self.invariant.2)

pub index-requires : goal.index-requires
index-requires g c =
    let a = c.in-Err.ensures.inside in
    let b = ap length c.deref-2.ensures.value in
    let d = c.self.invariant.0.set.placed.nodes in
    let e = ap length c.self.invariant.0.instances in
    omega (arith, a, b, d, e)

pub returns-in-Ok-clause-ok : goal.returns-in-Ok-clause-ok
returns-in-Ok-clause-ok g c = λ ts s.
    let t = to_z-of_z w64 c.args.now c.ranges.now in
    let r = subst (λ x. Stands x ts) (sym c.self.view_is) s in
    let row = subst (λ x. IsRow x.net c.args.row.now) (sym c.self.view_is) c.requires.row in
    let later = subst (λ x. x.last <ℤ c.args.now) (sym c.self.view_is) c.requires.later in
    let size = c.in-Ok.ensures.size ∙ ap length c.all_mut-words.ensures.value in
    let typed = rw c.deref-4.ensures.value at c.in-Ok.ensures.typed in
    let values = rw c.deref-4.ensures.value at c.in-Ok.ensures.values in
    let solves = moved (λ bs ps acts kinds rows words now. (past : Past) → Starts any_blocks (net_of bs ps acts kinds rows) now past words → Solves any_blocks (net_of bs ps acts kinds rows) now c.args.row.now past (word c.tick_all.new.words)) c.deref.result.now _ c.deref-2.result.now _ c.deref-3.result.now _ c.deref-4.result.now _ c.deref-5.result.now _ c.all_mut-words.result.now c.self.inside.region.words (to_z w64 (of_z w64 c.args.now)) c.args.now c.deref.ensures.value c.deref-2.ensures.value c.deref-3.ensures.value c.deref-4.ensures.value c.deref-5.ensures.value c.all_mut-words.ensures.value t c.in-Ok.ensures.solves in
    let ok = moved (λ bs ps acts kinds rows words now. (past : Past) → Starts any_blocks (net_of bs ps acts kinds rows) now past words → NoFault any_blocks (net_of bs ps acts kinds rows) now past (word c.tick_all.new.words) × Stood any_blocks (net_of bs ps acts kinds rows) now past c.tick_all.new.words) c.deref.result.now _ c.deref-2.result.now _ c.deref-3.result.now _ c.deref-4.result.now _ c.deref-5.result.now _ c.all_mut-words.result.now c.self.inside.region.words (to_z w64 (of_z w64 c.args.now)) c.args.now c.deref.ensures.value c.deref-2.ensures.value c.deref-3.ensures.value c.deref-4.ensures.value c.deref-5.ensures.value c.all_mut-words.ensures.value t c.in-Ok.ensures.ok in
    let run = tick_ok c.args.now c.args.row.now c.tick_all.new.words c.self.invariant.0.set row c.requires.time later (size ∙ c.self.invariant.1.size) typed values r.run solves ok in
    record {
      calm = r.calm;
      run = rw t (subst (λ w. RunStands c.self.inside.parts.plan.net (ts ++ tick_at c.args.now c.args.row.now ∷ []) c.args.now w) (sym (refill_all c.self.inside.region.words c.tick_all.new.words size)) run);
    }

pub returns-in-Err-clause-fault : goal.returns-in-Err-clause-fault
returns-in-Err-clause-fault g c = λ ts s.
    let t = to_z-of_z w64 c.args.now c.ranges.now in
    let r = subst (λ x. Stands x ts) (sym c.self.view_is) s in
    let row = subst (λ x. IsRow x.net c.args.row.now) (sym c.self.view_is) c.requires.row in
    let later = subst (λ x. x.last <ℤ c.args.now) (sym c.self.view_is) c.requires.later in
    let typed = rw c.deref-4.ensures.value at c.in-Err.ensures.typed in
    let solves = moved (λ bs ps acts kinds rows words now. (past : Past) → Starts any_blocks (net_of bs ps acts kinds rows) now past words → Solves any_blocks (net_of bs ps acts kinds rows) now c.args.row.now past (word c.tick_all.new.words)) c.deref.result.now _ c.deref-2.result.now _ c.deref-3.result.now _ c.deref-4.result.now _ c.deref-5.result.now _ c.all_mut-words.result.now c.self.inside.region.words (to_z w64 (of_z w64 c.args.now)) c.args.now c.deref.ensures.value c.deref-2.ensures.value c.deref-3.ensures.value c.deref-4.ensures.value c.deref-5.ensures.value c.all_mut-words.ensures.value t c.in-Err.ensures.solves in
    let fault = moved (λ bs ps acts kinds rows words now. (past : Past) → Starts any_blocks (net_of bs ps acts kinds rows) now past words → FirstFault any_blocks (net_of bs ps acts kinds rows) now past (word c.tick_all.new.words) c.in-Err.fault.block) c.deref.result.now _ c.deref-2.result.now _ c.deref-3.result.now _ c.deref-4.result.now _ c.deref-5.result.now _ c.all_mut-words.result.now c.self.inside.region.words (to_z w64 (of_z w64 c.args.now)) c.args.now c.deref.ensures.value c.deref-2.ensures.value c.deref-3.ensures.value c.deref-4.ensures.value c.deref-5.ensures.value c.all_mut-words.ensures.value t c.in-Err.ensures.fault in
    let a = c.in-Err.ensures.inside in
    let b = ap length c.deref-2.ensures.value in
    let d = c.self.invariant.0.set.placed.nodes in
    let e = ap length c.self.invariant.0.instances in
    let i = fault_at _ _ c.in-Err.fault.block c.index.result.now (omega (arith, a, b, d, e)) c.self.invariant.0.instances c.index.ensures in
    subst (λ x. HasFault x.net ts (tick_at c.args.now c.args.row.now) c.index.result.now) c.self.view_is
    (tick_fault c.args.now c.args.row.now c.tick_all.new.words c.in-Err.fault.block c.index.result.now c.self.invariant.0.set row c.requires.time later typed r.run solves fault i)

pub returns-in-Err-clause-lacks : goal.returns-in-Err-clause-lacks
returns-in-Err-clause-lacks g c = λ calm.
    let t = to_z-of_z w64 c.args.now c.ranges.now in
    let size = c.in-Err.ensures.size ∙ ap length c.all_mut-words.ensures.value in
    let lack = moved (λ bs ps acts kinds rows words now. FirstLack any_blocks (net_of bs ps acts kinds rows) now (word c.tick_all.new.words) c.in-Err.fault.block) c.deref.result.now _ c.deref-2.result.now _ c.deref-3.result.now _ c.deref-4.result.now _ c.deref-5.result.now _ c.all_mut-words.result.now c.self.inside.region.words (to_z w64 (of_z w64 c.args.now)) c.args.now c.deref.ensures.value c.deref-2.ensures.value c.deref-3.ensures.value c.deref-4.ensures.value c.deref-5.ensures.value c.all_mut-words.ensures.value t c.in-Err.ensures.lacks in
    let a = c.in-Err.ensures.inside in
    let b = ap length c.deref-2.ensures.value in
    let d = c.self.invariant.0.set.placed.nodes in
    let e = ap length c.self.invariant.0.instances in
    let i = fault_at _ _ c.in-Err.fault.block c.index.result.now (omega (arith, a, b, d, e)) c.self.invariant.0.instances c.index.ensures in
    let named = first_lacks c.args.now c.tick_all.new.words c.in-Err.fault.block c.index.result.now c.self.invariant.0.set i lack in
    subst (λ x. FirstLacks x.net c.args.now (refill (length c.self.inside.region.words) c.self.inside.region.words c.tick_all.new.words) c.index.result.now) c.self.view_is
    (subst (λ w. FirstLacks c.self.inside.parts.plan.net c.args.now w c.index.result.now) (sym (refill_all c.self.inside.region.words c.tick_all.new.words size)) named)

pub returns-in-Ok-clause-step : goal.returns-in-Ok-clause-step
returns-in-Ok-clause-step g c =
    let a = ap (λ (xs : List Action). spent_in xs (length xs)) c.deref-3.ensures.value in
    let e = one_emit_each c.self.invariant.0.set in
    c.in-Ok.ensures.step ∙ ap (λ k. c.args.steps.now + k) (a ∙ e ∙ ap (λ r. elementary_count r.net) c.self.view_is)

pub returns-in-Ok-clause-few : goal.returns-in-Ok-clause-few
returns-in-Ok-clause-few g c =
    let a = ap (λ (xs : List Action). spent_in xs (length xs)) c.deref-3.ensures.value in
    let e = one_emit_each c.self.invariant.0.set in
    let s = a ∙ e ∙ ap (λ r. elementary_count r.net) c.self.view_is in
    omega (arith, c.in-Ok.ensures.few, s)

pub returns-in-Err-clause-few : goal.returns-in-Err-clause-few
returns-in-Err-clause-few g c =
    let a = ap (λ (xs : List Action). spent_in xs (length xs)) c.deref-3.ensures.value in
    let e = one_emit_each c.self.invariant.0.set in
    let s = a ∙ e ∙ ap (λ r. elementary_count r.net) c.self.view_is in
    omega (arith, c.in-Err.ensures.few, s)

pub returns-in-Ok-clause-values : goal.returns-in-Ok-clause-values
returns-in-Ok-clause-values g c = λ e h.
    let size = c.in-Ok.ensures.size ∙ ap length c.all_mut-words.ensures.value in
    let values = rw c.deref-4.ensures.value at c.in-Ok.ensures.values in
    let inside = subst (λ r. e < length r.net.elements) (sym c.self.view_is) h in
    let all = refill_all c.self.inside.region.words c.tick_all.new.words size in
    subst (λ r. IsValue ((network_of r.net).value_type e) (word (refill (length c.self.inside.region.words) c.self.inside.region.words c.tick_all.new.words) e)) c.self.view_is
    (subst (λ w. IsValue ((network_of c.self.inside.parts.plan.net).value_type e) (word w e)) (sym all) (element_values c.tick_all.new.words c.self.invariant.0.set values e inside))
