use Rattle.std.proofs.Common.{◌∙◌, [], None, ap, length, negsuc, refl, subst, sym}
use Rattle.std.specs.List.{refill}
use Rattle.cdl_run.specs.Runs.{RunStands}
use Rattle.cdl_run.specs.inner.AnyBlocks.{any_blocks}
use Rattle.cdl_run.specs.inner.Ready.{IsFixed, IsReady}
use Rattle.cdl_run.proofs.Ticking.{laid_at, region_size, start_ready, start_size, start_stands}
use Rattle.cdl_run.proofs.runner.Runner.start.Goals as goal

pub reset_all-requires : goal.reset_all-requires
reset_all-requires c =
    let size = region_size c.in_ok-region.region c.in_ok-parts.size c.in_ok-region.ensures ∙ c.in_ok-parts.ensures.size in
    record { laid = rw (c.deref.ensures.value, c.deref-2.ensures.value, c.deref-3.ensures.value, c.deref-4.ensures.value, c.deref-5.ensures.value, c.all_mut.ensures.value) (laid_at (length c.in_ok-region.region.words) c.in_ok-parts.ensures.fixed.set size) }

pub invariant_of-result : goal.invariant_of-result
invariant_of-result c =
    let size = region_size c.in_ok-region.region c.in_ok-parts.size c.in_ok-region.ensures ∙ c.in_ok-parts.ensures.size in
    let same = c.reset_all.ensures.size ∙ ap length c.all_mut.ensures.value in
    let sound = rw (c.deref.ensures.value, c.deref-2.ensures.value) at c.reset_all.ensures.sound in
    let made = subst (λ p. IsFixed any_blocks p.net c.in_ok-parts.parts.blocks.items c.in_ok-parts.parts.nodes.items c.in_ok-parts.parts.instances.items c.in_ok-parts.parts.actions.items c.in_ok-parts.parts.types.items c.in_ok-parts.parts.rows.items c.in_ok-parts.parts.outputs.items
    × IsReady any_blocks p.net c.in_ok-parts.parts.blocks.items c.in_ok-parts.parts.nodes.items c.in_ok-parts.parts.actions.items c.in_ok-parts.parts.types.items c.in_ok-parts.parts.rows.items (refill (length c.in_ok-region.region.words) c.in_ok-region.region.words c.reset_all.new.words) (negsuc 0) None) (sym c.in_ok-parts.ensures.net)
    (c.in_ok-parts.ensures.fixed, start_ready c.in_ok-region.region.words c.reset_all.new.words None size same sound) in
    (made.0, made.1, c.in_ok-parts.ensures.stateful)

pub returns-clause-stands : goal.returns-clause-stands
returns-clause-stands c =
    let same = c.reset_all.ensures.size ∙ ap length c.all_mut.ensures.value in
    let stands = rw (c.deref.ensures.value, c.deref-2.ensures.value) at c.reset_all.ensures.stands in
    record {
      calm = refl;
      run = subst (λ p. RunStands p.net [] (negsuc 0) (refill (length c.in_ok-region.region.words) c.in_ok-region.region.words c.reset_all.new.words)) (sym c.in_ok-parts.ensures.net) (start_stands c.in_ok-region.region.words c.reset_all.new.words c.in_ok-parts.ensures.fixed.set same stands);
    }

pub returns-clause-size : goal.returns-clause-size
returns-clause-size c =
    let size = region_size c.in_ok-region.region c.in_ok-parts.size c.in_ok-region.ensures ∙ c.in_ok-parts.ensures.size in
    let same = c.reset_all.ensures.size ∙ ap length c.all_mut.ensures.value in
    start_size c.args.plan.net c.in_ok-region.region.words c.reset_all.new.words size same
