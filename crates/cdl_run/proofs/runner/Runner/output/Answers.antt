use Rattle.std.proofs.Common.{◌<◌, subst, sym, length}
use Rattle.cdl_run.proofs.Ticking.{output_inside}
use Rattle.cdl_run.specs.Words.{root_outputs}
use Rattle.cdl_run.proofs.runner.Runner.output.Goals as goal

pub bounds-all-index : goal.bounds-all-index
bounds-all-index c =
    let h = subst (λ r. c.args.i < length (root_outputs r.net)) (sym c.self.view_is) c.requires in
    rw c.all.ensures (output_inside c.self.inside.parts.plan.net c.self.inside.parts.outputs.items c.self.inside.region.words c.args.i c.index.result.now c.self.invariant.0.outputs c.self.invariant.1.size h c.index.ensures)
