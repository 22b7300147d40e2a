use Rattle.std.proofs.Common.{rules, arith, refl, ◌∙◌}
use Rattle.cdl_statements.specs.inner.Seen.{made, tells}
use Rattle.cdl_statements.proofs.Steps as at
use Rattle.cdl_statements.proofs.running.all.Goals as goal

pub loop-i-init : goal.loop-i-init
loop-i-init c = record { kept = refl; went = at.model_starts c.args.e.now c.args.instances.now (made c.args.directory.now c.args.net.now) }

pub instance-requires : goal.instance-requires
instance-requires c = at.instance_at c.args.e.now c.loop-i.e c.args.directory.now c.args.instances.now c.loop-i.i c.in-Ok.number c.index-instances-i.result c.requires c.loop-i.invariant.kept (search rules) c.loop-i-test.true c.index-instances-i.is

pub returns-in-Err-clause-runs : goal.returns-in-Err-clause-runs
returns-in-Err-clause-runs c = at.model_stops c.args.e.now c.loop-i.e c.args.instances.now c.loop-i.i c.index-instances-i.result (made c.args.directory.now c.args.net.now) (made c.args.directory.now c.loop-i.net) (tells c.in-Err.fault)
    c.loop-i.invariant.kept c.loop-i-test.true c.index-instances-i.is c.loop-i.invariant.went c.in-Err.ensures.runs

pub loop-i-preserved : goal.loop-i-preserved
loop-i-preserved c = record {
  kept = c.instance.ensures.kept ∙ c.loop-i.invariant.kept;
  went = at.model_next c.args.e.now c.loop-i.e c.args.instances.now c.loop-i.i c.index-instances-i.result (made c.args.directory.now c.args.net.now) (made c.args.directory.now c.loop-i.net) (made c.args.directory.now c.instance.new.net)
      c.loop-i.invariant.kept c.loop-i-test.true c.index-instances-i.is c.loop-i.invariant.went c.in-Ok-instance.ensures.runs;
}

pub returns-clause-runs : goal.returns-clause-runs
returns-clause-runs c = at.model_all c.args.e.now c.args.instances.now c.loop-i.i (made c.args.directory.now c.args.net.now) (made c.args.directory.now c.loop-i.net) (omega arith) c.loop-i.invariant.went
