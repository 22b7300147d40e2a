use Rattle.std.proofs.Common.{subst, List}
use Rattle.cdl_stations.specs.FirstBroken.{IsBroken, NoneBroken}
use Rattle.cdl_walk.specs.declared.walked.Element.{Element}
use Rattle.cdl_walk.specs.declared.walked.Instance.{Instance}
use Rattle.cdl_statements.specs.Directory.{directory}
use Rattle.cdl_statements.specs.Events as event
use Rattle.cdl_statements.specs.Judges.{StandForAll}
use Rattle.cdl_statements.specs.Stations.{InModel}
use Rattle.cdl_expand.proofs.Asked.{asked, instances_found}
use Rattle.cdl_expand.proofs.expanding.join.Goals as goal

pub statements-requires : goal.statements-requires
statements-requires c = asked c.args.e.now c.args.walked.now c.items.result.now c.items-2.result.now c.requires c.items.ensures c.items-2.ensures

pub returns-in-Ok-clause-joined : goal.returns-in-Ok-clause-joined
returns-in-Ok-clause-joined c = record {
  unbroken = subst (λ (xs : List Instance). NoneBroken (IsBroken event.Bad (InModel c.args.e.now xs))) c.items.ensures c.in-Ok.ensures.judges;
  wires = subst (λ (es : List Element). StandForAll (InModel c.args.e.now c.args.walked.now.instances) (directory c.args.walked.now.instances es) c.in-Ok.wires) c.items-2.ensures
      (subst (λ (xs : List Instance). StandForAll (InModel c.args.e.now xs) (directory xs c.items-2.result.now) c.in-Ok.wires) c.items.ensures c.in-Ok.ensures.wires);
}

pub returns-in-Err-clause-refused : goal.returns-in-Err-clause-refused
returns-in-Err-clause-refused c = c.statement_refusal.ensures c.args.e.now c.items.result.now c.requires.unbroken (instances_found c.args.e.now c.args.walked.now c.items.result.now c.requires c.items.ensures) c.in-Err.ensures.judges
