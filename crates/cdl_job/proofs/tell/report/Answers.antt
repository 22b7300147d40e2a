use Rattle.std.proofs.Common.{refl}
use Rattle.cdl_job.specs.Job.{task_of_job}
use Rattle.cdl_job.specs.declared.outcome.Outcome.TheVariants.{Usage, ReadFault, WriteFault}
use Rattle.cdl_job.proofs.TellFacts.{told_as, told_made}
use Rattle.cdl_job.proofs.tell.report.Goals as goal

pub returns-in-RangeFault-clause-told : goal.returns-in-RangeFault-clause-told
returns-in-RangeFault-clause-told g c =
    told_made (task_of_job c.args.job) c.args.line c.args.column c.args.outcome _ c.range_fault-made.result _ _ _ (rw c.in-RangeFault.is tt) (rw c.in-RangeFault.is c.range_fault-made.ensures)
    c.tell_made-in-RangeFault.ensures.told

pub returns-in-Usage-clause-told : goal.returns-in-Usage-clause-told
returns-in-Usage-clause-told g c =
    told_as (task_of_job c.args.job) c.args.line c.args.column c.args.outcome Usage _ _ _ _ _ c.in-Usage.is refl c.tell-in-Usage.ensures.told

pub returns-in-ReadFault-clause-told : goal.returns-in-ReadFault-clause-told
returns-in-ReadFault-clause-told g c =
    told_as (task_of_job c.args.job) c.args.line c.args.column c.args.outcome ReadFault _ _ _ _ _ c.in-ReadFault.is refl c.tell-in-ReadFault.ensures.told

pub returns-in-WriteFault-clause-told : goal.returns-in-WriteFault-clause-told
returns-in-WriteFault-clause-told g c =
    told_as (task_of_job c.args.job) c.args.line c.args.column c.args.outcome WriteFault _ _ _ _ _ c.in-WriteFault.is refl c.tell-in-WriteFault.ensures.told

pub returns-in-Refused-clause-told : goal.returns-in-Refused-clause-told
returns-in-Refused-clause-told g c =
    told_made (task_of_job c.args.job) c.args.line c.args.column c.args.outcome _ c.refusal-made.result _ _ _ (rw c.in-Refused.is tt) (rw c.in-Refused.is c.refusal-made.ensures)
    c.tell_made.ensures.told
