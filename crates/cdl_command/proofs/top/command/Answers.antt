use Rattle.std.proofs.Common.{◌∙◌, sym}
use Rattle.cdl_source.specs.Causes.{Rose}
use Rattle.cdl_job.specs.Job.{task_of_job}
use Rattle.cdl_command.proofs.AnswerFacts.{after_report, answered, completes, read_fault_told, write_fault_told}
use Rattle.cdl_command.proofs.DueFacts.{due_files}
use Rattle.cdl_command.proofs.top.command.Goals as goal

pub work-outcome-requires-clause-due : goal.work-outcome-requires-clause-due
work-outcome-requires-clause-due g c = due_files _ _ _ c.requires.due (sym c.in-Some.ensures.task)

pub returns-in-Some-clause-out : goal.returns-in-Some-clause-out
returns-in-Some-clause-out g c =
    rw (← c.in-Some.ensures.task)
    (after_report (task_of_job c.in-Some.job) (g.F.Files.contents c.args.files.now) c.work-outcome.result.line c.work-outcome.result.column c.work-outcome.result.outcome c.report.result
    (g.O.Sink.written c.args.out.now) (g.O.Sink.written c.work-outcome.new.out) (g.E.Sink.written c.args.err.now) (g.E.Sink.written c.report.new.err)
    (Rose (g.O.Sink.faults c.args.out.now) (g.O.Sink.faults c.work-outcome.new.out)) (Rose (g.E.Sink.faults c.args.err.now) (g.E.Sink.faults c.report.new.err)) c.report.ensures.told c.work-outcome.ensures.works.out
    c.work-outcome.ensures.works.write)

pub returns-in-Some-clause-read_fault : goal.returns-in-Some-clause-read_fault
returns-in-Some-clause-read_fault g c = λ rose. read_fault_told (task_of_job c.in-Some.job) c.work-outcome.result.line c.work-outcome.result.column c.work-outcome.result.outcome _ _ _ _ c.report.ensures.told (c.work-outcome.ensures.read_fault rose)

pub returns-in-Some-clause-write_fault : goal.returns-in-Some-clause-write_fault
returns-in-Some-clause-write_fault g c = λ rose. write_fault_told (task_of_job c.in-Some.job) c.work-outcome.result.line c.work-outcome.result.column c.work-outcome.result.outcome _ _ _ _ c.report.ensures.told (c.work-outcome.ensures.write_fault rose)

pub returns-in-Some-clause-complete : goal.returns-in-Some-clause-complete
returns-in-Some-clause-complete g c = λ task held text job told done f o e m.
    completes (task_of_job c.in-Some.job) task (g.F.Files.contents c.args.files.now) held c.report.result text (g.O.Sink.written c.args.out.now) (g.O.Sink.written c.work-outcome.new.out)
    (c.in-Some.ensures.task ∙ job) told (λ a b s t x y. c.one_answer.ensures task held a b s t x y)
    (answered (task_of_job c.in-Some.job) (g.F.Files.contents c.args.files.now) c.work-outcome.result.line c.work-outcome.result.column c.work-outcome.result.outcome c.report.result
    (g.O.Sink.written c.args.out.now) (g.O.Sink.written c.work-outcome.new.out) (g.E.Sink.written c.args.err.now) (g.E.Sink.written c.report.new.err)
    (Rose (g.F.Files.faults c.args.files.now) (g.F.Files.faults c.work-outcome.new.files)) (Rose (g.O.Sink.faults c.args.out.now) (g.O.Sink.faults c.work-outcome.new.out)) (Rose (g.E.Sink.faults c.args.err.now) (g.E.Sink.faults c.report.new.err))
    c.report.ensures.told c.work-outcome.ensures.works.out c.work-outcome.ensures.works.read c.work-outcome.ensures.works.write f o e m)
    done
