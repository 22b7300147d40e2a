use Rattle.std.specs.Io.KnownBytes.{IsAtEnd}
use Rattle.cdl_command.proofs.WorkFacts.{where_done}
use Rattle.cdl_command.proofs.top.work.Goals as goal

pub returns-in-Check-clause-ends : goal.returns-in-Check-clause-ends
returns-in-Check-clause-ends g c = λ done. where_done c.check.result (IsAtEnd (g.F.Files.rest c.check.new.files)) c.check.ensures.ends (rw c.finished.ensures at done)

pub returns-in-Run-clause-ends : goal.returns-in-Run-clause-ends
returns-in-Run-clause-ends g c = λ done. where_done c.run.result (IsAtEnd (g.F.Files.rest c.run.new.files)) c.run.ensures.ends (rw c.finished-in-Run.ensures at done)

pub returns-in-Cxf-clause-ends : goal.returns-in-Cxf-clause-ends
returns-in-Cxf-clause-ends g c = λ done. where_done c.cxf.result (IsAtEnd (g.F.Files.rest c.cxf.new.files)) c.cxf.ensures.ends (rw c.finished-in-Cxf.ensures at done)
