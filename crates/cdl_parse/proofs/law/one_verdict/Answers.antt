use Rattle.cdl_parse.proofs.Verdicts.{closed_not_stuck, closed_not_misnamed, stuck_not_misnamed, one_stuck, one_misnamed}
use Rattle.cdl_parse.proofs.Closings.{one_closings}
use Rattle.cdl_parse.proofs.law.one_verdict.Goals as goal

pub returns-clause-one_closings : goal.returns-clause-one_closings
returns-clause-one_closings c = one_closings

pub returns-clause-closed_not_stuck : goal.returns-clause-closed_not_stuck
returns-clause-closed_not_stuck c = closed_not_stuck

pub returns-clause-closed_not_misnamed : goal.returns-clause-closed_not_misnamed
returns-clause-closed_not_misnamed c = closed_not_misnamed

pub returns-clause-stuck_not_misnamed : goal.returns-clause-stuck_not_misnamed
returns-clause-stuck_not_misnamed c = stuck_not_misnamed

pub returns-clause-one_stuck : goal.returns-clause-one_stuck
returns-clause-one_stuck c = one_stuck

pub returns-clause-one_misnamed : goal.returns-clause-one_misnamed
returns-clause-one_misnamed c = one_misnamed
