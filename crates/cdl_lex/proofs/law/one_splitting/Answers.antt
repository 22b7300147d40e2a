use Rattle.cdl_lex.proofs.Continues.{stuck_once, splits_not_stuck}
use Rattle.cdl_lex.proofs.Always.{settled}
use Rattle.cdl_lex.proofs.law.one_splitting.Goals as goal

pub returns-clause-either : goal.returns-clause-either
returns-clause-either c = settled

pub returns-clause-one_place : goal.returns-clause-one_place
returns-clause-one_place c = stuck_once

pub returns-clause-not_both : goal.returns-clause-not_both
returns-clause-not_both c = splits_not_stuck
