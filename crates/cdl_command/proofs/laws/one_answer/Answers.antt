use Rattle.cdl_command.proofs.OneAnswer.{ModelLaws, answer_once}
use Rattle.cdl_command.proofs.OneText.{ParserLaws}
use Rattle.cdl_command.proofs.laws.one_answer.Goals as goal

pub returns : goal.returns
returns c task held a b s t x y =
    let parser : ParserLaws = record {
      splits = c.one_splitting.ensures.one;
      closed_not_stuck = c.one_verdict.ensures.closed_not_stuck;
      closed_not_misnamed = c.one_verdict.ensures.closed_not_misnamed;
      stuck_not_misnamed = c.one_verdict.ensures.stuck_not_misnamed;
      one_stuck = c.one_verdict.ensures.one_stuck;
      one_misnamed = c.one_verdict.ensures.one_misnamed;
    } in
    let model : ModelLaws = record {
      expansion = c.one_expansion.ensures.one;
      instance = c.one_refusal.ensures.instance;
      statement = c.one_refusal.ensures.statement;
      has_instances = c.one_refusal.ensures.has_instances;
      is_expanded = c.one_refusal.ensures.is_expanded;
    } in
    answer_once parser model held task a b s t x y
