use Rattle.std.proofs.Common.{inl, inr, subst, sym}
use Rattle.std.proofs.lemmas.Result.{err_from_is_err_and}
use Rattle.cdl_command.specs.inner.Plans.{IsNetOf, RefusesModel, RefusesNetwork, model_of}
use Rattle.cdl_command.proofs.NetFacts.{Along, net_is, network_refused, wider}
use Rattle.cdl_command.proofs.plan.model_plan.Goals as goal

pub returns-in_err-net-clause-err : goal.returns-in_err-net-clause-err
returns-in_err-net-clause-err c =
    let p = err_from_is_err_and c.from_residual.result c.from_residual.ensures.1 in
    rw (p.1, p.2) (wider ⊥ _ _ _ (λ r h. inl h) c.in_err-net.ensures.err)

pub returns-in-Ok-clause-ok : goal.returns-in-Ok-clause-ok
returns-in-Ok-clause-ok c =
    let w = model_of c.args.classes.now c.args.root in
    let h = c.in_ok-net.ensures.ok in
    let u = h.expansion in
    let n = c.in_ok-net.net in
    let along : Along u n = record {
      closed = c.model_is_a_network.ensures.closed w u h.unfolded;
      shaped = c.model_is_a_network.ensures.shaped w u h.unfolded;
      direct = c.model_is_a_network.ensures.direct u;
      renamed = c.net_is_model.ensures.renamed w u n h.unfolded h.net;
      path = λ p i. c.net_is_model.ensures.path w u n p h.unfolded h.net i;
      name = λ x i. c.net_is_model.ensures.name w u n x h.unfolded h.net i;
    } in
    let accepted = c.rules_are_the_nets.ensures.accepted w u n h.unfolded h.net c.in-Ok.ensures.accepted in
    subst (λ m. IsNetOf w m) (sym c.in-Ok.ensures.net) (net_is w u n h.expanded h.net h.formed along h.indexed accepted)

pub returns-in-Err-clause-err : goal.returns-in-Err-clause-err
returns-in-Err-clause-err c =
    let w = model_of c.args.classes.now c.args.root in
    let h = c.in_ok-net.ensures.ok in
    let u = h.expansion in
    let n = c.in_ok-net.net in
    let along : Along u n = record {
      closed = c.model_is_a_network.ensures.closed w u h.unfolded;
      shaped = c.model_is_a_network.ensures.shaped w u h.unfolded;
      direct = c.model_is_a_network.ensures.direct u;
      renamed = c.net_is_model.ensures.renamed w u n h.unfolded h.net;
      path = λ p i. c.net_is_model.ensures.path w u n p h.unfolded h.net i;
      name = λ x i. c.net_is_model.ensures.name w u n x h.unfolded h.net i;
    } in
    rw c.check_stop.ensures
    (wider ⊥ (RefusesNetwork w) (RefusesModel c.args.texts.now w) _ (λ r x. inr x) (network_refused w u n c.in-Err.fault h.expanded along c.in-Err.ensures.refused))
