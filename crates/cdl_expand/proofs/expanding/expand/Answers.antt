use Rattle.std.proofs.Common.{sym, subst, rules}
use Rattle.cdl_params.specs.Kept.{Model}
use Rattle.cdl_expand.specs.Expanded.{Refuses}
use Rattle.cdl_expand.specs.inner.Ordered.{AreJoined, IsOrdered}
use Rattle.cdl_expand.proofs.Made.{all_made, made_of, parts_made}
use Rattle.cdl_expand.proofs.expanding.expand.Goals as goal

pub join-requires : goal.join-requires
join-requires c = subst (λ (w : Model). IsOrdered w c.in_ok-walked.walked) (sym c.walk_in_order.ensures.kept) c.in_ok-walked.ensures.ordered

pub returns-clause-net : goal.returns-clause-net
returns-clause-net c =
    let o : IsOrdered c.args.e.now c.in_ok-walked.walked = c.in_ok-walked.ensures.ordered in
    let j : AreJoined c.args.e.now c.in_ok-walked.walked c.in_ok-wires.wires = subst (λ (w : Model). AreJoined w c.in_ok-walked.walked c.in_ok-wires.wires) c.walk_in_order.ensures.kept c.in_ok-wires.ensures.joined in
    all_made c.args.e.now c.in_ok-walked.walked c.in_ok-wires.wires o j
    (c.parts_are_one.ensures.once c.args.e.now (made_of c.args.e.now c.in_ok-walked.walked c.in_ok-wires.wires o j) c.classes_are_kept.ensures.names (parts_made c.args.e.now c.in_ok-walked.walked c.in_ok-wires.wires o j))
    c.classes_are_kept.ensures.names c.classes_are_kept.ensures.formed c.classes_are_kept.ensures.units c.in_ok-net.net c.in_ok-net.ensures

pub returns-in_err-wires-clause-refused : goal.returns-in_err-wires-clause-refused
returns-in_err-wires-clause-refused c =
    let h : Refuses c.args.e.now c.in_err-wires.field-0.0 = subst (λ (w : Model). Refuses w c.in_err-wires.field-0.0) c.walk_in_order.ensures.kept c.in_err-wires.ensures.refused in
    search rules
