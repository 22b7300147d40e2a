use Rattle.std.proofs.Common.{ap, sym, ◌∙◌, subst, ◌≤◌, List, length, refl}
use Rattle.cdl_source.specs.declared.limits.TheConstants.{MOST_ELEMENTS}
use Rattle.cdl_walk.specs.declared.walked.Element.{Element}
use Rattle.cdl_expand.specs.inner.Numbered.{at_numbers}
use Rattle.cdl_expand.proofs.parts.numbered_net.Goals as goal

pub net_instances-requires-clause-few : goal.net_instances-requires-clause-few
net_instances-requires-clause-few c = subst (λ n. n ≤ MOST_ELEMENTS) (sym (ap length c.items.ensures)) c.requires.few

pub returns : goal.returns
returns c = record {
  instances = c.in_ok-instances.ensures ∙ ap (λ (es : List Element). at_numbers es 0 c.args.walked.instances) c.items.ensures;
  elements = c.in_ok-elements.ensures;
  wires = refl;
}
