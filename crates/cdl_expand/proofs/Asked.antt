-- What the statements ask of what the walk found, and what is told of a rule that is broken.
use Rattle.std.proofs.Common.{◌≡◌, List, map, sym, ap, ◌∙◌, subst}
use Rattle.cdl_params.specs.Kept.{Model}
use Rattle.cdl_stations.specs.Keys.{In as InKeys}
use Rattle.cdl_walk.specs.declared.walked.Element.{Element}
use Rattle.cdl_walk.specs.declared.walked.Instance.{Instance}
use Rattle.cdl_walk.specs.declared.walked.Walked.{Walked}
use Rattle.cdl_walk.specs.Instances.{seen_instance}
use Rattle.cdl_statements.specs.Complete.{IsUnfolded}
use Rattle.cdl_expand.specs.Expanded.{AreInstances}
use Rattle.cdl_expand.specs.inner.Ordered.{IsOrdered}
use Rattle.cdl_expand.proofs.Grouped.{stays, stays_in}
use Rattle.cdl_expand.proofs.Walking.{of_keys, to_keys}

-- the elements stand in another order
pub asked : (w : Model) (m : Walked) (xs : List Instance) (es : List Element) → IsOrdered w m → xs ≡ m.instances → es ≡ m.elements → IsUnfolded w xs es
asked w m xs es o e f = record {
  found = o.found;
  all = o.all;
  fine = o.fine;
  instances = e ∙ o.instances;
  elements = λ x i. subst (λ (l : List Element). InKeys x l) (sym f) (to_keys x m.elements
      (stays_in m.elements o.found.elements x (λ k. sym (stays o.found.elements m.elements o.stable k)) (of_keys x o.found.elements i)));
}

-- the instances that the walk found
pub instances_found : (w : Model) (m : Walked) (xs : List Instance) → IsOrdered w m → xs ≡ m.instances → AreInstances w xs
instances_found w m xs o e = record { things = o.all.things; lists = o.all.lists; seen = ap (map seen_instance) (e ∙ o.instances) ∙ o.all.instances }
