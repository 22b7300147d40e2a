use Rattle.std.proofs.Common.{refl, sym, subst, ◌≤◌}
use Rattle.std.proofs.lemmas.List.Sorted.{length_permutation}
use Rattle.cdl_source.specs.declared.limits.TheConstants.{MOST_ELEMENTS}
use Rattle.cdl_expand.proofs.expanding.walk_in_order.Goals as goal

pub returns-clause-ordered : goal.returns-clause-ordered
returns-clause-ordered c = record {
  unbroken = c.in-Ok.ensures.judges;
  fine = c.in-Ok.ensures.fine;
  found = c.in-Ok.walked;
  all = c.in-Ok.ensures.all;
  instances = refl;
  sorted = c.in_ok-elements.ensures.sorted;
  stable = c.in_ok-elements.ensures.stable;
  few_instances = c.in-Ok.ensures.few.0;
  few_elements = subst (λ n. n ≤ MOST_ELEMENTS) (sym (length_permutation c.in-Ok.walked.elements c.in_ok-elements.elements c.in_ok-elements.ensures.permutation)) c.in-Ok.ensures.few.1;
}

pub returns-in-Err-clause-refused : goal.returns-in-Err-clause-refused
returns-in-Err-clause-refused c = c.instance_refusal.ensures c.args.e.now c.in-Err.ensures.judges
