use Rattle.std.proofs.Common.{rules, List, subst, sym}
use Rattle.std.proofs.lemmas.List.Sorted.{IsNonDecreasingBy-from_sort_by_key, answers_always}
use Rattle.std.specs.List.Sorted.{IsNonDecreasingBy, IsStableByKey}
use Rattle.std.specs.Ordering.{nat_cmp}
use Rattle.cdl_walk.specs.declared.walked.Element.{Element}
use Rattle.cdl_walk.proofs.order.by_instance.Goals as goal

pub returns-in-Ok-clause-sorted : goal.returns-in-Ok-clause-sorted
returns-in-Ok-clause-sorted c = subst (λ (xs : List Element). IsNonDecreasingBy (λ (e : Element). e.instance) xs) (sym c.from_vec.ensures)
    (IsNonDecreasingBy-from_sort_by_key (λ (e : Element). e.instance) _ c.in-Ok.ensures.sorted (λ a r q k. search rules))

pub returns-in-Ok-clause-stable : goal.returns-in-Ok-clause-stable
returns-in-Ok-clause-stable c = subst (λ (ys : List Element). IsStableByKey (λ (e : Element). e.instance) nat_cmp c.args.elements ys) (sym c.from_vec.ensures)
    (subst (λ (xs : List Element). IsStableByKey (λ (e : Element). e.instance) nat_cmp xs c.sort_by_key.new.self.items) c.into_vec-items.ensures
    (c.sort_by_key.ensures.stable (λ (e : Element). e.instance) (answers_always _ _ _ (λ f a r g h. search rules))))
