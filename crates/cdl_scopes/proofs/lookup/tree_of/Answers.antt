use Rattle.std.proofs.Common.{◌≡◌, ◌∙◌, ◌<◌, ◌+◌, ℕ, List, drop, get_or, length, sym, ap, subst, Some, arith, add-one}
use Rattle.std.specs.List.{slice_get}
use Rattle.cdl_tree.specs.declared.class.ClassTree.{ClassTree}
use Rattle.cdl_tree.specs.Parts.{classes_of}
use Rattle.cdl_scopes.specs.inner.Gathered.{descend}
use Rattle.cdl_scopes.proofs.StandingLaws.{turn}
use Rattle.cdl_scopes.proofs.lookup.tree_of.Goals as goal

turned : (tree c : ClassTree) (steps items : List ℕ) (k : ℕ) → k < length items → items ≡ steps → descend tree (drop k steps) ≡ Some c
    → (get_or items k 0 < length (classes_of tree)) × ((d : ClassTree) → slice_get (classes_of tree) (get_or items k 0) ≡ Some d → descend d (drop (k + 1) steps) ≡ Some c)
turned tree c steps items k h e at =
    let P : List ℕ → Type 0 = λ xs. (get_or xs k 0 < length (classes_of tree)) × ((d : ClassTree) → slice_get (classes_of tree) (get_or xs k 0) ≡ Some d → descend d (drop (k + 1) steps) ≡ Some c) in
    let t = turn tree c steps k (omega (arith, ap length e)) at in
    subst P (sym e) (t.0, λ d i. ap (λ j. descend d (drop j steps)) (add-one k) ∙ t.1 d i)

pub class_in-tree-requires : goal.class_in-tree-requires
class_in-tree-requires c =
    (turned c.loop-step.tree.now c.requires.0 c.args.class.now.steps.items c.deref-step-items.result.now c.loop-step.step-index (omega arith) c.deref-step-items.ensures.value (c.loop-step.invariant ∙ c.requires.1)).0

pub loop-step-preserved : goal.loop-step-preserved
loop-step-preserved c =
    (turned c.loop-step.tree.now c.requires.0 c.args.class.now.steps.items c.deref-step-items.result.now c.loop-step.step-index (omega arith) c.deref-step-items.ensures.value (c.loop-step.invariant ∙ c.requires.1)).1
    c.class_in-tree.result.now c.class_in-tree.ensures ∙ sym c.requires.1
