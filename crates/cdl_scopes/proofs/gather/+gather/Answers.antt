use Rattle.std.proofs.Common.{rules, ◌≡◌, ◌++◌, ◌∷◌, ◌∙◌, [], List, ℕ, Some, arith, refl, ap}
use Rattle.std.proofs.lemmas.Result.{on_ok_weaker}
use Rattle.std.specs.List.{slice_get}
use Rattle.std.proofs.lemmas.Option.{slice_get_read}
use Rattle.cdl_tree.specs.declared.class.ClassTree.{ClassTree, the_lemmas}
use Rattle.cdl_tree.specs.Parts.{classes_of}
use Rattle.cdl_scopes.specs.inner.Gathered.{tree_at}
use Rattle.cdl_scopes.proofs.Walk.{tree_at_push, listed_more, after_more, after_class, after_none, same_after, all_taken}
use Rattle.cdl_scopes.proofs.gather.+gather.Goals as goal

pub gather-returns-in-Package : goal.gather-returns-in-Package
unfolding classes_of
gather-returns-in-Package t c =
    let e : classes_of c.args.tree.now ≡ c.items.result.now = search (rules, the_lemmas) in
    on_ok_weaker c.gather_all.result (λ more files extra ds q h at tree.
    let a = c.in_ok-name.ensures files extra ds q h at tree in
    after_class files h.names.paths _ _ extra ds c.args.file q c.args.tree.now _ _ c.items.result.now e a
    (more files extra _ _ a.after.gathered a.at c.args.tree.now tree e)) c.gather_all.ensures

pub gather-returns-in-Block : goal.gather-returns-in-Block
unfolding classes_of
gather-returns-in-Block t c = λ files extra ds q h at tree.
    let e : classes_of c.args.tree.now ≡ [] = search (rules, the_lemmas) in
    after_none files h.names.paths _ extra ds c.args.file q c.args.tree.now _ _ e (c.in_ok-name.ensures files extra ds q h at tree)

pub gather-returns-in-Block-2 : goal.gather-returns-in-Block-2
unfolding classes_of
gather-returns-in-Block-2 t c = λ files extra ds q h at tree.
    let e : classes_of c.args.tree.now ≡ [] = search (rules, the_lemmas) in
    after_none files h.names.paths _ extra ds c.args.file q c.args.tree.now _ _ e (c.in_ok-name.ensures files extra ds q h at tree)

pub gather_all-loop-class-init : goal.gather_all-loop-class-init
gather_all-loop-class-init t c = (refl, λ files extra ds q h at tree is_tree classes. same_after files _ extra ds h)

pub gather_all-loop-class-preserved : goal.gather_all-loop-class-preserved
gather_all-loop-class-preserved t c = (
  omega arith,
  λ files extra ds q h at tree is_tree classes.
      let a = c.loop-class.invariant.1 files extra ds q h at tree is_tree classes in
      let here : slice_get c.args.classes.now c.loop-class.class-index ≡ Some c.class-item.result =
      slice_get_read c.args.classes.now _ c.loop-class.class-index c.class-item.result refl (omega arith) c.class-item.is in
      let inner : slice_get (classes_of tree) c.loop-class.class-index ≡ Some c.class-item.result = ap (λ (cs : List ClassTree). slice_get cs c.loop-class.class-index) classes ∙ here in
      let steps : c.as_slice.result.now ≡ c.args.steps.now ++ c.loop-class.class-index ∷ [] =
      c.as_slice.ensures.value ∙ c.in_ok-push.ensures.items ∙ ap (λ (s : List ℕ). s ++ c.loop-class.i ∷ []) c.in_ok-place.ensures.items ∙ ap (λ i. c.args.steps.now ++ i ∷ []) c.loop-class.invariant.0 in
      let there = ap (λ (s : List ℕ). tree_at files c.args.file c.args.top s) steps ∙ tree_at_push files c.args.file c.args.top c.args.steps.now c.loop-class.class-index tree c.class-item.result is_tree inner in
      after_more files h.names.paths _ _ extra _ _ _ a (c.in_ok-gather.ensures files extra _ q a.gathered (a.keeps c.args.outer q at) there)
      (listed_more c.args.file q c.args.classes.now c.loop-class.class-index c.class-item.result ds (omega arith) c.class-item.is),
)

pub gather_all-returns : goal.gather_all-returns
gather_all-returns t c = λ files extra ds q h at tree is_tree classes.
    let a = c.loop-class.invariant.1 files extra ds q h at tree is_tree classes in
    all_taken files h.names.paths c.loop-class.all extra ds c.args.file q c.args.classes.now c.loop-class.class-index (omega arith) a
