use Rattle.std.proofs.Common.{◌≡◌, ◌∙◌, ◌++◌, [], List, Some, map, refl, sym, ap, subst, arith}
use Rattle.std.specs.List.{slice_get}
use Rattle.std.proofs.lemmas.Option.{slice_get_read}
use Rattle.cdl_tree.specs.declared.class.ClassTree.{ClassTree}
use Rattle.cdl_scopes.specs.Classes.{Full, full, declared_all, within_of}
use Rattle.cdl_scopes.specs.Lookup.{library}
use Rattle.cdl_scopes.specs.inner.Gathered.{After, FileSoFar}
use Rattle.cdl_scopes.proofs.Walk.{same_after, take_whole}
use Rattle.cdl_scopes.proofs.Within.{file_begun, file_next, file_done, top_at, none_in, some_in}
use Rattle.cdl_scopes.proofs.gather.gather_file.Goals as goal

pub returns-then-is_empty : goal.returns-then-is_empty
returns-then-is_empty c = λ files ds h at.
    let none : c.args.tree.now.classes ≡ [] = sym c.items-classes.ensures ∙ none_in c.items-classes.result.now (sym c.is_empty.ensures ∙ c.if-is_empty.true) in
    let P : List ClassTree → Type 0 = λ cs. After files h.names.paths c.args.all.now library (ds ++ declared_all c.args.file (within_of c.args.tree.now.within) cs) in
    subst P (sym none) (same_after files c.args.all.now library ds h)

pub loop-class-init : goal.loop-class-init
loop-class-init c = (
  refl,
  λ files ds h at.
      file_begun files c.args.all.now _ ds h c.in_ok-outer.outer _ (c.in_ok-outer.ensures (library ++ map full ds) h.names) refl refl refl refl,
)

pub loop-class-preserved : goal.loop-class-preserved
loop-class-preserved c = (
  omega arith,
  λ files ds h at.
      let a = c.loop-class.invariant.1 files ds h at in
      let here : slice_get c.items-classes.result.now c.loop-class.class-index ≡ Some c.class-item.result =
      slice_get_read c.items-classes.result.now _ c.loop-class.class-index c.class-item.result refl (omega arith) c.class-item.is in
      let inner : slice_get c.args.tree.now.classes c.loop-class.top ≡ Some c.class-item.result =
      ap (λ (cs : List ClassTree). slice_get cs c.loop-class.top) (sym c.items-classes.ensures) ∙ ap (λ i. slice_get c.items-classes.result.now i) c.loop-class.invariant.0 ∙ here in
      file_next files h.names.paths c.loop-class.all c.gather.new.all ds c.args.file c.in_ok-outer.outer _ c.items-classes.result.now c.loop-class.class-index c.class-item.result (omega arith) c.class-item.is a
      (c.in_ok-gather.ensures files (library ++ a.more) _ _ a.after.gathered a.at (top_at files c.args.file c.loop-class.top c.args.tree.now c.class-item.result at inner)),
)

pub returns : goal.returns
returns c = λ files ds h at.
    let cs : List ClassTree = c.items-classes.result.now in
    let w : Full = within_of c.args.tree.now.within in
    let P : List ClassTree → Type 0 = λ xs. FileSoFar files h.names.paths c.loop-class.all ds (declared_all c.args.file w xs) c.in_ok-outer.outer w in
    let Q : List ClassTree → Type 0 = λ xs. After files h.names.paths c.loop-class.all library (ds ++ declared_all c.args.file w xs) in
    subst Q c.items-classes.ensures
    (file_done files h.names.paths c.loop-class.all ds c.args.file c.in_ok-outer.outer w cs (some_in cs (sym c.is_empty.ensures ∙ c.if-is_empty.false))
    (subst P (take_whole c.loop-class.class-index cs (omega arith)) (c.loop-class.invariant.1 files ds h at)))
