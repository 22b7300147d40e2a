use Rattle.std.proofs.Common.{◌≡◌, ◌∙◌, ◌++◌, ℕ, List, Some, take, refl, ap, subst, arith}
use Rattle.std.specs.List.{slice_get}
use Rattle.std.proofs.lemmas.Option.{slice_get_read}
use Rattle.cdl_tree.specs.declared.class.FileTree.{FileTree}
use Rattle.cdl_scopes.specs.Classes.{declared, declared_all, within_of}
use Rattle.cdl_scopes.specs.Lookup.{library}
use Rattle.cdl_scopes.specs.inner.Gathered.{IsGathered, After}
use Rattle.cdl_scopes.proofs.Walk.{take_whole}
use Rattle.cdl_scopes.proofs.Within.{files_next}
use Rattle.cdl_scopes.proofs.gather.gather_files.Goals as goal

pub loop-tree-preserved : goal.loop-tree-preserved
loop-tree-preserved c =
    let h = c.loop-tree.invariant.1 in
    let here : slice_get c.args.files.now c.loop-tree.tree-index ≡ Some c.tree-item.result =
    slice_get_read c.args.files.now _ c.loop-tree.tree-index c.tree-item.result refl (omega arith) c.tree-item.is in
    let at : slice_get c.args.files.now c.loop-tree.file ≡ Some c.tree-item.result = ap (λ i. slice_get c.args.files.now i) c.loop-tree.invariant.0 ∙ here in
    let a = c.in_ok-gather_file.ensures c.args.files.now _ h at in
    let P : ℕ → Type 0 = λ i. After c.args.files.now h.names.paths c.gather_file.new.all library (declared (take c.loop-tree.tree-index c.args.files.now) ++ declared_all i (within_of c.tree-item.result.within) c.tree-item.result.classes) in
    (omega arith, files_next c.args.files.now c.args.files.now h.names.paths c.gather_file.new.all c.loop-tree.tree-index c.tree-item.result (omega arith) c.tree-item.is (subst P c.loop-tree.invariant.0 a))

pub returns : goal.returns
returns c = subst (λ (fs : List FileTree). IsGathered c.args.files.now c.loop-tree.all library (declared fs)) (take_whole c.loop-tree.tree-index c.args.files.now (omega arith)) c.loop-tree.invariant.1
