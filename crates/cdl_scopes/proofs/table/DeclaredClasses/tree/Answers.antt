use Rattle.std.proofs.Common.{◌≡◌, ◌∙◌, ◌<◌, ◌^◌, List, length, ap, sym, refl, subst, arith}
use Rattle.std.specs.List.{slice_get}
use Rattle.std.specs.Prelude.{option_map}
use Rattle.std.proofs.lemmas.Option.{same_Some, slice_get_read}
use Rattle.cdl_tree.specs.declared.class.ClassTree.{ClassTree}
use Rattle.cdl_tree.specs.declared.class.FileTree.{FileTree}
use Rattle.cdl_tree.specs.Parts.{items_of}
use Rattle.cdl_scopes.specs.Classes.{Declared, declared}
use Rattle.cdl_scopes.specs.inner.Gathered.{tree_at}
use Rattle.cdl_scopes.proofs.Kept.{kept_within, kept_at, few_items}
use Rattle.cdl_scopes.proofs.table.DeclaredClasses.tree.Goals as goal

pub index-requires : goal.index-requires
index-requires c =
    let small = kept_within c.self.inside.files c.args.self.now c.self.inside.classes c.self.invariant.gathered c.self.view_is c.args.class c.requires in
    omega arith

pub tree_of-requires : goal.tree_of-requires
tree_of-requires c =
    let small = kept_within c.self.inside.files c.args.self.now c.self.inside.classes c.self.invariant.gathered c.self.view_is c.args.class c.requires in
    let here = slice_get_read c.self.inside.classes.list.items _ c.args.class c.index.result.now refl small c.index.ensures in
    let d = kept_at c.self.inside.files c.args.self.now c.self.inside.classes c.self.invariant.gathered c.self.view_is c.args.class c.index.result.now here in
    ((d.0).tree, ap (λ (fs : List FileTree). tree_at fs c.index.result.now.file c.index.result.now.top c.index.result.now.steps.items) c.items.ensures ∙ (d.2).tree)

pub returns-clause-tree : goal.returns-clause-tree
returns-clause-tree c =
    let small = kept_within c.self.inside.files c.args.self.now c.self.inside.classes c.self.invariant.gathered c.self.view_is c.args.class c.requires in
    let here = slice_get_read c.self.inside.classes.list.items _ c.args.class c.index.result.now refl small c.index.ensures in
    let d = kept_at c.self.inside.files c.args.self.now c.self.inside.classes c.self.invariant.gathered c.self.view_is c.args.class c.index.result.now here in
    ap (option_map (λ (d : Declared). d.tree)) d.1 ∙ sym (d.2).tree ∙ sym (ap (λ (fs : List FileTree). tree_at fs c.index.result.now.file c.index.result.now.top c.index.result.now.steps.items) c.items.ensures) ∙ c.tree_of.ensures

pub returns-clause-few : goal.returns-clause-few
returns-clause-few c =
    let small = kept_within c.self.inside.files c.args.self.now c.self.inside.classes c.self.invariant.gathered c.self.view_is c.args.class c.requires in
    let here = slice_get_read c.self.inside.classes.list.items _ c.args.class c.index.result.now refl small c.index.ensures in
    let d = kept_at c.self.inside.files c.args.self.now c.self.inside.classes c.self.invariant.gathered c.self.view_is c.args.class c.index.result.now here in
    let there = ap (λ (fs : List FileTree). tree_at fs c.index.result.now.file c.index.result.now.top c.index.result.now.steps.items) c.items.ensures ∙ (d.2).tree in
    let same : c.tree_of.result.now ≡ (d.0).tree = same_Some _ _ (sym c.tree_of.ensures ∙ there) in
    let P : ClassTree → Type 0 = λ t. length (items_of t) < 2 ^ 32 in
    subst P (sym same) (few_items c.self.inside.files c.args.class d.0 c.self.invariant.few (ap (λ (fs : List FileTree). slice_get (declared fs) c.args.class) c.self.view_is ∙ d.1))
