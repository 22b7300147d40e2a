use Rattle.std.proofs.Common.{◌∙◌, List, ap, sym}
use Rattle.cdl_tree.specs.declared.class.FileTree.{FileTree}
use Rattle.cdl_scopes.specs.declared.lookup.ClassSort.TheVariants as sort
use Rattle.cdl_scopes.specs.Classes.{cut, declared}
use Rattle.cdl_scopes.proofs.Meanings.{first_within}
use Rattle.cdl_classes.specs.Table.{block_of}
use Rattle.cdl_classes.proofs.Blocks.{block_is, no_block}
use Rattle.cdl_classes.proofs.declarations.Declarations.root.Goals as goal

pub returns-in_default : goal.returns-in_default
returns-in_default c =
    sym (no_block (declared c.self.inside.classes) (cut c.args.name.now) (sym c.first.ensures ∙ c.in_default.is)) ∙ ap (λ (fs : List FileTree). block_of (declared fs) (cut c.args.name.now)) c.self.view_is

pub tree-requires : goal.tree-requires
tree-requires c = first_within c.in-Some.index (cut c.args.name.now) (declared c.self.inside.classes) (sym c.first.ensures ∙ c.in-Some.is)

pub returns-in-Block : goal.returns-in-Block
returns-in-Block c =
    sym (block_is (declared c.self.inside.classes) (cut c.args.name.now) c.in-Some.index c.tree.result.now sort.Block (sym c.first.ensures ∙ c.in-Some.is) c.tree.ensures.tree (sym c.in-Block.is ∙ c.sort_of.ensures))
    ∙ ap (λ (fs : List FileTree). block_of (declared fs) (cut c.args.name.now)) c.self.view_is

pub returns-in-Package : goal.returns-in-Package
returns-in-Package c =
    sym (block_is (declared c.self.inside.classes) (cut c.args.name.now) c.in-Some.index c.tree.result.now sort.Package (sym c.first.ensures ∙ c.in-Some.is) c.tree.ensures.tree (sym c.in-Package.is ∙ c.sort_of.ensures))
    ∙ ap (λ (fs : List FileTree). block_of (declared fs) (cut c.args.name.now)) c.self.view_is

pub returns-in-Enumeration : goal.returns-in-Enumeration
returns-in-Enumeration c =
    sym (block_is (declared c.self.inside.classes) (cut c.args.name.now) c.in-Some.index c.tree.result.now sort.Enumeration (sym c.first.ensures ∙ c.in-Some.is) c.tree.ensures.tree (sym c.in-Enumeration.is ∙ c.sort_of.ensures))
    ∙ ap (λ (fs : List FileTree). block_of (declared fs) (cut c.args.name.now)) c.self.view_is
