use Rattle.std.proofs.Common.{◌≡◌, ◌∙◌, List, Some, None, nat_lt, ap, sym, length}
use Rattle.std.specs.Prelude.{if◌then◌else◌, option_and_then}
use Rattle.std.specs.List.{slice_get}
use Rattle.cdl_tree.specs.declared.class.ClassTree.{ClassTree}
use Rattle.cdl_tree.specs.declared.class.FileTree.{FileTree}
use Rattle.cdl_tree.specs.Parts.{items_of}
use Rattle.cdl_scopes.specs.Classes.{Declared, declared}
use Rattle.cdl_scopes.specs.Lookup.{first_named, member_names}
use Rattle.cdl_classes.specs.Table.{item_of}
use Rattle.cdl_classes.proofs.Answers.{class_within, item_at, item_some, item_none}
use Rattle.cdl_classes.proofs.Items.{mapped_some}
use Rattle.cdl_classes.proofs.declarations.Declarations.item.Goals as goal

pub returns-in-Some : goal.returns-in-Some
returns-in-Some c =
    let ds = declared c.self.inside.classes in
    let d = mapped_some (λ (e : Declared). e.tree) (slice_get ds c.args.class.index) c.tree.result.now c.tree.ensures.tree in
    let k = c.in-Some.number in
    let x = c.args.name.now in
    let there : first_named x (member_names (d.0).tree) ≡ Some k = sym (ap (option_and_then (λ (e : Declared). first_named x (member_names e.tree))) d.1) ∙ sym c.member.ensures ∙ c.in-Some.is in
    c.item_number.ensures ∙ ap (λ (t : ClassTree). if nat_lt k (length (items_of t)) then Some k else None) (sym d.2)
    ∙ item_some k x (d.0).tree there ∙ sym (item_at ds c.args.class.index d.0 x d.1) ∙ ap (λ (fs : List FileTree). item_of (declared fs) c.args.class.index x) c.self.view_is

pub returns-in-None : goal.returns-in-None
returns-in-None c =
    let ds = declared c.self.inside.classes in
    let x = c.args.name.now in
    let d = class_within c.self.inside.classes c.args.self.now c.args.class.index c.self.view_is c.requires in
    let there : first_named x (member_names (d.0).tree) ≡ None = sym (ap (option_and_then (λ (e : Declared). first_named x (member_names e.tree))) d.1) ∙ sym c.member.ensures ∙ c.in-None.is in
    item_none x (d.0).tree there ∙ sym (item_at ds c.args.class.index d.0 x d.1) ∙ ap (λ (fs : List FileTree). item_of (declared fs) c.args.class.index x) c.self.view_is
