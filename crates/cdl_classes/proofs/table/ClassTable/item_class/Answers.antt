use Rattle.std.proofs.Common.{◌≡◌, ◌∙◌, ◌<◌, ℕ, List, Some, length, slice_get, sym, refl, subst, arith}
use Rattle.std.specs.Prelude.{IfSome, option_and_then}
use Rattle.std.proofs.lemmas.Option.{slice_get_read}
use Rattle.cdl_tree.specs.declared.class.FileTree.{FileTree}
use Rattle.cdl_tree.specs.declared.class.Item.{Item}
use Rattle.cdl_classes.specs.declared.found.Found.TheVariants as it
use Rattle.cdl_scopes.specs.Classes.{declared}
use Rattle.cdl_classes.specs.Rules.{class_of}
use Rattle.cdl_classes.specs.Table.{items_at}
use Rattle.cdl_classes.proofs.Answers.{row_within, class_is, class_found}
use Rattle.cdl_classes.proofs.table.ClassTable.item_class.Goals as goal

within : (files now : List FileTree) (i : ℕ) → files ≡ now → i < length (declared now) → i < length (declared files)
within files now i e h = let P : List FileTree → Type 0 = λ fs. i < length (declared fs) in subst P (sym e) h

few : (files now : List FileTree) (i j : ℕ) → files ≡ now → IfSome (items_at (declared now) i) (λ items. j < length items) → IfSome (items_at (declared files) i) (λ items. j < length items)
few files now i j e h = let P : List FileTree → Type 0 = λ fs. IfSome (items_at (declared fs) i) (λ items. j < length items) in subst P (sym e) h

pub index-requires : goal.index-requires
index-requires c =
    let w = within c.self.inside.declarations c.args.self.now c.args.class.index c.self.view_is c.requires.declared in
    omega (arith, w, c.self.invariant.classes.size)

pub index-requires-2 : goal.index-requires-2
index-requires-2 c =
    let w = within c.self.inside.declarations c.args.self.now c.args.class.index c.self.view_is c.requires.declared in
    let here = slice_get_read c.self.inside.item_classes.items _ c.args.class.index c.index.result.now refl (omega (arith, w, c.self.invariant.classes.size)) c.index.ensures in
    let r = row_within (declared c.self.inside.declarations) c.self.inside.item_classes.items c.self.invariant.classes c.args.class.index c.args.item c.index.result.now w here
    (few c.self.inside.declarations c.args.self.now c.args.class.index c.args.item c.self.view_is c.requires.item) in
    omega (arith, r)

pub returns-in-Some : goal.returns-in-Some
returns-in-Some c =
    let ds = declared c.self.inside.declarations in
    let w = within c.self.inside.declarations c.args.self.now c.args.class.index c.self.view_is c.requires.declared in
    let here = slice_get_read c.self.inside.item_classes.items _ c.args.class.index c.index.result.now refl (omega (arith, w, c.self.invariant.classes.size)) c.index.ensures in
    let r = row_within ds c.self.inside.item_classes.items c.self.invariant.classes c.args.class.index c.args.item c.index.result.now w here
    (few c.self.inside.declarations c.args.self.now c.args.class.index c.args.item c.self.view_is c.requires.item) in
    let there = slice_get_read c.index.result.now.items _ c.args.item c.index-2.result.now refl r c.index-2.ensures in
    let P : List FileTree → Type 0 = λ fs. (x : Item) → option_and_then (λ items. slice_get items c.args.item) (items_at (declared fs) c.args.class.index) ≡ Some x → class_of (declared fs) c.args.class.index x ≡ Some c.in-Some.found in
    subst P c.self.view_is (λ x h. class_is ds c.self.inside.item_classes.items c.self.invariant.classes c.args.class.index c.args.item c.index.result.now w here x c.index-2.result.now h there ∙ c.in-Some.is)

pub returns-in-None : goal.returns-in-None
returns-in-None c =
    let ds = declared c.self.inside.declarations in
    let w = within c.self.inside.declarations c.args.self.now c.args.class.index c.self.view_is c.requires.declared in
    let here = slice_get_read c.self.inside.item_classes.items _ c.args.class.index c.index.result.now refl (omega (arith, w, c.self.invariant.classes.size)) c.index.ensures in
    let r = row_within ds c.self.inside.item_classes.items c.self.invariant.classes c.args.class.index c.args.item c.index.result.now w here
    (few c.self.inside.declarations c.args.self.now c.args.class.index c.args.item c.self.view_is c.requires.item) in
    let there = slice_get_read c.index.result.now.items _ c.args.item c.index-2.result.now refl r c.index-2.ensures in
    let P : List FileTree → Type 0 = λ fs. (x : Item) → option_and_then (λ items. slice_get items c.args.item) (items_at (declared fs) c.args.class.index) ≡ Some x → class_of (declared fs) c.args.class.index x ≡ Some it.Unsupported in
    subst P c.self.view_is (λ x h. absurd (class_found ds c.self.inside.item_classes.items c.self.invariant.classes c.args.class.index c.args.item c.index.result.now w here x c.self.invariant.unbroken.missing h
    (class_is ds c.self.inside.item_classes.items c.self.invariant.classes c.args.class.index c.args.item c.index.result.now w here x c.index-2.result.now h there ∙ c.in-None.is)))
