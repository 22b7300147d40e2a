-- Every class and every file of a text is formed.
use Rattle.std.proofs.Common.{◌≡◌, Bool, true, ◌&&◌, List, [], ◌∷◌, ◌++◌, map, Option, refl, ◌∙◌, rules}
use Rattle.std.specs.List.{list_all}
use Rattle.std.proofs.lemmas.List.Folds.{list_all-append}
use Rattle.std.proofs.lemmas.Bool.{and_from}
use Rattle.cdl_tree.specs.declared.name.Ident.{Ident}
use Rattle.cdl_tree.specs.declared.name.Name.{Name}
use Rattle.cdl_tree.specs.declared.class.Item.{Item}
use Rattle.cdl_tree.specs.declared.class.Statement.{Statement}
use Rattle.cdl_tree.specs.declared.class.ClassTree.{ClassTree, the_lemmas as class_lemmas}
use Rattle.cdl_tree.specs.declared.class.Closing.{Closing}
use Rattle.cdl_tree.specs.declared.class.FileTree.{FileTree}
use Rattle.cdl_tree.specs.Words.{Word}
use Rattle.cdl_tree.specs.Trees.{the_block, the_package, the_enumeration}
use Rattle.cdl_tree.specs.Proper.{is_some, all_of}
use Rattle.cdl_tree.specs.Formed.{formed_ident}
use Rattle.cdl_tree.specs.FormedFiles.{formed_item, formed_statement, formed_class, formed_within, formed_file}
use Rattle.cdl_tree.specs.Grammar.{BlockParts, no_block_part, block_section, block_note, block_clause, LiteralOf, literal, Literals, one_literal, more_literals, ClassOf, a_block, a_package, an_enumeration, PackageParts, no_package_part, package_section, package_note, package_constant, package_class, Within, no_within, within_top, within, Classes, one_class, more_classes, FileOf, file}
use Rattle.cdl_tree.proofs.Shapes.{some_behind}
use Rattle.cdl_expressions.proofs.Formed.{Spelled, parted, front, around, between, ident_formed, name_formed, further, all_is}
use Rattle.cdl_clauses.proofs.Formed.{clause_formed, constant_formed, equation_formed}

joined : {A : Type 0} (p : A → Bool) (xs ys : List A) → list_all p xs ≡ true → list_all p ys ≡ true → list_all p (xs ++ ys) ≡ true
joined p xs ys h i = list_all-append p xs ys ∙ and_from _ _ h i

-- ---- blocks

block_parts_formed : {w : Word} {xs : List Item} → BlockParts w xs → Spelled w → list_all formed_item xs ≡ true
block_parts_formed no_block_part s = refl
block_parts_formed (block_section {v} t ps h) s = block_parts_formed ps (parted v (t ∷ []) s).0
block_parts_formed (block_note {v} {w} t ps n h) s = block_parts_formed ps (parted v (w ++ t ∷ []) s).0
block_parts_formed (block_clause {v} {w} {xs} {ys} ps c) s = let parts = parted v w s in joined formed_item xs ys (block_parts_formed ps parts.0) (clause_formed c parts.1)

-- ---- enumerations

literal_formed : {w : Word} {i : Ident} → LiteralOf w i → Spelled w → formed_ident i ≡ true
literal_formed (literal i {w} h t) s = ident_formed i h (front i w s).0

literals_formed : {w : Word} {xs : List Ident} → Literals w xs → Spelled w → list_all formed_ident xs ≡ true
literals_formed (one_literal x) s = and_from _ _ (literal_formed x s) refl
literals_formed (more_literals {v} {w} t {is} {i} xs h x) s = let parts = around v t w s in further formed_ident is i (literals_formed xs parts.0) (literal_formed x parts.1)

literals_some : {w : Word} {xs : List Ident} → Literals w xs → is_some xs ≡ true
literals_some (one_literal x) = refl
literals_some (more_literals t {is} {i} xs h x) = some_behind is i

-- ---- classes

block_is : (n : Ident) (xs : List Item) (ss : List Statement) (w : Word)
    → formed_class (the_block n xs ss w) ≡ (formed_ident n && (list_all formed_item xs && list_all formed_statement ss))
unfolding formed_class the_block
block_is n xs ss w = search (rules, class_lemmas)

package_is : (n : Ident) (ts : List ClassTree) (xs : List Item) (w : Word)
    → formed_class (the_package n ts xs w) ≡ (formed_ident n && (all_of (map formed_class ts) && list_all formed_item xs))
unfolding formed_class the_package
package_is n ts xs w = search (rules, class_lemmas)

enumeration_is : (n : Ident) (is : List Ident) (w : Word) → formed_class (the_enumeration n is w) ≡ (formed_ident n && (is_some is && list_all formed_ident is))
unfolding formed_class the_enumeration
enumeration_is n is w = search (rules, class_lemmas)

mutual
  class_formed : {w : Word} {t : ClassTree} {ends : List Closing} → ClassOf w t ends → Spelled w → formed_class t ≡ true
  class_formed (a_block b n e m {u} {v} {w} h i t p q j k) s =
      let name = front n (u ++ (v ++ (w ++ e ∷ m ∷ []))) (front b (n ∷ (u ++ (v ++ (w ++ e ∷ m ∷ [])))) s).1 in
      let items = parted v (w ++ e ∷ m ∷ []) (parted u (v ++ (w ++ e ∷ m ∷ [])) name.1).1 in
      block_is _ _ _ _ ∙ and_from _ _ (ident_formed n i name.0) (and_from _ _ (block_parts_formed p items.0) (equation_formed q (parted w (e ∷ m ∷ []) items.1).0))
  class_formed (a_package p n e m {u} {v} {ts} {xs} h i t q j k) s =
      let name = front n (u ++ (v ++ e ∷ m ∷ [])) (front p (n ∷ (u ++ (v ++ e ∷ m ∷ []))) s).1 in
      let inner = (parted v (e ∷ m ∷ []) (parted u (v ++ e ∷ m ∷ []) name.1).1).0 in
      package_is _ ts xs _ ∙ and_from _ _ (ident_formed n i name.0) (and_from _ _ (all_is formed_class ts ∙ package_classes q inner) (package_items q inner))
  class_formed (an_enumeration t n q f a b {v} {w} h i j k l x m y) s =
      let name = front n (q ∷ f ∷ a ∷ (v ++ b ∷ w)) (front t (n ∷ q ∷ f ∷ a ∷ (v ++ b ∷ w)) s).1 in
      let behind = front a (v ++ b ∷ w) (front f (a ∷ (v ++ b ∷ w)) (front q (f ∷ a ∷ (v ++ b ∷ w)) name.1).1).1 in
      enumeration_is _ _ _ ∙ and_from _ _ (ident_formed n i name.0) (and_from _ _ (literals_some x) (literals_formed x (around v b w behind.1).0))

  package_classes : {w : Word} {ts : List ClassTree} {xs : List Item} {ends : List Closing} → PackageParts w ts xs ends → Spelled w → list_all formed_class ts ≡ true
  package_classes no_package_part s = refl
  package_classes (package_section {v} t ps h) s = package_classes ps (parted v (t ∷ []) s).0
  package_classes (package_note {v} {w} t ps n h) s = package_classes ps (parted v (w ++ t ∷ []) s).0
  package_classes (package_constant {v} {w} ps c) s = package_classes ps (parted v w s).0
  package_classes (package_class {v} {w} k {ts} {t} ps c h) s =
      let parts = parted v (w ++ k ∷ []) s in further formed_class ts t (package_classes ps parts.0) (class_formed c (parted w (k ∷ []) parts.1).0)

  package_items : {w : Word} {ts : List ClassTree} {xs : List Item} {ends : List Closing} → PackageParts w ts xs ends → Spelled w → list_all formed_item xs ≡ true
  package_items no_package_part s = refl
  package_items (package_section {v} t ps h) s = package_items ps (parted v (t ∷ []) s).0
  package_items (package_note {v} {w} t ps n h) s = package_items ps (parted v (w ++ t ∷ []) s).0
  package_items (package_constant {v} {w} {xs = xs} {ys = ys} ps c) s =
      let parts = parted v w s in joined formed_item xs ys (package_items ps parts.0) (constant_formed c parts.1)
  package_items (package_class {v} {w} k ps c h) s = package_items ps (parted v (w ++ k ∷ []) s).0

-- ---- files

within_formed : {w : Word} {n : Option Name} → Within w n → Spelled w → formed_within n ≡ true
within_formed no_within s = refl
within_formed (within_top t k h i) s = refl
within_formed (within t k {w} h n i) s = name_formed n (between t w k s)

classes_formed : {w : Word} {ts : List ClassTree} {ends : List Closing} → Classes w ts ends → Spelled w → list_all formed_class ts ≡ true
classes_formed (one_class {w} k c h) s = and_from _ _ (class_formed c (parted w (k ∷ []) s).0) refl
classes_formed (more_classes {v} {w} k {ts} {t} cs c h) s =
    let parts = parted v (w ++ k ∷ []) s in further formed_class ts t (classes_formed cs parts.0) (class_formed c (parted w (k ∷ []) parts.1).0)

classes_some : {w : Word} {ts : List ClassTree} {ends : List Closing} → Classes w ts ends → is_some ts ≡ true
classes_some (one_class k c h) = refl
classes_some (more_classes k {ts} {t} cs c h) = some_behind ts t

pub file_formed : {w : Word} {t : FileTree} {ends : List Closing} → FileOf w t ends → Spelled w → formed_file t ≡ true
unfolding formed_file
file_formed (file {v} {w} p cs) s = let parts = parted v w s in and_from _ _ (within_formed p parts.0) (and_from _ _ (classes_some cs) (classes_formed cs parts.1))
