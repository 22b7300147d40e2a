-- Files have no more names than tokens.
use Rattle.std.proofs.Common.{◌≡◌, suc, ◌+◌, ◌≤◌, List, [], ◌∷◌, ◌++◌, length, Option, arith, rules, length-append}
use Rattle.cdl_tree.specs.declared.name.Ident.{Ident}
use Rattle.cdl_tree.specs.declared.name.Name.{Name}
use Rattle.cdl_tree.specs.declared.class.Item.{Item}
use Rattle.cdl_tree.specs.declared.class.Statement.{Statement}
use Rattle.cdl_tree.specs.declared.class.ClassTree.{ClassTree, the_lemmas as class_lemmas}
use Rattle.cdl_tree.specs.declared.class.Closing.{Closing}
use Rattle.cdl_tree.specs.declared.class.FileTree.{FileTree}
use Rattle.cdl_tree.specs.Words.{Word}
use Rattle.cdl_tree.specs.Trees.{the_ident, the_block, the_package, the_enumeration}
use Rattle.cdl_tree.specs.Grammar.{BlockParts, no_block_part, block_section, block_note, block_clause, literal, Literals, one_literal, more_literals, ClassOf, a_block, a_package, an_enumeration, PackageParts, no_package_part, package_section, package_note, package_constant, package_class, Within, no_within, within_top, within, Classes, one_class, more_classes, FileOf, file}
use Rattle.cdl_expressions.proofs.Counted.{total_behind, beside}
use Rattle.cdl_clauses.specs.Names.{names_of, names_of_item, names_of_statement}
use Rattle.cdl_clauses.proofs.Counted.{names_joined, clause_counted, constant_counted, equation_counted}
use Rattle.cdl_parse.specs.Names.{names_of_class, names_of_within, names_of_file}

-- ---- blocks and enumerations

block_parts_counted : {w : Word} {xs : List Item} → BlockParts w xs → names_of names_of_item xs ≤ length w
block_parts_counted no_block_part = omega arith
block_parts_counted (block_section {v} t ps h) = omega (arith, block_parts_counted ps, length-append v (t ∷ []))
block_parts_counted (block_note {v} {w} s ps n h) = omega (arith, block_parts_counted ps, length-append v (w ++ s ∷ []))
block_parts_counted (block_clause {v} {w} {xs} {ys} ps c) = omega (arith, names_joined names_of_item xs ys, beside _ _ v w (block_parts_counted ps) (clause_counted c))

literals_counted : {w : Word} {xs : List Ident} → Literals w xs → length xs ≤ length w
literals_counted (one_literal (literal i h t)) = omega arith
literals_counted (more_literals {v} {w} t {is} {i} xs h x) = omega (arith, literals_counted xs, length-append is (i ∷ []), length-append v (t ∷ w))

-- ---- classes

block_has : (n : Ident) (xs : List Item) (ss : List Statement) (w : Word)
    → names_of_class (the_block n xs ss w) ≡ suc (names_of names_of_item xs + names_of names_of_statement ss)
unfolding names_of_class the_block
block_has n xs ss w = search (rules, class_lemmas)

package_has : (n : Ident) (ts : List ClassTree) (xs : List Item) (w : Word)
    → names_of_class (the_package n ts xs w) ≡ suc (names_of names_of_class ts + names_of names_of_item xs)
unfolding names_of_class the_package
package_has n ts xs w = search (rules, class_lemmas)

enumeration_has : (n : Ident) (is : List Ident) (w : Word) → names_of_class (the_enumeration n is w) ≡ suc (length is)
unfolding names_of_class the_enumeration
enumeration_has n is w = search (rules, class_lemmas)

mutual
  class_counted : {w : Word} {t : ClassTree} {ends : List Closing} → ClassOf w t ends → names_of_class t ≤ length w
  class_counted (a_block b n e m {u} {v} {w} {xs} {ss} h i t p q j k) =
      omega (
        arith,
        block_has (the_ident n) xs ss (b ∷ n ∷ (u ++ (v ++ (w ++ e ∷ m ∷ [])))),
        block_parts_counted p,
        equation_counted q,
        length-append u (v ++ (w ++ e ∷ m ∷ [])),
        length-append v (w ++ e ∷ m ∷ []),
        length-append w (e ∷ m ∷ []),
      )
  class_counted (a_package p n e m {u} {v} {ts} {xs} h i t q j k) =
      omega (arith, package_has (the_ident n) ts xs (p ∷ n ∷ (u ++ (v ++ e ∷ m ∷ []))), package_counted q, length-append u (v ++ e ∷ m ∷ []), length-append v (e ∷ m ∷ []))
  class_counted (an_enumeration t n q f a b {v} {w} {is} h i j k l x m y) =
      omega (arith, enumeration_has (the_ident n) is (t ∷ n ∷ q ∷ f ∷ a ∷ (v ++ b ∷ w)), literals_counted x, length-append v (b ∷ w))

  package_counted : {w : Word} {ts : List ClassTree} {xs : List Item} {ends : List Closing} → PackageParts w ts xs ends
      → names_of names_of_class ts + names_of names_of_item xs ≤ length w
  package_counted no_package_part = omega arith
  package_counted (package_section {v} t ps h) = omega (arith, package_counted ps, length-append v (t ∷ []))
  package_counted (package_note {v} {w} s ps n h) = omega (arith, package_counted ps, length-append v (w ++ s ∷ []))
  package_counted (package_constant {v} {w} {xs = xs} {ys = ys} ps c) =
      omega (arith, names_joined names_of_item xs ys, package_counted ps, constant_counted c, length-append v w)
  package_counted (package_class {v} {w} s {ts} {t} ps c h) =
      omega (arith, total_behind names_of_class ts t, package_counted ps, class_counted c, length-append v (w ++ s ∷ []), length-append w (s ∷ []))

-- ---- files

within_counted : {w : Word} {n : Option Name} → Within w n → names_of_within n ≤ length w
within_counted no_within = omega arith
within_counted (within_top t s h i) = omega arith
within_counted (within t s h n i) = omega arith

classes_counted : {w : Word} {ts : List ClassTree} {ends : List Closing} → Classes w ts ends → names_of names_of_class ts ≤ length w
classes_counted (one_class {w} s c h) = omega (arith, class_counted c, length-append w (s ∷ []))
classes_counted (more_classes {v} {w} s {ts} {t} cs c h) =
    omega (arith, total_behind names_of_class ts t, classes_counted cs, class_counted c, length-append v (w ++ s ∷ []), length-append w (s ∷ []))

pub file_counted : {w : Word} {t : FileTree} {ends : List Closing} → FileOf w t ends → names_of_file t ≤ length w
unfolding names_of_file
file_counted (file {v} {w} p cs) = beside _ _ v w (within_counted p) (classes_counted cs)
