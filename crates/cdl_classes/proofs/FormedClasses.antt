-- The declared classes of formed files are formed.
use Rattle.std.proofs.Common.{◌≡◌, ◌∙◌, ◌+◌, ℕ, zero, suc, Bool, true, false, ◌&&◌, List, [], ◌∷◌, ◌++◌, map, Some, refl, sym, ap, subst, rules}
use Rattle.std.specs.List.{list_all, slice_get}
use Rattle.std.specs.Option.{option_map}
use Rattle.std.proofs.lemmas.List.Folds.{list_all-append}
use Rattle.cdl_source.specs.declared.place.Span.{Span}
use Rattle.cdl_tree.specs.declared.name.Ident.{Ident}
use Rattle.cdl_tree.specs.declared.class.Item.{Item}
use Rattle.cdl_tree.specs.declared.class.Statement.{Statement}
use Rattle.cdl_tree.specs.declared.class.ClassTree.{ClassTree, the_lemmas, roll-ClassTree}
use Rattle.cdl_tree.specs.declared.class.ClassTree.TheFolds.{ind-ClassTree, map-ClassTree}
use Rattle.cdl_tree.specs.declared.class.ClassTree.TheOpen.{ClassTree-F}
use Rattle.cdl_tree.specs.declared.class.FileTree.{FileTree}
use Rattle.cdl_tree.specs.Parts.{classes_of}
use Rattle.cdl_tree.specs.Proper.{all_of}
use Rattle.cdl_tree.specs.FormedFiles.{formed_item, formed_class, formed_file}
use Rattle.cdl_tree.specs.Formed.{formed_ident}
use Rattle.cdl_scopes.specs.Classes.{Full, Declared, declared_in, declared_all, declared_from, declared, name_of, within_of}
use Rattle.cdl_scopes.proofs.Listed.{declared_in-is}

both : (a b : Bool) → (a && b) ≡ true → (a ≡ true) × (b ≡ true)
both true b e = (refl, e)
both false b e = absurd (cc)

and_of : (a b : Bool) → a ≡ true → b ≡ true → (a && b) ≡ true
and_of true b e f = f
and_of false b e f = e

abbrev tree_formed : Declared → Bool
tree_formed d = formed_class d.tree

-- a class of which this holds has formed declared classes, if it is formed
abbrev AreFormed : ClassTree → Type 0
AreFormed c = formed_class c ≡ true → (file : ℕ) (outer : Full) → list_all tree_formed (declared_in file outer c) ≡ true

all_formed : (cs : List ((c : ClassTree) × AreFormed c)) → all_of (map formed_class (map (λ e. e.0) cs)) ≡ true → (file : ℕ) (outer : Full)
    → list_all tree_formed (declared_all file outer (map (λ e. e.0) cs)) ≡ true
all_formed [] h file outer = refl
all_formed (c ∷ cs) h file outer =
    let parts = both (formed_class c.0) (all_of (map formed_class (map (λ e. e.0) cs))) h in
    list_all-append tree_formed (declared_in file outer c.0) (declared_all file outer (map (λ e. e.0) cs)) ∙ and_of _ _ (c.1 parts.0 file outer) (all_formed cs parts.1 file outer)

package_is : (n : Ident) (ts : List ClassTree) (xs : List Item) (s : Span)
    → formed_class (roll-ClassTree (ClassTree-F.Package n ts xs s)) ≡ (formed_ident n && (all_of (map formed_class ts) && list_all formed_item xs))
unfolding formed_class
package_is n ts xs s = search (rules, the_lemmas)

package_classes : (n : Ident) (ts : List ClassTree) (xs : List Item) (s : Span) → classes_of (roll-ClassTree (ClassTree-F.Package n ts xs s)) ≡ ts
unfolding classes_of
package_classes n ts xs s = search (rules, the_lemmas)

block_classes : (n : Ident) (xs : List Item) (ss : List Statement) (s : Span) → classes_of (roll-ClassTree (ClassTree-F.Block n xs ss s)) ≡ []
unfolding classes_of
block_classes n xs ss s = search (rules, the_lemmas)

enumeration_classes : (n : Ident) (is : List Ident) (s : Span) → classes_of (roll-ClassTree (ClassTree-F.Enumeration n is s)) ≡ []
unfolding classes_of
enumeration_classes n is s = search (rules, the_lemmas)

with_inner : (c : ClassTree) (cs : List ClassTree) → formed_class c ≡ true → classes_of c ≡ cs → ((file : ℕ) (outer : Full) → list_all tree_formed (declared_all file outer cs) ≡ true)
    → (file : ℕ) (outer : Full) → list_all tree_formed (declared_in file outer c) ≡ true
with_inner c cs h e inner file outer =
    ap (list_all tree_formed) (declared_in-is file outer c) ∙ and_of (formed_class c) (list_all tree_formed (declared_all file (outer ++ name_of c ∷ []) (classes_of c))) h
    (ap (λ ts. list_all tree_formed (declared_all file (outer ++ name_of c ∷ []) ts)) e ∙ inner file (outer ++ name_of c ∷ []))

class_formed : (c : ClassTree) → AreFormed c
class_formed = ind-ClassTree AreFormed (λ x y is. subst (λ z. AreFormed (roll-ClassTree z)) is (elim y as (λ k. AreFormed (roll-ClassTree (map-ClassTree _ ClassTree (λ e. e.0) k))) [
  | ClassTree-F.Block n xs ss s ↦ λ h. with_inner _ [] h (block_classes n xs ss s) (λ file outer. refl)
  | ClassTree-F.Package n cs xs s ↦ λ h.
      let parts = both _ _ (sym (package_is n (map (λ e. e.0) cs) xs s) ∙ h) in
      with_inner _ (map (λ e. e.0) cs) h (package_classes n (map (λ e. e.0) cs) xs s) (all_formed cs (both _ _ parts.1).0)
  | ClassTree-F.Enumeration n is s ↦ λ h. with_inner _ [] h (enumeration_classes n is s) (λ file outer. refl)
]))

classes_formed : (file : ℕ) (outer : Full) (cs : List ClassTree) → list_all formed_class cs ≡ true → list_all tree_formed (declared_all file outer cs) ≡ true
classes_formed file outer [] h = refl
classes_formed file outer (c ∷ cs) h =
    let parts = both (formed_class c) (list_all formed_class cs) h in
    list_all-append tree_formed (declared_in file outer c) (declared_all file outer cs) ∙ and_of _ _ (class_formed c parts.0 file outer) (classes_formed file outer cs parts.1)

file_classes : (f : FileTree) → formed_file f ≡ true → list_all formed_class f.classes ≡ true
unfolding formed_file
file_classes f h = (both _ _ (both _ _ h).1).1

pub files_formed : (file : ℕ) (files : List FileTree) → list_all formed_file files ≡ true → list_all tree_formed (declared_from file files) ≡ true
files_formed file [] h = refl
files_formed file (f ∷ files) h =
    let parts = both (formed_file f) (list_all formed_file files) h in
    list_all-append tree_formed (declared_all file (within_of f.within) f.classes) (declared_from (file + 1) files)
    ∙ and_of _ _ (classes_formed file (within_of f.within) f.classes (file_classes f parts.0)) (files_formed (file + 1) files parts.1)

at_formed : (ds : List Declared) (i : ℕ) (t : ClassTree) → list_all tree_formed ds ≡ true → option_map (λ (d : Declared). d.tree) (slice_get ds i) ≡ Some t → formed_class t ≡ true
at_formed [] i t h e = absurd (cc (e))
at_formed (d ∷ ds) zero t h e = let same : d.tree ≡ t = cc (e) in subst (λ z. formed_class z ≡ true) same (both (formed_class d.tree) (list_all tree_formed ds) h).0
at_formed (d ∷ ds) (suc i) t h e = at_formed ds i t (both (formed_class d.tree) (list_all tree_formed ds) h).1 e

-- a declared class of formed files
pub declared_formed : (files : List FileTree) (i : ℕ) (t : ClassTree) → list_all formed_file files ≡ true → option_map (λ (d : Declared). d.tree) (slice_get (declared files) i) ≡ Some t
    → formed_class t ≡ true
declared_formed files i t h e = at_formed (declared files) i t (files_formed 0 files h) e
