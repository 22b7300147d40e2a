-- What the class names of the items mean, class by class.
use Rattle.std.proofs.lemmas.Option.{same_Some}
use Rattle.std.proofs.Common.{◌≡◌, ◌<◌, ◌+◌, ℕ, zero, suc, List, [], ◌∷◌, ◌++◌, map, take, get_or, length, Option, Some, Vec, sym, ◌∙◌, ap, inl, inr, arith}
use Rattle.std.specs.Prelude.{option_map}
use Rattle.std.specs.declared.alloc.Global.{Global}
use Rattle.std.specs.List.{slice_get}
use Rattle.std.proofs.lemmas.List.{take_more, map-append}
use Rattle.cdl_tree.specs.declared.class.ClassTree.{ClassTree}
use Rattle.cdl_tree.specs.declared.class.Item.{Item}
use Rattle.cdl_tree.specs.Parts.{items_of}
use Rattle.cdl_classes.specs.declared.found.Found.{Found}
use Rattle.cdl_scopes.specs.Classes.{Declared}
use Rattle.cdl_classes.specs.inner.Kept.{AreItemClasses, classes_of}
use Rattle.cdl_classes.proofs.Items.{mapped_some}
use Rattle.cdl_scopes.proofs.Lists.{get_pushed}

pub mapped_or : {A B : Type 0} (f : A → B) (xs : List A) (i : ℕ) (x : A) (other : B) → i < length xs → x ≡ get_or xs i x → get_or (map f xs) i other ≡ f x
mapped_or f [] i x other h e = absurd (omega arith)
mapped_or f (z ∷ xs) zero x other h e = ap f (sym e)
mapped_or f (z ∷ xs) (suc i) x other h e = mapped_or f xs i x other (omega arith) e

pub mapped_more : {A B : Type 0} (f : A → B) (xs : List A) (i : ℕ) (x : A) (y : B) → i < length xs → x ≡ get_or xs i x → y ≡ f x → map f (take i xs) ++ y ∷ [] ≡ map f (take (i + 1) xs)
mapped_more f xs i x y h e g =
    ap (λ z. map f (take i xs) ++ z ∷ []) (g ∙ ap f e) ∙ sym (ap (map f) (take_more xs i x h) ∙ map-append f (take i xs) (get_or xs i x ∷ []))

-- the tree of a class
tree_is : (ds : List Declared) (i : ℕ) (d : Declared) (tree : ClassTree) → slice_get ds i ≡ Some d → option_map (λ (d : Declared). d.tree) (slice_get ds i) ≡ Some tree → d.tree ≡ tree
tree_is ds i d tree e t = same_Some d.tree tree (sym (ap (option_map (λ (d : Declared). d.tree)) e) ∙ t)

pub row_is : (ds : List Declared) (rows : List (Vec (Option Found) Global)) (i : ℕ) (tree : ClassTree) (items : List Item) (row : Vec (Option Found) Global) (lent : List (Option Found)) → AreItemClasses ds rows
    → option_map (λ (d : Declared). d.tree) (slice_get ds i) ≡ Some tree → items ≡ items_of tree → slice_get rows i ≡ Some row → lent ≡ row.items → lent ≡ classes_of ds i items
row_is ds rows i tree items row lent k t is r l =
    let d = mapped_some (λ (d : Declared). d.tree) (slice_get ds i) tree t in
    l ∙ k.each i d.0 row d.1 r ∙ ap (λ (c : ClassTree). classes_of ds i (items_of c)) d.2 ∙ ap (classes_of ds i) (sym is)

abbrev pub Rows : List Declared → List (Vec (Option Found) Global) → Type 0
Rows ds rows = (i : ℕ) (d : Declared) (row : Vec (Option Found) Global) → slice_get ds i ≡ Some d → slice_get rows i ≡ Some row → row.items ≡ classes_of ds i (items_of d.tree)

pub rows_more : (ds : List Declared) (rows : List (Vec (Option Found) Global)) (n : ℕ) (tree : ClassTree) (items : List Item) (new : Vec (Option Found) Global) → n ≡ length rows
    → option_map (λ (d : Declared). d.tree) (slice_get ds n) ≡ Some tree → items ≡ items_of tree → new.items ≡ classes_of ds n items → Rows ds rows → Rows ds (rows ++ new ∷ [])
rows_more ds rows n tree items new size t is this before i d row e r =
    elim (get_pushed rows new row i r) [
      | inl there ↦ before i d row e there
      | inr last ↦
          let same : i ≡ n = last.0 ∙ sym size in
          let here : slice_get ds n ≡ Some d = ap (λ k. slice_get ds k) (sym same) ∙ e in
          ap (λ (v : Vec (Option Found) Global). v.items) last.1 ∙ this ∙ ap (classes_of ds n) (is ∙ ap items_of (sym (tree_is ds n d tree here t)))
          ∙ ap (λ k. classes_of ds k (items_of d.tree)) (sym same)
    ]
