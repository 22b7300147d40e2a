-- The declared classes of a class: itself, and those in it.
use Rattle.std.proofs.Common.{◌≡◌, ℕ, List, [], ◌∷◌, ◌++◌, map, refl, sym, ◌∙◌, ap, rules, append_assoc, append-nil}
use Rattle.cdl_tree.specs.declared.class.ClassTree.{ClassTree, fold-ClassTree, the_lemmas}
use Rattle.cdl_tree.specs.Parts.{classes_of}
use Rattle.cdl_scopes.specs.Classes.{Full, Declared, Listing, each_listed, class_step, declared_in, declared_all, name_of}

each_is : (file : ℕ) (outer : Full) (cs : List ClassTree) → each_listed (map (fold-ClassTree Listing (class_step file)) cs) cs outer ≡ declared_all file outer cs
unfolding declared_in
each_is file outer [] = refl
each_is file outer (c ∷ cs) = ap (λ (ds : List Declared). declared_in file outer c ++ ds) (each_is file outer cs)

opened : (file : ℕ) (c : ClassTree) (outer : Full) → fold-ClassTree Listing (class_step file) c c outer
    ≡ (record { file = file; outer = outer; tree = c }) ∷ each_listed (map (fold-ClassTree Listing (class_step file)) (classes_of c)) (classes_of c) (outer ++ name_of c ∷ [])
unfolding classes_of
opened file c outer = search (rules, the_lemmas)

pub declared_in-is : (file : ℕ) (outer : Full) (c : ClassTree) → declared_in file outer c ≡ (record { file = file; outer = outer; tree = c }) ∷ declared_all file (outer ++ name_of c ∷ []) (classes_of c)
unfolding declared_in
declared_in-is file outer c =
    opened file c outer ∙ ap (λ (ds : List Declared). (record { file = file; outer = outer; tree = c }) ∷ ds) (each_is file (outer ++ name_of c ∷ []) (classes_of c))

pub declared_all-push : (file : ℕ) (outer : Full) (cs : List ClassTree) (c : ClassTree) → declared_all file outer (cs ++ c ∷ []) ≡ declared_all file outer cs ++ declared_in file outer c
declared_all-push file outer [] c = append-nil (declared_in file outer c)
declared_all-push file outer (b ∷ cs) c =
    ap (λ (ds : List Declared). declared_in file outer b ++ ds) (declared_all-push file outer cs c) ∙ sym (append_assoc (declared_in file outer b) (declared_all file outer cs) (declared_in file outer c))
