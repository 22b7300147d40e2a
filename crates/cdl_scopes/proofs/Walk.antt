-- A walk over the classes of a package.
use Rattle.std.proofs.Common.{◌≡◌, ◌<◌, ◌≤◌, ◌+◌, ℕ, zero, suc, List, [], ◌∷◌, ◌++◌, take, get_or, length, Option, Some, None, refl, sym, ◌∙◌, ap, subst, append_assoc, append-nil, arith}
use Rattle.std.specs.Prelude.{option_and_then}
use Rattle.std.specs.List.{slice_get}
use Rattle.std.proofs.lemmas.List.{take_more}
use Rattle.cdl_tree.specs.declared.class.ClassTree.{ClassTree}
use Rattle.cdl_tree.specs.declared.class.FileTree.{FileTree}
use Rattle.cdl_tree.specs.Parts.{classes_of}
use Rattle.cdl_scopes.specs.declared.gather.Classes.{Classes}
use Rattle.cdl_scopes.specs.Classes.{Full, Declared, declared_in, declared_all, name_of}
use Rattle.cdl_scopes.specs.inner.Gathered.{IsGathered, After, AfterAt, descend, tree_at}
use Rattle.cdl_scopes.proofs.Listed.{declared_all-push, declared_in-is}

pub then_some : {A B : Type 0} (f : A → Option B) (o : Option A) (y : B) → option_and_then f o ≡ Some y → (x : A) × (o ≡ Some x) × (f x ≡ Some y)
then_some f None y h = cc
then_some f (Some x) y h = (x, refl, h)

descend_push : (c d e : ClassTree) (steps : List ℕ) (k : ℕ) → descend c steps ≡ Some d → slice_get (classes_of d) k ≡ Some e → descend c (steps ++ k ∷ []) ≡ Some e
descend_push c d e [] k h at =
    let same : c ≡ d = cc in
    rw (same, at) refl
descend_push c d e (s ∷ steps) k h at =
    let there = then_some (λ x. descend x steps) (slice_get (classes_of c) s) d h in
    rw there.1 (descend_push there.0 d e steps k there.2 at)

pub tree_at_push : (files : List FileTree) (file top : ℕ) (steps : List ℕ) (k : ℕ) (d e : ClassTree) → tree_at files file top steps ≡ Some d → slice_get (classes_of d) k ≡ Some e
    → tree_at files file top (steps ++ k ∷ []) ≡ Some e
tree_at_push files file top steps k d e h at =
    let f = then_some (λ (f : FileTree). option_and_then (λ c. descend c steps) (slice_get f.classes top)) (slice_get files file) d h in
    let c = then_some (λ c. descend c steps) (slice_get (f.0).classes top) d f.2 in
    rw (f.1, c.1) (descend_push c.0 d e steps k c.2 at)

-- the classes of one more class in a package
pub listed_more : (file : ℕ) (q : Full) (cs : List ClassTree) (i : ℕ) (c : ClassTree) (ds : List Declared) → i < length cs → c ≡ get_or cs i c
    → ds ++ declared_all file q (take (i + 1) cs) ≡ (ds ++ declared_all file q (take i cs)) ++ declared_in file q c
listed_more file q cs i c ds h e =
    ap (λ (xs : List ClassTree). ds ++ declared_all file q xs) (take_more cs i c h ∙ ap (λ (x : ClassTree). take i cs ++ x ∷ []) (sym e))
    ∙ ap (λ (xs : List Declared). ds ++ xs) (declared_all-push file q (take i cs) c)
    ∙ sym (append_assoc ds (declared_all file q (take i cs)) (declared_in file q c))

pub after_more : (files : List FileTree) (olds : List Full) (all more : Classes) (extra : List Full) (ds es whole : List Declared)
    (a : After files olds all extra ds) → After files a.gathered.names.paths more extra (ds ++ es) → whole ≡ ds ++ es → After files olds more extra whole
after_more files olds all more extra ds es whole a b e =
    subst (λ (xs : List Declared). After files olds more extra xs) (sym e) (record {
      gathered = b.gathered;
      keeps = λ k p at. b.keeps k p (a.keeps k p at);
    })

pub same_after : (files : List FileTree) (all : Classes) (extra : List Full) (ds : List Declared) (h : IsGathered files all extra ds) → After files h.names.paths all extra (ds ++ [])
same_after files all extra ds h =
    let e : ds ++ [] ≡ ds = append-nil ds in
    let P : List Declared → Type 0 = λ xs. After files h.names.paths all extra xs in
    subst P (sym e) (record {
      gathered = h;
      keeps = λ k p at. at;
    })

-- a class with none in it
pub after_none : (files : List FileTree) (olds : List Full) (all : Classes) (extra : List Full) (ds : List Declared) (file : ℕ) (q : Full) (c : ClassTree) (n : ℕ) (p : Full) → classes_of c ≡ []
    → AfterAt files olds all extra (ds ++ (record { file = file; outer = q; tree = c }) ∷ []) n p → After files olds all extra (ds ++ declared_in file q c)
after_none files olds all extra ds file q c n p e a =
    let one : declared_in file q c ≡ (record { file = file; outer = q; tree = c }) ∷ [] =
    declared_in-is file q c ∙ ap (λ (cs : List ClassTree). (record { file = file; outer = q; tree = c }) ∷ declared_all file (q ++ name_of c ∷ []) cs) e in
    let P : List Declared → Type 0 = λ xs. After files olds all extra (ds ++ xs) in
    subst P (sym one) a.after

-- a class, and then those in it
pub after_class : (files : List FileTree) (olds : List Full) (all more : Classes) (extra : List Full) (ds : List Declared) (file : ℕ) (q : Full) (c : ClassTree) (n : ℕ) (p : Full) (cs : List ClassTree) → classes_of c ≡ cs
    → (a : AfterAt files olds all extra (ds ++ (record { file = file; outer = q; tree = c }) ∷ []) n p)
    → After files a.after.gathered.names.paths more extra ((ds ++ (record { file = file; outer = q; tree = c }) ∷ []) ++ declared_all file (q ++ name_of c ∷ []) cs)
    → After files olds more extra (ds ++ declared_in file q c)
after_class files olds all more extra ds file q c n p cs e a b =
    after_more files olds all more extra _ _ _ a.after b
    (ap (λ (xs : List Declared). ds ++ xs) (declared_in-is file q c ∙ ap (λ (xs : List ClassTree). (record { file = file; outer = q; tree = c }) ∷ declared_all file (q ++ name_of c ∷ []) xs) e)
    ∙ sym (append_assoc ds ((record { file = file; outer = q; tree = c }) ∷ []) (declared_all file (q ++ name_of c ∷ []) cs)))

pub take_whole : {X : Type 0} (i : ℕ) (xs : List X) → length xs ≤ i → take i xs ≡ xs
take_whole zero [] h = refl
take_whole zero (x ∷ xs) h = absurd (omega arith)
take_whole (suc i) [] h = refl
take_whole (suc i) (x ∷ xs) h = ap (λ ys. x ∷ ys) (take_whole i xs (omega arith))

pub all_taken : (files : List FileTree) (olds : List Full) (all : Classes) (extra : List Full) (ds : List Declared) (file : ℕ) (q : Full) (cs : List ClassTree) (i : ℕ) → length cs ≤ i
    → After files olds all extra (ds ++ declared_all file q (take i cs)) → After files olds all extra (ds ++ declared_all file q cs)
all_taken files olds all extra ds file q cs i h a =
    let P : List ClassTree → Type 0 = λ xs. After files olds all extra (ds ++ declared_all file q xs) in
    subst P (take_whole i cs h) a
