-- Names between points.
use Rattle.std.proofs.Common.{◌≡◌, ◌∙◌, ◌<◌, ◌≤◌, ◌+◌, ◌-◌, nat_eq, ℕ, true, false, List, [], ◌∷◌, ◌++◌, map, take, drop, get_or, length, length-drop, Some, refl, sym, ap, subst, arith, append_assoc, append-nil}
use Rattle.std.specs.List.{slice_get}
use Rattle.std.proofs.Math.Seq.{drop-length}
use Rattle.std.proofs.lemmas.Bool.{false_from_ne_true, eqb-true}
use Rattle.std.proofs.lemmas.List.{drop_more, take_more, get_or-drop}
use Rattle.cdl_tree.specs.declared.class.FileTree.{FileTree}
use Rattle.cdl_scopes.specs.declared.gather.Classes.{Classes}
use Rattle.cdl_scopes.specs.Classes.{Full, declared, full, is_front}
use Rattle.cdl_scopes.specs.inner.Gathered.{IsGathered}
use Rattle.cdl_scopes.specs.Lookup.{library}
use Rattle.cdl_scopes.specs.Classes.{cut, add_first}
use Rattle.cdl_scopes.proofs.Fronts.{front_append, any_trans}

-- these bytes before the first part
abbrev pub onto : List ℕ → Full → Full
onto w [] = []
onto w (x ∷ rest) = (w ++ x) ∷ rest

pub onto_none : (q : Full) → onto [] q ≡ q
onto_none [] = refl
onto_none (x ∷ q) = refl

onto_more : (w : List ℕ) (b : ℕ) (q : Full) → onto w (add_first b q) ≡ onto (w ++ b ∷ []) q
onto_more w b [] = refl
onto_more w b (x ∷ q) = ap (λ (y : List ℕ). y ∷ q) (sym (append_assoc w (b ∷ []) x))

cut_point : (w : List ℕ) (b : ℕ) (rest : List ℕ) → b ≡ 46 → onto w (cut (b ∷ rest)) ≡ w ∷ cut rest
cut_point w b rest e =
    let P : ℕ → Type 0 = λ a. onto w (cut (a ∷ rest)) ≡ w ∷ cut rest in
    subst P (sym e) (ap (λ (x : List ℕ). x ∷ cut rest) (append-nil w))

cut_other : (w : List ℕ) (b : ℕ) (rest : List ℕ) → nat_eq b 46 ≡ false → onto w (cut (b ∷ rest)) ≡ onto (w ++ b ∷ []) (cut rest)
cut_other w b rest e =
    let more : cut (b ∷ rest) ≡ add_first b (cut rest) = rw e refl in
    ap (onto w) more ∙ onto_more w b (cut rest)

abbrev piece : List ℕ → ℕ → ℕ → List ℕ
piece path s i = take (i - s) (drop s path)

-- a point ends a part
pub at_point : (path : List ℕ) (s i : ℕ) → i < length path → get_or path i 0 ≡ 46
    → onto (take (i - s) (drop s path)) (cut (drop i path)) ≡ take (i - s) (drop s path) ∷ onto (take (i + 1 - (i + 1)) (drop (i + 1) path)) (cut (drop (i + 1) path))
at_point path s i l e =
    let none : i + 1 - (i + 1) ≡ 0 = omega arith in
    ap (λ (r : List ℕ). onto (piece path s i) (cut r)) (drop_more path i 0 l)
    ∙ cut_point (piece path s i) (get_or path i 0) (drop (i + 1) path) e
    ∙ ap (λ (q : Full). piece path s i ∷ q) (sym (ap (λ n. onto (take n (drop (i + 1) path)) (cut (drop (i + 1) path))) none ∙ onto_none (cut (drop (i + 1) path))))

-- any other byte is one more of it
pub at_other : (path : List ℕ) (s i : ℕ) → s ≤ i → i < length path → (get_or path i 0 ≡ 46 → ⊥)
    → onto (take (i - s) (drop s path)) (cut (drop i path)) ≡ onto (take (i + 1 - s) (drop s path)) (cut (drop (i + 1) path))
at_other path s i o l apart =
    let e : nat_eq (get_or path i 0) 46 ≡ false = false_from_ne_true _ (λ t. apart (eqb-true _ _ t)) in
    let one : i - s + 1 ≡ i + 1 - s = omega arith in
    let at : s + (i - s) ≡ i = omega arith in
    let same : get_or (drop s path) (i - s) 0 ≡ get_or path i 0 = get_or-drop s path (i - s) 0 ∙ ap (λ k. get_or path k 0) at in
    let longer : take (i + 1 - s) (drop s path) ≡ piece path s i ++ get_or path i 0 ∷ [] =
    ap (λ n. take n (drop s path)) (sym one) ∙ take_more (drop s path) (i - s) 0 (omega (arith, length-drop s path)) ∙ ap (λ (b : ℕ). piece path s i ++ b ∷ []) same in
    ap (λ (r : List ℕ). onto (piece path s i) (cut r)) (drop_more path i 0 l)
    ∙ cut_other (piece path s i) (get_or path i 0) (drop (i + 1) path) e
    ∙ ap (λ (w : List ℕ). onto w (cut (drop (i + 1) path))) (sym longer)

-- the part behind the last point
pub at_end : (path : List ℕ) (s i : ℕ) → i ≡ length path → onto (take (i - s) (drop s path)) (cut (drop i path)) ≡ take (length path - s) (drop s path) ∷ []
at_end path s i e =
    let none : drop i path ≡ [] = ap (λ n. drop n path) e ∙ drop-length path in
    ap (λ (r : List ℕ). onto (piece path s i) (cut r)) none
    ∙ ap (λ (w : List ℕ). w ∷ []) (append-nil (piece path s i) ∙ ap (λ n. piece path s n) e)

-- where the front of a name has no number, it has none
pub no_more : (files : List FileTree) (all : Classes) (h : IsGathered files all library (declared files)) (q : Full) (w : List ℕ) (rest : Full)
    → ((m : ℕ) → slice_get h.names.paths m ≡ Some (q ++ w ∷ []) → ⊥) → (m : ℕ) → slice_get h.names.paths m ≡ Some (q ++ w ∷ rest) → ⊥
no_more files all h q w rest none m at =
    let whole = library ++ map full (declared files) in
    let front : is_front (q ++ w ∷ []) (q ++ w ∷ rest) ≡ true =
    let P : Full → Type 0 = λ r. is_front (q ++ w ∷ []) r ≡ true in
    subst P (append_assoc q (w ∷ []) rest) (front_append (q ++ w ∷ []) rest) in
    let n = h.names.covers.each (q ++ w ∷ []) (any_trans (q ++ w ∷ []) (q ++ w ∷ rest) whole front (h.names.covers.only m (q ++ w ∷ rest) at)) in
    none n.0 n.1
