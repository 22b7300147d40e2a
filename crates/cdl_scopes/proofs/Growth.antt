-- The names after one more.
use Rattle.std.proofs.lemmas.Bool.{or_left}
use Rattle.std.proofs.Common.{◌≡◌, ℕ, true, List, [], ◌∷◌, ◌++◌, length, Some, sym, ◌∙◌, ap, inl, inr}
use Rattle.std.specs.List.{slice_get, list_any}
use Rattle.cdl_scopes.specs.declared.names.Node.{Node}
use Rattle.cdl_scopes.specs.Classes.{Full, is_front}
use Rattle.cdl_scopes.specs.inner.Numbered.{Numbers, Names, Grown, child}
use Rattle.cdl_scopes.proofs.Lists.{get_left, get_last, get_pushed}
use Rattle.cdl_scopes.proofs.Fronts.{front_self, front_push, any_trans, any_left, any_right, any_split, any_one}

-- a name that was there
pub there : (nodes : List Node) (whole : List Full) (h : Names nodes whole) (node : Node) (scope m : ℕ) (q : Full) (x : List ℕ)
    → slice_get nodes scope ≡ Some node → slice_get h.paths scope ≡ Some q → child node x ≡ Some m
    → Grown h.paths nodes (whole ++ (q ++ x ∷ []) ∷ []) m (q ++ x ∷ [])
there nodes whole h node scope m q x a b e =
    let at : slice_get h.paths m ≡ Some (q ++ x ∷ []) = h.numbers.found scope m node q x a b e in
    let known = h.covers.only m (q ++ x ∷ []) at in
    record {
      names = record {
        paths = h.paths;
        numbers = h.numbers;
        covers = record {
          only = λ n p i. any_left (is_front p) whole _ (h.covers.only n p i);
          each = λ p i.
              elim (any_split (is_front p) whole _ i) [
                | inl old ↦ h.covers.each p old
                | inr one ↦ h.covers.each p (any_trans p (q ++ x ∷ []) whole (any_one (is_front p) _ one) known)
              ];
        };
      };
      keeps = λ n p i. i;
      at = at;
    }

pub added : (nodes news : List Node) (whole : List Full) (h : Names nodes whole) (scope n : ℕ) (q : Full) (x : List ℕ)
    → slice_get h.paths scope ≡ Some q → n ≡ length nodes → Numbers news (h.paths ++ (q ++ x ∷ []) ∷ [])
    → Grown h.paths news (whole ++ (q ++ x ∷ []) ∷ []) n (q ++ x ∷ [])
added nodes news whole h scope n q x b size numbers =
    let at : slice_get (h.paths ++ (q ++ x ∷ []) ∷ []) n ≡ Some (q ++ x ∷ []) = get_last h.paths (q ++ x ∷ []) n (size ∙ h.numbers.size) in
    record {
      names = record {
        paths = h.paths ++ (q ++ x ∷ []) ∷ [];
        numbers = numbers;
        covers = record {
          only = λ k p i.
              elim (get_pushed h.paths (q ++ x ∷ []) p k i) [
                | inl old ↦ any_left (is_front p) whole _ (h.covers.only k p old)
                | inr new ↦ any_right (is_front p) whole _ (rw new.1 (or_left _ _ (front_self (q ++ x ∷ []))))
              ];
          each = λ p i.
              let kept : list_any (is_front p) whole ≡ true → (k : ℕ) × (slice_get (h.paths ++ (q ++ x ∷ []) ∷ []) k ≡ Some p) =
              λ old.
              let e = h.covers.each p old in
              (e.0, get_left h.paths _ e.0 p e.1) in
              elim (any_split (is_front p) whole _ i) [
                | inl old ↦ kept old
                | inr one ↦
                    elim (front_push p q x (any_one (is_front p) _ one)) [
                      | inl front ↦ kept (any_trans p q whole front (h.covers.only scope q b))
                      | inr new ↦ (n, at ∙ ap (λ r. Some r) (sym new))
                    ]
              ];
        };
      };
      keeps = λ k p i. get_left h.paths _ k p i;
      at = at;
    }
