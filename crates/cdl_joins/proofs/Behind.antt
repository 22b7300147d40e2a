-- Lists that are made from the left, each item behind those before.
use Rattle.std.proofs.Common.{◌≡◌, ◌<◌, ◌≤◌, ℕ, suc, ◌+◌, List, [], ◌∷◌, ◌++◌, length, drop, get_or, refl, sym, ap, ◌∙◌, add-one, drop-cons, append_assoc, Option, Some, None}
use Rattle.std.specs.Option.{option_map, option_and_then}
use Rattle.std.proofs.lemmas.List.{append-nil, drop_all}
use Rattle.std.specs.Prelude.{ℤ, ◌≢◌}
use Rattle.cdl_tree.specs.declared.class.Sub.{Sub}
use Rattle.cdl_tree.specs.declared.expr.Expr.{Expr}
use Rattle.cdl_joins.specs.declared.picks.Pick.{Pick}
use Rattle.cdl_joins.specs.Picks.{pick, pick_each}

abbrev none_picks : Option (List Pick)
none_picks = None

abbrev pub behind : {A : Type 0} → List A → Option (List A) → Option (List A)
behind acc o = option_map (λ more. acc ++ more) o

module _ {A : Type 0} where
  pub behind_nothing : (o : Option (List A)) → behind [] o ≡ o
  behind_nothing (Some xs) = refl
  behind_nothing None = refl

  pub behind_end : (acc : List A) → behind acc (Some []) ≡ Some acc
  behind_end acc = ap Some (append-nil acc)

  -- one more item
  pub behind_next : (acc : List A) (o : Option A) (a : A) (rest : Option (List A)) → o ≡ Some a
      → behind acc (option_and_then (λ x. option_map (λ xs. x ∷ xs) rest) o) ≡ behind (acc ++ a ∷ []) rest
  behind_next acc (Some b) a (Some xs) h = let same : b ≡ a = cc in rw same (ap Some (sym (append_assoc acc (a ∷ []) xs)))
  behind_next acc (Some b) a None h = refl
  behind_next acc None a rest h = cc

  pub behind_none : (acc : List A) (o : Option A) (rest : Option (List A)) → o ≡ None → behind acc (option_and_then (λ x. option_map (λ xs. x ∷ xs) rest) o) ≡ None
  behind_none acc (Some b) rest h = cc
  behind_none acc None rest h = refl

pub item_next : {X : Type 0} (xs : List X) (i : ℕ) (x : X) → i < length xs → x ≡ get_or xs i x → drop i xs ≡ x ∷ drop (i + 1) xs
item_next xs i x l e = rw (add-one) (drop-cons xs i x l ∙ ap (λ y. y ∷ drop (suc i) xs) (sym e))

pub item_end : {X : Type 0} (xs : List X) (i : ℕ) → length xs ≤ i → drop i xs ≡ []
item_end xs i l = drop_all i xs l

suc_apart : (m n : ℕ) → suc m ≢ suc n → m ≢ n
suc_apart m n h e = h (ap suc e)

none_pick : (o : Option Pick) → None ≡ option_and_then (λ x. option_map (λ xs. x ∷ xs) (none_picks)) o
none_pick None = refl
none_pick (Some x) = refl

-- subscripts of another number than the sizes
pub other_length : (at : Expr → Option ℤ) (ns : List ℕ) (ss : List Sub) → length ns ≢ length ss → none_picks ≡ pick_each at ns ss
other_length at [] [] h = absurd (h refl)
other_length at [] (s ∷ ss) h = refl
other_length at (n ∷ ns) [] h = refl
other_length at (n ∷ ns) (s ∷ ss) h = none_pick (pick at n s) ∙ ap (λ (o : Option (List Pick)). option_and_then (λ x. option_map (λ xs. x ∷ xs) o) (pick at n s)) (other_length at ns ss (suc_apart (length ns) (length ss) h))
