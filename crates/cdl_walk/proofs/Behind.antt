-- Lists that are made from the left, each item behind those before.
use Rattle.std.proofs.Common.{◌≡◌, ◌<◌, ◌≤◌, ℕ, suc, ◌+◌, List, [], ◌∷◌, ◌++◌, length, map, drop, get_or, refl, sym, ap, ◌∙◌, add-one, drop-cons, append_assoc, Result, Ok, Err}
use Rattle.std.proofs.lemmas.List.{append-nil, drop_all}
use Rattle.cdl_stations.specs.Runs.{on_ok}

abbrev pub behind : {A F : Type 0} → List A → Result (List A) F → Result (List A) F
behind acc o = on_ok o (λ more. Ok (acc ++ more))

module _ {A F : Type 0} where
  pub behind_nothing : (o : Result (List A) F) → behind [] o ≡ o
  behind_nothing (Ok xs) = refl
  behind_nothing (Err f) = refl

  pub behind_end : (acc : List A) → behind {F = F} acc (Ok []) ≡ Ok acc
  behind_end acc = ap Ok (append-nil acc)

  -- one more item
  pub behind_next : (acc : List A) (o : Result A F) (a : A) (rest : Result (List A) F) → o ≡ Ok a
      → behind acc (on_ok o (λ v. on_ok rest (λ vs. Ok (v ∷ vs)))) ≡ behind (acc ++ a ∷ []) rest
  behind_next acc (Ok b) a (Ok vs) h = let same : b ≡ a = cc in rw same (ap Ok (sym (append_assoc acc (a ∷ []) vs)))
  behind_next acc (Ok b) a (Err f) h = refl
  behind_next acc (Err f) a rest h = cc

  pub behind_fault : (acc : List A) (o : Result A F) (f : F) (rest : Result (List A) F) → o ≡ Err f → behind acc (on_ok o (λ v. on_ok rest (λ vs. Ok (v ∷ vs)))) ≡ Err f
  behind_fault acc (Ok b) f rest h = cc
  behind_fault acc (Err g) f rest h = cc

module _ {U A F : Type 0} where
  -- some more items
  pub behind_more : (acc : List A) (o : Result U F) (u : U) (f : U → List A) (rest : Result (List A) F) → o ≡ Ok u
      → behind acc (on_ok o (λ v. on_ok rest (λ vs. Ok (f v ++ vs)))) ≡ behind (acc ++ f u) rest
  behind_more acc (Ok b) u f (Ok vs) h = let same : b ≡ u = cc in rw same (ap Ok (sym (append_assoc acc (f u) vs)))
  behind_more acc (Ok b) u f (Err g) h = refl
  behind_more acc (Err g) u f rest h = cc

  pub behind_stop : (acc : List A) (o : Result U F) (g : F) (f : U → List A) (rest : Result (List A) F) → o ≡ Err g → behind acc (on_ok o (λ v. on_ok rest (λ vs. Ok (f v ++ vs)))) ≡ Err g
  behind_stop acc (Ok b) g f rest h = cc
  behind_stop acc (Err x) g f rest h = cc

pub row_next : {X Y : Type 0} (f : X → Y) (xs : List X) (i : ℕ) (x : X) → i < length xs → x ≡ get_or xs i x → map f (drop i xs) ≡ f x ∷ map f (drop (i + 1) xs)
row_next f xs i x l e = rw (add-one) (ap (map f) (drop-cons xs i x l ∙ ap (λ y. y ∷ drop (suc i) xs) (sym e)))

pub row_end : {X Y : Type 0} (f : X → Y) (xs : List X) (i : ℕ) → length xs ≤ i → map f (drop i xs) ≡ []
row_end f xs i l = ap (map f) (drop_all i xs l)
