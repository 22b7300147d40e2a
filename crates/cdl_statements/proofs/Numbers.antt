-- The numbers of what a side selects.
use Rattle.std.proofs.Common.{◌≡◌, ◌<◌, ◌≤◌, ℕ, zero, suc, ◌+◌, List, [], ◌∷◌, ◌++◌, map, take, length, get_or, refl, sym, ap, ◌∙◌, subst, append_assoc, arith, Option, Some}
use Rattle.std.specs.Prelude.{slice_get}
use Rattle.std.proofs.lemmas.List.{append-nil, map-append}
use Rattle.cdl_model.specs.Names.{ElementName}
use Rattle.cdl_joins.specs.declared.sides.Piece.{Piece}
use Rattle.cdl_statements.specs.Complete.{Stands, AllStand}
use Rattle.cdl_joins.specs.Sides.{piece_elements, all_elements}

pub stand_row : (names : List ElementName) (f : List ℕ → ElementName) (rows : List (List ℕ)) (i : ℕ) (row : List ℕ) → AllStand names (map f rows) → i < length rows → row ≡ get_or rows i row → Stands names (f row)
stand_row names f [] i row s h e = absurd (omega (arith, h))
stand_row names f (r ∷ rows) zero row s h e = subst (λ (z : List ℕ). Stands names (f z)) (sym e) s.0
stand_row names f (r ∷ rows) (suc i) row s h e = stand_row names f rows i row s.1 (omega (arith, h)) e

halves_stand : (names xs ys : List ElementName) → AllStand names (xs ++ ys) → AllStand names xs × AllStand names ys
halves_stand names [] ys s = (tt, s)
halves_stand names (x ∷ xs) ys s = let r = halves_stand names xs ys s.1 in ((s.0, r.0), r.1)

pub stand_piece : (names : List ElementName) (name : List ℕ) (xs : List Piece) (i : ℕ) (x : Piece) → AllStand names (all_elements name xs) → i < length xs → x ≡ get_or xs i x → AllStand names (piece_elements name x)
stand_piece names name [] i x s h e = absurd (omega (arith, h))
stand_piece names name (y ∷ xs) zero x s h e = subst (λ (z : Piece). AllStand names (piece_elements name z)) (sym e) (halves_stand names (piece_elements name y) (all_elements name xs) s).0
stand_piece names name (y ∷ xs) (suc i) x s h e = stand_piece names name xs i x (halves_stand names (piece_elements name y) (all_elements name xs) s).1 (omega (arith, h)) e

module _ {X : Type 0} where
  take_more : (xs : List X) (i : ℕ) (x : X) → i < length xs → x ≡ get_or xs i x → take (i + 1) xs ≡ take i xs ++ x ∷ []
  take_more [] i x h e = absurd (omega (arith, h))
  take_more (y ∷ xs) zero x h e = ap (λ (z : X). z ∷ []) (sym e)
  take_more (y ∷ xs) (suc i) x h e = let next : suc i + 1 ≡ suc (i + 1) = omega arith in rw next (ap (λ (zs : List X). y ∷ zs) (take_more xs i x (omega (arith, h)) e))

  take_end : (xs : List X) (i : ℕ) → length xs ≤ i → take i xs ≡ xs
  take_end [] zero h = refl
  take_end [] (suc i) h = refl
  take_end (y ∷ xs) zero h = absurd (omega (arith, h))
  take_end (y ∷ xs) (suc i) h = ap (λ (zs : List X). y ∷ zs) (take_end xs i (omega (arith, h)))

-- one more number
pub numbers_next : (names : List ElementName) (f : List ℕ → ElementName) (ns : List ℕ) (old : List (Option ElementName)) (rows : List (List ℕ)) (i n : ℕ) (row : List ℕ) → i < length rows → row ≡ get_or rows i row
    → map (slice_get names) ns ≡ old ++ map Some (map f (take i rows)) → slice_get names n ≡ Some (f row) → map (slice_get names) (ns ++ n ∷ []) ≡ old ++ map Some (map f (take (i + 1) rows))
numbers_next names f ns old rows i n row h e a b =
    let rest : map Some (map f (take (i + 1) rows)) ≡ map Some (map f (take i rows)) ++ Some (f row) ∷ [] =
    ap (λ (zs : List (List ℕ)). map Some (map f zs)) (take_more rows i row h e) ∙ ap (map Some) (map-append f (take i rows) (row ∷ [])) ∙ map-append Some (map f (take i rows)) (f row ∷ []) in
    map-append (slice_get names) ns (n ∷ []) ∙ ap (λ (o : Option ElementName). map (slice_get names) ns ++ o ∷ []) b
    ∙ ap (λ (zs : List (Option ElementName)). zs ++ Some (f row) ∷ []) a ∙ append_assoc old (map Some (map f (take i rows))) (Some (f row) ∷ []) ∙ ap (λ (zs : List (Option ElementName)). old ++ zs) (sym rest)

pub numbers_all : (names : List ElementName) (f : List ℕ → ElementName) (ns : List ℕ) (old : List (Option ElementName)) (rows : List (List ℕ)) (i : ℕ) → length rows ≤ i
    → map (slice_get names) ns ≡ old ++ map Some (map f (take i rows)) → map (slice_get names) ns ≡ old ++ map Some (map f rows)
numbers_all names f ns old rows i h a = a ∙ ap (λ (zs : List (List ℕ)). old ++ map Some (map f zs)) (take_end rows i h)

flat_more : (name : List ℕ) (xs : List Piece) (x : Piece) → all_elements name (xs ++ x ∷ []) ≡ all_elements name xs ++ piece_elements name x
flat_more name [] x = append-nil (piece_elements name x)
flat_more name (y ∷ xs) x = ap (λ (zs : List ElementName). piece_elements name y ++ zs) (flat_more name xs x) ∙ sym (append_assoc (piece_elements name y) (all_elements name xs) (piece_elements name x))

-- the numbers of one more piece
pub pieces_next : (names : List ElementName) (name ns ms : List ℕ) (xs : List Piece) (i : ℕ) (x : Piece) → i < length xs → x ≡ get_or xs i x → map (slice_get names) ns ≡ map Some (all_elements name (take i xs))
    → map (slice_get names) ms ≡ map (slice_get names) ns ++ map Some (piece_elements name x) → map (slice_get names) ms ≡ map Some (all_elements name (take (i + 1) xs))
pieces_next names name ns ms xs i x h e a b =
    b ∙ ap (λ (zs : List (Option ElementName)). zs ++ map Some (piece_elements name x)) a ∙ sym (map-append Some (all_elements name (take i xs)) (piece_elements name x))
    ∙ ap (map Some) (sym (ap (all_elements name) (take_more xs i x h e) ∙ flat_more name (take i xs) x))

pub pieces_all : (names : List ElementName) (name ns : List ℕ) (xs : List Piece) (i : ℕ) → length xs ≤ i → map (slice_get names) ns ≡ map Some (all_elements name (take i xs)) → map (slice_get names) ns ≡ map Some (all_elements name xs)
pieces_all names name ns xs i h a = a ∙ ap (λ (zs : List Piece). map Some (all_elements name zs)) (take_end xs i h)
