-- The steps of whole arrays are apart where their identifiers are.
use Rattle.std.proofs.Common.{ℕ, ◌≡◌, ◌⊎◌, refl, sym, ap, ◌∙◌, subst, inl, inr, ⊎_elim, List, [], ◌∷◌, ◌++◌, map}
use Rattle.std.specs.List.{flat_map}
use Rattle.cdl_network.specs.Lists.{Apart, In, numbers}
use Rattle.cdl_network.proofs.Renaming.{in_map, of_map}
use Rattle.cdl_connect.proofs.Networks.{apart_numbers}
use Rattle.cdl_connect.specs.Paths.{AreArrays, ArrayOf, Grid, Row, Single, Sizes, Step, array_steps, steps_of}

pub in_append : {A : Type 0} (z : A) (xs ys : List A) → In z (xs ++ ys) → In z xs ⊎ In z ys
in_append z [] ys i = inr i
in_append z (x ∷ xs) ys (inl e) = inl (inl e)
in_append z (x ∷ xs) ys (inr i) = ⊎_elim (λ j. inl (inr j)) (λ j. inr j) (in_append z xs ys i)

pub in_left : {A : Type 0} (z : A) (xs ys : List A) → In z xs → In z (xs ++ ys)
in_left z [] ys i = absurd i
in_left z (x ∷ xs) ys (inl e) = inl e
in_left z (x ∷ xs) ys (inr i) = inr (in_left z xs ys i)

pub in_right : {A : Type 0} (z : A) (xs ys : List A) → In z ys → In z (xs ++ ys)
in_right z [] ys i = i
in_right z (x ∷ xs) ys i = inr (in_right z xs ys i)

pub apart_append : {A : Type 0} (xs ys : List A) → Apart xs → Apart ys → ((z : A) → In z xs → In z ys → ⊥) → Apart (xs ++ ys)
apart_append [] ys a b h = b
apart_append (x ∷ xs) ys a b h = (λ i. ⊎_elim a.0 (λ j. h x (inl refl) j) (in_append x xs ys i), apart_append xs ys a.1 b (λ z i j. h z (inr i) j))

pub apart_left : {A : Type 0} (xs ys : List A) → Apart (xs ++ ys) → Apart xs
apart_left [] ys a = tt
apart_left (x ∷ xs) ys a = (λ i. a.0 (in_left x xs ys i), apart_left xs ys a.1)

pub apart_right : {A : Type 0} (xs ys : List A) → Apart (xs ++ ys) → Apart ys
apart_right [] ys a = a
apart_right (x ∷ xs) ys a = apart_right xs ys a.1

pub apart_across : {A : Type 0} (z : A) (xs ys : List A) → Apart (xs ++ ys) → In z xs → In z ys → ⊥
apart_across z [] ys a i j = i
apart_across z (x ∷ xs) ys a (inl e) j = a.0 (subst (λ u. In u (xs ++ ys)) e (in_right z xs ys j))
apart_across z (x ∷ xs) ys a (inr i) j = apart_across z xs ys a.1 i j

pub apart_map : {A B : Type 0} (f : A → B) (xs : List A) → ((x y : A) → In x xs → In y xs → f x ≡ f y → x ≡ y) → Apart xs → Apart (map f xs)
apart_map f [] h a = tt
apart_map f (x ∷ xs) h a = (
  λ i. let r = of_map f (f x) xs i in a.0 (subst (λ u. In u xs) (sym (h x r.0 (inl refl) (inr r.1) r.2)) r.1),
  apart_map f xs (λ y z i j e. h y z (inr i) (inr j) e) a.1,
)

-- in a list of images that are apart one image has one place
pub same_source : {A B : Type 0} (f : A → B) (xs : List A) (x y : A) → Apart (map f xs) → In x xs → In y xs → f x ≡ f y → x ≡ y
same_source f [] x y a i j e = absurd i
same_source f (z ∷ zs) x y a (inl p) (inl q) e = p ∙ sym q
same_source f (z ∷ zs) x y a (inl p) (inr j) e = absurd (a.0 (subst (λ u. In u (map f zs)) (sym e ∙ ap f p) (in_map f y zs j)))
same_source f (z ∷ zs) x y a (inr i) (inl q) e = absurd (a.0 (subst (λ u. In u (map f zs)) (e ∙ ap f q) (in_map f x zs i)))
same_source f (z ∷ zs) x y a (inr i) (inr j) e = same_source f zs x y a.1 i j e

in_flat_map : {A B : Type 0} (f : A → List B) (z : B) (xs : List A) → In z (flat_map f xs) → (x : A) × In x xs × In z (f x)
in_flat_map f z [] i = absurd i
in_flat_map {A} {B} f z (x ∷ xs) i = elim (in_append z (f x) (flat_map f xs) i) as (λ _. (y : A) × In y (x ∷ xs) × In z (f y)) [
  | inl j ↦ (x, inl refl, j)
  | inr j ↦ let r = in_flat_map f z xs j in (r.0, inr r.1, r.2)
]

-- lists of which each is apart, and no two with different keys have an item in common
apart_flat_map : {A B K : Type 0} (f : A → List B) (key : A → K) (xs : List A) → Apart (map key xs) → ((x : A) → In x xs → Apart (f x)) → ((x y : A) (z : B) → In z (f x) → In z (f y) → key x ≡ key y) → Apart (flat_map f xs)
apart_flat_map f key [] a b h = tt
apart_flat_map f key (x ∷ xs) a b h = apart_append (f x) (flat_map f xs) (b x (inl refl)) (apart_flat_map f key xs a.1 (λ y i. b y (inr i)) h)
    (λ z i j. let r = in_flat_map f z xs j in a.0 (subst (λ u. In u (map key xs)) (sym (h x r.0 z i r.2)) (in_map key r.0 xs r.1)))

two_indices : (k l m o : ℕ) (a b : List ℕ) → k ∷ l ∷ a ≡ m ∷ o ∷ b → (k ≡ m) × (l ≡ o)
two_indices k l m o a b e = (cc, cc)

abbrev row_step : List ℕ → ℕ → Step
row_step name k = record { name = name; indices = k ∷ [] }

abbrev grid_step : List ℕ → ℕ → ℕ → Step
grid_step name k l = record { name = name; indices = k ∷ l ∷ [] }

one_array : (name : List ℕ) (s : Sizes) → Apart (array_steps name s)
one_array name Single = (λ i. i, tt)
one_array name (Row n) = apart_map (row_step name) (numbers 1 n) (λ k l i j e. let h : k ∷ [] ≡ l ∷ [] = ap (λ (s : Step). s.indices) e in cc) (apart_numbers 1 n)
one_array name (Grid m n) = apart_flat_map (λ k. map (grid_step name k) (numbers 1 n)) (λ k. k) (numbers 1 m)
    (apart_map (λ k. k) (numbers 1 m) (λ k l i j e. e) (apart_numbers 1 m))
    (λ k i. apart_map (grid_step name k) (numbers 1 n) (λ l o i j e. (two_indices k l k o [] [] (ap (λ (s : Step). s.indices) e)).1) (apart_numbers 1 n))
    (λ k l z i j.
    let a = of_map (grid_step name k) z (numbers 1 n) i in
    let b = of_map (grid_step name l) z (numbers 1 n) j in
    (two_indices k a.0 l b.0 [] [] (ap (λ (s : Step). s.indices) (sym a.2 ∙ b.2))).0)

array_name : (name : List ℕ) (s : Sizes) (z : Step) → In z (array_steps name s) → z.name ≡ name
array_name name Single z (inl e) = ap (λ (s : Step). s.name) e
array_name name Single z (inr i) = absurd i
array_name name (Row n) z i = let a = of_map (row_step name) z (numbers 1 n) i in ap (λ (s : Step). s.name) a.2
array_name name (Grid m n) z i =
    let a = in_flat_map (λ k. map (grid_step name k) (numbers 1 n)) z (numbers 1 m) i in
    let b = of_map (grid_step name a.0) z (numbers 1 n) a.2 in
    ap (λ (s : Step). s.name) b.2

pub arrays_apart : (arrays : List ArrayOf) (all : List Step) → AreArrays arrays all → Apart all
arrays_apart arrays all a = rw (a.steps) (apart_flat_map steps_of (λ (x : ArrayOf). x.name) arrays a.apart (λ x i. one_array x.name x.sizes)
    (λ x y z i j. sym (array_name x.name x.sizes z i) ∙ array_name y.name y.sizes z j))
