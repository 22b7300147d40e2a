-- Whole arrays of steps, from sizes.
use Rattle.std.proofs.Common.{◌≡◌, ℕ, zero, suc, ◌+◌, ◌*◌, ◌/◌, ◌%◌, ◌<◌, ◌≤◌, List, [], ◌∷◌, ◌++◌, map, length, append_assoc, refl, sym, ap, ◌∙◌, subst, arith, inl, inr}
use Rattle.std.specs.List.{flat_map}
use Rattle.std.proofs.lemmas.List.{append-nil, map-append}
use Rattle.std.proofs.lemmas.Nat.{div-add-mod', div-mul-add}
use Rattle.cdl_source.specs.declared.limits.TheConstants.{LARGEST_SIZE, MOST_ITEMS}
use Rattle.cdl_source.proofs.Cases.{by_lt}
use Rattle.cdl_connect.specs.Paths.{Step, Sizes, Single, Row, Grid, array_steps, AreSizes, ArrayOf, steps_of}
use Rattle.cdl_network.specs.Lists.{In, Apart, numbers}
use Rattle.cdl_network.proofs.Places.{numbers_split}
use Rattle.cdl_values.specs.Values.{items_of as size_of}
use Rattle.cdl_walk.specs.Elements.{tabulate, indices_at}

abbrev pub step : List ℕ → List ℕ → Step
step n i = record { name = n; indices = i }

-- at most two sizes, each at most 4,096, and at most 65,536 items
pub record AreSmall (s : List ℕ) : Type 0 where
  pub few : length s ≤ 2
  pub each : (n : ℕ) → In n s → n ≤ LARGEST_SIZE
  pub items : size_of s ≤ MOST_ITEMS

-- the steps of arrays of one name
pub record IsWhole (name : List ℕ) (steps : List Step) : Type 0 where
  pub arrays : List ArrayOf
  pub are : steps ≡ flat_map steps_of arrays
  pub sizes : (a : ArrayOf) → In a arrays → AreSizes a.sizes
  pub names : (a : ArrayOf) → In a arrays → a.name ≡ name
  pub apart : Apart (map (λ (a : ArrayOf). a.name) arrays)

-- ---- lists

module _ {A : Type 0} where
  pub tabulate_like : (n : ℕ) (f g : ℕ → A) → ((i : ℕ) → i < n → f i ≡ g i) → tabulate n f ≡ tabulate n g
  tabulate_like zero f g h = refl
  tabulate_like (suc n) f g h = ap (λ (l : List A). l ++ f n ∷ []) (tabulate_like n f g (λ i m. h i (omega (arith, m)))) ∙ ap (λ (x : A). tabulate n g ++ x ∷ []) (h n (omega arith))

  pub tabulate_more : (m n : ℕ) (f : ℕ → A) → tabulate (m + n) f ≡ tabulate m f ++ tabulate n (λ i. f (m + i))
  tabulate_more m zero f = (let e : m + 0 ≡ m = omega arith in ap (λ k. tabulate k f) e) ∙ sym (append-nil (tabulate m f))
  tabulate_more m (suc n) f =
      (let e : m + suc n ≡ suc (m + n) = omega arith in ap (λ k. tabulate k f) e)
      ∙ ap (λ (l : List A). l ++ f (m + n) ∷ []) (tabulate_more m n f)
      ∙ append_assoc (tabulate m f) (tabulate n (λ i. f (m + i))) (f (m + n) ∷ [])

  -- numbers from a on
  pub numbers_map : (a n : ℕ) (f : ℕ → A) → map f (numbers a n) ≡ tabulate n (λ i. f (a + i))
  numbers_map a zero f = refl
  numbers_map a (suc n) f =
      let zero_is : a ≡ a + 0 = omega arith in
      let one : 1 + n ≡ suc n = omega arith in
      ap (λ (l : List A). f a ∷ l) (numbers_map (suc a) n f)
      ∙ ap (λ (l : List A). f a ∷ l) (tabulate_like n (λ i. f (suc a + i)) (λ i. f (a + (1 + i))) (λ i m. let e : suc a + i ≡ a + (1 + i) = omega arith in ap f e))
      ∙ ap (λ k. f k ∷ tabulate n (λ i. f (a + (1 + i)))) zero_is
      ∙ sym (tabulate_more 1 n (λ i. f (a + i)))
      ∙ ap (λ k. tabulate k (λ i. f (a + i))) one

  pub map_tabulate : {B : Type 0} (g : A → B) (n : ℕ) (f : ℕ → A) → map g (tabulate n f) ≡ tabulate n (λ i. g (f i))
  map_tabulate g zero f = refl
  map_tabulate {B} g (suc n) f = map-append g (tabulate n f) (f n ∷ []) ∙ ap (λ (l : List B). l ++ g (f n) ∷ []) (map_tabulate g n f)

-- rows of n, one behind the other
flat_rows : {A : Type 0} (m n : ℕ) (g : ℕ → ℕ → A) → flat_map (λ k. tabulate n (g k)) (numbers 0 m) ≡ tabulate (m * n) (λ i. g (i / n) (i % n))
flat_rows {A} m n g = by_lt 0 n (λ l. rows l m) (λ h. none h)
  where
    none : n ≤ 0 → flat_map (λ k. tabulate n (g k)) (numbers 0 m) ≡ tabulate (m * n) (λ i. g (i / n) (i % n))
    none h =
        let e : n ≡ 0 = omega (arith, h) in
        let z : m * n ≡ 0 = ap (λ k. m * k) e ∙ (let q : m * 0 ≡ 0 = omega arith in q) in
        empty_rows (numbers 0 m) ∙ ap (λ k. tabulate k (λ i. g (i / n) (i % n))) (sym z)
      where
        empty_row : (k : ℕ) → tabulate n (g k) ≡ []
        empty_row k = ap (λ j. tabulate j (g k)) (let e : n ≡ 0 = omega (arith, h) in e)

        empty_rows : (ks : List ℕ) → flat_map (λ k. tabulate n (g k)) ks ≡ []
        empty_rows [] = refl
        empty_rows (k ∷ ks) = ap (λ (l : List A). l ++ flat_map (λ j. tabulate n (g j)) ks) (empty_row k) ∙ empty_rows ks

    flat_both : (xs ys : List ℕ) → flat_map (λ k. tabulate n (g k)) (xs ++ ys) ≡ flat_map (λ k. tabulate n (g k)) xs ++ flat_map (λ k. tabulate n (g k)) ys
    flat_both [] ys = refl
    flat_both (x ∷ xs) ys = ap (λ (l : List A). tabulate n (g x) ++ l) (flat_both xs ys) ∙ sym (append_assoc (tabulate n (g x)) (flat_map (λ k. tabulate n (g k)) xs) (flat_map (λ k. tabulate n (g k)) ys))

    last_number : (k : ℕ) → numbers 0 (suc k) ≡ numbers 0 k ++ k ∷ []
    last_number k = numbers_split 0 (suc k) k 1 (let e : suc k ≡ k + 1 = omega arith in e) ∙ (let z : 0 + k ≡ k = omega arith in ap (λ j. numbers 0 k ++ j ∷ []) z)

    in_row : 0 < n → (k i : ℕ) → i < n → (k * n + i) / n ≡ k
    in_row l k i m = div-mul-add k n i m

    in_column : 0 < n → (k i : ℕ) → i < n → (k * n + i) % n ≡ i
    in_column l k i m =
        let q = div-add-mod' (k * n + i) n in
        let h : (k * n + i) / n * n ≡ k * n = ap (λ j. j * n) (in_row l k i m) in
        omega (arith, q, h)

    rows : 0 < n → (k : ℕ) → flat_map (λ j. tabulate n (g j)) (numbers 0 k) ≡ tabulate (k * n) (λ i. g (i / n) (i % n))
    rows l zero = (let z : 0 ≡ 0 * n = omega arith in ap (λ j. tabulate j (λ i. g (i / n) (i % n))) z)
    rows l (suc k) =
        ap (flat_map (λ j. tabulate n (g j))) (last_number k)
        ∙ flat_both (numbers 0 k) (k ∷ [])
        ∙ ap (λ (z : List A). z ++ flat_map (λ j. tabulate n (g j)) (k ∷ [])) (rows l k)
        ∙ ap (λ (z : List A). tabulate (k * n) (λ i. g (i / n) (i % n)) ++ z) (append-nil (tabulate n (g k)))
        ∙ ap (λ (z : List A). tabulate (k * n) (λ i. g (i / n) (i % n)) ++ z)
        (tabulate_like n (g k) (λ i. g ((k * n + i) / n) ((k * n + i) % n)) (λ i m. sym (ap (λ j. g j ((k * n + i) % n)) (in_row l k i m) ∙ ap (g k) (in_column l k i m))))
        ∙ sym (tabulate_more (k * n) n (λ i. g (i / n) (i % n)))
        ∙ (let e : k * n + n ≡ suc k * n = omega arith in ap (λ j. tabulate j (λ i. g (i / n) (i % n))) e)

shifted : {A : Type 0} (a m : ℕ) (f : ℕ → List A) → flat_map f (numbers (suc a) m) ≡ flat_map (λ k. f (1 + k)) (numbers a m)
shifted a zero f = refl
shifted {A} a (suc m) f = (let e : suc a ≡ 1 + a = omega arith in ap (λ k. f k ++ flat_map f (numbers (suc (suc a)) m)) e) ∙ ap (λ (l : List A). f (1 + a) ++ l) (shifted (suc a) m f)

flat_like : {A : Type 0} (f g : ℕ → List A) (ks : List ℕ) → ((k : ℕ) → f k ≡ g k) → flat_map f ks ≡ flat_map g ks
flat_like f g [] h = refl
flat_like {A} f g (k ∷ ks) h = ap (λ (l : List A). l ++ flat_map f ks) (h k) ∙ ap (λ (l : List A). g k ++ l) (flat_like f g ks h)

-- ---- whole arrays

abbrev at_index : List ℕ → List ℕ → ℕ → Step
at_index name s x = step name (indices_at s x)

abbrev one_array : List ℕ → Sizes → ArrayOf
one_array name z = record { name = name; sizes = z }

an_array : (name : List ℕ) (steps : List Step) (z : Sizes) → steps ≡ array_steps name z → AreSizes z → IsWhole name steps
an_array name steps z e h = record {
  arrays = one_array name z ∷ [];
  are = e ∙ sym (append-nil (array_steps name z));
  sizes = λ a i. only a i;
  names = λ a i. named a i;
  apart = ((λ i. i), tt);
}
  where
    only : (a : ArrayOf) → In a (one_array name z ∷ []) → AreSizes a.sizes
    only a (inl q) = subst (λ (b : ArrayOf). AreSizes b.sizes) (sym q) h
    only a (inr i) = absurd i

    named : (a : ArrayOf) → In a (one_array name z ∷ []) → a.name ≡ name
    named a (inl q) = ap (λ (b : ArrayOf). b.name) q
    named a (inr i) = absurd i

no_array : (name : List ℕ) (steps : List Step) → steps ≡ [] → IsWhole name steps
no_array name steps e = record { arrays = []; are = e; sizes = λ a i. absurd i; names = λ a i. absurd i; apart = tt }

a_row : (name : List ℕ) (n : ℕ) → tabulate (n * 1) (at_index name (n ∷ [])) ≡ array_steps name (Row n)
a_row name n =
    (let e : n * 1 ≡ n = omega arith in ap (λ k. tabulate k (at_index name (n ∷ []))) e)
    ∙ tabulate_like n (at_index name (n ∷ [])) (λ i. step name ((1 + i) ∷ [])) (λ i m. let e : i + 1 ≡ 1 + i = omega arith in ap (λ k. step name (k ∷ [])) e)
    ∙ sym (numbers_map 1 n (λ k. step name (k ∷ [])))

grid_row : (name : List ℕ) (n k : ℕ) → map (λ l. step name ((1 + k) ∷ l ∷ [])) (numbers 1 n) ≡ tabulate n (λ l. step name ((1 + k) ∷ (1 + l) ∷ []))
grid_row name n k = numbers_map 1 n (λ l. step name ((1 + k) ∷ l ∷ []))

a_grid : (name : List ℕ) (m n : ℕ) → tabulate (m * (n * 1)) (at_index name (m ∷ n ∷ [])) ≡ array_steps name (Grid m n)
a_grid name m n =
    (let e : n * 1 ≡ n = omega arith in ap (λ k. tabulate (m * k) (at_index name (m ∷ n ∷ []))) e)
    ∙ tabulate_like (m * n) (at_index name (m ∷ n ∷ [])) (λ i. step name ((1 + i / n) ∷ (1 + i % n) ∷ []))
    (λ i h. (let e : i / n + 1 ≡ 1 + i / n = omega arith in ap (λ k. step name (k ∷ (i % n + 1) ∷ [])) e) ∙ (let e : i % n + 1 ≡ 1 + i % n = omega arith in ap (λ k. step name ((1 + i / n) ∷ k ∷ [])) e))
    ∙ sym (flat_rows m n (λ k l. step name ((1 + k) ∷ (1 + l) ∷ [])))
    ∙ sym (flat_like (λ k. map (λ l. step name ((1 + k) ∷ l ∷ [])) (numbers 1 n)) (λ k. tabulate n (λ l. step name ((1 + k) ∷ (1 + l) ∷ []))) (numbers 0 m) (grid_row name n))
    ∙ sym (shifted 0 m (λ k. map (λ l. step name (k ∷ l ∷ [])) (numbers 1 n)))

-- the steps of all elements of these sizes, row by row
pub whole : (name s : List ℕ) → AreSmall s → IsWhole name (tabulate (size_of s) (at_index name s))
whole name [] h = an_array name (tabulate 1 (at_index name [])) Single refl tt
whole name (n ∷ []) h = by_lt 0 n
    (λ l. an_array name (tabulate (n * 1) (at_index name (n ∷ []))) (Row n) (a_row name n) (omega (arith, l), h.each n (inl refl)))
    (λ g. no_array name (tabulate (n * 1) (at_index name (n ∷ []))) (let e : n * 1 ≡ 0 = omega (arith, g) in ap (λ k. tabulate k (at_index name (n ∷ []))) e))
whole name (m ∷ n ∷ []) h = by_lt 0 m
    (λ l. by_lt 0 n
    (λ k. an_array name (tabulate (m * (n * 1)) (at_index name (m ∷ n ∷ []))) (Grid m n) (a_grid name m n) (omega (arith, l), h.each m (inl refl), omega (arith, k), h.each n (inr (inl refl)), few))
    (λ g. no_array name (tabulate (m * (n * 1)) (at_index name (m ∷ n ∷ []))) (none (let e : n * 1 ≡ 0 = omega (arith, g) in ap (λ k. m * k) e ∙ (let z : m * 0 ≡ 0 = omega arith in z)))))
    (λ g. no_array name (tabulate (m * (n * 1)) (at_index name (m ∷ n ∷ []))) (none (let e : m ≡ 0 = omega (arith, g) in ap (λ k. k * (n * 1)) e ∙ (let z : 0 * (n * 1) ≡ 0 = omega arith in z))))
  where
    few : m * n ≤ MOST_ITEMS
    few = let e : m * (n * 1) ≡ m * n = (let z : n * 1 ≡ n = omega arith in ap (λ k. m * k) z) in subst (λ k. k ≤ MOST_ITEMS) e h.items

    none : m * (n * 1) ≡ 0 → tabulate (m * (n * 1)) (at_index name (m ∷ n ∷ [])) ≡ []
    none e = ap (λ k. tabulate k (at_index name (m ∷ n ∷ []))) e
whole name (m ∷ n ∷ o ∷ more) h = absurd (let f = h.few in omega (arith, f))
