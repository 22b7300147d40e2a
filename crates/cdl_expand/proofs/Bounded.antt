-- The windows of a net whose elements stand by instance.
use Rattle.std.proofs.Common.{◌≡◌, ℕ, zero, suc, ◌+◌, ◌<◌, ◌≤◌, ◌==◌, cond, List, [], ◌∷◌, map, length, Some, None, slice_get, refl, sym, ap, ◌∙◌, subst, arith, inl, inr}
use Rattle.std.specs.Prelude.{◌&&◌, nat_le, nat_lt, slice_index_or}
use Rattle.std.specs.List.Sorted.{IsNonDecreasingBy}
use Rattle.std.proofs.lemmas.Bool.{eq-eqb, lt-ltb, le-ltb, le-leb, lt-leb, and_right}
use Rattle.std.proofs.lemmas.List.{length-map}
use Rattle.std.proofs.lemmas.Option.{slice_get-get_or, get_or_from_slice_get}
use Rattle.cdl_source.proofs.Cases.{by_lt}
use Rattle.cdl_connect.specs.declared.net.Net.{Net}
use Rattle.cdl_connect.specs.declared.net.NetElement.{NetElement}
use Rattle.cdl_connect.specs.declared.net.NetInstance.{NetInstance}
use Rattle.cdl_connect.specs.Nets.{element, no_element}
use Rattle.cdl_connect.specs.WellFormed.{AreWindows}
use Rattle.cdl_network.specs.Lists.{In, count}
use Rattle.cdl_network.proofs.Inside.{in_slice}
use Rattle.cdl_network.proofs.Renaming.{of_slice_map}
use Rattle.cdl_walk.specs.declared.walked.Element.{Element}
use Rattle.cdl_walk.specs.declared.walked.Instance.{Instance}
use Rattle.cdl_expand.specs.inner.Numbered.{IsBoundary, at_number, at_numbers, numbered}
use Rattle.cdl_expand.proofs.Grouped.{Rises, of, rises, unequal}
use Rattle.cdl_expand.proofs.Windows.{before_it, count_none, up_to, numbers_length}

-- ---- boundaries

index_in : (es : List Element) (x : ℕ) (d : Element) → x < length es → In (slice_index_or es x d) es
index_in es x d l = in_slice es x (slice_index_or es x d) (slice_get-get_or es x d l)

-- none is of an instance before i, where the first isn't
pub none_before : (es : List Element) (i : ℕ) → ((x : Element) → In x es → i ≤ x.instance) → count (before_it i) es ≡ 0
none_before es i f = count_none (before_it i) es (λ x d l. le-ltb (slice_index_or es x d).instance i (f (slice_index_or es x d) (index_in es x d l)))

behind_all : (es : List Element) (i x : ℕ) (d : Element) → ((y : Element) → In y es → i ≤ y.instance) → x < length es → i ≤ (slice_index_or es x d).instance
behind_all es i x d f l = f (slice_index_or es x d) (index_in es x d l)

pub bounds : (es : List Element) (i : ℕ) → Rises es → IsBoundary es i (count (before_it i) es)
bounds [] i r = record { within = omega arith; before = λ x d l. absurd (omega (arith, l)); behind = λ x d l m. absurd (omega (arith, m)) }
bounds (e ∷ es) i r = by_lt e.instance i
    (λ l. let b = bounds es i r.1 in
    let n : count (before_it i) (e ∷ es) ≡ suc (count (before_it i) es) = ap (λ t. cond t (suc (count (before_it i) es)) (count (before_it i) es)) (lt-ltb e.instance i l) in
    subst (λ k. IsBoundary (e ∷ es) i k) (sym n) (after l b))
    (λ g. let low : (x : Element) → In x (e ∷ es) → i ≤ x.instance = λ x m. above g x m in
    let n : count (before_it i) (e ∷ es) ≡ 0 = none_before (e ∷ es) i low in
    subst (λ k. IsBoundary (e ∷ es) i k) (sym n) (record { within = omega arith; before = λ x d l. absurd (omega (arith, l)); behind = λ x d l m. behind_all (e ∷ es) i x d low m }))
  where
    above : i ≤ e.instance → (x : Element) → In x (e ∷ es) → i ≤ x.instance
    above g x (inl q) = subst (λ (z : Element). i ≤ z.instance) (sym q) g
    above g x (inr m) = let h = r.0 x m in omega (arith, g, h)

    before_next : e.instance < i → IsBoundary es i (count (before_it i) es) → (x : ℕ) (d : Element) → x < suc (count (before_it i) es) → (slice_index_or (e ∷ es) x d).instance < i
    before_next l b zero d m = l
    before_next l b (suc x) d m = b.before x d (omega (arith, m))

    behind_next : IsBoundary es i (count (before_it i) es) → (x : ℕ) (d : Element) → suc (count (before_it i) es) ≤ x → x < length (e ∷ es) → i ≤ (slice_index_or (e ∷ es) x d).instance
    behind_next b zero d m n = absurd (omega (arith, m))
    behind_next b (suc x) d m n = b.behind x d (omega (arith, m)) (omega (arith, n))

    after : e.instance < i → IsBoundary es i (count (before_it i) es) → IsBoundary (e ∷ es) i (suc (count (before_it i) es))
    after l b = record { within = let w = b.within in omega (arith, w); before = before_next l b; behind = behind_next b }

-- ---- windows

-- the instance of that number
pub window_at : (es : List Element) (xs : List Instance) (b i : ℕ) (t : NetInstance) → slice_get (at_numbers es b xs) i ≡ Some t → (x : Instance) × (slice_get xs i ≡ Some x) × (t ≡ at_number es (b + i) x)
window_at es [] b i t e = absurd (no_item t e)
  where
    no_item : (u : NetInstance) → None ≡ Some u → ⊥
    no_item u h = cc
window_at es (x ∷ xs) b zero t e = let same : b ≡ b + 0 = omega arith in (x, refl, sym (some_same e) ∙ ap (λ n. at_number es n x) same)
  where
    some_same : Some (at_number es b x) ≡ Some t → at_number es b x ≡ t
    some_same h = cc
window_at es (x ∷ xs) b (suc i) t e =
    let r = window_at es xs (suc b) i t e in
    let same : suc b + i ≡ b + suc i = omega arith in
    (r.0, r.1, r.2 ∙ ap (λ n. at_number es n r.0) same)

-- whether a place lies in a window tells whether the element there is the instance's
window_tells : (k c x i j : ℕ) → (x < k → j < i) → (k ≤ x → i ≤ j) → (x < k + c → j < i + 1) → (k + c ≤ x → i + 1 ≤ j) → (j == i) ≡ (nat_le k x && nat_lt x (k + c))
window_tells k c x i j a b d e = by_lt x k
    (λ l. let h = a l in unequal j i (λ q. omega (arith, q, h)) ∙ sym (ap (λ t. t && nat_lt x (k + c)) (lt-leb k x l)))
    (λ g. by_lt x (k + c)
    (λ l. let p = b g in let q = d l in let same : j ≡ i = omega (arith, p, q) in eq-eqb j i same ∙ sym (ap (λ t. t && nat_lt x (k + c)) (le-leb k x g) ∙ lt-ltb x (k + c) l))
    (λ h. let p = e h in unequal j i (λ q. omega (arith, q, p)) ∙ sym (and_right (nat_le k x) (nat_lt x (k + c)) (le-ltb x (k + c) h))))

module _ (n : Net) (xs : List Instance) (es : List Element) (e : n.elements ≡ map numbered es) (f : n.instances ≡ at_numbers es 0 xs) (s : IsNonDecreasingBy (λ (x : Element). x.instance) es) where
  pub size_is : length n.elements ≡ length es
  size_is = ap length e ∙ length-map es numbered

  pub element_is : (x : ℕ) → x < length n.elements → (y : Element) × (slice_get es x ≡ Some y) × (element n x ≡ numbered y)
  element_is x l = of_slice_map numbered es n.elements x (element n x) e (slice_get-get_or n.elements x no_element l)

  rising_at : (x y : ℕ) → x ≤ y → y < length n.elements → (element n x).instance ≤ (element n y).instance
  rising_at x y l m =
      let a = element_is x (omega (arith, l, m)) in
      let b = element_is y m in
      let p : (slice_index_or es x a.0).instance ≤ (slice_index_or es y a.0).instance = s x y a.0 l (let z = size_is in omega (arith, m, z)) in
      let q : (slice_index_or es x a.0).instance ≡ (element n x).instance = ap (λ (z : Element). z.instance) (get_or_from_slice_get es x a.0 a.0 a.1) ∙ sym (ap (λ (z : NetElement). z.instance) a.2) in
      let r : (slice_index_or es y a.0).instance ≡ (element n y).instance = ap (λ (z : Element). z.instance) (get_or_from_slice_get es y b.0 a.0 b.1) ∙ sym (ap (λ (z : NetElement). z.instance) b.2) in
      omega (arith, p, q, r)

  pub window_of : (i : ℕ) (t : NetInstance) → slice_get n.instances i ≡ Some t → (x : Instance) × (slice_get xs i ≡ Some x) × (t ≡ at_number es i x)
  window_of i t h =
      let r = window_at es xs 0 i t (ap (λ l. slice_get l i) (sym f) ∙ h) in
      let same : 0 + i ≡ i = omega arith in
      (r.0, r.1, r.2 ∙ ap (λ k. at_number es k r.0) same)

  first_is : (i : ℕ) (t : NetInstance) → slice_get n.instances i ≡ Some t → IsBoundary es i t.first
  first_is i t h = let r = window_of i t h in subst (λ k. IsBoundary es i k) (sym (ap (λ (z : NetInstance). z.first) r.2)) (bounds es i (rises es s))

  end_is : (i : ℕ) (t : NetInstance) → slice_get n.instances i ≡ Some t → IsBoundary es (i + 1) (t.first + t.count)
  end_is i t h =
      let r = window_of i t h in
      let a : t.first ≡ count (before_it i) es = ap (λ (z : NetInstance). z.first) r.2 in
      let b : t.count ≡ count (of i) es = ap (λ (z : NetInstance). z.count) r.2 in
      let c = up_to es i in
      let d : count (before_it (i + 1)) es ≡ t.first + t.count = omega (arith, a, b, c) in
      subst (λ k. IsBoundary es (i + 1) k) d (bounds es (i + 1) (rises es s))

  own_at : (i : ℕ) (t : NetInstance) (x : ℕ) → slice_get n.instances i ≡ Some t → x < length n.elements → ((element n x).instance == i) ≡ (nat_le t.first x && nat_lt x (t.first + t.count))
  own_at i t x h l =
      let a = element_is x l in
      let b = first_is i t h in
      let c = end_is i t h in
      let z = size_is in
      let q : (slice_index_or es x a.0).instance ≡ a.0.instance = ap (λ (y : Element). y.instance) (get_or_from_slice_get es x a.0 a.0 a.1) in
      ap (λ (y : NetElement). y.instance == i) a.2
      ∙ window_tells t.first t.count x i a.0.instance
      (λ m. let g = b.before x a.0 m in omega (arith, g, q))
      (λ m. let g = b.behind x a.0 m (omega (arith, l, z)) in omega (arith, g, q))
      (λ m. let g = c.before x a.0 m in omega (arith, g, q))
      (λ m. let g = c.behind x a.0 m (omega (arith, l, z)) in omega (arith, g, q))

  pub windows : AreWindows n
  windows = record {
    rising = rising_at;
    within = λ i t h. let c = end_is i t h in let w = c.within in let z = size_is in omega (arith, w, z);
    own = own_at;
  }

  pub instances_count : length n.instances ≡ length xs
  instances_count = ap length f ∙ numbers_length es 0 xs
