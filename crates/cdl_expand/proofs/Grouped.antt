-- Elements in the order of their instances.
use Rattle.std.proofs.Common.{◌≡◌, ℕ, zero, suc, ◌+◌, ◌<◌, ◌≤◌, ◌==◌, Bool, false, cond, not, List, [], ◌∷◌, ◌++◌, map, filter, length, Some, slice_get, refl, sym, ap, ◌∙◌, subst, arith, inl, inr}
use Rattle.std.specs.Prelude.{◌&&◌, slice_index_or}
use Rattle.std.specs.List.Sorted.{IsNonDecreasingBy, IsStableByKey}
use Rattle.std.specs.Ordering.{nat_cmp, is_lt}
use Rattle.std.specs.Cmp.{nat_cmp_is}
use Rattle.std.specs.declared.cmp.Ordering.TheVariants.{Less, Equal}
use Rattle.std.proofs.lemmas.Bool.{eqb-true, eq-eqb, and_right, false≢true}
use Rattle.std.proofs.lemmas.Option.{get_or_from_slice_get, slice_get_within}
use Rattle.std.proofs.lemmas.List.{map-append}
use Rattle.cdl_source.proofs.Cases.{by_bool, by_lt}
use Rattle.cdl_values.specs.declared.value.ValueType.TheVariants.{Boolean}
use Rattle.cdl_network.specs.Lists.{In, Apart, number}
use Rattle.cdl_network.proofs.Checking.{slice_in}
use Rattle.cdl_network.proofs.Inside.{kept_in, in_filter, in_slice}
use Rattle.cdl_network.proofs.Numbers.{number_place, number_same}
use Rattle.cdl_network.proofs.Places.{filter_no, filter_like}
use Rattle.cdl_network.proofs.Renaming.{filter_map}
use Rattle.cdl_paths.specs.declared.path.Step.{Step}
use Rattle.cdl_walk.specs.declared.walked.Element.{Element}
use Rattle.cdl_walk.specs.declared.walked.Instance.{Instance}
use Rattle.cdl_walk.specs.declared.walked.Point.{Point}
use Rattle.cdl_walk.specs.Events.{same_steps}
use Rattle.cdl_walk.specs.Instances.{Owned, seen_instance, seen_element, path_in, path_at}
use Rattle.cdl_model.specs.Networks.{paths}
use Rattle.cdl_model.specs.Parts.{own, by_instance}
use Rattle.cdl_model.proofs.Tests.{steps_tell}

abbrev pub of : ℕ → Element → Bool
of i e = e.instance == i

-- the elements of n instances from that number on, one instance after the other
abbrev pub group : ℕ → ℕ → List Element → List Element
group a zero es = []
group a (suc n) es = filter (of a) es ++ group (suc a) n es

pub unequal : (a b : ℕ) → (a ≡ b → ⊥) → (a == b) ≡ false
unequal a b f = by_bool (a == b) (λ t. absurd (f (eqb-true a b t))) (λ t. t)

skip : (e : Element) (es : List Element) (n b : ℕ) → e.instance < b → group b n (e ∷ es) ≡ group b n es
skip e es zero b l = refl
skip e es (suc n) b l =
    let h : of b e ≡ false = unequal e.instance b (λ q. omega (arith, l, q)) in
    ap (λ t. cond t (e ∷ filter (of b) es) (filter (of b) es) ++ group (suc b) n (e ∷ es)) h ∙ ap (λ (l : List Element). filter (of b) es ++ l) (skip e es n (suc b) (omega (arith, l)))

grow : (e : Element) (es : List Element) (n a : ℕ) → a ≤ e.instance → e.instance < a + n → ((x : Element) → In x es → e.instance ≤ x.instance) → group a n (e ∷ es) ≡ e ∷ group a n es
grow e es zero a l m f = absurd (omega (arith, l, m))
grow e es (suc n) a l m f = by_bool (of a e)
    (λ t. let q : e.instance ≡ a = eqb-true e.instance a t in
    ap (λ b. cond b (e ∷ filter (of a) es) (filter (of a) es) ++ group (suc a) n (e ∷ es)) t
    ∙ ap (λ (l : List Element). (e ∷ filter (of a) es) ++ l) (skip e es n (suc a) (omega (arith, q))))
    (λ t. let up : a < e.instance = above t in
    let none : filter (of a) es ≡ [] = filter_no (of a) es (λ x i. let g = f x i in unequal x.instance a (λ q. omega (arith, q, g, up))) in
    ap (λ b. cond b (e ∷ filter (of a) es) (filter (of a) es) ++ group (suc a) n (e ∷ es)) t
    ∙ ap (λ (l : List Element). l ++ group (suc a) n (e ∷ es)) none
    ∙ grow e es n (suc a) (omega (arith, up)) (omega (arith, m)) f
    ∙ ap (λ (l : List Element). e ∷ (l ++ group (suc a) n es)) (sym none))
  where
    above : of a e ≡ false → a < e.instance
    above t = by_lt a e.instance (λ h. h) (λ h. let q : e.instance ≡ a = omega (arith, l, h) in absurd (false≢true (sym t ∙ eq-eqb e.instance a q)))

-- each is of an instance whose number isn't smaller than those before
abbrev pub Rises : List Element → Type 0
Rises [] = Unit {0}
Rises (e ∷ es) = ((x : Element) → In x es → e.instance ≤ x.instance) × Rises es

pub rises : (es : List Element) → IsNonDecreasingBy (λ (e : Element). e.instance) es → Rises es
rises [] s = tt
rises (e ∷ es) s = (
  λ x i.
      let k = slice_in x es i in
      let g : slice_index_or es k.0 e ≡ x = get_or_from_slice_get es k.0 x e k.1 in
      let w : k.0 < length es = slice_get_within es k.0 x k.1 in
      let h : e.instance ≤ (slice_index_or es k.0 e).instance = s 0 (suc k.0) e (omega arith) (omega (arith, w)) in
      subst (λ (z : Element). e.instance ≤ z.instance) g h,
  rises es (λ i j d l m. s (suc i) (suc j) d (omega (arith, l)) (omega (arith, m))),
)

nothing : (n a : ℕ) → group a n [] ≡ []
nothing zero a = refl
nothing (suc n) a = nothing n (suc a)

pub whole : (es : List Element) (n : ℕ) → Rises es → ((x : Element) → In x es → x.instance < n) → es ≡ group 0 n es
whole [] n r f = sym (nothing n 0)
whole (e ∷ es) n r f =
    let b = f e (inl refl) in
    ap (λ (l : List Element). e ∷ l) (whole es n r.1 (λ x i. f x (inr i))) ∙ sym (grow e es n 0 (omega arith) (omega (arith, b)) r.0)

pub group_same : (xs ys : List Element) (n a : ℕ) → ((i : ℕ) → filter (of i) xs ≡ filter (of i) ys) → group a n xs ≡ group a n ys
group_same xs ys zero a f = refl
group_same xs ys (suc n) a f = ap (λ (l : List Element). l ++ group (suc a) n xs) (f a) ∙ ap (λ (l : List Element). filter (of a) ys ++ l) (group_same xs ys n (suc a) f)

-- ---- what a stable sort leaves

tie : (a b : ℕ) → (not (is_lt (nat_cmp a b)) && not (is_lt (nat_cmp b a))) ≡ (b == a)
tie a b = by_lt a b
    (λ l. ap (λ o. not (is_lt o) && not (is_lt (nat_cmp b a))) (sym (nat_cmp_is a b Less l)) ∙ sym (unequal b a (λ q. omega (arith, l, q))))
    (λ g. by_lt b a
    (λ l. and_right (not (is_lt (nat_cmp a b))) (not (is_lt (nat_cmp b a))) (ap (λ o. not (is_lt o)) (sym (nat_cmp_is b a Less l))) ∙ sym (unequal b a (λ q. omega (arith, l, q))))
    (λ h. let q : a ≡ b = omega (arith, g, h) in
    ap (λ o. not (is_lt o) && not (is_lt (nat_cmp b a))) (sym (nat_cmp_is a b Equal q)) ∙ ap (λ o. not (is_lt o)) (sym (nat_cmp_is b a Equal (sym q))) ∙ sym (eq-eqb b a (sym q))))

blank : Point
blank = record { name = []; indices = []; value_type = Boolean; input = false; unit = [] }

pub stays : (xs ys : List Element) → IsStableByKey (λ (e : Element). e.instance) nat_cmp xs ys → (i : ℕ) → filter (of i) ys ≡ filter (of i) xs
stays xs ys s i =
    let one : Element = record { instance = i; point = blank } in
    let f : Element → Bool = λ e. not (is_lt (nat_cmp i e.instance)) && not (is_lt (nat_cmp e.instance i)) in
    filter_like (of i) f ys (λ e m. sym (tie i e.instance)) ∙ s one ∙ filter_like f (of i) xs (λ e m. tie i e.instance)

pub stays_in : (xs ys : List Element) (e : Element) → ((i : ℕ) → filter (of i) ys ≡ filter (of i) xs) → In e ys → In e xs
stays_in xs ys e f m = in_filter (of e.instance) e xs (subst (λ l. In e l) (f e.instance) (kept_in (of e.instance) e ys m (eq-eqb e.instance e.instance refl)))

-- ---- by path

abbrev pub all_paths : List Instance → List (List Step)
all_paths xs = paths (map seen_instance xs)

path_slice : (xs : List Instance) (i : ℕ) → i < length xs → slice_get (all_paths xs) i ≡ Some (path_at xs i)
path_slice [] i l = absurd (omega (arith, l))
path_slice (x ∷ xs) zero l = refl
path_slice (x ∷ xs) (suc i) l = path_slice xs i (omega (arith, l))

pub place : (xs : List Instance) (i : ℕ) → Apart (all_paths xs) → i < length xs → number same_steps (all_paths xs) (path_at xs i) ≡ i
place xs i a l = number_place same_steps (all_paths xs) i (path_at xs i) steps_tell a (path_slice xs i l)

in_place : (xs : List Instance) (i : ℕ) → i < length xs → In (path_at xs i) (all_paths xs)
in_place xs i l = in_slice (all_paths xs) i (path_at xs i) (path_slice xs i l)

pub same_place : (xs : List Instance) (i j : ℕ) → Apart (all_paths xs) → i < length xs → j < length xs → same_steps (path_at xs i) (path_at xs j) ≡ (i == j)
same_place xs i j a l m =
    sym (number_same same_steps (all_paths xs) (path_at xs i) (path_at xs j) steps_tell (in_place xs i l) (in_place xs j m))
    ∙ ap (λ k. k == number same_steps (all_paths xs) (path_at xs j)) (place xs i a l) ∙ ap (λ k. i == k) (place xs j a m)

-- the instances have different paths, and the elements are of these instances
module _ (xs : List Instance) (es : List Element) (a : Apart (all_paths xs)) (o : (e : Element) → In e es → e.instance < length xs) where
  pub own_group : (i : ℕ) → i < length xs → own (map (seen_element xs) es) (path_at xs i) ≡ map (seen_element xs) (filter (of i) es)
  own_group i l = filter_map (seen_element xs) (of i) (λ (y : Owned). same_steps y.path (path_at xs i)) es (λ e m. same_place xs e.instance i a (o e m) l)

  pub grouped : (ys : List Instance) (b : ℕ) → ((k : ℕ) (y : Instance) → slice_get ys k ≡ Some y → slice_get xs (b + k) ≡ Some y)
      → by_instance (map seen_instance ys) (map (seen_element xs) es) ≡ map (seen_element xs) (group b (length ys) es)
  grouped [] b f = refl
  grouped (y ∷ ys) b f =
      let zero_is : b + 0 ≡ b = omega arith in
      let here : slice_get xs b ≡ Some y = ap (slice_get xs) (sym zero_is) ∙ f 0 y refl in
      let path : y.path.steps ≡ path_at xs b = sym (ap path_in here) in
      let l : b < length xs = slice_get_within xs b y here in
      ap (λ p. own (map (seen_element xs) es) p ++ by_instance (map seen_instance ys) (map (seen_element xs) es)) path
      ∙ ap (λ (z : List Owned). z ++ by_instance (map seen_instance ys) (map (seen_element xs) es)) (own_group b l)
      ∙ ap (λ (z : List Owned). map (seen_element xs) (filter (of b) es) ++ z) (grouped ys (suc b) (λ k z e. let next : suc b + k ≡ b + suc k = omega arith in ap (slice_get xs) next ∙ f (suc k) z e))
      ∙ sym (map-append (seen_element xs) (filter (of b) es) (group (suc b) (length ys) es))

  -- sorted, they are the elements by instance
  pub sorted_elements : (fs : List Element) → Rises fs → ((i : ℕ) → filter (of i) fs ≡ filter (of i) es) → by_instance (map seen_instance xs) (map (seen_element xs) es) ≡ map (seen_element xs) fs
  sorted_elements fs r s =
      grouped xs 0 (λ k y e. let none : 0 + k ≡ k = omega arith in ap (slice_get xs) none ∙ e)
      ∙ ap (map (seen_element xs)) (sym (group_same fs es (length xs) 0 s) ∙ sym (whole fs (length xs) r (λ x m. o x (stays_in es fs x s m))))
