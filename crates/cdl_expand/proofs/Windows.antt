-- The windows of instances, and the net's lists from the walk's.
use Rattle.std.proofs.Common.{length-append, ◌≡◌, ◌⊎◌, ℕ, zero, suc, ◌+◌, ◌-◌, ◌<◌, ◌≤◌, Bool, true, false, cond, List, [], ◌∷◌, ◌++◌, map, filter, length, Option, Some, None, slice_get, refl, sym, ap, ◌∙◌, subst, arith, inl, inr}
use Rattle.std.specs.Prelude.{nat_lt, option_map, slice_index_or}
use Rattle.std.specs.List.Sorted.{IsNonDecreasingBy}
use Rattle.std.proofs.lemmas.Bool.{eq-eqb, lt-ltb, le-ltb}
use Rattle.std.proofs.lemmas.List.{length-map}
use Rattle.std.proofs.lemmas.List.Sums.{length-filter}
use Rattle.std.proofs.lemmas.Option.{slice_get_within, slice_get-get_or}
use Rattle.cdl_source.proofs.Cases.{by_lt}
use Rattle.cdl_connect.specs.declared.net.Body.{Body}
use Rattle.cdl_connect.specs.declared.net.NetElement.{NetElement}
use Rattle.cdl_connect.specs.declared.net.NetInstance.{NetInstance}
use Rattle.cdl_network.specs.Lists.{In, count}
use Rattle.cdl_network.specs.Network.{Wire}
use Rattle.cdl_network.proofs.Numbers.{map_twice}
use Rattle.cdl_network.proofs.Places.{count_is}
use Rattle.cdl_network.proofs.Rules.{count_map}
use Rattle.cdl_paths.specs.declared.path.Step.{Step}
use Rattle.cdl_walk.specs.declared.walked.Element.{Element}
use Rattle.cdl_walk.specs.declared.walked.Instance.{Instance}
use Rattle.cdl_walk.specs.declared.walked.Walked.{Walked}
use Rattle.cdl_walk.specs.Instances.{Owned, seen_instance, seen_element, path_in, path_at, IsPartOf}
use Rattle.cdl_walk.specs.Texts.{path_text, step_text}
use Rattle.cdl_model.specs.Names.{ElementName}
use Rattle.cdl_model.specs.Networks.{parent_path}
use Rattle.cdl_model.specs.Parts.{own, by_instance}
use Rattle.cdl_model.specs.NetOf.{body_of, instance_number, net_instance, net_element}
use Rattle.cdl_expand.proofs.Placed.{IsPlaced, instances_seen, elements_seen, unfolded}
use Rattle.cdl_expand.specs.inner.Numbered.{IsBoundary, at_number, at_numbers, numbered, with_window}
use Rattle.cdl_expand.proofs.Grouped.{Rises, of, own_group, place, sorted_elements, stays_in, unequal}

-- ---- places between instances

pub count_none : (f : Element → Bool) (es : List Element) → ((x : ℕ) (d : Element) → x < length es → f (slice_index_or es x d) ≡ false) → count f es ≡ 0
count_none f [] h = refl
count_none f (e ∷ es) h = ap (λ b. cond b (suc (count f es)) (count f es)) (h 0 e (omega arith)) ∙ count_none f es (λ x d l. h (suc x) d (omega (arith, l)))

abbrev pub before_it : ℕ → Element → Bool
before_it i e = nat_lt e.instance i

pub count_before : (es : List Element) (i k : ℕ) → IsBoundary es i k → count (before_it i) es ≡ k
count_before [] i k b = let w = b.within in omega (arith, w)
count_before (e ∷ es) i zero b = count_none (before_it i) (e ∷ es) (λ x d l. le-ltb (slice_index_or (e ∷ es) x d).instance i (b.behind x d (omega arith) l))
count_before (e ∷ es) i (suc k) b =
    ap (λ t. cond t (suc (count (before_it i) es)) (count (before_it i) es)) (lt-ltb e.instance i (b.before 0 e (omega arith)))
    ∙ ap suc (count_before es i k (record {
      within = let w = b.within in omega (arith, w);
      before = λ x d l. b.before (suc x) d (omega (arith, l));
      behind = λ x d l m. b.behind (suc x) d (omega (arith, l)) (omega (arith, m));
    }))

added : (b c : Bool) (m n : ℕ) → ((b ≡ true) × (c ≡ false)) ⊎ (((b ≡ false) × (c ≡ true)) ⊎ ((b ≡ false) × (c ≡ false))) → (d : Bool) → d ≡ cond b true c → cond d (suc (m + n)) (m + n) ≡ cond b (suc m) m + cond c (suc n) n
added b c m n (inl h) d e = ap (λ t. cond t (suc (m + n)) (m + n)) (e ∙ ap (λ t. cond t true c) h.0) ∙ (let q : suc (m + n) ≡ suc m + n = omega arith in q) ∙ sym (ap (λ t. cond t (suc m) m + cond c (suc n) n) h.0 ∙ ap (λ t. suc m + cond t (suc n) n) h.1)
added b c m n (inr (inl h)) d e = ap (λ t. cond t (suc (m + n)) (m + n)) (e ∙ ap (λ t. cond t true c) h.0 ∙ h.1) ∙ (let q : suc (m + n) ≡ m + suc n = omega arith in q) ∙ sym (ap (λ t. cond t (suc m) m + cond c (suc n) n) h.0 ∙ ap (λ t. m + cond t (suc n) n) h.1)
added b c m n (inr (inr h)) d e = ap (λ t. cond t (suc (m + n)) (m + n)) (e ∙ ap (λ t. cond t true c) h.0 ∙ h.1) ∙ sym (ap (λ t. cond t (suc m) m + cond c (suc n) n) h.0 ∙ ap (λ t. m + cond t (suc n) n) h.1)

pub up_to : (es : List Element) (i : ℕ) → count (before_it (i + 1)) es ≡ count (before_it i) es + count (of i) es
up_to [] i = refl
up_to (e ∷ es) i = ap (λ z. cond (before_it (i + 1) e) (suc z) z) (up_to es i)
    ∙ added (before_it i e) (of i e) (count (before_it i) es) (count (of i) es) cases (before_it (i + 1) e) is
  where
    cases : ((before_it i e ≡ true) × (of i e ≡ false)) ⊎ (((before_it i e ≡ false) × (of i e ≡ true)) ⊎ ((before_it i e ≡ false) × (of i e ≡ false)))
    cases = by_lt e.instance i
        (λ l. inl (lt-ltb e.instance i l, unequal e.instance i (λ q. omega (arith, l, q))))
        (λ g. inr (by_lt i e.instance
        (λ l. inr (le-ltb e.instance i g, unequal e.instance i (λ q. omega (arith, l, q))))
        (λ h. inl (le-ltb e.instance i g, eq-eqb e.instance i (omega (arith, g, h))))))

    is : before_it (i + 1) e ≡ cond (before_it i e) true (of i e)
    is = by_lt e.instance i
        (λ l. lt-ltb e.instance (i + 1) (omega (arith, l)) ∙ sym (ap (λ t. cond t true (of i e)) (lt-ltb e.instance i l)))
        (λ g. by_lt i e.instance
        (λ l. le-ltb e.instance (i + 1) (omega (arith, l)) ∙ sym (ap (λ t. cond t true (of i e)) (le-ltb e.instance i g) ∙ unequal e.instance i (λ q. omega (arith, l, q))))
        (λ h. lt-ltb e.instance (i + 1) (omega (arith, h)) ∙ sym (ap (λ t. cond t true (of i e)) (le-ltb e.instance i g) ∙ eq-eqb e.instance i (omega (arith, g, h)))))

pub count_own : (es : List Element) (i j k : ℕ) → IsBoundary es i j → IsBoundary es (i + 1) k → count (of i) es ≡ k - j
count_own es i j k b c =
    let x = count_before es i j b in
    let y = count_before es (i + 1) k c in
    let z = up_to es i in
    omega (arith, x, y, z)

pub begins : (es : List Element) → IsBoundary es 0 0
begins es = record { within = omega arith; before = λ x d l. absurd (omega (arith, l)); behind = λ x d l m. omega arith }

pub window_is : (es : List Element) (i j k : ℕ) (x : Instance) → IsBoundary es i j → IsBoundary es (i + 1) k → with_window x j (k - j) ≡ at_number es i x
window_is es i j k x b c = ap (λ n. with_window x n (k - j)) (sym (count_before es i j b)) ∙ ap (λ n. with_window x (count (before_it i) es) n) (sym (count_own es i j k b c))

pub numbers_push : (es : List Element) (i : ℕ) (xs : List Instance) (x : Instance) → at_numbers es i (xs ++ x ∷ []) ≡ at_numbers es i xs ++ at_number es (i + length xs) x ∷ []
numbers_push es i [] x = let e : i ≡ i + 0 = omega arith in ap (λ n. at_number es n x ∷ []) e
numbers_push es i (y ∷ ys) x = let e : suc i + length ys ≡ i + suc (length ys) = omega arith in
    ap (λ (l : List NetInstance). at_number es i y ∷ l) (numbers_push es (suc i) ys x) ∙ ap (λ n. at_number es i y ∷ (at_numbers es (suc i) ys ++ at_number es n x ∷ [])) e

pub numbers_length : (es : List Element) (i : ℕ) (xs : List Instance) → length (at_numbers es i xs) ≡ length xs
numbers_length es i [] = refl
numbers_length es i (x ∷ xs) = ap suc (numbers_length es (suc i) xs)

-- ---- the net's lists

abbrev made : List ℕ → Option ℕ → Body → ℕ → ℕ → NetInstance
made p o b i j = record { path = p; parent = o; body = b; first = i; count = j }

-- es are the elements of the walk, sorted
module _ (m : Walked) (ws : List (Wire (List Step) ElementName)) (es : List Element) (p : IsPlaced m) (r : Rises es) (s : (i : ℕ) → filter (of i) es ≡ filter (of i) m.elements) where
  pub elements_are : by_instance (instances_seen m) (elements_seen m) ≡ map (seen_element m.instances) es
  elements_are = sorted_elements m.instances m.elements p.once p.owners es r s

  owned_below : (e : Element) → In e es → e.instance < length m.instances
  owned_below e i = p.owners e (stays_in m.elements es e s i)

  number_is : (i : ℕ) → i < length m.instances → instance_number (instances_seen m) (path_at m.instances i) ≡ i
  number_is i l = place m.instances i p.once l

  parent_is : (i : ℕ) (q : List Step) (o : Option ℕ) → i < length m.instances → IsPartOf m.instances i q o → o ≡ option_map (instance_number (instances_seen m)) (parent_path q)
  parent_is i [] o l h = h
  parent_is i (t ∷ rest) None l h = absurd h
  parent_is i (t ∷ rest) (Some j) l h = ap Some (sym (number_is j (omega (arith, l, h.0))) ∙ ap (instance_number (instances_seen m)) h.1)

  first_is : (i : ℕ) → i < length m.instances
      → count (before_it i) es ≡ count (λ (y : Owned). nat_lt (instance_number (instances_seen m) y.path) (instance_number (instances_seen m) (path_at m.instances i))) (by_instance (instances_seen m) (elements_seen m))
  first_is i l =
      sym (count_map (seen_element m.instances) (before_it i) (λ (y : Owned). nat_lt (instance_number (instances_seen m) y.path) (instance_number (instances_seen m) (path_at m.instances i))) es
      (λ e j. ap (λ n. nat_lt n (instance_number (instances_seen m) (path_at m.instances i))) (number_is e.instance (owned_below e j)) ∙ ap (λ n. nat_lt e.instance n) (number_is i l)))
      ∙ ap (count (λ (y : Owned). nat_lt (instance_number (instances_seen m) y.path) (instance_number (instances_seen m) (path_at m.instances i)))) (sym elements_are)

  count_own_is : (i : ℕ) → i < length m.instances → count (of i) es ≡ length (own (by_instance (instances_seen m) (elements_seen m)) (path_at m.instances i))
  count_own_is i l =
      count_is (of i) es ∙ sym (length-filter (of i) es) ∙ sym (length-map (filter (of i) es) (seen_element m.instances))
      ∙ ap length (sym (own_group m.instances es p.once owned_below i l)) ∙ ap (λ (ys : List Owned). length (own ys (path_at m.instances i))) (sym elements_are)

  instance_is : (i : ℕ) (x : Instance) → slice_get m.instances i ≡ Some x → at_number es i x ≡ net_instance (unfolded m ws) (seen_instance x)
  instance_is i x e =
      let l = slice_get_within m.instances i x e in
      let q : path_at m.instances i ≡ x.path.steps = ap path_in e in
      ap (λ o. made (path_text x.path.steps) o (body_of x.content) (count (before_it i) es) (count (of i) es)) (parent_is i x.path.steps x.parent l (p.parents i x e))
      ∙ ap (λ n. made (path_text x.path.steps) (option_map (instance_number (instances_seen m)) (parent_path x.path.steps)) (body_of x.content) n (count (of i) es)) (first_is i l)
      ∙ ap (λ n. made (path_text x.path.steps) (option_map (instance_number (instances_seen m)) (parent_path x.path.steps)) (body_of x.content)
      (count (λ (y : Owned). nat_lt (instance_number (instances_seen m) y.path) (instance_number (instances_seen m) (path_at m.instances i))) (by_instance (instances_seen m) (elements_seen m))) n) (count_own_is i l)
      ∙ ap (λ z. made (path_text x.path.steps) (option_map (instance_number (instances_seen m)) (parent_path x.path.steps)) (body_of x.content)
      (count (λ (y : Owned). nat_lt (instance_number (instances_seen m) y.path) (instance_number (instances_seen m) z)) (by_instance (instances_seen m) (elements_seen m)))
      (length (own (by_instance (instances_seen m) (elements_seen m)) z))) q

  instances_from : (ys : List Instance) (b : ℕ) → ((k : ℕ) (y : Instance) → slice_get ys k ≡ Some y → slice_get m.instances (b + k) ≡ Some y) → at_numbers es b ys ≡ map (net_instance (unfolded m ws)) (map seen_instance ys)
  instances_from [] b f = refl
  instances_from (y ∷ ys) b f =
      let zero_is : b + 0 ≡ b = omega arith in
      ap (λ z. z ∷ at_numbers es (suc b) ys) (instance_is b y (ap (slice_get m.instances) (sym zero_is) ∙ f 0 y refl))
      ∙ ap (λ l. net_instance (unfolded m ws) (seen_instance y) ∷ l) (instances_from ys (suc b) (λ k z e. let next : suc b + k ≡ b + suc k = omega arith in ap (slice_get m.instances) next ∙ f (suc k) z e))

  pub instances_are : at_numbers es 0 m.instances ≡ map (net_instance (unfolded m ws)) (instances_seen m)
  instances_are = instances_from m.instances 0 (λ k y e. let none : 0 + k ≡ k = omega arith in ap (slice_get m.instances) none ∙ e)

  pub net_elements_are : map numbered es ≡ map (net_element (unfolded m ws)) (unfolded m ws).elements
  net_elements_are =
      map_twice (seen_element m.instances) (net_element (unfolded m ws)) numbered es (λ e i. ap (λ n. with_instance n e) (sym (number_is e.instance (owned_below e i))))
      ∙ ap (map (net_element (unfolded m ws))) (sym elements_are)
    where
      with_instance : ℕ → Element → NetElement
      with_instance n e = record { instance = n; name = step_text (record { name = e.point.name; indices = e.point.indices }); value_type = e.point.value_type; unit = e.point.unit; input = e.point.input }

-- ---- steps of the code

index_same : (es : List Element) (k : ℕ) (d e : Element) → k < length es → slice_index_or es k d ≡ slice_index_or es k e
index_same es k d e l = let h : Some (slice_index_or es k d) ≡ Some (slice_index_or es k e) = sym (slice_get-get_or es k d l) ∙ slice_get-get_or es k e l in cc

pub stopped : (es : List Element) (i first end : ℕ) (e : Element) → IsNonDecreasingBy (λ (z : Element). z.instance) es → IsBoundary es i first → first ≤ end → end < length es
    → ((x : ℕ) (d : Element) → first ≤ x → x < end → (slice_index_or es x d).instance ≡ i) → ((slice_index_or es end e).instance ≡ i → ⊥) → IsBoundary es (i + 1) end
stopped es i first end e s b f l own differs = record {
  within = omega (arith, l);
  before = λ x d m. by_lt x first (λ g. let h = b.before x d g in omega (arith, h)) (λ g. let h = own x d g m in omega (arith, h));
  behind = λ x d g m.
      let up : (slice_index_or es end d).instance ≤ (slice_index_or es x d).instance = s end x d g m in
      let low : i ≤ (slice_index_or es end e).instance = b.behind end e f l in
      let here : (slice_index_or es end d).instance ≡ (slice_index_or es end e).instance = ap (λ (z : Element). z.instance) (index_same es end d e l) in
      let more : i < (slice_index_or es end e).instance = by_lt i (slice_index_or es end e).instance (λ h. h) (λ h. absurd (differs (omega (arith, low, h)))) in
      omega (arith, up, here, more);
}

pub more : (es : List Element) (ys : List Instance) (x : Instance) (all items new : List NetInstance) (item : NetInstance) (first end : ℕ) → all ≡ at_numbers es 0 ys → items ≡ all → IsBoundary es (length ys) first
    → IsBoundary es (length items + 1) end → item ≡ with_window x first (end - first) → new ≡ all ++ item ∷ [] → (new ≡ at_numbers es 0 (ys ++ x ∷ [])) × IsBoundary es (length (ys ++ x ∷ [])) end
more es ys x all items new item first end so lent b c w push =
    let size : length items ≡ length ys = ap length (lent ∙ so) ∙ numbers_length es 0 ys in
    let next : IsBoundary es (length ys + 1) end = subst (λ n. IsBoundary es (n + 1) end) size c in
    let grown : length (ys ++ x ∷ []) ≡ length ys + 1 = length-append ys (x ∷ []) in
    let zero_is : length ys ≡ 0 + length ys = omega arith in (
      push ∙ ap (λ (l : List NetInstance). l ++ item ∷ []) so
          ∙ ap (λ z. at_numbers es 0 ys ++ z ∷ []) (w ∙ window_is es (length ys) first end x b next ∙ ap (λ n. at_number es n x) zero_is)
          ∙ sym (numbers_push es 0 ys x),
      subst (λ n. IsBoundary es n end) (sym grown) next,
    )

pub lent_first : (es : List Element) (ys : List Instance) (all items : List NetInstance) (first : ℕ) → all ≡ at_numbers es 0 ys → items ≡ all → IsBoundary es (length ys) first → IsBoundary es (length items) first
lent_first es ys all items first so lent b = subst (λ n. IsBoundary es n first) (sym (ap length (lent ∙ so) ∙ numbers_length es 0 ys)) b
