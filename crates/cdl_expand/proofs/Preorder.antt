-- The instances of the net stand in preorder, and at most 16 steps below the root.
use Rattle.std.proofs.Common.{◌≡◌, ◌⊎◌, ℕ, zero, suc, ◌+◌, ◌<◌, ◌≤◌, ◌==◌, Bool, true, false, cond, List, [], ◌∷◌, ◌++◌, map, length, length-append, append_assoc, Option, Some, None, slice_get, refl, sym, ap, ◌∙◌, subst, arith, inl, inr}
use Rattle.std.specs.Prelude.{◌||◌, option_map, unwrap_or}
use Rattle.std.specs.List.{list_any}
use Rattle.std.proofs.lemmas.Bool.{eq-eqb}
use Rattle.std.proofs.lemmas.List.{append-nil, length-map}
use Rattle.std.proofs.lemmas.Option.{slice_get_within}
use Rattle.cdl_source.specs.declared.limits.TheConstants.{MOST_STEPS}
use Rattle.cdl_connect.specs.declared.net.Net.{Net}
use Rattle.cdl_connect.specs.Nets.{parent_of}
use Rattle.cdl_connect.specs.WellFormed.{IsPreorder, lineage, parent_at}
use Rattle.cdl_network.specs.Lists.{In, has_some}
use Rattle.cdl_network.specs.Rules.{is_some_same}
use Rattle.cdl_network.proofs.Inside.{in_slice}
use Rattle.cdl_network.proofs.Numbers.{number_place}
use Rattle.cdl_network.proofs.Renaming.{of_slice_map, slice_map}
use Rattle.cdl_paths.specs.declared.path.Step.{Step}
use Rattle.cdl_params.specs.Kept.{Model}
use Rattle.cdl_stations.specs.Keys.{In as InKeys}
use Rattle.cdl_walk.specs.declared.walked.Instance.{Instance}
use Rattle.cdl_walk.specs.Events.{outer, same_steps}
use Rattle.cdl_walk.specs.Instances.{Thing, Block, Elementary, Elements, Seen, IsPartOf, instances_from, seen_instance}
use Rattle.cdl_walk.specs.Instances.{path_in as instance_path}
use Rattle.cdl_walk.specs.Judges.{NoneFails}
use Rattle.cdl_walk.specs.Stations.{InModel, the_root}
use Rattle.cdl_model.specs.Apart.{AreApart}
use Rattle.cdl_model.specs.NetOf.{NetOf, instance_number, net_instance}
use Rattle.cdl_model.specs.Networks.{paths, parent_path}
use Rattle.cdl_model.specs.Parts.{Unfolding, AreParts}
use Rattle.cdl_model.proofs.Tests.{steps_tell}
use Rattle.cdl_expand.proofs.Adjacent.{are_next, next_starts}
use Rattle.cdl_expand.proofs.Composite.{at_path, lineage_short, parent_shorter, root_is}
use Rattle.cdl_expand.proofs.Fine.{Good, all_good}
use Rattle.cdl_expand.proofs.Indexed.{path_in}
use Rattle.cdl_expand.proofs.Rooted.{block_seen, root_first, thing_at}
use Rattle.cdl_expand.proofs.Things.{outer_push}

-- ---- paths

-- a list without its last item, and that item
record Pushed {A : Type 0} (xs : List A) : Type 0 where
  front : List A
  last : A
  are : xs ≡ front ++ last ∷ []

pushed : {A : Type 0} (x : A) (xs : List A) → Pushed (x ∷ xs)
pushed x [] = record { front = []; last = x; are = refl }
pushed {A} x (y ∷ ys) = let r = pushed y ys in record { front = x ∷ r.front; last = r.last; are = ap (λ (l : List A). x ∷ l) r.are }

parent_push : (p : List Step) (s : Step) → parent_path (p ++ s ∷ []) ≡ Some p
parent_push [] s = ap Some (outer_push [] s)
parent_push (x ∷ p) s = ap Some (outer_push (x ∷ p) s)

any_there : {A : Type 0} (f : A → Bool) (x : A) (xs : List A) → In x xs → f x ≡ true → list_any f xs ≡ true
any_there f x [] i e = absurd i
any_there f x (y ∷ xs) (inl q) e = ap (λ b. b || list_any f xs) (ap f (sym q) ∙ e)
any_there f x (y ∷ xs) (inr i) e = or_true (f y) (list_any f xs) (any_there f x xs i e)
  where
    or_true : (b c : Bool) → c ≡ true → (b || c) ≡ true
    or_true true c h = refl
    or_true false c h = h

module _ (u : Unfolding) (n : Net) (a : AreApart u) (r : NetOf u n) where
  pub place_is : (i : ℕ) (s : Seen) → slice_get u.instances i ≡ Some s → instance_number u.instances s.path ≡ i
  place_is i s e = number_place same_steps (paths u.instances) i s.path steps_tell a.instances (slice_map (λ (z : Seen). z.path) u.instances (paths u.instances) i s refl e)

  pub parent_number : (i : ℕ) (s : Seen) → slice_get u.instances i ≡ Some s → parent_at n i ≡ option_map (instance_number u.instances) (parent_path s.path)
  parent_number i s e = ap parent_of (slice_map (net_instance u) u.instances n.instances i s r.instances e)

  lineage_head : (k i : ℕ) → In i (lineage n k i)
  lineage_head zero i = inl refl
  lineage_head (suc k) i = inl refl

  -- one step up
  go_up : (k i : ℕ) (s : Seen) (q rest : List Step) → slice_get u.instances i ≡ Some s → s.path ≡ q ++ rest → (d : Pushed rest)
      → ((j : ℕ) (t : Seen) → slice_get u.instances j ≡ Some t → t.path ≡ q ++ d.front → In (instance_number u.instances q) (lineage n k j)) → In (instance_number u.instances q) (lineage n (suc k) i)
  go_up k i s q rest e f d rec =
      let whole : s.path ≡ (q ++ d.front) ++ d.last ∷ [] = f ∙ ap (λ (z : List Step). q ++ z) d.are ∙ sym (append_assoc q d.front (d.last ∷ [])) in
      let parent : parent_path s.path ≡ Some (q ++ d.front) = ap parent_path whole ∙ parent_push (q ++ d.front) d.last in
      let number : parent_at n i ≡ Some (instance_number u.instances (q ++ d.front)) = parent_number i s e ∙ ap (option_map (instance_number u.instances)) parent in
      let y = at_path u n a r (q ++ d.front) (a.parents s.path (q ++ d.front) (path_in u n a r s i e) parent) in
      inr (subst (λ (o : Option ℕ). In (instance_number u.instances q) (cond (has_some o) (lineage n k (unwrap_or o 0)) [])) (sym number)
      (rec (instance_number u.instances (q ++ d.front)) y.0 y.1 (sym y.2)))

  front_size : (rest : List Step) (d : Pushed rest) → length rest ≡ length d.front + 1
  front_size rest d = ap length d.are ∙ length-append d.front (d.last ∷ [])

  -- each instance with whose path that of another begins is among those that this is a part of
  pub lineage_has : (k i : ℕ) (s : Seen) (q rest : List Step) → slice_get u.instances i ≡ Some s → s.path ≡ q ++ rest → length rest ≤ k → In (instance_number u.instances q) (lineage n k i)
  lineage_has k i s q [] e f l =
      let same : instance_number u.instances q ≡ i = ap (instance_number u.instances) (sym (f ∙ append-nil q)) ∙ place_is i s e in
      subst (λ m. In m (lineage n k i)) (sym same) (lineage_head k i)
  lineage_has zero i s q (x ∷ rest) e f l = absurd (omega (arith, l))
  lineage_has (suc k) i s q (x ∷ rest) e f l =
      let d = pushed x rest in
      let size = front_size (x ∷ rest) d in
      go_up k i s q (x ∷ rest) e f d (λ j t g h. lineage_has k j t q d.front g h (omega (arith, l, size)))

  -- an instance stands behind as many as its path has steps
  module _ (xs : List Instance) (parents : (i : ℕ) (x : Instance) → slice_get xs i ≡ Some x → IsPartOf xs i x.path.steps x.parent) where
    get_there : (ys : List Instance) (k : ℕ) → k < length ys → (y : Instance) × (slice_get ys k ≡ Some y)
    get_there [] k m = absurd (omega (arith, m))
    get_there (y ∷ ys) zero m = (y, refl)
    get_there (y ∷ ys) (suc k) m = get_there ys k (omega (arith, m))

    below_part : (i : ℕ) (x : Instance) → slice_get xs i ≡ Some x → ((j : ℕ) (y : Instance) → j < i → slice_get xs j ≡ Some y → length y.path.steps ≤ j)
        → (p : List Step) (o : Option ℕ) → x.path.steps ≡ p → IsPartOf xs i p o → length x.path.steps ≤ i
    below_part i x e rec [] o f h = subst (λ (z : List Step). length z ≤ i) (sym f) (omega arith)
    below_part i x e rec (s ∷ p) None f h = absurd h
    below_part i x e rec (s ∷ p) (Some j) f h =
        let m = h.0 in
        let w = slice_get_within xs i x e in
        let y = get_there xs j (omega (arith, m, w)) in
        let l = rec j y.0 m y.1 in
        let path : y.0.path.steps ≡ outer (s ∷ p) = sym (ap instance_path y.1) ∙ h.1 in
        let size : length (s ∷ p) ≡ length (outer (s ∷ p)) + 1 = parent_shorter (s ∷ p) (outer (s ∷ p)) refl in
        let same : length y.0.path.steps ≡ length (outer (s ∷ p)) = ap length path in
        let here : length x.path.steps ≡ length (s ∷ p) = ap length f in
        omega (arith, l, size, same, here, m)

    short_below : (b i : ℕ) (x : Instance) → i ≤ b → slice_get xs i ≡ Some x → length x.path.steps ≤ i
    short_below zero i x l e = below_part i x e (λ j y m g. absurd (omega (arith, m, l))) x.path.steps x.parent refl (parents i x e)
    short_below (suc b) i x l e = below_part i x e (λ j y m g. short_below b j y (omega (arith, m, l)) g) x.path.steps x.parent refl (parents i x e)

    pub path_small : (i : ℕ) (x : Instance) → slice_get xs i ≡ Some x → length x.path.steps ≤ i
    path_small i x e = short_below i i x (omega arith) e

-- ---- the net

starts_short : (s q rest : List Step) (i : ℕ) → s ≡ q ++ rest → length s ≤ i → length rest ≤ i
starts_short s q rest i e l = let h : length s ≡ length q + length rest = ap length e ∙ length-append q rest in omega (arith, h, l)

good_path : (w : Model) (t : Thing) (s : Seen) → InKeys s (instances_from t) → Good t → length s.path ≤ MOST_STEPS
good_path w (Block p c) s (inl e) g = subst (λ (z : Seen). length z.path ≤ MOST_STEPS) (sym e) g
good_path w (Block p c) s (inr h) g = absurd h
good_path w (Elementary p k v ps) s (inl e) g = subst (λ (z : Seen). length z.path ≤ MOST_STEPS) (sym e) g.0
good_path w (Elementary p k v ps) s (inr h) g = absurd h
good_path w (Elements p ps) s h g = absurd h

module _ (w : Model) (u : Unfolding) (n : Net) (p : AreParts w u) (a : AreApart u) (r : NetOf u n) (xs : List Instance) (i_are : u.instances ≡ map seen_instance xs)
    (parents : (i : ℕ) (x : Instance) → slice_get xs i ≡ Some x → IsPartOf xs i x.path.steps x.parent) (fine : NoneFails (InModel w)) where
  pub seen_at : (i : ℕ) → i < length n.instances → (s : Seen) × (slice_get u.instances i ≡ Some s)
  seen_at i l = get_seen u.instances i (let h : length n.instances ≡ length u.instances = ap length r.instances ∙ length-map u.instances (net_instance u) in omega (arith, h, l))
    where
      get_seen : (ys : List Seen) (k : ℕ) → k < length ys → (y : Seen) × (slice_get ys k ≡ Some y)
      get_seen [] k m = absurd (omega (arith, m))
      get_seen (y ∷ ys) zero m = (y, refl)
      get_seen (y ∷ ys) (suc k) m = get_seen ys k (omega (arith, m))

  path_short : (i : ℕ) (s : Seen) → slice_get u.instances i ≡ Some s → length s.path ≤ i
  path_short i s e =
      let x = of_slice_map seen_instance xs u.instances i s i_are e in
      subst (λ (z : Seen). length z.path ≤ i) (sym x.2) (path_small u n a r xs parents i x.0 x.1)

  root_only : (i : ℕ) (s : Seen) → slice_get u.instances (suc i) ≡ Some s → s.path ≡ [] → ⊥
  root_only i s e f =
      let here : instance_number u.instances s.path ≡ suc i = place_is u n a r (suc i) s e in
      let root : instance_number u.instances [] ≡ 0 = place_is u n a r 0 (block_seen [] (the_root w)) (root_first w u p) in
      let same : instance_number u.instances s.path ≡ instance_number u.instances [] = ap (instance_number u.instances) f in
      omega (arith, here, root, same)

  next_in : (i : ℕ) (s t : Seen) → slice_get u.instances i ≡ Some s → slice_get u.instances (suc i) ≡ Some t → list_any (λ b. is_some_same (λ j k. j == k) b (parent_at n (suc i))) (lineage n i i) ≡ true
  next_in i s t e f = by_start (next_starts w p.things s t p.lists
      (are_next p.things i s t p.lists.sorted (ap (λ (l : List Seen). slice_get l i) (sym p.instances) ∙ e) (ap (λ (l : List Seen). slice_get l (suc i)) (sym p.instances) ∙ f)))
    where
      outer_of : (q : List Step) → (q ≡ [] → ⊥) → parent_path q ≡ Some (outer q)
      outer_of [] g = absurd (g refl)
      outer_of (x ∷ q) g = refl

      by_start : (t.path ≡ []) ⊎ ((rest : List Step) × (s.path ≡ outer t.path ++ rest)) → list_any (λ b. is_some_same (λ j k. j == k) b (parent_at n (suc i))) (lineage n i i) ≡ true
      by_start (inl g) = absurd (root_only i t f g)
      by_start (inr z) =
          let parent : parent_at n (suc i) ≡ Some (instance_number u.instances (outer t.path)) =
          parent_number u n a r (suc i) t f ∙ ap (option_map (instance_number u.instances)) (outer_of t.path (λ g. root_only i t f g)) in
          any_there (λ b. is_some_same (λ j k. j == k) b (parent_at n (suc i))) (instance_number u.instances (outer t.path)) (lineage n i i)
          (lineage_has u n a r i i s (outer t.path) z.0 e z.1 (starts_short s.path (outer t.path) z.0 i z.1 (path_short i s e)))
          (ap (λ o. is_some_same (λ j k. j == k) (instance_number u.instances (outer t.path)) o) parent ∙ eq-eqb (instance_number u.instances (outer t.path)) (instance_number u.instances (outer t.path)) refl)

  pub preorder : IsPreorder n
  preorder = record {
    some = slice_get_within n.instances 0 (net_instance u (block_seen [] (the_root w))) (root_is w u n p a r);
    root = ap parent_of (root_is w u n p a r);
    next = λ i l. let s = seen_at i (omega (arith, l)) in let t = seen_at (suc i) l in next_in i s.0 t.0 s.1 t.1;
  }

  -- at most 16 steps below the root
  pub not_deep : (i : ℕ) → i < length n.instances → length (lineage n i i) ≤ MOST_STEPS + 1
  not_deep i l =
      let s = seen_at i l in
      let t = thing_at w u p a s.0 (in_slice u.instances i s.0 s.1) in
      let deep : length s.0.path ≤ MOST_STEPS = good_path w t.thing s.0 t.seen (all_good w fine t.key t.thing (p.lists.only t.key t.thing t.there)) in
      let h = lineage_short u n a r i i s.0 s.1 in
      omega (arith, deep, h)
