-- Each elementary instance of the net is one of its kind.
use Rattle.std.proofs.Common.{◌≡◌, ℕ, zero, suc, ◌+◌, ◌-◌, ◌<◌, ◌≤◌, ◌==◌, ◌^◌, Bool, true, false, cond, List, [], ◌∷◌, ◌++◌, map, filter, length, Some, None, slice_get, refl, sym, ap, ◌∙◌, subst, arith, inl, inr}
use Rattle.std.specs.Prelude.{nat_lt, option_map}
use Rattle.std.specs.List.Sorted.{IsNonDecreasingBy, IsStableByKey}
use Rattle.std.specs.Ordering.{nat_cmp}
use Rattle.std.proofs.lemmas.Bool.{eq-eqb, lt-ltb, le-ltb}
use Rattle.std.proofs.lemmas.List.{length-map}
use Rattle.std.proofs.lemmas.List.Sums.{length-filter}
use Rattle.std.proofs.lemmas.Option.{slice_get-map, slice_get_within, get_or_from_slice_get}
use Rattle.cdl_source.specs.declared.limits.TheConstants.{MOST_ELEMENTS}
use Rattle.cdl_source.proofs.Cases.{by_bool, by_lt}
use Rattle.cdl_values.specs.declared.value.Array.{Array}
use Rattle.cdl_kinds.specs.declared.kind.Kind.{Kind}
use Rattle.cdl_kinds.specs.Ports.{PortRow, nin_or_nout, group_size, port_in, port_among, inputs, port_at}
use Rattle.cdl_kinds.specs.Table.{Group, row}
use Rattle.cdl_connect.specs.declared.net.Net.{Net}
use Rattle.cdl_connect.specs.declared.net.NetElement.{NetElement}
use Rattle.cdl_connect.specs.declared.net.NetInstance.{NetInstance}
use Rattle.cdl_connect.specs.Nets.{element, no_element}
use Rattle.cdl_connect.specs.Paths.{IsIndexText}
use Rattle.cdl_connect.specs.WellFormed.{AreOfKinds, FitsBody, HasPorts, IsPort}
use Rattle.cdl_network.specs.Lists.{In, count}
use Rattle.cdl_network.proofs.Inside.{in_slice}
use Rattle.cdl_network.proofs.Places.{count_is, filter_no}
use Rattle.cdl_network.proofs.Renaming.{in_map, slice_map}
use Rattle.cdl_paths.specs.declared.path.Step.{Step}
use Rattle.cdl_params.specs.Kept.{Model}
use Rattle.cdl_stations.specs.Keys.{Key, In as InKeys}
use Rattle.cdl_walk.specs.declared.walked.Content.{Content}
use Rattle.cdl_walk.specs.declared.walked.Content.TheVariants as content
use Rattle.cdl_walk.specs.declared.walked.Element.{Element}
use Rattle.cdl_walk.specs.declared.walked.Instance.{Instance}
use Rattle.cdl_walk.specs.declared.walked.Point.{Point}
use Rattle.cdl_walk.specs.declared.walked.Walked.{Walked}
use Rattle.cdl_walk.specs.Instances.{Elementary, AreAll, Seen, Owned, IsThing, owned_by, elements_in, instances_in, path_at, path_in, seen_instance, seen_element}
use Rattle.cdl_walk.specs.Judges.{NoneFails}
use Rattle.cdl_walk.specs.Stations.{InModel, the_root}
use Rattle.cdl_walk.specs.Texts.{indices_text}
use Rattle.cdl_model.specs.Apart.{NamesApart}
use Rattle.cdl_model.specs.NetOf.{body_of}
use Rattle.cdl_model.specs.Parts.{own}
use Rattle.cdl_expand.specs.inner.Numbered.{at_number, at_numbers, numbered}
use Rattle.cdl_expand.proofs.Bounded.{none_before, window_of}
use Rattle.cdl_expand.proofs.Decimals.{no_index, one_index}
use Rattle.cdl_expand.proofs.Fine.{all_good}
use Rattle.cdl_expand.proofs.Grouped.{Rises, of, own_group, rises, stays, unequal}
use Rattle.cdl_expand.proofs.Placed.{IsPlaced}
use Rattle.cdl_expand.proofs.Ports.{IsLike, AreOfKind, of_kind}
use Rattle.cdl_expand.proofs.Things.{its_ports, kind_listed, kind_seen, own_ports}
use Rattle.cdl_expand.proofs.Walking.{to_keys}
use Rattle.cdl_expand.proofs.Windows.{before_it}

module _ {A : Type 0} where
  some_same : (x y : A) → Some x ≡ Some y → x ≡ y
  some_same x y e = cc

  not_there : (x : A) → None ≡ Some x → ⊥
  not_there x e = cc

  get_at : (xs : List A) (k : ℕ) → k < length xs → (x : A) × (slice_get xs k ≡ Some x)
  get_at [] k l = absurd (omega (arith, l))
  get_at (x ∷ xs) zero l = (x, refl)
  get_at (x ∷ xs) (suc k) l = get_at xs k (omega (arith, l))

-- ---- the elements of an instance stand in its window

later_up : (e : Element) (es : List Element) (i : ℕ) → Rises (e ∷ es) → i ≤ e.instance → (x : Element) → In x es → i ≤ x.instance
later_up e es i r l x m = let h = r.0 x m in omega (arith, h, l)

pub nth_own : (es : List Element) (i j : ℕ) (y : Element) → Rises es → slice_get (filter (of i) es) j ≡ Some y → slice_get es (count (before_it i) es + j) ≡ Some y
nth_own [] i j y r e = absurd (not_there y e)
nth_own (e ∷ es) i j y r h = by_lt e.instance i
    (λ l.
    let none : of i e ≡ false = unequal e.instance i (λ q. omega (arith, l, q)) in
    let rest : slice_get (filter (of i) es) j ≡ Some y = ap (λ b. slice_get (cond b (e ∷ filter (of i) es) (filter (of i) es)) j) (sym none) ∙ h in
    let more : cond (before_it i e) (suc (count (before_it i) es)) (count (before_it i) es) + j ≡ suc (count (before_it i) es + j) =
    ap (λ b. cond b (suc (count (before_it i) es)) (count (before_it i) es) + j) (lt-ltb e.instance i l) ∙ (let q : suc (count (before_it i) es) + j ≡ suc (count (before_it i) es + j) = omega arith in q) in
    ap (slice_get (e ∷ es)) more ∙ nth_own es i j y r.1 rest)
    (λ g. by_lt i e.instance
    (λ l. absurd (not_there y (ap (λ (z : List Element). slice_get z j) (sym (filter_no (of i) (e ∷ es) (λ x m. unequal x.instance i (λ q. let u = above l x m in omega (arith, u, q))))) ∙ h)))
    (λ k. here g k (λ m f. nth_own es i m y r.1 f) j h))
  where
    above : i < e.instance → (x : Element) → In x (e ∷ es) → i < x.instance
    above l x (inl q) = subst (λ (z : Element). i < z.instance) (sym q) l
    above l x (inr m) = let u = later_up e es (suc i) r (omega (arith, l)) x m in omega (arith, u)

    zero_is : i ≤ e.instance → count (before_it i) es ≡ 0
    zero_is g = none_before es i (λ x m. later_up e es i r g x m)

    sum_is : i ≤ e.instance → (k : ℕ) → count (before_it i) (e ∷ es) + k ≡ k
    sum_is g k =
        let a : cond (before_it i e) (suc (count (before_it i) es)) (count (before_it i) es) ≡ 0 = ap (λ b. cond b (suc (count (before_it i) es)) (count (before_it i) es)) (le-ltb e.instance i g) ∙ zero_is g in
        omega (arith, a)

    filtered : e.instance ≤ i → i ≤ e.instance → filter (of i) (e ∷ es) ≡ e ∷ filter (of i) es
    filtered k g = ap (λ b. cond b (e ∷ filter (of i) es) (filter (of i) es)) (eq-eqb e.instance i (omega (arith, k, g)))

    here : i ≤ e.instance → e.instance ≤ i → ((m : ℕ) → slice_get (filter (of i) es) m ≡ Some y → slice_get es (count (before_it i) es + m) ≡ Some y)
        → (k : ℕ) → slice_get (filter (of i) (e ∷ es)) k ≡ Some y → slice_get (e ∷ es) (count (before_it i) (e ∷ es) + k) ≡ Some y
    here g k rec zero q = ap (slice_get (e ∷ es)) (sum_is g 0) ∙ (ap (λ (z : List Element). slice_get z 0) (sym (filtered k g)) ∙ q)
    here g k rec (suc m) q =
        let a : count (before_it i) es + m ≡ m = (let z = zero_is g in omega (arith, z)) in
        ap (slice_get (e ∷ es)) (sum_is g (suc m)) ∙ ap (slice_get es) (sym a) ∙ rec m (ap (λ (z : List Element). slice_get z (suc m)) (sym (filtered k g)) ∙ q)

-- ---- the text of a port

chosen_small : (b : Bool) (i : ℕ) → cond b (i + 1) 0 ≤ i + 1
chosen_small true i = omega arith
chosen_small false i = omega arith

among_small : (input direct : Bool) (n : ℕ) (gs : List Group) (i : ℕ) → (port_among input direct n gs i).index ≤ i + 1
among_small input direct n [] i = omega arith
among_small input direct n (g ∷ gs) i = by_bool (nat_lt i (group_size n g))
    (λ t. subst (λ b. (cond b (port_in input direct g i) (port_among input direct n gs (i - group_size n g))).index ≤ i + 1) (sym t) (chosen_small g.many i))
    (λ t. subst (λ b. (cond b (port_in input direct g i) (port_among input direct n gs (i - group_size n g))).index ≤ i + 1) (sym t)
    (let h = among_small input direct n gs (i - group_size n g) in omega (arith, h)))

port_small : (k : Kind) (v : List Array) (i : ℕ) → (port_at k v i).index ≤ i + 1
port_small k v i = by_bool (nat_lt i (inputs k v).count)
    (λ t. subst (λ b. (cond b (port_among true (row k).direct (nin_or_nout v) (row k).ins i) (port_among false false (nin_or_nout v) (row k).outs (i - (inputs k v).count))).index ≤ i + 1) (sym t) (among_small true (row k).direct (nin_or_nout v) (row k).ins i))
    (λ t. subst (λ b. (cond b (port_among true (row k).direct (nin_or_nout v) (row k).ins i) (port_among false false (nin_or_nout v) (row k).outs (i - (inputs k v).count))).index ≤ i + 1) (sym t)
    (let h = among_small false false (nin_or_nout v) (row k).outs (i - (inputs k v).count) in omega (arith, h)))

index_spelled : (n : ℕ) → n < 2 ^ 64 → IsIndexText (cond (n == 0) [] (n ∷ [])) (indices_text (cond (n == 0) [] (n ∷ [])))
index_spelled n l = by_bool (n == 0)
    (λ t. subst (λ b. IsIndexText (cond b [] (n ∷ [])) (indices_text (cond b [] (n ∷ [])))) (sym t) no_index)
    (λ t. subst (λ b. IsIndexText (cond b [] (n ∷ [])) (indices_text (cond b [] (n ∷ [])))) (sym t) (one_index n l))

port_is : (p : PortRow) (e : Element) → p.index < 2 ^ 64 → IsLike p e.point → IsPort p (numbered e)
port_is p e l h = record {
  value_type = h.value_type;
  input = h.input;
  index = indices_text e.point.indices;
  spelled = subst (λ (is : List ℕ). IsIndexText (cond (p.index == 0) [] (p.index ∷ [])) (indices_text is)) (sym h.indices) (index_spelled p.index l);
  name = ap (λ (x : List ℕ). x ++ indices_text e.point.indices) h.name;
}

-- ---- the net

module _ (w : Model) (names : NamesApart w) (fine : NoneFails (InModel w)) (found : Walked) (all : AreAll w found) (placed : IsPlaced found)
    (es : List Element) (sorted : IsNonDecreasingBy (λ (x : Element). x.instance) es) (stable : IsStableByKey (λ (x : Element). x.instance) nat_cmp found.elements es) (few : length es ≤ MOST_ELEMENTS)
    (n : Net) (elements_are : n.elements ≡ map numbered es) (instances_are : n.instances ≡ at_numbers es 0 found.instances) where
  -- an instance of a kind, and its elements
  pub record OfKind (i : ℕ) (p : List Step) (k : Kind) (v : List Array) : Type 0 where
    pub key : Key
    pub points : List Point
    pub there : IsThing w [] (the_root w) key (Elementary p k v points)
    pub own : map (seen_element found.instances) (filter (of i) es) ≡ map (owned_by p) points

  kind_found : (i : ℕ) (x : Instance) (k : Kind) (v : List Array) → slice_get found.instances i ≡ Some x → x.content ≡ content.Elementary k v → OfKind i x.path.steps k v
  kind_found i x k v a e =
      let seen : seen_instance x ≡ kind_seen x.path.steps k v = ap (λ (c : Content). seen_of x.path.steps c) e in
      let there : In (seen_instance x) (map seen_instance found.instances) = in_map seen_instance x found.instances (in_slice found.instances i x a) in
      let listed : InKeys (kind_seen x.path.steps k v) (instances_in all.things) = subst (λ (s : Seen). InKeys s (instances_in all.things)) seen
      (subst (λ (l : List Seen). InKeys (seen_instance x) l) all.instances (to_keys (seen_instance x) (map seen_instance found.instances) there)) in
      let t = kind_listed all.things x.path.steps k v listed in
      let path : path_at found.instances i ≡ x.path.steps = ap path_in a in
      record {
        key = t.0;
        points = t.1;
        there = all.lists.only t.0 (Elementary x.path.steps k v t.1) t.2;
        own = ap (map (seen_element found.instances)) (stays found.elements es stable i)
            ∙ sym (own_group found.instances found.elements placed.once placed.owners i (slice_get_within found.instances i x a))
            ∙ ap (λ (l : List Owned). own l (path_at found.instances i)) all.elements
            ∙ ap (own (elements_in all.things)) path
            ∙ own_ports w names all.things all.lists t.0 x.path.steps k v t.1 t.2;
      }
    where
      seen_of : List Step → Content → Seen
      seen_of p c = record { path = p; content = c }

  own_count : (i : ℕ) (p : List Step) (k : Kind) (v : List Array) (o : OfKind i p k v) → count (of i) es ≡ length o.points
  own_count i p k v o =
      count_is (of i) es ∙ sym (length-filter (of i) es) ∙ sym (length-map (filter (of i) es) (seen_element found.instances))
      ∙ ap length o.own ∙ length-map o.points (owned_by p)

  -- the port of that number
  port_there : (i j : ℕ) (p : List Step) (k : Kind) (v : List Array) (o : OfKind i p k v) → j < count (of i) es → IsPort (port_at k v j) (element n (count (before_it i) es + j))
  port_there i j p k v o l =
      let ports : AreOfKind k v o.points = of_kind w p k v o.points (its_ports w o.key [] (the_root w) p k v o.points o.there) in
      let size : count (of i) es ≡ length (filter (of i) es) = count_is (of i) es ∙ sym (length-filter (of i) es) in
      let e = get_at (filter (of i) es) j (omega (arith, l, size)) in
      let x = get_at o.points j (let c = own_count i p k v o in omega (arith, l, c)) in
      let both : Some (seen_element found.instances e.0) ≡ Some (owned_by p x.0) =
      sym (slice_get-map (seen_element found.instances) (filter (of i) es) j ∙ ap (option_map (seen_element found.instances)) e.1)
      ∙ ap (λ (z : List Owned). slice_get z j) o.own ∙ slice_get-map (owned_by p) o.points j ∙ ap (option_map (owned_by p)) x.1 in
      let point : e.0.point ≡ x.0 = ap (λ (z : Owned). z.point) (some_same (seen_element found.instances e.0) (owned_by p x.0) both) in
      let at : slice_get es (count (before_it i) es + j) ≡ Some e.0 = nth_own es i j e.0 (rises es sorted) e.1 in
      let here : element n (count (before_it i) es + j) ≡ numbered e.0 =
      get_or_from_slice_get n.elements (count (before_it i) es + j) (numbered e.0) no_element (slice_map numbered es n.elements (count (before_it i) es + j) e.0 elements_are at) in
      let within = slice_get_within es (count (before_it i) es + j) e.0 at in
      let small : (port_at k v j).index < 2 ^ 64 = (let s = port_small k v j in omega (arith, s, within, few)) in
      subst (λ (z : NetElement). IsPort (port_at k v j) z) (sym here)
      (port_is (port_at k v j) e.0 small (subst (λ (z : Point). IsLike (port_at k v j) z) (sym point) (ports.each j x.0 x.1)))

  has_ports : (i : ℕ) (x : Instance) (k : Kind) (v : List Array) → OfKind i x.path.steps k v → HasPorts n (at_number es i x) k v
  has_ports i x k v o = record {
    keeps = (all_good w fine o.key (Elementary x.path.steps k v o.points) o.there).1;
    count =
        let ports : AreOfKind k v o.points = of_kind w x.path.steps k v o.points (its_ports w o.key [] (the_root w) x.path.steps k v o.points o.there) in
        own_count i x.path.steps k v o ∙ ports.count;
    each = λ j l. port_there i j x.path.steps k v o l;
  }

  by_content : (i : ℕ) (x : Instance) (y : Content) → slice_get found.instances i ≡ Some x → x.content ≡ y → FitsBody n (at_number es i x) (body_of y)
  by_content i x (content.Block c) a e = tt
  by_content i x (content.Elementary k v) a e = has_ports i x k v (kind_found i x k v a e)

  pub kinds : AreOfKinds n
  kinds = record {
    each = λ i t h.
        let r = window_of n found.instances es elements_are instances_are sorted i t h in
        subst (λ (z : NetInstance). FitsBody n z z.body) (sym r.2) (by_content i r.0 r.0.content r.1 refl);
  }
