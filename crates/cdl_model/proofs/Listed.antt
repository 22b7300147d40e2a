-- Instances and elements of a model stand once, behind what they are of.
use Rattle.std.proofs.Common.{◌≡◌, ◌⊎◌, ℕ, ◌+◌, ◌-◌, length-append, ◌≤◌, Bool, true, false, cond, List, [], ◌∷◌, ◌++◌, map, length, Some, None, Ok, Err, refl, sym, ap, ◌∙◌, subst, arith, inl, inr}
use Rattle.std.proofs.lemmas.List.{map-append, take_at}
use Rattle.cdl_values.specs.declared.value.Array.{Array}
use Rattle.cdl_values.specs.declared.value.Value.{Value}
use Rattle.cdl_values.specs.declared.value.ValueType.{ValueType}
use Rattle.cdl_values.specs.Values.{items_of as size_of}
use Rattle.cdl_array.specs.Outcomes.{Outcome, then_to}
use Rattle.cdl_kinds.specs.declared.kind.Kind.{Kind}
use Rattle.cdl_kinds.specs.Ports.{nin_or_nout}
use Rattle.cdl_kinds.specs.Table.{Group, row}
use Rattle.cdl_network.specs.Lists.{In, Apart}
use Rattle.cdl_network.proofs.Inside.{kept_true}
use Rattle.cdl_network.proofs.Renaming.{in_map, of_map}
use Rattle.cdl_scopes.specs.Lookup.{item_name}
use Rattle.cdl_classes.specs.declared.found.ClassId.{ClassId}
use Rattle.cdl_paths.specs.declared.path.Step.{Step}
use Rattle.cdl_params.specs.Kept.{Model}
use Rattle.cdl_stations.specs.Keys.{Key, Sorted, Lists, In as InKeys}
use Rattle.cdl_stations.proofs.Unique.{before_self}
use Rattle.cdl_items.specs.declared.role.Part.{Part}
use Rattle.cdl_items.specs.declared.role.Part.TheVariants as part
use Rattle.cdl_walk.specs.declared.walked.Point.{Point}
use Rattle.cdl_walk.specs.Elements.{points, point_at, port_sizes, indices_at}
use Rattle.cdl_walk.specs.Events.{outer, same_steps}
use Rattle.cdl_walk.specs.Stations.{the_root}
use Rattle.cdl_walk.specs.Instances.{Thing, Block, Elementary, Elements, Seen, Owned, owned_by, plain_units, ports_from, ports_of, IsOfKind, IsPart, IsThing, elements_from, instances_in, elements_in}
use Rattle.cdl_model.specs.Names.{ElementName}
use Rattle.cdl_model.specs.Parts.{Unfolding, AreParts, own, by_instance}
use Rattle.cdl_model.specs.Networks.{paths, names, name_of, parent_path}
use Rattle.cdl_model.specs.Apart.{NamesApart, AreApart}
use Rattle.cdl_model.proofs.Tests.{steps_yes}
use Rattle.cdl_model.proofs.Joined.{in_left, in_right, in_either, apart_append, apart_left, apart_right, apart_across, apart_filter, apart_tabulate, map_map}
use Rattle.cdl_model.proofs.Sized.{dims_few, indices_apart}
use Rattle.cdl_model.proofs.Rows.{group_names, ports_apart}
use Rattle.cdl_model.proofs.Keyed.{Marks, Mark, Below, point_names, step, at_item, below, above, of_kind, block_mark, item_mark, kind_mark, own_points, point_name}
use Rattle.cdl_model.proofs.Unique.{same_key}

abbrev Things : Type 0
Things = List (Key × Thing)

abbrev AllStand : Model → List Step → ClassId → Things → Type 0
AllStand w p c xs = (k : Key) (t : Thing) → InKeys {X = Key × Thing} (k, t) xs → IsThing w p c k t

-- ---- what is brought by one of them

record BroughtBy (xs : Things) (q : List Step) (m : Mark) : Type 0 where
  key : Key
  thing : Thing
  there : InKeys {X = Key × Thing} (key, thing) xs
  marks : Marks thing q m

later : (x : Key × Thing) (xs : Things) (q : List Step) (m : Mark) → BroughtBy xs q m → BroughtBy (x ∷ xs) q m
later x xs q m b = record { key = b.key; thing = b.thing; there = inr b.there; marks = b.marks }

in_instances : (q : List Step) (xs : Things) → In q (paths (instances_in xs)) → BroughtBy xs q None
in_instances q [] i = absurd i
in_instances q ((k, Block p c) ∷ xs) (inl e) = record { key = k; thing = Block p c; there = inl refl; marks = e }
in_instances q ((k, Block p c) ∷ xs) (inr i) = later (k, Block p c) xs q None (in_instances q xs i)
in_instances q ((k, Elementary p d v ps) ∷ xs) (inl e) = record { key = k; thing = Elementary p d v ps; there = inl refl; marks = e }
in_instances q ((k, Elementary p d v ps) ∷ xs) (inr i) = later (k, Elementary p d v ps) xs q None (in_instances q xs i)
in_instances q ((k, Elements p ps) ∷ xs) i = later (k, Elements p ps) xs q None (in_instances q xs i)

in_owned : (y : ElementName) (p : List Step) (ps : List Point) → In y (names (map (owned_by p) ps)) → (y.path ≡ p) × In y.name (point_names ps)
in_owned y p ps i =
    let z = of_map name_of y (map (owned_by p) ps) i in
    let v = of_map (owned_by p) z.0 ps z.1 in
    let e : y ≡ name_of (owned_by p v.0) = z.2 ∙ ap name_of v.2 in
    (ap (λ (n : ElementName). n.path) e, subst (λ n. In n (point_names ps)) (sym (ap (λ (n : ElementName). n.name) e)) (in_map (λ (x : Point). x.name) v.0 ps v.1))

owned_split : (y : ElementName) (p : List Step) (ps : List Point) (os : List Owned) → In y (names (map (owned_by p) ps ++ os)) → In y (names (map (owned_by p) ps)) ⊎ In y (names os)
owned_split y p ps os i = in_either y (names (map (owned_by p) ps)) (names os) (subst (λ l. In y l) (map-append name_of (map (owned_by p) ps) os) i)

in_elements : (y : ElementName) (xs : Things) → In y (names (elements_in xs)) → BroughtBy xs y.path (Some y.name)
in_elements y [] i = absurd i
in_elements y ((k, Block p c) ∷ xs) i = later (k, Block p c) xs y.path (Some y.name) (in_elements y xs i)
in_elements y ((k, Elementary p d v ps) ∷ xs) i = elim (owned_split y p ps (elements_in xs) i) as (λ _. BroughtBy ((k, Elementary p d v ps) ∷ xs) y.path (Some y.name)) [
  | inl a ↦ record { key = k; thing = Elementary p d v ps; there = inl refl; marks = in_owned y p ps a }
  | inr b ↦ later (k, Elementary p d v ps) xs y.path (Some y.name) (in_elements y xs b)
]
in_elements y ((k, Elements p ps) ∷ xs) i = elim (owned_split y p ps (elements_in xs) i) as (λ _. BroughtBy ((k, Elements p ps) ∷ xs) y.path (Some y.name)) [
  | inl a ↦ record { key = k; thing = Elements p ps; there = inl refl; marks = in_owned y p ps a }
  | inr b ↦ later (k, Elements p ps) xs y.path (Some y.name) (in_elements y xs b)
]

in_paths : (xs : Things) (k : Key) (t : Thing) (q : List Step) → InKeys {X = Key × Thing} (k, t) xs → Marks t q None → In q (paths (instances_in xs))
in_paths [] k t q i h = absurd i
in_paths ((l, Block p c) ∷ xs) k t q (inl e) h = inl (subst (λ (z : Thing). Marks z q None) (ap (λ (z : Key × Thing). z.1) e) h)
in_paths ((l, Block p c) ∷ xs) k t q (inr i) h = inr (in_paths xs k t q i h)
in_paths ((l, Elementary p d v ps) ∷ xs) k t q (inl e) h = inl (subst (λ (z : Thing). Marks z q None) (ap (λ (z : Key × Thing). z.1) e) h)
in_paths ((l, Elementary p d v ps) ∷ xs) k t q (inr i) h = inr (in_paths xs k t q i h)
in_paths ((l, Elements p ps) ∷ xs) k t q (inl e) h = absurd (subst (λ (z : Thing). Marks z q None) (ap (λ (z : Key × Thing). z.1) e) h)
in_paths ((l, Elements p ps) ∷ xs) k t q (inr i) h = in_paths xs k t q i h

-- ---- ports and connectors

abbrev named_point : List Step → Point → ElementName
named_point p x = name_of (owned_by p x)

points_once : (p : List Step) (name : List ℕ) (t : ValueType) (input : Bool) (sizes : List ℕ) (us : List Value) → length sizes ≤ 2 → Apart (map (named_point p) (points name t input sizes us))
points_once p name t input sizes us f = apart_tabulate (named_point p) (size_of sizes) (point_at name t input sizes us)
    (λ x y a b e. indices_apart sizes x y f a b (ap (λ (n : ElementName). n.indices) e))

-- the ports of these names stand once, and have these names
abbrev PortsOnce : List Step → List Group → List Point → Type 0
PortsOnce p gs ps = Apart (map (named_point p) ps) × ((x : Point) → In x ps → In x.name (group_names gs))

abbrev put : List Point → List Point → Outcome (List Point)
put ps more = Ok (ps ++ more)

ports_next : (o : Outcome (List Value)) (s : Outcome (List Point)) (f : List Value → List Point) (ps : List Point) → then_to o (λ us. then_to s (λ more. put (f us) more)) ≡ Ok ps
    → (us : List Value) × (more : List Point) × (s ≡ Ok more) × (f us ++ more ≡ ps)
ports_next (Err r) s f ps e = absurd (cc)
ports_next (Ok us) (Err r) f ps e = absurd (cc)
ports_next (Ok us) (Ok more) f ps e = let same : f us ++ more ≡ ps = cc in (us, more, refl, same)

port_few : (n : ℕ) (b : Bool) → length (cond b (n ∷ []) []) ≤ 2
port_few n true = omega arith
port_few n false = omega arith

joined_once : (p : List Step) (gs hs : List Group) (ps qs : List Point) → Apart (group_names (gs ++ hs)) → PortsOnce p gs ps → PortsOnce p hs qs → PortsOnce p (gs ++ hs) (ps ++ qs)
joined_once p gs hs ps qs a x y =
    let split : group_names (gs ++ hs) ≡ group_names gs ++ group_names hs = map-append (λ (g : Group). g.name) gs hs in
    let apart : Apart (group_names gs ++ group_names hs) = subst (λ l. Apart l) split a in (
      subst (λ l. Apart l) (sym (map-append (named_point p) ps qs)) (apart_append (map (named_point p) ps) (map (named_point p) qs) x.0 y.0 (λ z i j.
          let u = of_map (named_point p) z ps i in
          let v = of_map (named_point p) z qs j in
          let same : v.0.name ≡ u.0.name = ap (λ (n : ElementName). n.name) (sym v.2 ∙ u.2) in
          apart_across (group_names gs) (group_names hs) u.0.name apart (x.1 u.0 u.1) (subst (λ n. In n (group_names hs)) same (y.1 v.0 v.1)))),
      λ z i. subst (λ l. In z.name l) (sym split) (elim (in_either z ps qs i) as (λ _. In z.name (group_names gs ++ group_names hs)) [
        | inl h ↦ in_left z.name (group_names gs) (group_names hs) (x.1 z h)
        | inr h ↦ in_right z.name (group_names gs) (group_names hs) (y.1 z h)
      ]),
    )

group_once : (p : List Step) (n : ℕ) (input : Bool) (g : Group) (us : List Value) → PortsOnce p (g ∷ []) (points g.name g.value_type input (port_sizes n g) us)
group_once p n input g us = (
  points_once p g.name g.value_type input (port_sizes n g) us (port_few n g.many),
  λ x i. inl (point_name g.name g.value_type input (port_sizes n g) us x.name (in_map (λ (z : Point). z.name) x (points g.name g.value_type input (port_sizes n g) us) i)),
)

ports_once : (w : Model) (p : List Step) (n : ℕ) (input : Bool) (gs : List Group) (ps : List Point) → Apart (group_names gs) → ports_from w p n input gs ≡ Ok ps → PortsOnce p gs ps
ports_once w p n input [] ps a e = let same : [] ≡ ps = cc in subst (λ (l : List Point). PortsOnce p [] l) same (tt, λ x i. i)
ports_once w p n input (g ∷ gs) ps a e =
    let z = ports_next (plain_units w p g.name g.value_type) (ports_from w p n input gs) (λ us. points g.name g.value_type input (port_sizes n g) us) ps e in
    subst (λ (l : List Point). PortsOnce p (g ∷ gs) l) z.3
    (joined_once p (g ∷ []) gs (points g.name g.value_type input (port_sizes n g) z.0) z.1 a (group_once p n input g z.0) (ports_once w p n input gs z.1 a.1 z.2))

sides : (o s : Outcome (List Point)) (ps : List Point) → then_to o (λ ins. then_to s (λ outs. put ins outs)) ≡ Ok ps → (ins : List Point) × (outs : List Point) × (o ≡ Ok ins) × (s ≡ Ok outs) × (ins ++ outs ≡ ps)
sides (Err r) s ps e = absurd (cc)
sides (Ok ins) (Err r) ps e = absurd (cc)
sides (Ok ins) (Ok outs) ps e = let same : ins ++ outs ≡ ps = cc in (ins, outs, refl, refl, same)

kind_once : (w : Model) (p : List Step) (k : Kind) (v : List Array) (ps : List Point) → ports_of w p k v ≡ Ok ps → Apart (map (named_point p) ps)
kind_once w p k v ps e =
    let all : Apart (group_names (row k).ins ++ group_names (row k).outs) = subst (λ l. Apart l) (map-append (λ (g : Group). g.name) (row k).ins (row k).outs) (ports_apart k) in
    let z = sides (ports_from w p (nin_or_nout v) true (row k).ins) (ports_from w p (nin_or_nout v) false (row k).outs) ps e in
    let x = ports_once w p (nin_or_nout v) true (row k).ins z.0 (apart_left (group_names (row k).ins) (group_names (row k).outs) all) z.2 in
    let y = ports_once w p (nin_or_nout v) false (row k).outs z.1 (apart_right (group_names (row k).ins) (group_names (row k).outs) all) z.3 in
    subst (λ (l : List Point). Apart (map (named_point p) l)) z.4 (joined_once p (row k).ins (row k).outs z.0 z.1 (ports_apart k) x y).0

-- ---- one thing

abbrev Once : Thing → Type 0
Once t = Apart (names (elements_from t))

owned_once : (p : List Step) (ps : List Point) → Apart (map (named_point p) ps) → Apart (names (map (owned_by p) ps))
owned_once p ps a = subst (λ l. Apart l) (sym (map_map (owned_by p) name_of ps)) a

part_once : (w : Model) (k : Key) (t : Thing) (x : Part) (r : List Step) → ((d : ClassId) → IsThing w r d k t → Once t) → IsPart x r (λ z d. IsThing w z d k t) (λ z kind. IsOfKind w z kind k t) → Once t
part_once w k t (part.Block d) r rec s = rec d s
part_once w k t (part.Kind kind) r rec s =
    let o = of_kind w r kind k t s in
    subst (λ (z : Thing). Once z) (sym o.thing) (owned_once r o.ports (kind_once w r kind o.params o.ports o.ports_are))

thing_once : (w : Model) (k : Key) (p : List Step) (c : ClassId) (t : Thing) → IsThing w p c k t → Once t
thing_once w [] p c t s = subst (λ (z : Thing). Once z) (sym s) tt
thing_once w (i ∷ []) p c t s =
    let a = at_item w p c i t s in
    elim (own_points w p c i t a) as (λ _. Once t) [
      | inl e ↦ subst (λ (z : Thing). Once z) (sym e) tt
      | inr z ↦ subst (λ (z : Thing). Once z) (sym z.3) (owned_once p (points (item_name a.item) a.value_type a.input z.0 z.1)
          (points_once p (item_name a.item) a.value_type a.input z.0 z.1 (dims_few w p a.item z.0 z.2)))
    ]
thing_once w (i ∷ x ∷ k) p c t s =
    let b = below w p c i x k t s in
    part_once w k t b.part (p ++ (step (item_name b.item) (indices_at b.sizes x)) ∷ []) (λ d y. thing_once w k (p ++ (step (item_name b.item) (indices_at b.sizes x)) ∷ []) d t y) b.there

-- ---- all of them

module _ (w : Model) (a : NamesApart w) (p : List Step) (c : ClassId) where
  -- what stands first isn't brought by what stands behind it
  not_later : (k : Key) (t : Thing) (xs : Things) (q : List Step) (m : Mark) → Sorted ((k, t) ∷ xs) → AllStand w p c ((k, t) ∷ xs) → Marks t q m → BroughtBy xs q m → ⊥
  not_later k t xs q m s f h b =
      before_self k b.key (same_key w a k b.key p q c t b.thing m h b.marks (f k t (inl refl)) (f b.key b.thing (inr b.there))) (s.0 b.key b.thing b.there)

  instances_once : (xs : Things) → Sorted xs → AllStand w p c xs → Apart (paths (instances_in xs))
  instances_once [] s f = tt
  instances_once ((k, Block q d) ∷ xs) s f = (λ i. not_later k (Block q d) xs q None s f refl (in_instances q xs i), instances_once xs s.1 (λ l t m. f l t (inr m)))
  instances_once ((k, Elementary q d v ps) ∷ xs) s f = (λ i. not_later k (Elementary q d v ps) xs q None s f refl (in_instances q xs i), instances_once xs s.1 (λ l t m. f l t (inr m)))
  instances_once ((k, Elements q ps) ∷ xs) s f = instances_once xs s.1 (λ l t m. f l t (inr m))

  more_once : (k : Key) (t : Thing) (q : List Step) (ps : List Point) (xs : Things) → Sorted ((k, t) ∷ xs) → AllStand w p c ((k, t) ∷ xs) → ((n : List ℕ) → In n (point_names ps) → Marks t q (Some n))
      → Apart (names (map (owned_by q) ps)) → Apart (names (elements_in xs)) → Apart (names (map (owned_by q) ps ++ elements_in xs))
  more_once k t q ps xs s f g x y = subst (λ l. Apart l) (sym (map-append name_of (map (owned_by q) ps) (elements_in xs)))
      (apart_append (names (map (owned_by q) ps)) (names (elements_in xs)) x y (λ z i j.
      let h = in_owned z q ps i in
      let b = in_elements z xs j in
      not_later k t xs z.path (Some z.name) s f (subst (λ r. Marks t r (Some z.name)) (sym h.0) (g z.name h.1)) b))

  elements_once : (xs : Things) → Sorted xs → AllStand w p c xs → Apart (names (elements_in xs))
  elements_once [] s f = tt
  elements_once ((k, Block q d) ∷ xs) s f = elements_once xs s.1 (λ l t m. f l t (inr m))
  elements_once ((k, Elementary q d v ps) ∷ xs) s f = more_once k (Elementary q d v ps) q ps xs s f (λ n i. (refl, i))
      (thing_once w k p c (Elementary q d v ps) (f k (Elementary q d v ps) (inl refl))) (elements_once xs s.1 (λ l t m. f l t (inr m)))
  elements_once ((k, Elements q ps) ∷ xs) s f = more_once k (Elements q ps) q ps xs s f (λ n i. (refl, i))
      (thing_once w k p c (Elements q ps) (f k (Elements q ps) (inl refl))) (elements_once xs s.1 (λ l t m. f l t (inr m)))

-- ---- by instance

own_path : (os : List Owned) (p : List Step) (y : ElementName) → In y (names (own os p)) → y.path ≡ p
own_path os p y i =
    let z = of_map name_of y (own os p) i in
    ap (λ (n : ElementName). n.path) z.2 ∙ steps_yes z.0.path p (kept_true (λ (x : Owned). same_steps x.path p) z.0 os z.1)

pub grouped_path : (ss : List Seen) (os : List Owned) (y : ElementName) → In y (names (by_instance ss os)) → In y.path (paths ss)
grouped_path [] os y i = i
grouped_path (s ∷ ss) os y i = elim (in_either y (names (own os s.path)) (names (by_instance ss os)) (subst (λ l. In y l) (map-append name_of (own os s.path) (by_instance ss os)) i)) as (λ _. In y.path (paths (s ∷ ss))) [
  | inl a ↦ inl (own_path os s.path y a)
  | inr b ↦ inr (grouped_path ss os y b)
]

pub grouped_once : (ss : List Seen) (os : List Owned) → Apart (paths ss) → Apart (names os) → Apart (names (by_instance ss os))
grouped_once [] os a b = tt
grouped_once (s ∷ ss) os a b = subst (λ l. Apart l) (sym (map-append name_of (own os s.path) (by_instance ss os)))
    (apart_append (names (own os s.path)) (names (by_instance ss os)) (apart_filter (λ (x : Owned). same_steps x.path s.path) name_of os b) (grouped_once ss os a.1 b)
    (λ y i j. a.0 (subst (λ q. In q (paths ss)) (own_path os s.path y i) (grouped_path ss os y j))))

-- ---- what an instance is a part of

record Stands (w : Model) (p : List Step) (c : ClassId) (q : List Step) : Type 0 where
  key : Key
  thing : Thing
  there : IsThing w p c key thing
  marks : Marks thing q None

outer_push : (p : List Step) (s : Step) → outer (p ++ s ∷ []) ≡ p
outer_push p s = take_at p (s ∷ []) (length (p ++ s ∷ []) - 1) (let more : length (p ++ s ∷ []) ≡ length p + 1 = length-append p (s ∷ []) in omega (arith, more))

-- an instance is that at the path, or the one that it is a part of stands there too
abbrev Up : Model → List Step → ClassId → List Step → Type 0
Up w p c q = (q ≡ p) ⊎ Stands w p c (outer q)

itself : (w : Model) (p q : List Step) (c : ClassId) → q ≡ p → Stands w p c q
itself w p q c e = record { key = []; thing = Block p c; there = refl; marks = e }

lifted : (w : Model) (p q : List Step) (c : ClassId) (i x : ℕ) (k : Key) (t : Thing) (b : Below w p c i x k t) (d : ClassId) → b.part ≡ part.Block d
    → Stands w (p ++ (step (item_name b.item) (indices_at b.sizes x)) ∷ []) d q → Stands w p c q
lifted w p q c i x k t b d e s = record {
  key = i ∷ x ∷ s.key;
  thing = s.thing;
  there = above w p c i x k s.key t s.thing b (subst (λ (z : Part). IsPart z (p ++ (step (item_name b.item) (indices_at b.sizes x)) ∷ []) (λ r f. IsThing w r f s.key s.thing) (λ r kind. IsOfKind w r kind s.key s.thing)) (sym e) s.there);
  marks = s.marks;
}

part_up : (w : Model) (p q : List Step) (c : ClassId) (i x : ℕ) (k : Key) (t : Thing) (b : Below w p c i x k t) (z : Part) → b.part ≡ z → Marks t q None
    → ((d : ClassId) → IsThing w (p ++ (step (item_name b.item) (indices_at b.sizes x)) ∷ []) d k t → Up w (p ++ (step (item_name b.item) (indices_at b.sizes x)) ∷ []) d q)
    → IsPart z (p ++ (step (item_name b.item) (indices_at b.sizes x)) ∷ []) (λ r f. IsThing w r f k t) (λ r kind. IsOfKind w r kind k t) → Up w p c q
part_up w p q c i x k t b (part.Block d) e h rec s = elim (rec d s) as (λ _. Up w p c q) [
  | inl same ↦ inr (itself w p (outer q) c (ap outer same ∙ outer_push p (step (item_name b.item) (indices_at b.sizes x))))
  | inr up ↦ inr (lifted w p (outer q) c i x k t b d e up)
]
part_up w p q c i x k t b (part.Kind kind) e h rec s =
    let same = kind_mark w (p ++ (step (item_name b.item) (indices_at b.sizes x)) ∷ []) q kind k t None (of_kind w (p ++ (step (item_name b.item) (indices_at b.sizes x)) ∷ []) kind k t s) h in
    inr (itself w p (outer q) c (ap outer same ∙ outer_push p (step (item_name b.item) (indices_at b.sizes x))))

none_is : (n : List ℕ) (m : Mark) → m ≡ None → m ≡ Some n → ⊥
none_is n m e f = let h : None ≡ Some n = sym e ∙ f in cc

up : (w : Model) (k : Key) (p q : List Step) (c : ClassId) (t : Thing) → Marks t q None → IsThing w p c k t → Up w p c q
up w [] p q c t h s = inl (block_mark p q c t None s h).1
up w (i ∷ []) p q c t h s = let a = at_item w p c i t s in absurd (none_is (item_name a.item) None refl (item_mark w p q c i t None a h).0)
up w (i ∷ x ∷ k) p q c t h s =
    let b = below w p c i x k t s in
    part_up w p q c i x k t b b.part refl h (λ d y. up w k (p ++ (step (item_name b.item) (indices_at b.sizes x)) ∷ []) q d t h y) b.there

-- ---- the model

some_is : (x y : List Step) → Some x ≡ Some y → x ≡ y
some_is x y e = cc

no_step : (s : Step) (rest : List Step) → s ∷ rest ≡ [] → ⊥
no_step s rest e = cc

parent_there : (w : Model) (xs : Things) → Lists (IsThing w [] (the_root w)) xs → (p q : List Step) → In p (paths (instances_in xs)) → parent_path p ≡ Some q → In q (paths (instances_in xs))
parent_there w xs l [] q i e = absurd (cc)
parent_there w xs l (s ∷ rest) q i e =
    let b = in_instances (s ∷ rest) xs i in
    elim (up w b.key [] (s ∷ rest) (the_root w) b.thing b.marks (l.only b.key b.thing b.there)) as (λ _. In q (paths (instances_in xs))) [
      | inl none ↦ absurd (no_step s rest none)
      | inr z ↦ subst (λ r. In r (paths (instances_in xs))) (some_is (outer (s ∷ rest)) q e) (in_paths xs z.key z.thing (outer (s ∷ rest)) (l.each z.key z.thing z.there) z.marks)
    ]

pub parts_apart : (w : Model) (u : Unfolding) → NamesApart w → AreParts w u → AreApart u
parts_apart w u a r =
    let instances : Apart (paths (instances_in r.things)) = instances_once w a [] (the_root w) r.things r.lists.sorted (λ k t i. r.lists.only k t i) in
    let elements : Apart (names (elements_in r.things)) = elements_once w a [] (the_root w) r.things r.lists.sorted (λ k t i. r.lists.only k t i) in
    record {
      instances = subst (λ (l : List Seen). Apart (paths l)) (sym r.instances) instances;
      elements = subst (λ (l : List Owned). Apart (names l)) (sym r.elements) (grouped_once (instances_in r.things) (elements_in r.things) instances elements);
      owners = λ x i. subst (λ (l : List Seen). In x.path (paths l)) (sym r.instances) (grouped_path (instances_in r.things) (elements_in r.things) x (subst (λ (l : List Owned). In x (names l)) r.elements i));
      parents = λ p q i e. subst (λ (l : List Seen). In q (paths l)) (sym r.instances) (parent_there w r.things r.lists p q (subst (λ (l : List Seen). In p (paths l)) r.instances i) e);
    }
