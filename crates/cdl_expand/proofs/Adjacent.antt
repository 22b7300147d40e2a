-- Instances that follow each other: what the next one is a part of is the one before, or holds it.
use Rattle.std.proofs.Common.{◌≡◌, ◌⊎◌, ℕ, zero, suc, List, [], ◌∷◌, ◌++◌, Some, None, Ok, slice_get, refl, sym, ap, ◌∙◌, subst, arith, inl, inr}
use Rattle.cdl_values.specs.declared.value.Array.{Array}
use Rattle.cdl_array.specs.Outcomes.{Outcome}
use Rattle.cdl_kinds.specs.declared.kind.Kind.{Kind}
use Rattle.cdl_tree.specs.declared.class.Item.{Item}
use Rattle.cdl_scopes.specs.Classes.{declared}
use Rattle.cdl_scopes.specs.Lookup.{item_name}
use Rattle.cdl_classes.specs.declared.found.ClassId.{ClassId}
use Rattle.cdl_paths.specs.declared.path.Step.{Step}
use Rattle.cdl_params.specs.Kept.{Model}
use Rattle.cdl_stations.specs.Keys.{Key, Before, Lists, Sorted, In as InKeys}
use Rattle.cdl_stations.proofs.Firsts.{inside}
use Rattle.cdl_stations.proofs.Unique.{before_asym, before_self}
use Rattle.cdl_items.specs.declared.role.Part.{Part}
use Rattle.cdl_items.specs.declared.role.Part.TheVariants as part
use Rattle.cdl_items.specs.declared.role.Role.TheVariants as role
use Rattle.cdl_walk.specs.declared.walked.Point.{Point}
use Rattle.cdl_walk.specs.Elements.{indices_at}
use Rattle.cdl_walk.specs.Events.{outer}
use Rattle.cdl_walk.specs.Instances.{Thing, Block, Elementary, Elements, Seen, elements, IsOfKind, IsPart, IsThing, instances_from, instances_in}
use Rattle.cdl_items.specs.Roles.{role_of}
use Rattle.cdl_walk.specs.Stations.{the_root}
use Rattle.cdl_model.proofs.Keyed.{Marks, Below, step, at_item, below, above, of_kind, block_mark, item_mark, kind_mark, starts}
use Rattle.cdl_expand.proofs.Rooted.{block_seen, marks_path}
use Rattle.cdl_expand.proofs.Things.{Things, brings_elements, kind_seen, outer_push}

-- ---- keys

-- what lies between a key and an extension of it extends it
pub between : (l r k : Key) → Before l k ⊎ (l ≡ k) → Before k (l ++ r) → (s : Key) × (k ≡ l ++ s)
between [] r k a b = (k, refl)
between (m ∷ l) r [] a b = absurd (no_start a)
  where
    no_start : Before (m ∷ l) [] ⊎ (m ∷ l ≡ []) → ⊥
    no_start (inl h) = h
    no_start (inr e) = cc
between (m ∷ l) r (n ∷ k) a (inl h) = absurd (not_less a)
  where
    not_less : Before (m ∷ l) (n ∷ k) ⊎ (m ∷ l ≡ n ∷ k) → ⊥
    not_less (inl (inl g)) = omega (arith, g, h)
    not_less (inl (inr g)) = omega (arith, g.0, h)
    not_less (inr e) = let q : m ≡ n = cc in omega (arith, q, h)
between (m ∷ l) r (n ∷ k) a (inr h) =
    let z = between l r k (tails a) h.1 in
    (z.0, ap (λ (i : ℕ). i ∷ k) h.0 ∙ ap (λ (j : Key). m ∷ j) z.1)
  where
    tails : Before (m ∷ l) (n ∷ k) ⊎ (m ∷ l ≡ n ∷ k) → Before l k ⊎ (l ≡ k)
    tails (inl (inl g)) = absurd (let e = h.0 in omega (arith, g, e))
    tails (inl (inr g)) = inl g.1
    tails (inr e) = inr (cc)

-- ---- an instance and the one that it is a part of

-- its key goes on from that of its block
abbrev UpKey : Model → List Step → ClassId → List Step → Key → Type 0
UpKey w p c q k = (q ≡ p) ⊎ ((l : Key) × (d : ClassId) × (n : ℕ) × (r : Key) × (k ≡ l ++ n ∷ r) × IsThing w p c l (Block (outer q) d))

module _ (w : Model) (p q : List Step) (c : ClassId) (i x : ℕ) (k : Key) (t : Thing) (b : Below w p c i x k t) where
  abbrev next : List Step
  next = p ++ (step (item_name b.item) (indices_at b.sizes x)) ∷ []

  lifted : (d : ClassId) → b.part ≡ part.Block d → (l : Key) (e : ClassId) → IsThing w next d l (Block (outer q) e) → IsThing w p c (i ∷ x ∷ l) (Block (outer q) e)
  lifted d e l f s = above w p c i x k l t (Block (outer q) f) b
      (subst (λ (z : Part). IsPart z next (λ r g. IsThing w r g l (Block (outer q) f)) (λ r y. IsOfKind w r y l (Block (outer q) f))) (sym e) s)

  part_up : (z : Part) → b.part ≡ z → Marks t q None → ((d : ClassId) → IsThing w next d k t → UpKey w next d q k) → IsPart z next (λ r f. IsThing w r f k t) (λ r y. IsOfKind w r y k t) → UpKey w p c q (i ∷ x ∷ k)
  part_up (part.Block d) e h rec s = elim (rec d s) as (λ _. UpKey w p c q (i ∷ x ∷ k)) [
    | inl same ↦ inr ([], c, i, x ∷ k, refl, ap (λ (r : List Step). Block r c) (ap outer same ∙ outer_push p (step (item_name b.item) (indices_at b.sizes x))))
    | inr up ↦ inr (i ∷ x ∷ up.0, up.1, up.2, up.3, ap (λ (l : Key). i ∷ x ∷ l) up.4, lifted d e up.0 up.1 up.5)
  ]
  part_up (part.Kind y) e h rec s =
      let same = kind_mark w next q y k t None (of_kind w next y k t s) h in
      inr ([], c, i, x ∷ k, refl, ap (λ (r : List Step). Block r c) (ap outer same ∙ outer_push p (step (item_name b.item) (indices_at b.sizes x))))

no_name : (n : List ℕ) → None ≡ Some n → ⊥
no_name n e = cc

pub up_key : (w : Model) (k : Key) (p q : List Step) (c : ClassId) (t : Thing) → Marks t q None → IsThing w p c k t → UpKey w p c q k
up_key w [] p q c t h s = inl (block_mark p q c t None s h).1
up_key w (i ∷ []) p q c t h s = let a = at_item w p c i t s in absurd (no_name (item_name a.item) (item_mark w p q c i t None a h).0)
up_key w (i ∷ x ∷ k) p q c t h s =
    let b = below w p c i x k t s in
    part_up w p q c i x k t b b.part refl h (λ d y. up_key w k (p ++ (step (item_name b.item) (indices_at b.sizes x)) ∷ []) q d t h y) b.there

-- ---- what stands below the key of a block stands in the block

some_same : {A : Type 0} (x y : A) → Some x ≡ Some y → x ≡ y
some_same x y e = cc

abbrev the_sizes : List ℕ → Outcome (List ℕ)
the_sizes x = Ok x

ok_same : (x y : List ℕ) → the_sizes x ≡ the_sizes y → x ≡ y
ok_same x y e = cc

component_same : (x y : Part) → role.Component x ≡ role.Component y → x ≡ y
component_same x y e = cc

same_block : (p q : List Step) (c d : ClassId) → Block p c ≡ Block q d → (p ≡ q) × (c ≡ d)
same_block p q c d e = (cc, cc)

no_elements : (q p : List Step) (d : ClassId) (ps : List Point) → Block q d ≡ Elements p ps → ⊥
no_elements q p d ps e = cc

abbrev kind_thing : List Step → Kind → List Array → List Point → Thing
kind_thing p k v ps = Elementary p k v ps

no_elementary : (q p : List Step) (d : ClassId) (k : Kind) (v : List Array) (ps : List Point) → Block q d ≡ kind_thing p k v ps → ⊥
no_elementary q p d k v ps e = cc

-- two things below one element of a component are in the same part of it
part_same : (w : Model) (p : List Step) (c : ClassId) (i x : ℕ) (k l : Key) (t u : Thing) (a : Below w p c i x k t) (b : Below w p c i x l u)
    → IsPart a.part (p ++ (step (item_name a.item) (indices_at a.sizes x)) ∷ []) (λ z f. IsThing w z f l u) (λ z y. IsOfKind w z y l u)
part_same w p c i x k l t u a b =
    let items : b.item ≡ a.item = some_same b.item a.item (sym b.at ∙ a.at) in
    let parts : b.part ≡ a.part = component_same b.part a.part (sym b.role_is ∙ ap (λ (z : Item). role_of (declared w.files) c.index i z) items ∙ a.role_is) in
    let sizes : b.sizes ≡ a.sizes = ok_same b.sizes a.sizes (sym b.worth ∙ ap (λ (z : Item). elements w p z) items ∙ a.worth) in
    let steps : step (item_name b.item) (indices_at b.sizes x) ≡ step (item_name a.item) (indices_at a.sizes x) =
    ap (λ (z : Item). step (item_name z) (indices_at b.sizes x)) items ∙ ap (λ (z : List ℕ). step (item_name a.item) (indices_at z x)) sizes in
    subst (λ (s : Step). IsPart a.part (p ++ s ∷ []) (λ z f. IsThing w z f l u) (λ z y. IsOfKind w z y l u)) steps
    (subst (λ (z : Part). IsPart z (p ++ (step (item_name b.item) (indices_at b.sizes x)) ∷ []) (λ r f. IsThing w r f l u) (λ r y. IsOfKind w r y l u)) parts b.there)

in_part : (w : Model) (q r : List Step) (d : ClassId) (k l m : Key) (u : Thing) (z : Part) → ((e : ClassId) → IsThing w r e k (Block q d) → IsThing w r e l u → IsThing w q d m u)
    → IsPart z r (λ y e. IsThing w y e k (Block q d)) (λ y f. IsOfKind w y f k (Block q d)) → IsPart z r (λ y e. IsThing w y e l u) (λ y f. IsOfKind w y f l u) → IsThing w q d m u
in_part w q r d k l m u (part.Block e) rec s g = rec e s g
in_part w q r d k l m u (part.Kind y) rec s g = let o = of_kind w r y k (Block q d) s in absurd (no_elementary q r d y o.params o.ports o.thing)

pub in_block : (w : Model) (l r : Key) (p q : List Step) (c d : ClassId) (u : Thing) → IsThing w p c l (Block q d) → IsThing w p c (l ++ r) u → IsThing w q d r u
in_block w [] r p q c d u s g =
    let e = same_block q p d c s in
    subst (λ (z : ClassId). IsThing w q z r u) (sym e.1) (subst (λ (z : List Step). IsThing w z c r u) (sym e.0) g)
in_block w (i ∷ []) r p q c d u s g = let z = brings_elements w p c i (Block q d) (at_item w p c i (Block q d) s) in absurd (no_elements q p d z.0 z.2)
in_block w (i ∷ x ∷ l) r p q c d u s g =
    let a = below w p c i x l (Block q d) s in
    let b = below w p c i x (l ++ r) u g in
    in_part w q (p ++ (step (item_name a.item) (indices_at a.sizes x)) ∷ []) d l (l ++ r) r u a.part
    (λ e y z. in_block w l r (p ++ (step (item_name a.item) (indices_at a.sizes x)) ∷ []) q e d u y z) a.there (part_same w p c i x l (l ++ r) (Block q d) u a b)

-- and back
part_down : (w : Model) (q r : List Step) (d : ClassId) (k l m : Key) (u : Thing) (z : Part) → ((e : ClassId) → IsThing w r e k (Block q d) → IsThing w r e l u)
    → IsPart z r (λ y e. IsThing w y e k (Block q d)) (λ y f. IsOfKind w y f k (Block q d)) → IsPart z r (λ y e. IsThing w y e l u) (λ y f. IsOfKind w y f l u)
part_down w q r d k l m u (part.Block e) rec s = rec e s
part_down w q r d k l m u (part.Kind y) rec s = let o = of_kind w r y k (Block q d) s in absurd (no_elementary q r d y o.params o.ports o.thing)

pub of_block : (w : Model) (l r : Key) (p q : List Step) (c d : ClassId) (u : Thing) → IsThing w p c l (Block q d) → IsThing w q d r u → IsThing w p c (l ++ r) u
of_block w [] r p q c d u s g =
    let e = same_block q p d c s in
    subst (λ (z : ClassId). IsThing w p z r u) e.1 (subst (λ (z : List Step). IsThing w z d r u) e.0 g)
of_block w (i ∷ []) r p q c d u s g = let z = brings_elements w p c i (Block q d) (at_item w p c i (Block q d) s) in absurd (no_elements q p d z.0 z.2)
of_block w (i ∷ x ∷ l) r p q c d u s g =
    let a = below w p c i x l (Block q d) s in
    above w p c i x l (l ++ r) (Block q d) u a (part_down w q (p ++ (step (item_name a.item) (indices_at a.sizes x)) ∷ []) d l (l ++ r) r u a.part
    (λ e y. of_block w l r (p ++ (step (item_name a.item) (indices_at a.sizes x)) ∷ []) q e d u y g) a.there)

-- ---- the key of elements goes on from that of their block

abbrev ElementsKey : Model → List Step → ClassId → Thing → Key → Type 0
ElementsKey w p c (Block q d) k = Unit {0}
ElementsKey w p c (Elementary q y v ps) k = Unit {0}
ElementsKey w p c (Elements q ps) k = (l : Key) × (d : ClassId) × (n : ℕ) × (k ≡ l ++ n ∷ []) × IsThing w p c l (Block q d)

key_like : (w : Model) (p r : List Step) (c d : ClassId) (t : Thing) (i x : ℕ) (k : Key) → ((l : Key) (q : List Step) (e : ClassId) → IsThing w r d l (Block q e) → IsThing w p c (i ∷ x ∷ l) (Block q e))
    → ElementsKey w r d t k → ElementsKey w p c t (i ∷ x ∷ k)
key_like w p r c d (Block q e) i x k f u = tt
key_like w p r c d (Elementary q y v ps) i x k f u = tt
key_like w p r c d (Elements q ps) i x k f u = (i ∷ x ∷ u.0, u.1, u.2, ap (λ (l : Key). i ∷ x ∷ l) u.3, f u.0 q u.1 u.4)

part_key : (w : Model) (p : List Step) (c : ClassId) (i x : ℕ) (k : Key) (t : Thing) (b : Below w p c i x k t) (z : Part) → b.part ≡ z
    → ((d : ClassId) → IsThing w (p ++ (step (item_name b.item) (indices_at b.sizes x)) ∷ []) d k t → ElementsKey w (p ++ (step (item_name b.item) (indices_at b.sizes x)) ∷ []) d t k)
    → IsPart z (p ++ (step (item_name b.item) (indices_at b.sizes x)) ∷ []) (λ r f. IsThing w r f k t) (λ r y. IsOfKind w r y k t) → ElementsKey w p c t (i ∷ x ∷ k)
part_key w p c i x k t b (part.Block d) e rec s = key_like w p (p ++ (step (item_name b.item) (indices_at b.sizes x)) ∷ []) c d t i x k
    (λ l q f y. above w p c i x k l t (Block q f) b (subst (λ (z : Part). IsPart z (p ++ (step (item_name b.item) (indices_at b.sizes x)) ∷ []) (λ r g. IsThing w r g l (Block q f)) (λ r g. IsOfKind w r g l (Block q f))) (sym e) y))
    (rec d s)
part_key w p c i x k t b (part.Kind y) e rec s =
    let o = of_kind w (p ++ (step (item_name b.item) (indices_at b.sizes x)) ∷ []) y k t s in
    subst (λ (z : Thing). ElementsKey w p c z (i ∷ x ∷ k)) (sym o.thing) tt

elements_at : (w : Model) (k : Key) (p : List Step) (c : ClassId) (t : Thing) → IsThing w p c k t → ElementsKey w p c t k
elements_at w [] p c t s = subst (λ (z : Thing). ElementsKey w p c z []) (sym s) tt
elements_at w (i ∷ []) p c t s = let z = brings_elements w p c i t (at_item w p c i t s) in subst (λ (x : Thing). ElementsKey w p c x (i ∷ [])) (sym z.2) ([], c, i, refl, refl)
elements_at w (i ∷ x ∷ k) p c t s =
    let b = below w p c i x k t s in
    part_key w p c i x k t b b.part refl (λ d y. elements_at w k (p ++ (step (item_name b.item) (indices_at b.sizes x)) ∷ []) d t y) b.there

pub elements_key : (w : Model) (k : Key) (p : List Step) (c : ClassId) (q : List Step) (ps : List Point) → IsThing w p c k (Elements q ps) → (l : Key) × (d : ClassId) × (n : ℕ) × (k ≡ l ++ n ∷ []) × IsThing w p c l (Block q d)
elements_key w k p c q ps s = elements_at w k p c (Elements q ps) s

-- ---- instances that follow each other

abbrev Brings : Thing → Type 0
Brings (Block p c) = Unit {0}
Brings (Elementary p k v ps) = Unit {0}
Brings (Elements p ps) = ⊥

-- the thing of an instance before which no other one brings one
record IsNext (xs : Things) (s : Seen) : Type 0 where
  key : Key
  thing : Thing
  there : InKeys {X = Key × Thing} (key, thing) xs
  seen : InKeys s (instances_from thing)
  none : (l : Key) (u : Thing) → InKeys {X = Key × Thing} (l, u) xs → Brings u → Before l key → ⊥

nothing_there : (s : Seen) → None ≡ Some s → ⊥
nothing_there s e = cc

same_seen : (a s : Seen) → Some a ≡ Some s → s ≡ a
same_seen a s e = cc

first_next : (k : Key) (t : Thing) (xs : Things) (s : Seen) → Sorted ((k, t) ∷ xs) → InKeys s (instances_from t) → IsNext ((k, t) ∷ xs) s
first_next k t xs s o i = record { key = k; thing = t; there = inl refl; seen = i; none = none }
  where
    none : (l : Key) (u : Thing) → InKeys {X = Key × Thing} (l, u) ((k, t) ∷ xs) → Brings u → Before l k → ⊥
    none l u (inl e) b h = before_self l k (ap (λ (z : Key × Thing). z.0) e) h
    none l u (inr m) b h = before_asym l k h (o.0 l u m)

next_there : (xs : Things) (s : Seen) → Sorted xs → slice_get (instances_in xs) 0 ≡ Some s → IsNext xs s
next_there [] s o e = absurd (nothing_there s e)
next_there ((k, Block p c) ∷ xs) s o e = first_next k (Block p c) xs s o (inl (same_seen (block_seen p c) s e))
next_there ((k, Elementary p y v ps) ∷ xs) s o e = first_next k (Elementary p y v ps) xs s o (inl (same_seen (kind_seen p y v) s e))
next_there ((k, Elements p ps) ∷ xs) s o e =
    let r = next_there xs s o.1 e in
    record { key = r.key; thing = r.thing; there = inr r.there; seen = r.seen; none = none r }
  where
    none : (r : IsNext xs s) (l : Key) (u : Thing) → InKeys {X = Key × Thing} (l, u) ((k, Elements p ps) ∷ xs) → Brings u → Before l r.key → ⊥
    none r l u (inl f) b h = subst (λ (z : Key × Thing). Brings z.1) f b
    none r l u (inr m) b h = r.none l u m b h

-- two instances that follow each other: what brings an instance before the second stands at the first or before
pub record AreNext (xs : Things) (s n : Seen) : Type 0 where
  pub key : Key
  pub thing : Thing
  pub there : InKeys {X = Key × Thing} (key, thing) xs
  pub seen : InKeys s (instances_from thing)
  pub next : Key
  pub next_thing : Thing
  pub next_there : InKeys {X = Key × Thing} (next, next_thing) xs
  pub next_seen : InKeys n (instances_from next_thing)
  pub order : Before key next
  pub between : (l : Key) (u : Thing) → InKeys {X = Key × Thing} (l, u) xs → Brings u → Before l next → Before l key ⊎ (l ≡ key)

pub brings_block : (p : List Step) (c : ClassId) → Brings (Block p c)
brings_block p c = tt

here_next : (k : Key) (t : Thing) (xs : Things) (s n : Seen) → Sorted ((k, t) ∷ xs) → InKeys s (instances_from t) → IsNext xs n → AreNext ((k, t) ∷ xs) s n
here_next k t xs s n o i r = record {
  key = k;
  thing = t;
  there = inl refl;
  seen = i;
  next = r.key;
  next_thing = r.thing;
  next_there = inr r.there;
  next_seen = r.seen;
  order = o.0 r.key r.thing r.there;
  between = at_first;
}
  where
    at_first : (l : Key) (u : Thing) → InKeys {X = Key × Thing} (l, u) ((k, t) ∷ xs) → Brings u → Before l r.key → Before l k ⊎ (l ≡ k)
    at_first l u (inl e) b h = inr (ap (λ (z : Key × Thing). z.0) e)
    at_first l u (inr m) b h = absurd (r.none l u m b h)

later_next : (k : Key) (t : Thing) (xs : Things) (s n : Seen) → Sorted ((k, t) ∷ xs) → AreNext xs s n → AreNext ((k, t) ∷ xs) s n
later_next k t xs s n o r = record {
  key = r.key;
  thing = r.thing;
  there = inr r.there;
  seen = r.seen;
  next = r.next;
  next_thing = r.next_thing;
  next_there = inr r.next_there;
  next_seen = r.next_seen;
  order = r.order;
  between = at_later;
}
  where
    at_later : (l : Key) (u : Thing) → InKeys {X = Key × Thing} (l, u) ((k, t) ∷ xs) → Brings u → Before l r.next → Before l r.key ⊎ (l ≡ r.key)
    at_later l u (inl e) b h = inl (subst (λ (z : Key). Before z r.key) (sym (ap (λ (z : Key × Thing). z.0) e)) (o.0 r.key r.thing r.there))
    at_later l u (inr m) b h = r.between l u m b h

pub are_next : (xs : Things) (i : ℕ) (s n : Seen) → Sorted xs → slice_get (instances_in xs) i ≡ Some s → slice_get (instances_in xs) (suc i) ≡ Some n → AreNext xs s n
are_next [] i s n o e f = absurd (nothing_there s e)
are_next ((k, Block p c) ∷ xs) zero s n o e f = here_next k (Block p c) xs s n o (inl (same_seen (block_seen p c) s e)) (next_there xs n o.1 f)
are_next ((k, Block p c) ∷ xs) (suc i) s n o e f = later_next k (Block p c) xs s n o (are_next xs i s n o.1 e f)
are_next ((k, Elementary p y v ps) ∷ xs) zero s n o e f = here_next k (Elementary p y v ps) xs s n o (inl (same_seen (kind_seen p y v) s e)) (next_there xs n o.1 f)
are_next ((k, Elementary p y v ps) ∷ xs) (suc i) s n o e f = later_next k (Elementary p y v ps) xs s n o (are_next xs i s n o.1 e f)
are_next ((k, Elements p ps) ∷ xs) i s n o e f = later_next k (Elements p ps) xs s n o (are_next xs i s n o.1 e f)

-- what the second is a part of has a path with which the path of the first begins
pub next_starts : (w : Model) (xs : Things) (s n : Seen) → Lists (IsThing w [] (the_root w)) xs → AreNext xs s n → (n.path ≡ []) ⊎ ((rest : List Step) × (s.path ≡ outer n.path ++ rest))
next_starts w xs s n l a = by_up (up_key w a.next [] n.path (the_root w) a.next_thing (marks_path a.next_thing n a.next_seen) (l.only a.next a.next_thing a.next_there))
  where
    by_up : UpKey w [] (the_root w) n.path a.next → (n.path ≡ []) ⊎ ((rest : List Step) × (s.path ≡ outer n.path ++ rest))
    by_up (inl e) = inl e
    by_up (inr u) =
        let before : Before u.0 a.next = subst (λ (z : Key). Before u.0 z) (sym u.4) (inside u.0 u.3 u.2) in
        let z = between u.0 (u.2 ∷ u.3) a.key (a.between u.0 (Block (outer n.path) u.1) (l.each u.0 (Block (outer n.path) u.1) u.5) tt before) (subst (λ (y : Key). Before a.key y) u.4 a.order) in
        let there : IsThing w [] (the_root w) (u.0 ++ z.0) a.thing = subst (λ (y : Key). IsThing w [] (the_root w) y a.thing) z.1 (l.only a.key a.thing a.there) in
        inr (starts w z.0 (outer n.path) s.path u.1 a.thing None (marks_path a.thing s a.seen) (in_block w u.0 z.0 [] (outer n.path) (the_root w) u.1 a.thing u.5 there))
