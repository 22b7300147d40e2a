-- What stands in a model: what holds of each thing, the instance that elements are of, and the one that an instance is a part of.
use Rattle.std.proofs.Common.{◌≡◌, ◌⊎◌, ℕ, ◌-◌, ◌+◌, Bool, true, cond, List, [], ◌∷◌, ◌++◌, map, filter, length, length-append, append_assoc, Some, None, Ok, refl, sym, ap, ◌∙◌, subst, arith, inl, inr}
use Rattle.std.proofs.lemmas.List.{append-nil, take_at}
use Rattle.cdl_source.proofs.Cases.{by_bool}
use Rattle.cdl_values.specs.declared.value.Array.{Array}
use Rattle.cdl_kinds.specs.declared.kind.Kind.{Kind}
use Rattle.cdl_kinds.specs.Table.{row}
use Rattle.cdl_network.specs.Lists.{In}
use Rattle.cdl_network.proofs.Places.{filter_no}
use Rattle.cdl_scopes.specs.Lookup.{item_name}
use Rattle.cdl_classes.specs.declared.found.ClassId.{ClassId}
use Rattle.cdl_paths.specs.declared.path.Step.{Step}
use Rattle.cdl_params.specs.Kept.{Model}
use Rattle.cdl_stations.specs.Keys.{Key, Before, Lists, Sorted, In as InKeys}
use Rattle.cdl_stations.proofs.FromRuns.{Splits, split}
use Rattle.cdl_stations.proofs.Grown.{in_left, in_right, in_either}
use Rattle.cdl_stations.proofs.Unique.{before_self, sorted_across}
use Rattle.cdl_items.specs.declared.role.Part.{Part}
use Rattle.cdl_items.specs.declared.role.Part.TheVariants as part
use Rattle.cdl_walk.specs.declared.walked.Content.TheVariants as content
use Rattle.cdl_walk.specs.declared.walked.Point.{Point}
use Rattle.cdl_walk.specs.Elements.{indices_at}
use Rattle.cdl_walk.specs.Events.{outer, same_steps}
use Rattle.cdl_walk.specs.Instances.{Thing, Block, Elementary, Elements, Seen, Owned, owned_by, values, ports_of, connector_elements, IsOfKind, IsPart, IsThing, instances_from, instances_in, elements_from, elements_in}
use Rattle.cdl_walk.specs.Stations.{the_root}
use Rattle.cdl_model.specs.Apart.{NamesApart}
use Rattle.cdl_model.specs.Parts.{own}
use Rattle.cdl_model.proofs.Keyed.{Marks, AtItem, Below, step, at_item, below, above, of_kind, block_mark, item_mark, kind_mark, worth_is}
use Rattle.cdl_model.proofs.Tests.{steps_tell, steps_yes}
use Rattle.cdl_model.proofs.Unique.{same_key}

-- ---- what holds of each thing

-- it holds of instances of declared blocks, of those of kinds, and of what items bring
module _ (w : Model) (P : Thing → Type 0) (block : (p : List Step) (c : ClassId) → P (Block p c))
    (kind : (p : List Step) (k : Kind) (v : List Array) (ps : List Point) → values w p (row k).parameters ≡ Ok v → ports_of w p k v ≡ Ok ps → P (Elementary p k v ps))
    (item : (p : List Step) (c : ClassId) (i : ℕ) (t : Thing) → AtItem w p c i t → P t) where
  in_part : (k : Key) (t : Thing) (x : Part) (p : List Step) → ((d : ClassId) → IsThing w p d k t → P t) → IsPart x p (λ q d. IsThing w q d k t) (λ q y. IsOfKind w q y k t) → P t
  in_part k t (part.Block d) p rec s = rec d s
  in_part k t (part.Kind y) p rec s = let o = of_kind w p y k t s in subst (λ (z : Thing). P z) (sym o.thing) (kind p y o.params o.ports o.values_are o.ports_are)

  pub each_thing : (k : Key) (p : List Step) (c : ClassId) (t : Thing) → IsThing w p c k t → P t
  each_thing [] p c t s = subst (λ (z : Thing). P z) (sym s) (block p c)
  each_thing (i ∷ []) p c t s = item p c i t (at_item w p c i t s)
  each_thing (i ∷ x ∷ k) p c t s =
      let b = below w p c i x k t s in
      in_part k t b.part (p ++ (step (item_name b.item) (indices_at b.sizes x)) ∷ []) (λ d y. each_thing k (p ++ (step (item_name b.item) (indices_at b.sizes x)) ∷ []) d t y) b.there

-- what an item brings are elements
pub brings_elements : (w : Model) (p : List Step) (c : ClassId) (i : ℕ) (t : Thing) (a : AtItem w p c i t) → (ps : List Point) × (connector_elements w p a.item a.value_type a.input ≡ Ok ps) × (t ≡ Elements p ps)
brings_elements w p c i t a = worth_is (connector_elements w p a.item a.value_type a.input) (λ ps. t ≡ Elements p ps) a.worth

-- an instance of a kind has the ports of its kind
abbrev HasItsPorts : Model → Thing → Type 0
HasItsPorts w (Block p c) = Unit {0}
HasItsPorts w (Elementary p k v ps) = ports_of w p k v ≡ Ok ps
HasItsPorts w (Elements p ps) = Unit {0}

pub its_ports : (w : Model) (key : Key) (q : List Step) (c : ClassId) (p : List Step) (k : Kind) (v : List Array) (ps : List Point) → IsThing w q c key (Elementary p k v ps) → ports_of w p k v ≡ Ok ps
its_ports w key q c p k v ps s = each_thing w (HasItsPorts w) (λ r d. tt) (λ r y u qs e f. f)
    (λ r d i t a. let z = brings_elements w r d i t a in subst (λ (x : Thing). HasItsPorts w x) (sym z.2) tt) key q c (Elementary p k v ps) s

-- ---- the instance of which elements are

abbrev HasBlock : Model → List Step → ClassId → List Step → Type 0
HasBlock w p c q = (key : Key) × (d : ClassId) × IsThing w p c key (Block q d)

abbrev Upward : Model → List Step → ClassId → Thing → Type 0
Upward w p c (Block q d) = Unit {0}
Upward w p c (Elementary q k v ps) = Unit {0}
Upward w p c (Elements q ps) = HasBlock w p c q

-- what stands below an item has its block below that too
lifted : (w : Model) (p q : List Step) (c : ClassId) (i x : ℕ) (k : Key) (t : Thing) (b : Below w p c i x k t) (d : ClassId) → b.part ≡ part.Block d
    → HasBlock w (p ++ (step (item_name b.item) (indices_at b.sizes x)) ∷ []) d q → HasBlock w p c q
lifted w p q c i x k t b d e s = (
  i ∷ x ∷ s.0,
  s.1,
  above w p c i x k s.0 t (Block q s.1) b
      (subst (λ (z : Part). IsPart z (p ++ (step (item_name b.item) (indices_at b.sizes x)) ∷ []) (λ r f. IsThing w r f s.0 (Block q s.1)) (λ r y. IsOfKind w r y s.0 (Block q s.1))) (sym e) s.2),
)

up_like : (w : Model) (p r : List Step) (c d : ClassId) (t : Thing) → ((q : List Step) → HasBlock w r d q → HasBlock w p c q) → Upward w r d t → Upward w p c t
up_like w p r c d (Block q e) f u = tt
up_like w p r c d (Elementary q k v ps) f u = tt
up_like w p r c d (Elements q ps) f u = f q u

part_upward : (w : Model) (p : List Step) (c : ClassId) (i x : ℕ) (k : Key) (t : Thing) (b : Below w p c i x k t) (z : Part) → b.part ≡ z
    → ((d : ClassId) → IsThing w (p ++ (step (item_name b.item) (indices_at b.sizes x)) ∷ []) d k t → Upward w (p ++ (step (item_name b.item) (indices_at b.sizes x)) ∷ []) d t)
    → IsPart z (p ++ (step (item_name b.item) (indices_at b.sizes x)) ∷ []) (λ r f. IsThing w r f k t) (λ r y. IsOfKind w r y k t) → Upward w p c t
part_upward w p c i x k t b (part.Block d) e rec s = up_like w p (p ++ (step (item_name b.item) (indices_at b.sizes x)) ∷ []) c d t (λ q h. lifted w p q c i x k t b d e h) (rec d s)
part_upward w p c i x k t b (part.Kind y) e rec s =
    let o = of_kind w (p ++ (step (item_name b.item) (indices_at b.sizes x)) ∷ []) y k t s in
    subst (λ (z : Thing). Upward w p c z) (sym o.thing) tt

upward : (w : Model) (k : Key) (p : List Step) (c : ClassId) (t : Thing) → IsThing w p c k t → Upward w p c t
upward w [] p c t s = subst (λ (z : Thing). Upward w p c z) (sym s) tt
upward w (i ∷ []) p c t s =
    let z = brings_elements w p c i t (at_item w p c i t s) in
    subst (λ (x : Thing). Upward w p c x) (sym z.2) ([], c, refl)
upward w (i ∷ x ∷ k) p c t s =
    let b = below w p c i x k t s in
    part_upward w p c i x k t b b.part refl (λ d y. upward w k (p ++ (step (item_name b.item) (indices_at b.sizes x)) ∷ []) d t y) b.there

-- elements are of an instance of a declared block
pub block_of_elements : (w : Model) (k : Key) (p : List Step) (c : ClassId) (q : List Step) (ps : List Point) → IsThing w p c k (Elements q ps) → HasBlock w p c q
block_of_elements w k p c q ps s = upward w k p c (Elements q ps) s

-- ---- the instance of which an instance is a part

pub outer_push : (p : List Step) (s : Step) → outer (p ++ s ∷ []) ≡ p
outer_push p s = take_at p (s ∷ []) (length (p ++ s ∷ []) - 1) (let more : length (p ++ s ∷ []) ≡ length p + 1 = length-append p (s ∷ []) in omega (arith, more))

abbrev IsPartOf : Model → List Step → ClassId → List Step → Type 0
IsPartOf w p c q = (q ≡ p) ⊎ HasBlock w p c (outer q)

part_of : (w : Model) (p q : List Step) (c : ClassId) (i x : ℕ) (k : Key) (t : Thing) (b : Below w p c i x k t) (z : Part) → b.part ≡ z → Marks t q None
    → ((d : ClassId) → IsThing w (p ++ (step (item_name b.item) (indices_at b.sizes x)) ∷ []) d k t → IsPartOf w (p ++ (step (item_name b.item) (indices_at b.sizes x)) ∷ []) d q)
    → IsPart z (p ++ (step (item_name b.item) (indices_at b.sizes x)) ∷ []) (λ r f. IsThing w r f k t) (λ r y. IsOfKind w r y k t) → IsPartOf w p c q
part_of w p q c i x k t b (part.Block d) e h rec s = elim (rec d s) as (λ _. IsPartOf w p c q) [
  | inl same ↦ inr ([], c, ap (λ (r : List Step). Block r c) (ap outer same ∙ outer_push p (step (item_name b.item) (indices_at b.sizes x))))
  | inr up ↦ inr (lifted w p (outer q) c i x k t b d e up)
]
part_of w p q c i x k t b (part.Kind y) e h rec s =
    let same = kind_mark w (p ++ (step (item_name b.item) (indices_at b.sizes x)) ∷ []) q y k t None (of_kind w (p ++ (step (item_name b.item) (indices_at b.sizes x)) ∷ []) y k t s) h in
    inr ([], c, ap (λ (r : List Step). Block r c) (ap outer same ∙ outer_push p (step (item_name b.item) (indices_at b.sizes x))))

no_name : (n : List ℕ) → None ≡ Some n → ⊥
no_name n e = cc

pub block_of_part : (w : Model) (k : Key) (p q : List Step) (c : ClassId) (t : Thing) → Marks t q None → IsThing w p c k t → (q ≡ p) ⊎ HasBlock w p c (outer q)
block_of_part w [] p q c t h s = inl (block_mark p q c t None s h).1
block_of_part w (i ∷ []) p q c t h s = let a = at_item w p c i t s in absurd (no_name (item_name a.item) (item_mark w p q c i t None a h).0)
block_of_part w (i ∷ x ∷ k) p q c t h s =
    let b = below w p c i x k t s in
    part_of w p q c i x k t b b.part refl h (λ d y. block_of_part w k (p ++ (step (item_name b.item) (indices_at b.sizes x)) ∷ []) q d t h y) b.there

-- ---- one key, one thing

abbrev pub Things : Type 0
Things = List (Key × Thing)

pub one_thing : (xs : Things) (k : Key) (t u : Thing) → Sorted xs → InKeys {X = Key × Thing} (k, t) xs → InKeys {X = Key × Thing} (k, u) xs → t ≡ u
one_thing [] k t u s i j = absurd i
one_thing (x ∷ xs) k t u s (inl e) (inl f) = ap (λ (z : Key × Thing). z.1) (e ∙ sym f)
one_thing (x ∷ xs) k t u s (inl e) (inr j) = absurd (before_self x.0 k (sym (ap (λ (z : Key × Thing). z.0) e)) (s.0 k u j))
one_thing (x ∷ xs) k t u s (inr i) (inl f) = absurd (before_self x.0 k (sym (ap (λ (z : Key × Thing). z.0) f)) (s.0 k t i))
one_thing (x ∷ xs) k t u s (inr i) (inr j) = one_thing xs k t u s.1 i j

-- ---- the elements of an instance of a kind

abbrev path_of : Thing → List Step
path_of (Block p c) = p
path_of (Elementary p k v ps) = p
path_of (Elements p ps) = p

owned_path : (p : List Step) (ps : List Point) (x : Owned) → InKeys x (map (owned_by p) ps) → x.path ≡ p
owned_path p [] x i = absurd i
owned_path p (y ∷ ps) x (inl e) = ap (λ (z : Owned). z.path) e
owned_path p (y ∷ ps) x (inr i) = owned_path p ps x i

brought_path : (t : Thing) (x : Owned) → InKeys x (elements_from t) → x.path ≡ path_of t
brought_path (Block p c) x i = absurd i
brought_path (Elementary p k v ps) x i = owned_path p ps x i
brought_path (Elements p ps) x i = owned_path p ps x i

-- the thing that brings an element
pub brought : (x : Owned) (xs : Things) → InKeys x (elements_in xs) → (k : Key) × (t : Thing) × InKeys {X = Key × Thing} (k, t) xs × InKeys x (elements_from t)
brought x [] i = absurd i
brought x ((k, t) ∷ xs) i = elim (in_either x (elements_from t) (elements_in xs) i) as (λ _. (l : Key) × (u : Thing) × InKeys {X = Key × Thing} (l, u) ((k, t) ∷ xs) × InKeys x (elements_from u)) [
  | inl a ↦ (k, t, inl refl, a)
  | inr b ↦ (let r = brought x xs b in (r.0, r.1, inr r.2, r.3))
]

elements_both : (xs ys : Things) → elements_in (xs ++ ys) ≡ elements_in xs ++ elements_in ys
elements_both [] ys = refl
elements_both (x ∷ xs) ys = ap (λ (l : List Owned). elements_from x.1 ++ l) (elements_both xs ys) ∙ sym (append_assoc (elements_from x.1) (elements_in xs) (elements_in ys))

module _ {A : Type 0} where
  pub filter_both : (f : A → Bool) (xs ys : List A) → filter f (xs ++ ys) ≡ filter f xs ++ filter f ys
  filter_both f [] ys = refl
  filter_both f (x ∷ xs) ys = by_bool (f x)
      (λ t. ap (λ b. cond b (x ∷ filter f (xs ++ ys)) (filter f (xs ++ ys))) t ∙ ap (λ (l : List A). x ∷ l) (filter_both f xs ys) ∙ sym (ap (λ b. cond b (x ∷ filter f xs) (filter f xs) ++ filter f ys) t))
      (λ t. ap (λ b. cond b (x ∷ filter f (xs ++ ys)) (filter f (xs ++ ys))) t ∙ filter_both f xs ys ∙ sym (ap (λ b. cond b (x ∷ filter f xs) (filter f xs) ++ filter f ys) t))

  pub filter_all : (f : A → Bool) (xs : List A) → ((x : A) → In x xs → f x ≡ true) → filter f xs ≡ xs
  filter_all f [] h = refl
  filter_all f (x ∷ xs) h = ap (λ b. cond b (x ∷ filter f xs) (filter f xs)) (h x (inl refl)) ∙ ap (λ (l : List A). x ∷ l) (filter_all f xs (λ y i. h y (inr i)))

  in_keys : (x : A) (xs : List A) → In x xs → InKeys x xs
  in_keys x [] h = h
  in_keys x (y ∷ xs) (inl e) = inl e
  in_keys x (y ∷ xs) (inr h) = inr (in_keys x xs h)

abbrev kind_thing : List Step → Kind → List Array → List Point → Thing
kind_thing p k v ps = Elementary p k v ps

no_block : (p q : List Step) (c : ClassId) (k : Kind) (v : List Array) (ps : List Point) → Block q c ≡ kind_thing p k v ps → ⊥
no_block p q c k v ps e = cc

module _ (w : Model) (a : NamesApart w) (xs : Things) (l : Lists (IsThing w [] (the_root w)) xs) (key : Key) (p : List Step) (k : Kind) (v : List Array) (ps : List Point)
    (here : InKeys {X = Key × Thing} (key, Elementary p k v ps) xs) where
  the_thing : IsThing w [] (the_root w) key (Elementary p k v ps)
  the_thing = l.only key (Elementary p k v ps) here

  -- no other thing brings elements at this path
  only_key : (j : Key) (t : Thing) (x : Owned) → InKeys {X = Key × Thing} (j, t) xs → InKeys x (elements_from t) → x.path ≡ p → j ≡ key
  only_key j (Block q c) x i m e = absurd m
  only_key j (Elementary q y u qs) x i m e =
      same_key w a j key [] p (the_root w) (Elementary q y u qs) (Elementary p k v ps) None (sym e ∙ brought_path (Elementary q y u qs) x m) refl (l.only j (Elementary q y u qs) i) the_thing
  only_key j (Elements q qs) x i m e =
      let b = block_of_elements w j [] (the_root w) q qs (l.only j (Elements q qs) i) in
      let same : b.0 ≡ key = same_key w a b.0 key [] p (the_root w) (Block q b.1) (Elementary p k v ps) None (sym e ∙ brought_path (Elements q qs) x m) refl b.2 the_thing in
      let block : InKeys {X = Key × Thing} (key, Block q b.1) xs = subst (λ (z : Key). InKeys {X = Key × Thing} (z, Block q b.1) xs) same (l.each b.0 (Block q b.1) b.2) in
      absurd (no_block p q b.1 k v ps (one_thing xs key (Block q b.1) (Elementary p k v ps) l.sorted block here))

  none_elsewhere : (ys : Things) → ((j : Key) (t : Thing) → InKeys {X = Key × Thing} (j, t) ys → InKeys {X = Key × Thing} (j, t) xs × (j ≡ key → ⊥)) → own (elements_in ys) p ≡ []
  none_elsewhere ys f = filter_no (λ (x : Owned). same_steps x.path p) (elements_in ys) (λ x i. by_bool (same_steps x.path p)
      (λ t. let b = brought x ys (in_keys x (elements_in ys) i) in let g = f b.0 b.1 b.2 in absurd (g.1 (only_key b.0 b.1 x g.0 b.3 (steps_yes x.path p t))))
      (λ t. t))

  own_all : own (map (owned_by p) ps) p ≡ map (owned_by p) ps
  own_all = filter_all (λ (x : Owned). same_steps x.path p) (map (owned_by p) ps)
      (λ x i. ap (λ q. same_steps q p) (owned_path p ps x (in_keys x (map (owned_by p) ps) i)) ∙ steps_tell.self p)

  -- the elements of the instance are its ports
  pub own_ports : own (elements_in xs) p ≡ map (owned_by p) ps
  own_ports =
      let s : Splits {X = Key × Thing} (key, Elementary p k v ps) xs = split {X = Key × Thing} (key, Elementary p k v ps) xs here in
      let sorted : Sorted (s.front ++ (key, Elementary p k v ps) ∷ s.rest) = subst (λ (z : Things). Sorted z) s.are l.sorted in
      let before : own (elements_in s.front) p ≡ [] = none_elsewhere s.front (λ j t i. (
        subst (λ (z : Things). InKeys {X = Key × Thing} (j, t) z) (sym s.are) (in_left {X = Key × Thing} (j, t) s.front ((key, Elementary p k v ps) ∷ s.rest) i),
        λ e. before_self j key e (sorted_across s.front ((key, Elementary p k v ps) ∷ s.rest) j key t (Elementary p k v ps) sorted i (inl refl)),
      )) in
      let behind : own (elements_in s.rest) p ≡ [] = none_elsewhere s.rest (λ j t i. (
        subst (λ (z : Things). InKeys {X = Key × Thing} (j, t) z) (sym s.are) (in_right {X = Key × Thing} (j, t) s.front ((key, Elementary p k v ps) ∷ s.rest) (inr i)),
        λ e. before_self key j (sym e) (later s.front s.rest sorted j t i),
      )) in
      ap (λ (z : Things). own (elements_in z) p) s.are
      ∙ ap (λ (z : List Owned). own z p) (elements_both s.front ((key, Elementary p k v ps) ∷ s.rest))
      ∙ filter_both (λ (x : Owned). same_steps x.path p) (elements_in s.front) (map (owned_by p) ps ++ elements_in s.rest)
      ∙ ap (λ (z : List Owned). z ++ own (map (owned_by p) ps ++ elements_in s.rest) p) before
      ∙ filter_both (λ (x : Owned). same_steps x.path p) (map (owned_by p) ps) (elements_in s.rest)
      ∙ ap (λ (z : List Owned). z ++ own (elements_in s.rest) p) own_all
      ∙ ap (λ (z : List Owned). map (owned_by p) ps ++ z) behind
      ∙ append-nil (map (owned_by p) ps)
    where
      tail_sorted : (zs : Things) (y : Key × Thing) (us : Things) → Sorted (zs ++ y ∷ us) → (j : Key) (t : Thing) → InKeys {X = Key × Thing} (j, t) us → Before y.0 j
      tail_sorted [] y us s j t i = s.0 j t i
      tail_sorted (z ∷ zs) y us s j t i = tail_sorted zs y us s.1 j t i

      later : (front rest : Things) → Sorted (front ++ (key, Elementary p k v ps) ∷ rest) → (j : Key) (t : Thing) → InKeys {X = Key × Thing} (j, t) rest → Before key j
      later front rest s j t i = tail_sorted front (key, Elementary p k v ps) rest s j t i

-- ---- the thing of an instance

abbrev pub kind_seen : List Step → Kind → List Array → Seen
kind_seen p k v = record { path = p; content = content.Elementary k v }

-- an instance of a kind in the list is such a thing
pub kind_listed : (xs : Things) (p : List Step) (k : Kind) (v : List Array) → InKeys (kind_seen p k v) (instances_in xs)
    → (key : Key) × (ps : List Point) × InKeys {X = Key × Thing} (key, Elementary p k v ps) xs
kind_listed [] p k v i = absurd i
kind_listed ((j, t) ∷ xs) p k v i = elim (in_either (kind_seen p k v) (instances_from t) (instances_in xs) i)
    as (λ _. (key : Key) × (ps : List Point) × InKeys {X = Key × Thing} (key, Elementary p k v ps) ((j, t) ∷ xs)) [
      | inl a ↦ (let z = kind_from t a in (j, z.0, inl (ap (λ (y : Thing). (j, y)) (sym z.1))))
      | inr b ↦ (let r = kind_listed xs p k v b in (r.0, r.1, inr r.2))
    ]
  where
    contents : (q : List Step) (y : Kind) (u : List Array) → content.Elementary k v ≡ content.Elementary y u → (k ≡ y) × (v ≡ u)
    contents q y u e = (cc, cc)

    no_kind : (c : ClassId) → content.Elementary k v ≡ content.Block c → ⊥
    no_kind c e = cc

    kind_from : (u : Thing) → InKeys (kind_seen p k v) (instances_from u) → (ps : List Point) × (u ≡ Elementary p k v ps)
    kind_from (Block q c) (inl e) = absurd (no_kind c (ap (λ (z : Seen). z.content) e))
    kind_from (Block q c) (inr h) = absurd h
    kind_from (Elementary q y u qs) (inl e) =
        let same : p ≡ q = ap (λ (z : Seen). z.path) e in
        let both = contents q y u (ap (λ (z : Seen). z.content) e) in
        (qs, sym (ap (λ (z : List Step). Elementary z k v qs) same ∙ ap (λ (z : Kind). Elementary q z v qs) both.0 ∙ ap (λ (z : List Array). Elementary q y z qs) both.1))
    kind_from (Elementary q y u qs) (inr h) = absurd h
    kind_from (Elements q qs) h = absurd h
