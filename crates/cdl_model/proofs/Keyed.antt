-- What stands at a key of a model, and where it has its path from.
use Rattle.std.proofs.Common.{◌≡◌, ◌⊎◌, ℕ, ◌<◌, Bool, true, false, cond, List, [], ◌∷◌, ◌++◌, map, Option, Some, None, Ok, Err, slice_get, refl, sym, ap, ◌∙◌, subst, inl, inr, append_assoc}
use Rattle.std.proofs.lemmas.List.{append-nil, append_cancel_left}
use Rattle.cdl_values.specs.declared.value.Array.{Array}
use Rattle.cdl_values.specs.declared.value.Value.{Value}
use Rattle.cdl_values.specs.declared.value.ValueType.{ValueType}
use Rattle.cdl_values.specs.Values.{items_of as size_of}
use Rattle.cdl_array.specs.Outcomes.{Outcome, then_to}
use Rattle.cdl_kinds.specs.declared.kind.Kind.{Kind}
use Rattle.cdl_kinds.specs.Table.{row}
use Rattle.cdl_network.specs.Lists.{In}
use Rattle.cdl_tree.specs.declared.class.Item.{Item}
use Rattle.cdl_scopes.specs.Classes.{declared}
use Rattle.cdl_scopes.specs.Lookup.{item_name}
use Rattle.cdl_classes.specs.declared.found.ClassId.{ClassId}
use Rattle.cdl_paths.specs.declared.path.Step.{Step}
use Rattle.cdl_params.specs.Kept.{Model}
use Rattle.cdl_stations.specs.Keys.{Key}
use Rattle.cdl_items.specs.declared.role.Part.{Part}
use Rattle.cdl_items.specs.declared.role.Part.TheVariants as part
use Rattle.cdl_items.specs.declared.role.Role.{Role}
use Rattle.cdl_items.specs.declared.role.Role.TheVariants as role
use Rattle.cdl_walk.specs.declared.walked.Point.{Point}
use Rattle.cdl_walk.specs.Elements.{points, point_at, tabulate, indices_at}
use Rattle.cdl_items.specs.Roles.{items_of, role_of}
use Rattle.cdl_walk.specs.Worth.{present, dims}
use Rattle.cdl_walk.specs.Stations.{ForItem}
use Rattle.cdl_walk.specs.Instances.{Thing, Block, Elementary, Elements, elements, plain_units, connector_elements, values, ports_of, IsWorth, IsOfKind, IsPart, IsElement, IsThing, IsInItem}
use Rattle.cdl_model.proofs.Joined.{of_tabulate}

-- an element of this name, or the instance itself
abbrev pub Mark : Type 0
Mark = Option (List ℕ)

abbrev pub point_names : List Point → List (List ℕ)
point_names ps = map (λ (x : Point). x.name) ps

-- what is brought at this path
abbrev pub Marks : Thing → List Step → Mark → Type 0
Marks (Block p c) q None = q ≡ p
Marks (Block p c) q (Some n) = ⊥
Marks (Elementary p k v ps) q None = q ≡ p
Marks (Elementary p k v ps) q (Some n) = (q ≡ p) × In n (point_names ps)
Marks (Elements p ps) q None = ⊥
Marks (Elements p ps) q (Some n) = (q ≡ p) × In n (point_names ps)

abbrev pub step : List ℕ → List ℕ → Step
step n i = record { name = n; indices = i }

abbrev pub item_at : Model → ClassId → ℕ → Option Item
item_at w c i = slice_get (items_of (declared w.files) c.index) i

-- ---- what stands at a key

-- at the number of an item: the elements of a connector
pub record AtItem (w : Model) (p : List Step) (c : ClassId) (i : ℕ) (t : Thing) : Type 0 where
  pub item : Item
  pub at : item_at w c i ≡ Some item
  pub value_type : ValueType
  pub input : Bool
  pub role_is : role_of (declared w.files) c.index i item ≡ role.Connector value_type input
  pub worth : IsWorth (connector_elements w p item value_type input) (λ ps. t ≡ Elements p ps)

-- below that: in an element of a component
pub record Below (w : Model) (p : List Step) (c : ClassId) (i x : ℕ) (k : Key) (t : Thing) : Type 0 where
  pub item : Item
  pub at : item_at w c i ≡ Some item
  pub part : Part
  pub role_is : role_of (declared w.files) c.index i item ≡ role.Component part
  pub sizes : List ℕ
  pub worth : elements w p item ≡ Ok sizes
  pub within : x < size_of sizes
  pub there : IsPart part (p ++ (step (item_name item) (indices_at sizes x)) ∷ []) (λ q d. IsThing w q d k t) (λ q kind. IsOfKind w q kind k t)

-- an instance of a kind
pub record OfKind (w : Model) (p : List Step) (kind : Kind) (k : Key) (t : Thing) : Type 0 where
  pub key : k ≡ 0 ∷ []
  pub params : List Array
  pub ports : List Point
  pub values_are : values w p (row kind).parameters ≡ Ok params
  pub ports_are : ports_of w p kind params ≡ Ok ports
  pub thing : t ≡ Elementary p kind params ports

pub worth_is : {A : Type 0} (o : Outcome A) (P : A → Type 0) → IsWorth o P → (a : A) × (o ≡ Ok a) × P a
worth_is (Ok a) P h = (a, refl, h)
worth_is (Err r) P h = absurd h

pub of_kind : (w : Model) (p : List Step) (kind : Kind) (k : Key) (t : Thing) → IsOfKind w p kind k t → OfKind w p kind k t
of_kind w p kind [] t s = absurd s
of_kind w p kind (i ∷ []) t s =
    let v = worth_is (values w p (row kind).parameters) (λ v. IsWorth (ports_of w p kind v) (λ ps. t ≡ Elementary p kind v ps)) s.1 in
    let ps = worth_is (ports_of w p kind v.0) (λ ps. t ≡ Elementary p kind v.0 ps) v.2 in
    record { key = ap (λ (n : ℕ). n ∷ []) s.0; params = v.0; ports = ps.0; values_are = v.1; ports_are = ps.1; thing = ps.2 }
of_kind w p kind (i ∷ j ∷ more) t s = absurd s

module _ (w : Model) (p : List Step) (c : ClassId) (i : ℕ) (t : Thing) where
  own_role : (item : Item) (r : Role) → item_at w c i ≡ Some item → role_of (declared w.files) c.index i item ≡ r → IsInItem w p item r [] t → AtItem w p c i t
  own_role item role.Value a e s = absurd s
  own_role item (role.Connector y input) a e s = record { item = item; at = a; value_type = y; input = input; role_is = e; worth = s }
  own_role item (role.Component q) a e s = absurd s
  own_role item role.Other a e s = absurd s

  own_item : (o : Option Item) → item_at w c i ≡ o → ForItem w c i o (λ item r. IsInItem w p item r [] t) → AtItem w p c i t
  own_item None e s = absurd s
  own_item (Some item) e s = own_role item (role_of (declared w.files) c.index i item) e refl s

  pub at_item : IsThing w p c (i ∷ []) t → AtItem w p c i t
  at_item s = own_item (item_at w c i) refl s

module _ (w : Model) (p : List Step) (c : ClassId) (i x : ℕ) (k : Key) (t : Thing) where
  by_sizes : (item : Item) (q : Part) (o : Outcome (List ℕ)) → item_at w c i ≡ Some item → role_of (declared w.files) c.index i item ≡ role.Component q → elements w p item ≡ o
      → IsElement o p item q x (λ r d. IsThing w r d k t) (λ r kind. IsOfKind w r kind k t) → Below w p c i x k t
  by_sizes item q (Ok sizes) a e z s = record { item = item; at = a; part = q; role_is = e; sizes = sizes; worth = z; within = s.0; there = s.1 }
  by_sizes item q (Err r) a e z s = absurd s

  by_role : (item : Item) (r : Role) → item_at w c i ≡ Some item → role_of (declared w.files) c.index i item ≡ r → IsInItem w p item r (x ∷ k) t → Below w p c i x k t
  by_role item role.Value a e s = absurd s
  by_role item (role.Connector y input) a e s = absurd s
  by_role item (role.Component q) a e s = by_sizes item q (elements w p item) a e refl s
  by_role item role.Other a e s = absurd s

  by_item : (o : Option Item) → item_at w c i ≡ o → ForItem w c i o (λ item r. IsInItem w p item r (x ∷ k) t) → Below w p c i x k t
  by_item None e s = absurd s
  by_item (Some item) e s = by_role item (role_of (declared w.files) c.index i item) e refl s

  pub below : IsThing w p c (i ∷ x ∷ k) t → Below w p c i x k t
  below s = by_item (item_at w c i) refl s

-- ---- and back

pub above : (w : Model) (p : List Step) (c : ClassId) (i x : ℕ) (k l : Key) (t u : Thing) (b : Below w p c i x k t)
    → IsPart b.part (p ++ (step (item_name b.item) (indices_at b.sizes x)) ∷ []) (λ q d. IsThing w q d l u) (λ q kind. IsOfKind w q kind l u) → IsThing w p c (i ∷ x ∷ l) u
above w p c i x k l t u b s =
    let sized : IsElement (elements w p b.item) p b.item b.part x (λ r d. IsThing w r d l u) (λ r kind. IsOfKind w r kind l u) =
    subst (λ o. IsElement o p b.item b.part x (λ r d. IsThing w r d l u) (λ r kind. IsOfKind w r kind l u)) (sym b.worth) (b.within, s) in
    let in_role : IsInItem w p b.item (role_of (declared w.files) c.index i b.item) (x ∷ l) u = subst (λ r. IsInItem w p b.item r (x ∷ l) u) (sym b.role_is) sized in
    subst (λ o. ForItem w c i o (λ item r. IsInItem w p item r (x ∷ l) u)) (sym b.at) in_role

-- ---- paths

mark_like : (t u : Thing) (q : List Step) (m : Mark) → t ≡ u → Marks t q m → Marks u q m
mark_like t u q m e h = subst (λ (z : Thing). Marks z q m) e h

block_marks : (p q : List Step) (c : ClassId) (m : Mark) → Marks (Block p c) q m → (m ≡ None) × (q ≡ p)
block_marks p q c None h = (refl, h)
block_marks p q c (Some n) h = absurd h

pub block_mark : (p q : List Step) (c : ClassId) (t : Thing) (m : Mark) → t ≡ Block p c → Marks t q m → (m ≡ None) × (q ≡ p)
block_mark p q c t m e h = block_marks p q c m (mark_like t (Block p c) q m e h)

elementary_marks : (p q : List Step) (k : Kind) (v : List Array) (ps : List Point) (m : Mark) → Marks (Elementary p k v ps) q m → q ≡ p
elementary_marks p q k v ps None h = h
elementary_marks p q k v ps (Some n) h = h.0

pub kind_mark : (w : Model) (p q : List Step) (kind : Kind) (k : Key) (t : Thing) (m : Mark) → OfKind w p kind k t → Marks t q m → q ≡ p
kind_mark w p q kind k t m o h = elementary_marks p q kind o.params o.ports m (mark_like t (Elementary p kind o.params o.ports) q m o.thing h)

-- a connector that isn't there has no elements, another one has those of its sizes
pub connector_cases : (o : Outcome Bool) (z : Outcome (List ℕ)) (y : Outcome (List Value)) (f : List ℕ → List Value → List Point) (P : List Point → Type 0)
    → IsWorth (then_to o (λ there. cond there (then_to z (λ sizes. then_to y (λ us. Ok (f sizes us)))) (Ok []))) P
    → P [] ⊎ ((sizes : List ℕ) × (us : List Value) × (z ≡ Ok sizes) × P (f sizes us))
connector_cases (Err r) z y f P h = absurd h
connector_cases (Ok false) z y f P h = inl h
connector_cases (Ok true) (Err r) y f P h = absurd h
connector_cases (Ok true) (Ok s) (Err r) f P h = absurd h
connector_cases (Ok true) (Ok s) (Ok us) f P h = inr (s, us, refl, h)

pub own_points : (w : Model) (p : List Step) (c : ClassId) (i : ℕ) (t : Thing) (a : AtItem w p c i t)
    → (t ≡ Elements p []) ⊎ ((sizes : List ℕ) × (us : List Value) × (dims w p a.item ≡ Ok sizes) × (t ≡ Elements p (points (item_name a.item) a.value_type a.input sizes us)))
own_points w p c i t a = connector_cases (present w p a.item) (dims w p a.item) (plain_units w p (item_name a.item) a.value_type)
    (λ sizes us. points (item_name a.item) a.value_type a.input sizes us) (λ ps. t ≡ Elements p ps) a.worth

elements_marks : (p q : List Step) (ps : List Point) (m : Mark) → Marks (Elements p ps) q m → (n : List ℕ) × (m ≡ Some n) × (q ≡ p) × In n (point_names ps)
elements_marks p q ps None h = absurd h
elements_marks p q ps (Some n) h = (n, refl, h.0, h.1)

pub point_name : (name : List ℕ) (t : ValueType) (input : Bool) (sizes : List ℕ) (us : List Value) (n : List ℕ) → In n (point_names (points name t input sizes us)) → n ≡ name
point_name name t input sizes us n h = (of_tabulate (λ (x : Point). x.name) (size_of sizes) (Rattle.cdl_walk.specs.Elements.point_at name t input sizes us) n h).2

pub item_mark : (w : Model) (p q : List Step) (c : ClassId) (i : ℕ) (t : Thing) (m : Mark) (a : AtItem w p c i t) → Marks t q m → (m ≡ Some (item_name a.item)) × (q ≡ p)
item_mark w p q c i t m a h = elim (own_points w p c i t a) as (λ _. (m ≡ Some (item_name a.item)) × (q ≡ p)) [
  | inl e ↦ absurd ((elements_marks p q [] m (mark_like t (Elements p []) q m e h)).3)
  | inr z ↦ (let ps = points (item_name a.item) a.value_type a.input z.0 z.1 in
      let r = elements_marks p q ps m (mark_like t (Elements p ps) q m z.3 h) in
      (r.1 ∙ ap Some (point_name (item_name a.item) a.value_type a.input z.0 z.1 r.0 r.3), r.2))
]

abbrev pub Starts : List Step → List Step → Type 0
Starts p q = (rest : List Step) × (q ≡ p ++ rest)

part_starts : (w : Model) (q : List Step) (k : Key) (t : Thing) (m : Mark) (x : Part) (r : List Step) → ((d : ClassId) → IsThing w r d k t → Starts r q)
    → Marks t q m → IsPart x r (λ z d. IsThing w z d k t) (λ z kind. IsOfKind w z kind k t) → Starts r q
part_starts w q k t m (part.Block d) r rec h s = rec d s
part_starts w q k t m (part.Kind kind) r rec h s = ([], kind_mark w r q kind k t m (of_kind w r kind k t s) h ∙ sym (append-nil r))

-- whatever stands in an instance has a path that starts with that of the instance
pub starts : (w : Model) (k : Key) (p q : List Step) (c : ClassId) (t : Thing) (m : Mark) → Marks t q m → IsThing w p c k t → Starts p q
starts w [] p q c t m h s = ([], (block_mark p q c t m s h).1 ∙ sym (append-nil p))
starts w (i ∷ []) p q c t m h s = ([], (item_mark w p q c i t m (at_item w p c i t s) h).1 ∙ sym (append-nil p))
starts w (i ∷ x ∷ k) p q c t m h s =
    let b = below w p c i x k t s in
    let one : Step = step (item_name b.item) (indices_at b.sizes x) in
    let z = part_starts w q k t m b.part (p ++ one ∷ []) (λ d y. starts w k (p ++ one ∷ []) q d t m h y) h b.there in
    (one ∷ z.0, z.1 ∙ append_assoc p (one ∷ []) z.0)

-- below an item the path goes on with the step of the element
pub goes_on : (w : Model) (p q : List Step) (c : ClassId) (i x : ℕ) (k : Key) (t : Thing) (m : Mark) (b : Below w p c i x k t) → Marks t q m
    → (rest : List Step) × (q ≡ p ++ (step (item_name b.item) (indices_at b.sizes x)) ∷ rest)
goes_on w p q c i x k t m b h =
    let one : Step = step (item_name b.item) (indices_at b.sizes x) in
    let z = part_starts w q k t m b.part (p ++ one ∷ []) (λ d y. starts w k (p ++ one ∷ []) q d t m h y) h b.there in
    (z.0, z.1 ∙ append_assoc p (one ∷ []) z.0)

pub not_longer : (p : List Step) (s : Step) (rest : List Step) → p ≡ p ++ s ∷ rest → ⊥
not_longer p s rest e = nothing (append_cancel_left p [] (s ∷ rest) (append-nil p ∙ e))
  where
    nothing : [] ≡ s ∷ rest → ⊥
    nothing h = cc
