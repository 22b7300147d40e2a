-- The elements and the parts of an instance of a declared block, item by item.
use Rattle.std.proofs.Common.{◌≡◌, ℕ, zero, suc, ◌+◌, ◌<◌, Bool, true, cond, List, [], ◌∷◌, ◌++◌, length, length-append, append_assoc, Option, Some, None, Ok, Err, slice_get, refl, sym, ap, ◌∙◌, subst, arith, inl, inr}
use Rattle.std.proofs.lemmas.Bool.{false≢true}
use Rattle.std.proofs.lemmas.List.{append-nil}
use Rattle.std.proofs.lemmas.Option.{slice_get_within}
use Rattle.cdl_source.proofs.Cases.{by_bool}
use Rattle.cdl_values.specs.declared.value.Array.{Array}
use Rattle.cdl_values.specs.declared.value.Value.{Value}
use Rattle.cdl_values.specs.declared.value.ValueType.{ValueType}
use Rattle.cdl_values.specs.Values.{items_of as size_of}
use Rattle.cdl_array.specs.Outcomes.{Outcome}
use Rattle.cdl_kinds.specs.declared.kind.Kind.{Kind}
use Rattle.cdl_kinds.specs.Table.{row}
use Rattle.cdl_connect.specs.Paths.{Step as NetStep}
use Rattle.cdl_network.specs.Rules.{is_some_same}
use Rattle.cdl_tree.specs.declared.class.Item.{Item}
use Rattle.cdl_scopes.specs.Classes.{declared}
use Rattle.cdl_scopes.specs.Lookup.{item_name}
use Rattle.cdl_classes.specs.declared.found.ClassId.{ClassId}
use Rattle.cdl_paths.specs.declared.path.Step.{Step}
use Rattle.cdl_params.specs.Kept.{Model}
use Rattle.cdl_stations.specs.Keys.{Key, Before, Lists, Below as BelowNumber, under, upto, In as InKeys}
use Rattle.cdl_stations.proofs.Grown.{lists_like, lists_nothing, lists_one}
use Rattle.cdl_stations.proofs.Unique.{lists_same}
use Rattle.cdl_items.specs.declared.role.Part.{Part}
use Rattle.cdl_items.specs.declared.role.Part.TheVariants as part
use Rattle.cdl_items.specs.declared.role.Role.{Role}
use Rattle.cdl_items.specs.declared.role.Role.TheVariants as role
use Rattle.cdl_walk.specs.declared.walked.Point.{Point}
use Rattle.cdl_walk.specs.Elements.{points, tabulate, indices_at}
use Rattle.cdl_walk.specs.Events.{same_steps}
use Rattle.cdl_walk.specs.Instances.{Thing, Block, Elementary, Elements, elements, connector_elements, plain_units, values, ports_of, IsWorth, IsOfKind, IsPart, IsElement, IsThing, IsInItem}
use Rattle.cdl_walk.specs.Places.{Here, entered, inside}
use Rattle.cdl_items.specs.Roles.{items_of, role_of}
use Rattle.cdl_walk.specs.Stations.{ForItem}
use Rattle.cdl_walk.specs.Worth.{dims, present}
use Rattle.cdl_model.specs.Networks.{parent_path}
use Rattle.cdl_model.proofs.Keyed.{at_item, below, of_kind, item_at, connector_cases}
use Rattle.cdl_model.proofs.Tests.{steps_tell, steps_yes}
use Rattle.cdl_expand.proofs.Composite.{parent_shorter}
use Rattle.cdl_expand.proofs.Fine.{Fine, FineKind, kind_fine, kind_there}
use Rattle.cdl_expand.proofs.Selected.{joined, joined_like, sub_one, lists_sub, lists_single, brought_by, brought_none, brought_parts}
use Rattle.cdl_expand.proofs.Things.{Things, brings_elements, outer_push}
use Rattle.cdl_expand.proofs.Whole.{step}

-- ---- what a thing brings to the instance at a path

-- the elements of that instance
abbrev pub own_from : List Step → Thing → List Point
own_from p (Block q c) = []
own_from p (Elementary q k v ps) = cond (same_steps q p) ps []
own_from p (Elements q ps) = cond (same_steps q p) ps []

abbrev pub step_in : Step → NetStep
step_in s = record { name = s.name; indices = s.indices }

abbrev pub last_in : List Step → NetStep
last_in [] = record { name = []; indices = [] }
last_in (s ∷ []) = step_in s
last_in (s ∷ t ∷ rest) = last_in (t ∷ rest)

pub last_push : (p : List Step) (s : Step) → last_in (p ++ s ∷ []) ≡ step_in s
last_push [] s = refl
last_push (x ∷ []) s = refl
last_push (x ∷ y ∷ p) s = last_push (y ∷ p) s

-- the second is the path of a part of the first
abbrev pub is_child : List Step → List Step → Bool
is_child p q = is_some_same same_steps p (parent_path q)

abbrev child_step : List Step → List Step → List NetStep
child_step p q = cond (is_child p q) (last_in q ∷ []) []

-- the last step of a part
abbrev pub part_from : List Step → Thing → List NetStep
part_from p (Block q c) = child_step p q
part_from p (Elementary q k v ps) = child_step p q
part_from p (Elements q ps) = []

pub parent_push : (p : List Step) (s : Step) → parent_path (p ++ s ∷ []) ≡ Some p
parent_push [] s = ap Some (outer_push [] s)
parent_push (x ∷ p) s = ap Some (outer_push (x ∷ p) s)

pub child_there : (p : List Step) (s : Step) → is_child p (p ++ s ∷ []) ≡ true
child_there p s = ap (is_some_same same_steps p) (parent_push p s) ∙ steps_tell.self p

pub child_parent : (p q : List Step) → is_child p q ≡ true → parent_path q ≡ Some p
child_parent p q e = by_parent (parent_path q) refl e
  where
    by_parent : (o : Option (List Step)) → parent_path q ≡ o → is_some_same same_steps p o ≡ true → parent_path q ≡ Some p
    by_parent None f g = absurd (false≢true g)
    by_parent (Some r) f g = f ∙ ap Some (steps_yes r p g)

step_there : (p : List Step) (s : Step) → child_step p (p ++ s ∷ []) ≡ step_in s ∷ []
step_there p s = ap (λ b. cond b (last_in (p ++ s ∷ []) ∷ []) []) (child_there p s) ∙ ap (λ (z : NetStep). z ∷ []) (last_push p s)

-- nothing where the path is longer by more than a step, or not longer
no_step : (p q : List Step) → (length q ≡ length p + 1 → ⊥) → child_step p q ≡ []
no_step p q f = by_bool (is_child p q)
    (λ t. absurd (f (parent_shorter q p (child_parent p q t))))
    (λ t. ap (λ b. cond b (last_in q ∷ []) []) t)

-- ---- paths of things

abbrev pub thing_path : Thing → List Step
thing_path (Block p c) = p
thing_path (Elementary p k v ps) = p
thing_path (Elements p ps) = p

abbrev Begins : List Step → Thing → Type 0
Begins p t = (rest : List Step) × (thing_path t ≡ p ++ rest)

part_begins : (w : Model) (k : Key) (t : Thing) (x : Part) (r : List Step) → ((d : ClassId) → IsThing w r d k t → Begins r t) → IsPart x r (λ z d. IsThing w z d k t) (λ z y. IsOfKind w z y k t) → Begins r t
part_begins w k t (part.Block d) r rec s = rec d s
part_begins w k t (part.Kind y) r rec s = let o = of_kind w r y k t s in ([], ap thing_path o.thing ∙ sym (append-nil r))

pub thing_begins : (w : Model) (k : Key) (p : List Step) (c : ClassId) (t : Thing) → IsThing w p c k t → Begins p t
thing_begins w [] p c t s = ([], ap thing_path s ∙ sym (append-nil p))
thing_begins w (i ∷ []) p c t s = let z = brings_elements w p c i t (at_item w p c i t s) in ([], ap thing_path z.2 ∙ sym (append-nil p))
thing_begins w (i ∷ x ∷ k) p c t s =
    let b = below w p c i x k t s in
    let one : Step = record { name = item_name b.item; indices = indices_at b.sizes x } in
    let z = part_begins w k t b.part (p ++ one ∷ []) (λ d y. thing_begins w k (p ++ one ∷ []) d t y) b.there in
    (one ∷ z.0, z.1 ∙ append_assoc p (one ∷ []) z.0)

-- what stands deeper is no part of the instance above this one, or its elements
longer : (p : List Step) (s : Step) (t : Thing) → Begins (p ++ s ∷ []) t → (n : ℕ) × (length (thing_path t) ≡ length p + 1 + n)
longer p s t b =
    let e : length (thing_path t) ≡ length (p ++ s ∷ []) + length b.0 = ap length b.1 ∙ length-append (p ++ s ∷ []) b.0 in
    let f : length (p ++ s ∷ []) ≡ length p + 1 = length-append p (s ∷ []) in
    (length b.0, omega (arith, e, f))

own_deeper : (p : List Step) (t : Thing) → (length (thing_path t) ≡ length p → ⊥) → own_from p t ≡ []
own_deeper p (Block q c) f = refl
own_deeper p (Elementary q k v ps) f = by_bool (same_steps q p) (λ t. absurd (f (ap length (steps_yes q p t)))) (λ t. ap (λ b. cond b ps []) t)
own_deeper p (Elements q ps) f = by_bool (same_steps q p) (λ t. absurd (f (ap length (steps_yes q p t)))) (λ t. ap (λ b. cond b ps []) t)

part_other : (p : List Step) (t : Thing) → (length (thing_path t) ≡ length p + 1 → ⊥) → part_from p t ≡ []
part_other p (Block q c) f = no_step p q f
part_other p (Elementary q k v ps) f = no_step p q f
part_other p (Elements q ps) f = refl

-- ---- an element of a component

-- entries behind the first one, which is at the key itself
first_entry : (w : Model) (r : List Step) (d : ClassId) (xs : Things) → Lists (IsThing w r d) xs → (rest : Things) × (xs ≡ ([], Block r d) ∷ rest)
first_entry w r d [] l = absurd (l.each [] (Block r d) refl)
first_entry w r d (x ∷ xs) l = by_place (l.each [] (Block r d) refl)
  where
    by_place : InKeys {X = Key × Thing} ([], Block r d) (x ∷ xs) → (rest : Things) × (x ∷ xs ≡ ([], Block r d) ∷ rest)
    by_place (inl e) = (xs, ap (λ (z : Key × Thing). z ∷ xs) (sym e))
    by_place (inr i) = absurd (l.sorted.0 [] (Block r d) i)

-- what stands behind it in a part is deeper
behind_first : (w : Model) (p : List Step) (s : Step) (d : ClassId) (k : Key) (t : Thing) → Before [] k → IsThing w (p ++ s ∷ []) d k t → part_from p t ≡ []
behind_first w p s d [] t b h = absurd b
behind_first w p s d (i ∷ []) t b h = let z = brings_elements w (p ++ s ∷ []) d i t (at_item w (p ++ s ∷ []) d i t h) in ap (part_from p) z.2
behind_first w p s d (i ∷ x ∷ k) t b h =
    let z = below w (p ++ s ∷ []) d i x k t h in
    let one : Step = record { name = item_name z.item; indices = indices_at z.sizes x } in
    let g = part_begins w k t z.part ((p ++ s ∷ []) ++ one ∷ []) (λ e y. thing_begins w k ((p ++ s ∷ []) ++ one ∷ []) e t y) z.there in
    let n = longer (p ++ s ∷ []) one t g in
    let e = n.1 in
    let f : length (p ++ s ∷ []) ≡ length p + 1 = length-append p (s ∷ []) in
    part_other p t (λ q. omega (arith, e, f, q))

block_part : (w : Model) (p : List Step) (s : Step) (d : ClassId) (xs : Things) → Lists (IsThing w (p ++ s ∷ []) d) xs → brought_by (part_from p) xs ≡ step_in s ∷ []
block_part w p s d xs l =
    let f = first_entry w (p ++ s ∷ []) d xs l in
    let whole : Lists (IsThing w (p ++ s ∷ []) d) (([], Block (p ++ s ∷ []) d) ∷ f.0) = subst (λ (z : Things). Lists (IsThing w (p ++ s ∷ []) d) z) f.1 l in
    ap (brought_by (part_from p)) f.1
    ∙ ap (λ (z : List NetStep). z ++ brought_by (part_from p) f.0) (step_there p s)
    ∙ ap (λ (z : List NetStep). step_in s ∷ z) (brought_none (part_from p) f.0 (λ k t m. behind_first w p s d k t (whole.sorted.0 k t m) (whole.only k t (inr m))))

kind_part : (w : Model) (p : List Step) (s : Step) (h : Here) (y : Kind) (xs : Things) → h.steps ≡ p ++ s ∷ [] → FineKind w h y → Lists (IsOfKind w h.steps y) xs → brought_by (part_from p) xs ≡ step_in s ∷ []
kind_part w p s h y xs e f l =
    let z = kind_there w h y f in
    let there : IsOfKind w h.steps y (0 ∷ []) (Elementary h.steps y z.0 z.1) = (
      refl,
      subst (λ o. IsWorth o (λ v. IsWorth (ports_of w h.steps y v) (λ ps. Elementary h.steps y z.0 z.1 ≡ Elementary h.steps y v ps))) (sym z.2)
          (subst (λ o. IsWorth o (λ ps. Elementary h.steps y z.0 z.1 ≡ Elementary h.steps y z.0 ps)) (sym z.3) refl),
    ) in
    let one : Lists (IsOfKind w h.steps y) ((0 ∷ [], Elementary h.steps y z.0 z.1) ∷ []) = record {
      each = λ k t m. inl (both z k t m);
      only = λ k t m. the_one z there k t m;
      sorted = ((λ k t m. absurd m), tt);
    } in
    ap (brought_by (part_from p)) (lists_same (IsOfKind w h.steps y) xs ((0 ∷ [], Elementary h.steps y z.0 z.1) ∷ []) l one)
    ∙ append-nil (child_step p h.steps)
    ∙ ap (child_step p) e ∙ step_there p s
  where
    ok_lists : (u v : List Array) (o : Outcome (List Array)) → o ≡ Ok u → o ≡ Ok v → u ≡ v
    ok_lists u v o g k = cc

    ok_points : (u v : List Point) (o : Outcome (List Point)) → o ≡ Ok u → o ≡ Ok v → u ≡ v
    ok_points u v o g k = cc

    both : (z : (v : List Array) × (ps : List Point) × (values w h.steps (row y).parameters ≡ Ok v) × (ports_of w h.steps y v ≡ Ok ps)) (k : Key) (t : Thing) → IsOfKind w h.steps y k t
        → ◌≡◌ {A = Key × Thing} (k, t) (0 ∷ [], Elementary h.steps y z.0 z.1)
    both z k t m =
        let o = of_kind w h.steps y k t m in
        let v : o.params ≡ z.0 = ok_lists o.params z.0 (values w h.steps (row y).parameters) o.values_are z.2 in
        let ps : o.ports ≡ z.1 = ok_points o.ports z.1 (ports_of w h.steps y z.0) (ap (ports_of w h.steps y) (sym v) ∙ o.ports_are) z.3 in
        ap (λ (l : Key). (l, t)) o.key ∙ ap (λ (u : Thing). (0 ∷ [], u)) (o.thing ∙ ap (λ (u : List Array). Elementary h.steps y u o.ports) v ∙ ap (λ (u : List Point). Elementary h.steps y z.0 u) ps)

    the_one : (z : (v : List Array) × (ps : List Point) × (values w h.steps (row y).parameters ≡ Ok v) × (ports_of w h.steps y v ≡ Ok ps)) → IsOfKind w h.steps y (0 ∷ []) (Elementary h.steps y z.0 z.1)
        → (k : Key) (t : Thing) → InKeys {X = Key × Thing} (k, t) ((0 ∷ [], Elementary h.steps y z.0 z.1) ∷ []) → IsOfKind w h.steps y k t
    the_one z there k t (inl g) = subst (λ (u : Key × Thing). IsOfKind w h.steps y u.0 u.1) (sym g) there
    the_one z there k t (inr m) = absurd m

-- ---- an item

-- what an item brings to the instance: nothing, the elements of a connector, or the elements of a component
pub data Shape (w : Model) (p : List Step) (c : ClassId) (i : ℕ) (own : List Point) (parts : List NetStep) : Type 0 where
  Nothing : own ≡ [] → parts ≡ [] → Shape w p c i own parts
  Connector : (item : Item) (t : ValueType) (input : Bool) (sizes : List ℕ) (us : List Value) → item_at w c i ≡ Some item → role_of (declared w.files) c.index i item ≡ role.Connector t input → dims w p item ≡ Ok sizes
      → own ≡ points (item_name item) t input sizes us → parts ≡ [] → Shape w p c i own parts
  Component : (item : Item) (q : Part) (sizes : List ℕ) → item_at w c i ≡ Some item → role_of (declared w.files) c.index i item ≡ role.Component q → elements w p item ≡ Ok sizes
      → own ≡ [] → parts ≡ tabulate (size_of sizes) (λ x. step (item_name item) (indices_at sizes x)) → Shape w p c i own parts

module _ (w : Model) (h : Here) (c : ClassId) (f : Fine w h c) (i : ℕ) (item : Item) (a : item_at w c i ≡ Some item) where
  -- of a role that brings nothing
  plain_shape : (r : Role) (zs : Things) → ((k : Key) (t : Thing) → IsInItem w h.steps item r k t → ⊥) → Lists (IsInItem w h.steps item r) zs
      → Shape w h.steps c i (brought_by (own_from h.steps) zs) (brought_by (part_from h.steps) zs)
  plain_shape r zs g l = Nothing (brought_none (own_from h.steps) zs (λ k t m. absurd (g k t (l.only k t m)))) (brought_none (part_from h.steps) zs (λ k t m. absurd (g k t (l.only k t m))))

  -- a connector
  single : (t : ValueType) (input : Bool) (zs : Things) (ps : List Point) → connector_elements w h.steps item t input ≡ Ok ps → Lists (IsInItem w h.steps item (role.Connector t input)) zs → zs ≡ ([], Elements h.steps ps) ∷ []
  single t input zs ps e l = lists_same (IsInItem w h.steps item (role.Connector t input)) zs (([], Elements h.steps ps) ∷ []) l
      (lists_single (IsInItem w h.steps item (role.Connector t input)) (Elements h.steps ps) (subst (λ o. IsWorth o (λ qs. Elements h.steps ps ≡ Elements h.steps qs)) (sym e) refl) only)
    where
      only : (k : Key) (u : Thing) → IsInItem w h.steps item (role.Connector t input) k u → (k ≡ []) × (u ≡ Elements h.steps ps)
      only [] u s = (refl, subst (λ o. IsWorth o (λ qs. u ≡ Elements h.steps qs)) e s)
      only (x ∷ k) u s = absurd s

  own_here : (ps : List Point) → own_from h.steps (Elements h.steps ps) ++ [] ≡ ps
  own_here ps = append-nil (own_from h.steps (Elements h.steps ps)) ∙ ap (λ b. cond b ps []) (steps_tell.self h.steps)

  connector_shape : (t : ValueType) (input : Bool) (zs : Things) (o : Outcome (List Point)) → role_of (declared w.files) c.index i item ≡ role.Connector t input → connector_elements w h.steps item t input ≡ o
      → Lists (IsInItem w h.steps item (role.Connector t input)) zs → Shape w h.steps c i (brought_by (own_from h.steps) zs) (brought_by (part_from h.steps) zs)
  connector_shape t input zs (Err r) e g l = plain_shape (role.Connector t input) zs none l
    where
      none : (k : Key) (u : Thing) → IsInItem w h.steps item (role.Connector t input) k u → ⊥
      none [] u s = subst (λ o. IsWorth o (λ qs. u ≡ Elements h.steps qs)) g s
      none (x ∷ k) u s = s
  connector_shape t input zs (Ok ps) e g l = elim (connector_cases (present w h.steps item) (dims w h.steps item) (plain_units w h.steps (item_name item) t)
      (λ sizes us. points (item_name item) t input sizes us) (λ qs. ps ≡ qs) (subst (λ o. IsWorth o (λ qs. ps ≡ qs)) (sym g) refl))
      as (λ _. Shape w h.steps c i (brought_by (own_from h.steps) zs) (brought_by (part_from h.steps) zs)) [
        | inl none ↦ Nothing (ap (brought_by (own_from h.steps)) (single t input zs ps g l) ∙ own_here ps ∙ none) (ap (brought_by (part_from h.steps)) (single t input zs ps g l))
        | inr z ↦ Connector item t input z.0 z.1 a e z.2 (ap (brought_by (own_from h.steps)) (single t input zs ps g l) ∙ own_here ps ∙ z.3) (ap (brought_by (part_from h.steps)) (single t input zs ps g l))
      ]

  -- a component
  abbrev at_element : List ℕ → ℕ → Step
  at_element sizes x = record { name = item_name item; indices = indices_at sizes x }

  element_part : (q : Part) (sizes : List ℕ) (x : ℕ) (zs : Things) → role_of (declared w.files) c.index i item ≡ role.Component q → elements w h.steps item ≡ Ok sizes → x < size_of sizes
      → Lists (λ k t. IsPart q (h.steps ++ at_element sizes x ∷ []) (λ z d. IsThing w z d k t) (λ z y. IsOfKind w z y k t)) zs → brought_by (part_from h.steps) zs ≡ step_in (at_element sizes x) ∷ []
  element_part (part.Block d) sizes x zs e g m l = block_part w h.steps (at_element sizes x) d zs l
  element_part (part.Kind y) sizes x zs e g m l = kind_part w h.steps (at_element sizes x) (entered (inside h c) item (indices_at sizes x)) y zs refl (kind_fine w h c i x item y sizes a e g m f) l

  at_number : (q : Part) (sizes : List ℕ) (zs : Things) → elements w h.steps item ≡ Ok sizes → Lists (IsInItem w h.steps item (role.Component q)) zs → (x : ℕ) → x < size_of sizes
      → Lists (λ k t. IsPart q (h.steps ++ at_element sizes x ∷ []) (λ z d. IsThing w z d k t) (λ z y. IsOfKind w z y k t)) (sub_one x zs)
  at_number q sizes zs g l x m = lists_like (under (IsInItem w h.steps item (role.Component q)) x) (λ k t. IsPart q (h.steps ++ at_element sizes x ∷ []) (λ z d. IsThing w z d k t) (λ z y. IsOfKind w z y k t)) (sub_one x zs)
      (λ k t s. (subst (λ o. IsElement o h.steps item q x (λ z d. IsThing w z d k t) (λ z y. IsOfKind w z y k t)) g s).1)
      (λ k t s. subst (λ o. IsElement o h.steps item q x (λ z d. IsThing w z d k t) (λ z y. IsOfKind w z y k t)) (sym g) (m, s))
      (lists_sub (IsInItem w h.steps item (role.Component q)) x zs l)

  -- what stands below a component isn't the instance's own
  not_own : (q : Part) (k : Key) (t : Thing) → IsInItem w h.steps item (role.Component q) k t → own_from h.steps t ≡ []
  not_own q [] t s = absurd s
  not_own q (x ∷ k) t s = by_sizes (elements w h.steps item) s
    where
      by_sizes : (o : Outcome (List ℕ)) → IsElement o h.steps item q x (λ z d. IsThing w z d k t) (λ z y. IsOfKind w z y k t) → own_from h.steps t ≡ []
      by_sizes (Err r) s = absurd s
      by_sizes (Ok sizes) s =
          let b = part_begins w k t q (h.steps ++ at_element sizes x ∷ []) (λ d y. thing_begins w k (h.steps ++ at_element sizes x ∷ []) d t y) s.1 in
          let n = longer h.steps (at_element sizes x) t b in
          let e = n.1 in
          own_deeper h.steps t (λ g. omega (arith, e, g))

  below_sizes : (q : Part) (sizes : List ℕ) → elements w h.steps item ≡ Ok sizes → (k : Key) (t : Thing) → IsInItem w h.steps item (role.Component q) k t → BelowNumber (size_of sizes) k
  below_sizes q sizes g [] t s = tt
  below_sizes q sizes g (x ∷ k) t s = (subst (λ o. IsElement o h.steps item q x (λ z d. IsThing w z d k t) (λ z y. IsOfKind w z y k t)) g s).0

  component_shape : (q : Part) (zs : Things) (o : Outcome (List ℕ)) → role_of (declared w.files) c.index i item ≡ role.Component q → elements w h.steps item ≡ o
      → Lists (IsInItem w h.steps item (role.Component q)) zs → Shape w h.steps c i (brought_by (own_from h.steps) zs) (brought_by (part_from h.steps) zs)
  component_shape q zs (Err r) e g l = plain_shape (role.Component q) zs none l
    where
      none : (k : Key) (t : Thing) → IsInItem w h.steps item (role.Component q) k t → ⊥
      none [] t s = s
      none (x ∷ k) t s = subst (λ o. IsElement o h.steps item q x (λ z d. IsThing w z d k t) (λ z y. IsOfKind w z y k t)) g s
  component_shape q zs (Ok sizes) e g l = Component item q sizes a e g
      (brought_none (own_from h.steps) zs (λ k t m. not_own q k t (l.only k t m)))
      (brought_parts (part_from h.steps) (IsInItem w h.steps item (role.Component q)) [] zs (lists_nothing (IsInItem w h.steps item (role.Component q)) (λ t s. s)) l (size_of sizes) (below_sizes q sizes g)
      ∙ joined_like (size_of sizes) (λ x. brought_by (part_from h.steps) (sub_one x zs)) (λ x. step (item_name item) (indices_at sizes x) ∷ []) (λ x m. element_part q sizes x (sub_one x zs) e g m (at_number q sizes zs g l x m))
      ∙ joined_single (size_of sizes) (λ x. step (item_name item) (indices_at sizes x)))
    where
      joined_single : (n : ℕ) (s : ℕ → NetStep) → joined n (λ x. s x ∷ []) ≡ tabulate n s
      joined_single zero s = refl
      joined_single (suc n) s = ap (λ (z : List NetStep). z ++ s n ∷ []) (joined_single n s)

  by_role : (r : Role) (zs : Things) → role_of (declared w.files) c.index i item ≡ r → Lists (IsInItem w h.steps item r) zs → Shape w h.steps c i (brought_by (own_from h.steps) zs) (brought_by (part_from h.steps) zs)
  by_role role.Value zs e l = plain_shape role.Value zs none l
    where
      none : (k : Key) (t : Thing) → IsInItem w h.steps item role.Value k t → ⊥
      none [] t s = s
      none (x ∷ k) t s = s
  by_role (role.Connector t input) zs e l = connector_shape t input zs (connector_elements w h.steps item t input) e refl l
  by_role (role.Component q) zs e l = component_shape q zs (elements w h.steps item) e refl l
  by_role role.Other zs e l = plain_shape role.Other zs none l
    where
      none : (k : Key) (t : Thing) → IsInItem w h.steps item role.Other k t → ⊥
      none [] t s = s
      none (x ∷ k) t s = s

  pub item_shape : (zs : Things) → Lists (λ k t. ForItem w c i (item_at w c i) (λ z r. IsInItem w h.steps z r k t)) zs → Shape w h.steps c i (brought_by (own_from h.steps) zs) (brought_by (part_from h.steps) zs)
  item_shape zs l = by_role (role_of (declared w.files) c.index i item) zs refl
      (lists_like (λ k t. ForItem w c i (item_at w c i) (λ z r. IsInItem w h.steps z r k t)) (IsInItem w h.steps item (role_of (declared w.files) c.index i item)) zs
      (λ k t s. subst (λ o. ForItem w c i o (λ z r. IsInItem w h.steps z r k t)) a s) (λ k t s. subst (λ o. ForItem w c i o (λ z r. IsInItem w h.steps z r k t)) (sym a) s) l)

-- ---- a block

get_at : {A : Type 0} (xs : List A) (k : ℕ) → k < length xs → (x : A) × (slice_get xs k ≡ Some x)
get_at [] k l = absurd (omega (arith, l))
get_at (x ∷ xs) zero l = (x, refl)
get_at (x ∷ xs) (suc k) l = get_at xs k (omega (arith, l))

-- the elements and the parts of an instance of a block, item by item
pub record Outline (w : Model) (p : List Step) (c : ClassId) (own : List Point) (parts : List NetStep) : Type 0 where
  pub count : ℕ
  pub own_of : ℕ → List Point
  pub parts_of : ℕ → List NetStep
  pub shape : (i : ℕ) → i < count → Shape w p c i (own_of i) (parts_of i)
  pub own_are : own ≡ joined count own_of
  pub parts_are : parts ≡ joined count parts_of

pub outline : (w : Model) (h : Here) (c : ClassId) → Fine w h c → (ys : Things) → Lists (IsThing w h.steps c) ys → Outline w h.steps c (brought_by (own_from h.steps) ys) (brought_by (part_from h.steps) ys)
outline w h c f ys l = record {
  count = length (items_of (declared w.files) c.index);
  own_of = λ i. brought_by (own_from h.steps) (sub_one i ys);
  parts_of = λ i. brought_by (part_from h.steps) (sub_one i ys);
  shape = λ i m. let x = get_at (items_of (declared w.files) c.index) i m in item_shape w h c f i x.0 x.1 (sub_one i ys) (lists_sub (IsThing w h.steps c) i ys l);
  own_are = brought_parts (own_from h.steps) (IsThing w h.steps c) (([], Block h.steps c) ∷ []) ys first l (length (items_of (declared w.files) c.index)) within;
  parts_are = brought_parts (part_from h.steps) (IsThing w h.steps c) (([], Block h.steps c) ∷ []) ys first l (length (items_of (declared w.files) c.index)) within
      ∙ ap (λ (z : List NetStep). (z ++ []) ++ joined (length (items_of (declared w.files) c.index)) (λ i. brought_by (part_from h.steps) (sub_one i ys))) (no_step h.steps h.steps (λ e. omega (arith, e)));
}
  where
    first : Lists (upto (IsThing w h.steps c) 0) (([], Block h.steps c) ∷ [])
    first = lists_one (IsThing w h.steps c) (Block h.steps c) refl (λ d s. s)

    within : (k : Key) (t : Thing) → IsThing w h.steps c k t → BelowNumber (length (items_of (declared w.files) c.index)) k
    within [] t s = tt
    within (i ∷ k) t s = by_item (item_at w c i) refl s
      where
        by_item : (o : Option Item) → item_at w c i ≡ o → ForItem w c i o (λ z r. IsInItem w h.steps z r k t) → i < length (items_of (declared w.files) c.index)
        by_item None e g = absurd g
        by_item (Some x) e g = slice_get_within (items_of (declared w.files) c.index) i x e
