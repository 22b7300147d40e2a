-- The elements and the parts of an instance are whole arrays, each name in one of them.
use Rattle.std.proofs.Common.{◌≡◌, ℕ, zero, suc, ◌+◌, ◌/◌, ◌%◌, ◌<◌, ◌≤◌, Bool, true, List, [], ◌∷◌, ◌++◌, map, Some, refl, sym, ap, ◌∙◌, subst, arith, inl, inr}
use Rattle.std.specs.List.{flat_map}
use Rattle.std.proofs.Math.Nat.{div-le_self, mod-le}
use Rattle.std.proofs.lemmas.List.{append-nil, map-append}
use Rattle.std.proofs.lemmas.Grind.{flat_map-append}
use Rattle.cdl_source.specs.Identifiers.{is_identifier}
use Rattle.cdl_values.specs.declared.value.Value.{Value}
use Rattle.cdl_values.specs.declared.value.ValueType.{ValueType}
use Rattle.cdl_values.specs.Values.{items_of as size_of}
use Rattle.cdl_connect.specs.Paths.{Step as NetStep, IsIndexText, IsStepText, AreSizes, ArrayOf, AreArrays, steps_of}
use Rattle.cdl_network.specs.Lists.{In, Apart}
use Rattle.cdl_network.proofs.Renaming.{of_map}
use Rattle.cdl_tree.specs.declared.class.Item.{Item}
use Rattle.cdl_scopes.specs.Classes.{declared}
use Rattle.cdl_scopes.specs.Lookup.{item_name}
use Rattle.cdl_classes.specs.declared.found.ClassId.{ClassId}
use Rattle.cdl_paths.specs.declared.path.Step.{Step}
use Rattle.cdl_params.specs.Kept.{Model}
use Rattle.cdl_items.specs.declared.role.Part.{Part}
use Rattle.cdl_items.specs.declared.role.Role.TheVariants as role
use Rattle.cdl_walk.specs.declared.walked.Point.{Point}
use Rattle.cdl_walk.specs.Elements.{points, point_at, tabulate, indices_at}
use Rattle.cdl_items.specs.Roles.{role_of}
use Rattle.cdl_walk.specs.Texts.{indices_text, step_text}
use Rattle.cdl_model.specs.Apart.{NamesApart}
use Rattle.cdl_model.proofs.Joined.{apart_append, in_either}
use Rattle.cdl_model.proofs.Keyed.{item_at}
use Rattle.cdl_expand.proofs.Decimals.{no_index, one_index, two_indices}
use Rattle.cdl_expand.proofs.Outlines.{Outline, Shape, Nothing, Connector, Component}
use Rattle.cdl_expand.proofs.Selected.{joined}
use Rattle.cdl_expand.proofs.Small.{dims_small, elements_small}
use Rattle.cdl_expand.proofs.Whole.{AreSmall, IsWhole, map_tabulate, step, whole}

abbrev pub point_step : Point → NetStep
point_step x = step x.name x.indices

-- the text of a step
abbrev pub text_of : NetStep → List ℕ
text_of s = step_text (record { name = s.name; indices = s.indices })

-- what the elements and the parts of an instance are: whole arrays, of steps that are spelled, and each name of one type and direction
pub record AreWhole (own : List Point) (parts : List NetStep) : Type 0 where
  pub own_arrays : List ArrayOf
  pub part_arrays : List ArrayOf
  pub arrays : AreArrays (own_arrays ++ part_arrays) (map point_step own ++ parts)
  pub own_spelled : (x : Point) → In x own → IsStepText (point_step x) (text_of (point_step x))
  pub part_spelled : (s : NetStep) → In s parts → IsStepText s (text_of s)
  pub alike : (x y : Point) → In x own → In y own → x.name ≡ y.name → (x.value_type ≡ y.value_type) × (x.input ≡ y.input)

-- ---- steps are spelled

index_spelled : (s : List ℕ) (x : ℕ) → AreSmall s → x < size_of s → IsIndexText (indices_at s x) (indices_text (indices_at s x))
index_spelled [] x h l = no_index
index_spelled (n ∷ []) x h l = one_index (x + 1) (let m = h.items in omega (arith, l, m))
index_spelled (m ∷ n ∷ []) x h l =
    let k = h.items in
    let d : x / n ≤ x = div-le_self x n in
    let r : x % n ≤ x = mod-le x n in
    two_indices (x / n + 1) (x % n + 1) (omega (arith, l, k, d)) (omega (arith, l, k, r))
index_spelled (m ∷ n ∷ o ∷ more) x h l = absurd (let f = h.few in omega (arith, f))

pub spelled : (name s : List ℕ) (x : ℕ) → is_identifier name ≡ true → AreSmall s → x < size_of s → IsStepText (step name (indices_at s x)) (text_of (step name (indices_at s x)))
spelled name s x i h l = record { identifier = i; indices = indices_text (indices_at s x); spelled = index_spelled s x h l; text = refl }

-- ---- points

pub points_steps : (name : List ℕ) (t : ValueType) (input : Bool) (s : List ℕ) (us : List Value) → map point_step (points name t input s us) ≡ tabulate (size_of s) (λ x. step name (indices_at s x))
points_steps name t input s us = map_tabulate point_step (size_of s) (point_at name t input s us)

pub in_tabulate : {A : Type 0} (n : ℕ) (f : ℕ → A) (y : A) → In y (tabulate n f) → (k : ℕ) × (k < n) × (y ≡ f k)
in_tabulate zero f y i = absurd i
in_tabulate {A} (suc n) f y i = elim (in_either y (tabulate n f) (f n ∷ []) i) as (λ _. (k : ℕ) × (k < suc n) × (y ≡ f k)) [
  | inl a ↦ (let z = in_tabulate n f y a in (z.0, omega (arith, z.1), z.2))
  | inr b ↦ elim b as (λ _. (k : ℕ) × (k < suc n) × (y ≡ f k)) [ inl e ↦ (n, omega arith, e) | inr none ↦ absurd none ]
]

in_joined : {A : Type 0} (n : ℕ) (g : ℕ → List A) (y : A) → In y (joined n g) → (i : ℕ) × (i < n) × In y (g i)
in_joined zero g y m = absurd m
in_joined {A} (suc n) g y m = elim (in_either y (joined n g) (g n) m) as (λ _. (i : ℕ) × (i < suc n) × In y (g i)) [
  | inl a ↦ (let z = in_joined n g y a in (z.0, omega (arith, z.1), z.2))
  | inr b ↦ (n, omega arith, b)
]

-- ---- item by item

-- a name of an item of this role before that number
abbrev OwnName : Model → ClassId → ℕ → List ℕ → Type 0
OwnName w c n x = (i : ℕ) × (item : Item) × (t : ValueType) × (input : Bool) × (i < n) × (item_at w c i ≡ Some item) × (role_of (declared w.files) c.index i item ≡ role.Connector t input) × (x ≡ item_name item)

abbrev PartName : Model → ClassId → ℕ → List ℕ → Type 0
PartName w c n x = (i : ℕ) × (item : Item) × (q : Part) × (i < n) × (item_at w c i ≡ Some item) × (role_of (declared w.files) c.index i item ≡ role.Component q) × (x ≡ item_name item)

record UpTo (w : Model) (c : ClassId) (n : ℕ) (own : List Point) (parts : List NetStep) : Type 0 where
  own_arrays : List ArrayOf
  part_arrays : List ArrayOf
  own_are : map point_step own ≡ flat_map steps_of own_arrays
  parts_are : parts ≡ flat_map steps_of part_arrays
  own_sizes : (a : ArrayOf) → In a own_arrays → AreSizes a.sizes
  part_sizes : (a : ArrayOf) → In a part_arrays → AreSizes a.sizes
  own_names : (a : ArrayOf) → In a own_arrays → OwnName w c n a.name
  part_names : (a : ArrayOf) → In a part_arrays → PartName w c n a.name
  own_apart : Apart (map (λ (a : ArrayOf). a.name) own_arrays)
  part_apart : Apart (map (λ (a : ArrayOf). a.name) part_arrays)

more_own : (w : Model) (c : ClassId) (n : ℕ) (x : List ℕ) → OwnName w c n x → OwnName w c (suc n) x
more_own w c n x z = (z.0, z.1, z.2, z.3, omega (arith, z.4), z.5, z.6, z.7)

more_part : (w : Model) (c : ClassId) (n : ℕ) (x : List ℕ) → PartName w c n x → PartName w c (suc n) x
more_part w c n x z = (z.0, z.1, z.2, omega (arith, z.3), z.4, z.5, z.6)

abbrev array_name : ArrayOf → List ℕ
array_name a = a.name

module _ (w : Model) (names : NamesApart w) (c : ClassId) where
  -- arrays of a new name
  added : (n : ℕ) (item : Item) (old new : List ArrayOf) → item_at w c n ≡ Some item → ((a : ArrayOf) → In a old → (i : ℕ) × (x : Item) × (i < n) × (item_at w c i ≡ Some x) × (a.name ≡ item_name x))
      → ((b : ArrayOf) → In b new → b.name ≡ item_name item) → Apart (map array_name old) → Apart (map array_name new) → Apart (map array_name (old ++ new))
  added n item old new at f g p q = subst (λ l. Apart l) (sym (map-append array_name old new)) (apart_append (map array_name old) (map array_name new) p q (λ x i j.
      let a = of_map array_name x old i in
      let b = of_map array_name x new j in
      let z = f a.0 a.1 in
      let same : item_name z.1 ≡ item_name item = sym z.4 ∙ sym a.2 ∙ b.2 ∙ g b.0 b.1 in
      let number : z.0 ≡ n = names.items c.index z.0 n z.1 item z.3 at same in
      let below = z.2 in
      omega (arith, below, number)))

  same_own : (n : ℕ) (own new : List Point) (parts more : List NetStep) → UpTo w c n own parts → new ≡ [] → more ≡ [] → UpTo w c (suc n) (own ++ new) (parts ++ more)
  same_own n own new parts more u e f = record {
    own_arrays = u.own_arrays;
    part_arrays = u.part_arrays;
    own_are = ap (λ (l : List Point). map point_step (own ++ l)) e ∙ ap (map point_step) (append-nil own) ∙ u.own_are;
    parts_are = ap (λ (l : List NetStep). parts ++ l) f ∙ append-nil parts ∙ u.parts_are;
    own_sizes = u.own_sizes;
    part_sizes = u.part_sizes;
    own_names = λ a i. more_own w c n a.name (u.own_names a i);
    part_names = λ a i. more_part w c n a.name (u.part_names a i);
    own_apart = u.own_apart;
    part_apart = u.part_apart;
  }

  -- in either of two lists of arrays
  either_array : {P : ArrayOf → Type 0} (xs ys : List ArrayOf) → ((a : ArrayOf) → In a xs → P a) → ((a : ArrayOf) → In a ys → P a) → (a : ArrayOf) → In a (xs ++ ys) → P a
  either_array {P} xs ys f g a i = elim (in_either a xs ys i) as (λ _. P a) [ inl h ↦ f a h | inr h ↦ g a h ]

  next_own : (n : ℕ) (own new : List Point) (parts more : List NetStep) (item : Item) (t : ValueType) (input : Bool) → item_at w c n ≡ Some item → role_of (declared w.files) c.index n item ≡ role.Connector t input
      → IsWhole (item_name item) (map point_step new) → more ≡ [] → UpTo w c n own parts → UpTo w c (suc n) (own ++ new) (parts ++ more)
  next_own n own new parts more item t input at r v f u = record {
    own_arrays = u.own_arrays ++ v.arrays;
    part_arrays = u.part_arrays;
    own_are = map-append point_step own new ∙ ap (λ (l : List NetStep). l ++ map point_step new) u.own_are ∙ ap (λ (l : List NetStep). flat_map steps_of u.own_arrays ++ l) v.are
        ∙ sym (flat_map-append steps_of u.own_arrays v.arrays);
    parts_are = ap (λ (l : List NetStep). parts ++ l) f ∙ append-nil parts ∙ u.parts_are;
    own_sizes = either_array {P = λ a. AreSizes a.sizes} u.own_arrays v.arrays u.own_sizes v.sizes;
    part_sizes = u.part_sizes;
    own_names = either_array {P = λ a. OwnName w c (suc n) a.name} u.own_arrays v.arrays (λ a i. more_own w c n a.name (u.own_names a i)) (λ a i. (n, item, t, input, omega arith, at, r, v.names a i));
    part_names = λ a i. more_part w c n a.name (u.part_names a i);
    own_apart = added n item u.own_arrays v.arrays at (λ a i. let z = u.own_names a i in (z.0, z.1, z.4, z.5, z.7)) v.names u.own_apart v.apart;
    part_apart = u.part_apart;
  }

  next_part : (n : ℕ) (own new : List Point) (parts more : List NetStep) (item : Item) (q : Part) → item_at w c n ≡ Some item → role_of (declared w.files) c.index n item ≡ role.Component q
      → IsWhole (item_name item) more → new ≡ [] → UpTo w c n own parts → UpTo w c (suc n) (own ++ new) (parts ++ more)
  next_part n own new parts more item q at r v e u = record {
    own_arrays = u.own_arrays;
    part_arrays = u.part_arrays ++ v.arrays;
    own_are = ap (λ (l : List Point). map point_step (own ++ l)) e ∙ ap (map point_step) (append-nil own) ∙ u.own_are;
    parts_are = ap (λ (l : List NetStep). l ++ more) u.parts_are ∙ ap (λ (l : List NetStep). flat_map steps_of u.part_arrays ++ l) v.are ∙ sym (flat_map-append steps_of u.part_arrays v.arrays);
    own_sizes = u.own_sizes;
    part_sizes = either_array {P = λ a. AreSizes a.sizes} u.part_arrays v.arrays u.part_sizes v.sizes;
    own_names = λ a i. more_own w c n a.name (u.own_names a i);
    part_names = either_array {P = λ a. PartName w c (suc n) a.name} u.part_arrays v.arrays (λ a i. more_part w c n a.name (u.part_names a i)) (λ a i. (n, item, q, omega arith, at, r, v.names a i));
    own_apart = u.own_apart;
    part_apart = added n item u.part_arrays v.arrays at (λ a i. let z = u.part_names a i in (z.0, z.1, z.3, z.4, z.6)) v.names u.part_apart v.apart;
  }

  next : (p : List Step) (n : ℕ) (own new : List Point) (parts more : List NetStep) → Shape w p c n new more → UpTo w c n own parts → UpTo w c (suc n) (own ++ new) (parts ++ more)
  next p n own new parts more (Nothing e f) u = same_own n own new parts more u e f
  next p n own new parts more (Connector item t input s us at r d e f) u =
      next_own n own new parts more item t input at r
      (subst (λ (l : List NetStep). IsWhole (item_name item) l) (sym (ap (map point_step) e ∙ points_steps (item_name item) t input s us)) (whole (item_name item) s (dims_small w p item s d))) f u
  next p n own new parts more (Component item q s at r d e f) u =
      next_part n own new parts more item q at r (subst (λ (l : List NetStep). IsWhole (item_name item) l) (sym f) (whole (item_name item) s (elements_small w p item s d))) e u

  up_to : (p : List Step) (own_of : ℕ → List Point) (parts_of : ℕ → List NetStep) (n : ℕ) → ((i : ℕ) → i < n → Shape w p c i (own_of i) (parts_of i)) → UpTo w c n (joined n own_of) (joined n parts_of)
  up_to p own_of parts_of zero f = record {
    own_arrays = [];
    part_arrays = [];
    own_are = refl;
    parts_are = refl;
    own_sizes = λ a i. absurd i;
    part_sizes = λ a i. absurd i;
    own_names = λ a i. absurd i;
    part_names = λ a i. absurd i;
    own_apart = tt;
    part_apart = tt;
  }
  up_to p own_of parts_of (suc n) f = next p n (joined n own_of) (own_of n) (joined n parts_of) (parts_of n) (f n (omega arith)) (up_to p own_of parts_of n (λ i m. f i (omega (arith, m))))

  two_roles : (t : ValueType) (input : Bool) (q : Part) → role.Connector t input ≡ role.Component q → ⊥
  two_roles t input q e = cc

  item_same : (x y : Item) → Some x ≡ Some y → x ≡ y
  item_same x y e = cc

  -- elements and parts have different names
  across : (n : ℕ) (x : List ℕ) → OwnName w c n x → PartName w c n x → ⊥
  across n x a b =
      let number : a.0 ≡ b.0 = names.items c.index a.0 b.0 a.1 b.1 a.5 b.4 (sym a.7 ∙ b.6) in
      let item : a.1 ≡ b.1 = item_same a.1 b.1 (sym a.5 ∙ ap (item_at w c) number ∙ b.4) in
      let r : role_of (declared w.files) c.index b.0 b.1 ≡ role.Connector a.2 a.3 =
      ap (λ (z : Item). role_of (declared w.files) c.index b.0 z) (sym item) ∙ ap (λ (k : ℕ). role_of (declared w.files) c.index k a.1) (sym number) ∙ a.6 in
      two_roles a.2 a.3 b.2 (sym r ∙ b.5)

  arrays_of : (n : ℕ) (own : List Point) (parts : List NetStep) (u : UpTo w c n own parts) → AreArrays (u.own_arrays ++ u.part_arrays) (map point_step own ++ parts)
  arrays_of n own parts u = record {
    steps = ap (λ (l : List NetStep). l ++ parts) u.own_are ∙ ap (λ (l : List NetStep). flat_map steps_of u.own_arrays ++ l) u.parts_are ∙ sym (flat_map-append steps_of u.own_arrays u.part_arrays);
    sizes = either_array {P = λ a. AreSizes a.sizes} u.own_arrays u.part_arrays u.own_sizes u.part_sizes;
    apart = subst (λ l. Apart l) (sym (map-append array_name u.own_arrays u.part_arrays)) (apart_append (map array_name u.own_arrays) (map array_name u.part_arrays) u.own_apart u.part_apart (λ x i j.
        let a = of_map array_name x u.own_arrays i in
        let b = of_map array_name x u.part_arrays j in
        across n x (subst (λ (y : List ℕ). OwnName w c n y) (sym a.2) (u.own_names a.0 a.1)) (subst (λ (y : List ℕ). PartName w c n y) (sym b.2) (u.part_names b.0 b.1))));
  }

  -- an element comes from the connector of its name
  record FromConnector (p : List Step) (x : Point) : Type 0 where
    number : ℕ
    item : Item
    value_type : ValueType
    input : Bool
    at : item_at w c number ≡ Some item
    role_is : role_of (declared w.files) c.index number item ≡ role.Connector value_type input
    name : x.name ≡ item_name item
    type_is : x.value_type ≡ value_type
    input_is : x.input ≡ input
    sizes : List ℕ
    small : AreSmall sizes
    place : ℕ
    within : place < size_of sizes
    indices : x.indices ≡ indices_at sizes place

  from_shape : (p : List Step) (i : ℕ) (own : List Point) (parts : List NetStep) (x : Point) → Shape w p c i own parts → In x own → FromConnector p x
  from_shape p i own parts x (Nothing e f) m = absurd (subst (λ (l : List Point). In x l) e m)
  from_shape p i own parts x (Connector item t input s us at r d e f) m =
      let z = in_tabulate (size_of s) (point_at (item_name item) t input s us) x (subst (λ (l : List Point). In x l) e m) in
      record {
        number = i;
        item = item;
        value_type = t;
        input = input;
        at = at;
        role_is = r;
        name = ap (λ (y : Point). y.name) z.2;
        type_is = ap (λ (y : Point). y.value_type) z.2;
        input_is = ap (λ (y : Point). y.input) z.2;
        sizes = s;
        small = dims_small w p item s d;
        place = z.0;
        within = z.1;
        indices = ap (λ (y : Point). y.indices) z.2;
      }
  from_shape p i own parts x (Component item q s at r d e f) m = absurd (subst (λ (l : List Point). In x l) e m)

  module _ (formed : (i : ℕ) (x : Item) → item_at w c i ≡ Some x → is_identifier (item_name x) ≡ true) where
    part_shape : (p : List Step) (i : ℕ) (own : List Point) (parts : List NetStep) (s : NetStep) → Shape w p c i own parts → In s parts → IsStepText s (text_of s)
    part_shape p i own parts s (Nothing e f) m = absurd (subst (λ (l : List NetStep). In s l) f m)
    part_shape p i own parts s (Connector item t input ns us at r d e f) m = absurd (subst (λ (l : List NetStep). In s l) f m)
    part_shape p i own parts s (Component item q ns at r d e f) m =
        let z = in_tabulate (size_of ns) (λ x. step (item_name item) (indices_at ns x)) s (subst (λ (l : List NetStep). In s l) f m) in
        subst (λ (y : NetStep). IsStepText y (text_of y)) (sym z.2) (spelled (item_name item) ns z.0 (formed i item at) (elements_small w p item ns d) z.1)

    own_text : (p : List Step) (x : Point) → FromConnector p x → IsStepText (point_step x) (text_of (point_step x))
    own_text p x f = subst (λ (s : NetStep). IsStepText s (text_of s)) (sym (ap (λ (y : List ℕ). step y x.indices) f.name ∙ ap (λ (y : List ℕ). step (item_name f.item) y) f.indices))
        (spelled (item_name f.item) f.sizes f.place (formed f.number f.item f.at) f.small f.within)

    connector_same : (t u : ValueType) (a b : Bool) → role.Connector t a ≡ role.Connector u b → (t ≡ u) × (a ≡ b)
    connector_same t u a b e = (cc, cc)

    same_connector : (p : List Step) (x y : Point) → FromConnector p x → FromConnector p y → x.name ≡ y.name → (x.value_type ≡ y.value_type) × (x.input ≡ y.input)
    same_connector p x y a b e =
        let number : a.number ≡ b.number = names.items c.index a.number b.number a.item b.item a.at b.at (sym a.name ∙ e ∙ b.name) in
        let item : a.item ≡ b.item = item_same a.item b.item (sym a.at ∙ ap (item_at w c) number ∙ b.at) in
        let r : role.Connector a.value_type a.input ≡ role.Connector b.value_type b.input =
        sym a.role_is ∙ ap (λ (k : ℕ). role_of (declared w.files) c.index k a.item) number ∙ ap (λ (z : Item). role_of (declared w.files) c.index b.number z) item ∙ b.role_is in
        let both = connector_same a.value_type b.value_type a.input b.input r in
        (a.type_is ∙ both.0 ∙ sym b.type_is, a.input_is ∙ both.1 ∙ sym b.input_is)

    -- an instance of a declared block
    pub block_whole : (p : List Step) (own : List Point) (parts : List NetStep) → Outline w p c own parts → AreWhole own parts
    block_whole p own parts o =
        let u = up_to p o.own_of o.parts_of o.count o.shape in
        let from : (x : Point) → In x own → FromConnector p x = λ x m.
        let z = in_joined o.count o.own_of x (subst (λ (l : List Point). In x l) o.own_are m) in from_shape p z.0 (o.own_of z.0) (o.parts_of z.0) x (o.shape z.0 z.1) z.2 in
        record {
          own_arrays = u.own_arrays;
          part_arrays = u.part_arrays;
          arrays = subst (λ (l : List NetStep). AreArrays (u.own_arrays ++ u.part_arrays) (map point_step own ++ l)) (sym o.parts_are)
              (subst (λ (l : List Point). AreArrays (u.own_arrays ++ u.part_arrays) (map point_step l ++ joined o.count o.parts_of)) (sym o.own_are) (arrays_of o.count (joined o.count o.own_of) (joined o.count o.parts_of) u));
          own_spelled = λ x m. own_text p x (from x m);
          part_spelled = λ s m. let z = in_joined o.count o.parts_of s (subst (λ (l : List NetStep). In s l) o.parts_are m) in part_shape p z.0 (o.own_of z.0) (o.parts_of z.0) s (o.shape z.0 z.1) z.2;
          alike = λ x y m k e. same_connector p x y (from x m) (from y k) e;
        }
