-- The ports of an instance of a kind are whole arrays.
use Rattle.std.proofs.Common.{◌≡◌, ◌⊎◌, ℕ, ℤ, zero, suc, ◌*◌, ◌<◌, ◌≤◌, Bool, true, false, not, cond, List, [], ◌∷◌, ◌++◌, map, length, Option, Some, None, Ok, refl, sym, ap, ◌∙◌, subst, arith, inl, inr}
use Rattle.std.specs.Prelude.{◌&&◌, ◌||◌, pos, negsuc, nat_lt, unsigned_abs}
use Rattle.std.specs.Int.RustNames.{int_le}
use Rattle.std.specs.Option.{option_map}
use Rattle.std.specs.List.{flat_map, list_all, list_any, prefix_len}
use Rattle.std.proofs.lemmas.Bool.{false≢true, leb-true, ltb-false}
use Rattle.std.proofs.lemmas.List.{append-nil, map-append}
use Rattle.std.proofs.lemmas.Grind.{flat_map-append}
use Rattle.cdl_source.specs.declared.limits.TheConstants.{LARGEST_SIZE}
use Rattle.cdl_source.specs.Identifiers.{is_identifier, is_keyword, keywords}
use Rattle.cdl_values.specs.declared.value.Array.{Array}
use Rattle.cdl_values.specs.declared.value.Value.{Value}
use Rattle.cdl_values.specs.Values.{integer_at, items_of}
use Rattle.cdl_array.specs.Outcomes.{Outcome}
use Rattle.cdl_kinds.specs.declared.conditions.Condition.{Condition}
use Rattle.cdl_kinds.specs.declared.conditions.Condition.TheVariants.{Count, Window, NotNegative, Positive, Share, Below}
use Rattle.cdl_kinds.specs.declared.kind.Kind.{Kind}
use Rattle.cdl_kinds.specs.declared.kind.Kind.TheVariants as kind
use Rattle.cdl_kinds.specs.Conditions.{Keeps, conditions, first_broken, holds, is_count}
use Rattle.cdl_kinds.specs.Ports.{nin_or_nout}
use Rattle.cdl_kinds.specs.Table.{Group, row}
use Rattle.cdl_connect.specs.Paths.{Step as NetStep, IsStepText, AreSizes, ArrayOf, steps_of}
use Rattle.cdl_network.specs.Lists.{In, Apart}
use Rattle.cdl_network.proofs.Renaming.{in_map, of_map}
use Rattle.cdl_paths.specs.declared.path.Step.{Step}
use Rattle.cdl_params.specs.Kept.{Model}
use Rattle.cdl_walk.specs.declared.walked.Point.{Point}
use Rattle.cdl_walk.specs.Elements.{points, point_at, port_sizes, indices_at}
use Rattle.cdl_walk.specs.Instances.{plain_units, ports_from, ports_of}
use Rattle.cdl_model.proofs.Joined.{apart_append, in_either}
use Rattle.cdl_model.proofs.Rows.{group_names, ports_apart}
use Rattle.cdl_expand.proofs.Arrays.{AreWhole, in_tabulate, point_step, points_steps, spelled, text_of}
use Rattle.cdl_expand.proofs.Ports.{ports_next, sides}
use Rattle.cdl_expand.proofs.Whole.{AreSmall, IsWhole, step, whole}

-- ---- what the table says

-- arrays of ports have as many as a count says
abbrev counts : Condition → Bool
counts (Count zero) = true
counts (Count (suc i)) = false
counts (Window i) = false
counts (NotNegative i) = false
counts (Positive i) = false
counts (Share i) = false
counts (Below i j) = false

abbrev is_counted : Kind → Bool
is_counted k = cond (list_any (λ (g : Group). g.many) ((row k).ins ++ (row k).outs)) (list_any counts (row k).conditions) true

all_counted : (k : Kind) → is_counted k ≡ true
all_counted kind.LogicalAnd = refl
all_counted k = refl

all_named : (k : Kind) → list_all (λ (g : Group). is_identifier g.name) ((row k).ins ++ (row k).outs) ≡ true
unfolding is_keyword keywords
all_named kind.LogicalAnd = refl
all_named k = refl

both : (b c : Bool) → (b && c) ≡ true → (b ≡ true) × (c ≡ true)
both true c h = (refl, h)
both false c h = absurd (false≢true h)

-- ---- a count is kept

no_position : (n : ℕ) → option_map suc (Some n) ≡ None → ⊥
no_position n e = cc

-- no place is found
none_before : (b : Bool) (k : ℕ) → option_map suc (cond {A = Option ℕ} b (Some k) None) ≡ None → b ≡ false
none_before true k e = absurd (no_position k e)
none_before false k e = refl

abbrev kept : Bool → Bool
kept b = not (not b)

by_prefix : (bs : List Bool) → length bs ≤ prefix_len kept bs → (b : Bool) → In b bs → b ≡ true
by_prefix [] l b i = absurd i
by_prefix (true ∷ bs) l b (inl e) = e
by_prefix (true ∷ bs) l b (inr i) = by_prefix bs (omega (arith, l)) b i
by_prefix (false ∷ bs) l b i = absurd (omega (arith, l))

-- no condition is broken
all_hold : (bs : List Bool) → first_broken bs ≡ None → (b : Bool) → In b bs → b ≡ true
all_hold bs e b i = by_prefix bs (ltb-false (prefix_len kept bs) (length bs) (none_before (nat_lt (prefix_len kept bs) (length bs)) (prefix_len kept bs) e)) b i

count_small : (z : ℤ) → is_count z ≡ true → unsigned_abs z ≤ 256
count_small (pos n) h = leb-true n 256 (both (int_le (pos 1) (pos n)) (int_le (pos n) (pos 256)) h).1
count_small (negsuc n) h = absurd (false≢true h)

count_there : (cs : List Condition) → list_any counts cs ≡ true → In (Count 0) cs
count_there [] h = absurd (false≢true h)
count_there (Count zero ∷ cs) h = inl refl
count_there (Count (suc i) ∷ cs) h = inr (count_there cs h)
count_there (Window i ∷ cs) h = inr (count_there cs h)
count_there (NotNegative i ∷ cs) h = inr (count_there cs h)
count_there (Positive i ∷ cs) h = inr (count_there cs h)
count_there (Share i ∷ cs) h = inr (count_there cs h)
count_there (Below i j ∷ cs) h = inr (count_there cs h)

many_there : (gs : List Group) (g : Group) → In g gs → g.many ≡ true → list_any (λ (x : Group). x.many) gs ≡ true
many_there [] g i h = absurd i
many_there (x ∷ gs) g (inl e) h = ap (λ b. b || list_any (λ (y : Group). y.many) gs) (ap (λ (y : Group). y.many) (sym e) ∙ h)
many_there (x ∷ gs) g (inr i) h = or_true x.many (list_any (λ (y : Group). y.many) gs) (many_there gs g i h)
  where
    or_true : (b c : Bool) → c ≡ true → (b || c) ≡ true
    or_true true c e = refl
    or_true false c e = e

-- an array of ports has at most 256
many_small : (k : Kind) (v : List Array) (g : Group) → Keeps k v → In g ((row k).ins ++ (row k).outs) → g.many ≡ true → nin_or_nout v ≤ 256
many_small k v g h i m =
    let t : list_any counts (row k).conditions ≡ true = sym (ap (λ b. cond b (list_any counts (row k).conditions) true) (many_there ((row k).ins ++ (row k).outs) g i m)) ∙ all_counted k in
    count_small (integer_at v 0) (all_hold (conditions k v) h.holds (holds v (Count 0)) (in_map (holds v) (Count 0) (row k).conditions (count_there (row k).conditions t)))

small_sizes : (n : ℕ) (b : Bool) → (b ≡ true → n ≤ 256) → AreSmall (cond b (n ∷ []) [])
small_sizes n true f = record {
  few = omega arith;
  each = λ m i. only m i;
  items = let l = f refl in let e : n * 1 ≡ n = omega arith in omega (arith, l, e);
}
  where
    only : (m : ℕ) → In m (n ∷ []) → m ≤ LARGEST_SIZE
    only m (inl e) = let l = f refl in omega (arith, l, e)
    only m (inr i) = absurd i
small_sizes n false f = record { few = omega arith; each = λ m i. absurd i; items = omega arith }

-- ---- groups

-- an element comes from the group of its name
record FromGroup (n : ℕ) (input : Bool) (gs : List Group) (x : Point) : Type 0 where
  group : Group
  there : In group gs
  name : x.name ≡ group.name
  type_is : x.value_type ≡ group.value_type
  input_is : x.input ≡ input
  place : ℕ
  within : place < items_of (port_sizes n group)
  indices : x.indices ≡ indices_at (port_sizes n group) place

record GroupArrays (n : ℕ) (input : Bool) (gs : List Group) (ps : List Point) : Type 0 where
  arrays : List ArrayOf
  are : map point_step ps ≡ flat_map steps_of arrays
  sizes : (a : ArrayOf) → In a arrays → AreSizes a.sizes
  names : (a : ArrayOf) → In a arrays → In a.name (group_names gs)
  apart : Apart (map (λ (a : ArrayOf). a.name) arrays)
  from : (x : Point) → In x ps → FromGroup n input gs x

later : (n : ℕ) (input : Bool) (g : Group) (gs : List Group) (x : Point) → FromGroup n input gs x → FromGroup n input (g ∷ gs) x
later n input g gs x f = record { group = f.group; there = inr f.there; name = f.name; type_is = f.type_is; input_is = f.input_is; place = f.place; within = f.within; indices = f.indices }

abbrev array_name : ArrayOf → List ℕ
array_name a = a.name

next : (n : ℕ) (input : Bool) (g : Group) (gs : List Group) (us : List Value) (more : List Point) → AreSmall (port_sizes n g) → (In g.name (group_names gs) → ⊥) → GroupArrays n input gs more
    → GroupArrays n input (g ∷ gs) (points g.name g.value_type input (port_sizes n g) us ++ more)
next n input g gs us more s new r =
    let v : IsWhole g.name (map point_step (points g.name g.value_type input (port_sizes n g) us)) =
    subst (λ (l : List NetStep). IsWhole g.name l) (sym (points_steps g.name g.value_type input (port_sizes n g) us)) (whole g.name (port_sizes n g) s) in
    record {
      arrays = v.arrays ++ r.arrays;
      are = map-append point_step (points g.name g.value_type input (port_sizes n g) us) more ∙ ap (λ (l : List NetStep). l ++ map point_step more) v.are
          ∙ ap (λ (l : List NetStep). flat_map steps_of v.arrays ++ l) r.are ∙ sym (flat_map-append steps_of v.arrays r.arrays);
      sizes = λ a i. elim (in_either a v.arrays r.arrays i) as (λ _. AreSizes a.sizes) [ inl h ↦ v.sizes a h | inr h ↦ r.sizes a h ];
      names = λ a i. elim (in_either a v.arrays r.arrays i) as (λ _. In a.name (group_names (g ∷ gs))) [ inl h ↦ inl (v.names a h) | inr h ↦ inr (r.names a h) ];
      apart = subst (λ l. Apart l) (sym (map-append array_name v.arrays r.arrays)) (apart_append (map array_name v.arrays) (map array_name r.arrays) v.apart r.apart (λ x i j.
          let a = of_map array_name x v.arrays i in
          let b = of_map array_name x r.arrays j in
          new (subst (λ (y : List ℕ). In y (group_names gs)) (sym b.2 ∙ a.2 ∙ v.names a.0 a.1) (r.names b.0 b.1))));
      from = λ x i. elim (in_either x (points g.name g.value_type input (port_sizes n g) us) more i) as (λ _. FromGroup n input (g ∷ gs) x) [ inl h ↦ here x h | inr h ↦ later n input g gs x (r.from x h) ];
    }
  where
    here : (x : Point) → In x (points g.name g.value_type input (port_sizes n g) us) → FromGroup n input (g ∷ gs) x
    here x h =
        let z = in_tabulate (items_of (port_sizes n g)) (point_at g.name g.value_type input (port_sizes n g) us) x h in
        record {
          group = g;
          there = inl refl;
          name = ap (λ (y : Point). y.name) z.2;
          type_is = ap (λ (y : Point). y.value_type) z.2;
          input_is = ap (λ (y : Point). y.input) z.2;
          place = z.0;
          within = z.1;
          indices = ap (λ (y : Point). y.indices) z.2;
        }

abbrev ports_ok : List Point → Outcome (List Point)
ports_ok ps = Ok ps

ports_same : (xs ys : List Point) → ports_ok xs ≡ ports_ok ys → xs ≡ ys
ports_same xs ys e = cc

group_arrays : (w : Model) (p : List Step) (n : ℕ) (input : Bool) (gs : List Group) (ps : List Point) → ((g : Group) → In g gs → AreSmall (port_sizes n g)) → Apart (group_names gs) → ports_from w p n input gs ≡ Ok ps → GroupArrays n input gs ps
group_arrays w p n input [] ps s a e = subst (λ (l : List Point). GroupArrays n input [] l) (ports_same [] ps e)
    (record { arrays = []; are = refl; sizes = λ x i. absurd i; names = λ x i. absurd i; apart = tt; from = λ x i. absurd i })
group_arrays w p n input (g ∷ gs) ps s a e =
    let z = ports_next (plain_units w p g.name g.value_type) (ports_from w p n input gs) (λ us. points g.name g.value_type input (port_sizes n g) us) ps e in
    subst (λ (l : List Point). GroupArrays n input (g ∷ gs) l) z.3
    (next n input g gs z.0 z.1 (s g (inl refl)) a.0 (group_arrays w p n input gs z.1 (λ h i. s h (inr i)) a.1 z.2))

-- ---- the kind

in_left : {A : Type 0} (x : A) (xs ys : List A) → In x xs → In x (xs ++ ys)
in_left x [] ys h = absurd h
in_left x (y ∷ xs) ys (inl e) = inl e
in_left x (y ∷ xs) ys (inr h) = inr (in_left x xs ys h)

in_right : {A : Type 0} (x : A) (xs ys : List A) → In x ys → In x (xs ++ ys)
in_right x [] ys h = h
in_right x (y ∷ xs) ys h = inr (in_right x xs ys h)

apart_left : {A : Type 0} (xs ys : List A) → Apart (xs ++ ys) → Apart xs
apart_left [] ys a = tt
apart_left (x ∷ xs) ys a = ((λ i. a.0 (in_left x xs ys i)), apart_left xs ys a.1)

apart_right : {A : Type 0} (xs ys : List A) → Apart (xs ++ ys) → Apart ys
apart_right [] ys a = a
apart_right (x ∷ xs) ys a = apart_right xs ys a.1

apart_across : {A : Type 0} (xs ys : List A) (x : A) → Apart (xs ++ ys) → In x xs → In x ys → ⊥
apart_across [] ys x a i j = i
apart_across (y ∷ xs) ys x a (inl e) j = a.0 (in_right y xs ys (subst (λ z. In z ys) e j))
apart_across (y ∷ xs) ys x a (inr i) j = apart_across xs ys x a.1 i j

one_named : (gs : List Group) (g : Group) → list_all (λ (x : Group). is_identifier x.name) gs ≡ true → In g gs → is_identifier g.name ≡ true
one_named [] g h i = absurd i
one_named (x ∷ gs) g h (inl e) = ap (λ (y : Group). is_identifier y.name) e ∙ (both (is_identifier x.name) (list_all (λ (y : Group). is_identifier y.name) gs) h).0
one_named (x ∷ gs) g h (inr i) = one_named gs g (both (is_identifier x.name) (list_all (λ (y : Group). is_identifier y.name) gs) h).1 i

-- two groups of one name are the same
one_group : (gs : List Group) (g h : Group) → Apart (group_names gs) → In g gs → In h gs → g.name ≡ h.name → g ≡ h
one_group [] g h a i j e = absurd i
one_group (x ∷ gs) g h a (inl p) (inl q) e = p ∙ sym q
one_group (x ∷ gs) g h a (inl p) (inr j) e = absurd (a.0 (subst (λ n. In n (group_names gs)) (sym (ap (λ (y : Group). y.name) (sym p) ∙ e)) (in_map (λ (y : Group). y.name) h gs j)))
one_group (x ∷ gs) g h a (inr i) (inl q) e = absurd (a.0 (subst (λ n. In n (group_names gs)) (e ∙ ap (λ (y : Group). y.name) q) (in_map (λ (y : Group). y.name) g gs i)))
one_group (x ∷ gs) g h a (inr i) (inr j) e = one_group gs g h a.1 i j e

module _ (w : Model) (p : List Step) (k : Kind) (v : List Array) (keeps : Keeps k v) where
  names_split : Apart (group_names (row k).ins ++ group_names (row k).outs)
  names_split = subst (λ l. Apart l) (map-append (λ (g : Group). g.name) (row k).ins (row k).outs) (ports_apart k)

  small : (g : Group) → In g ((row k).ins ++ (row k).outs) → AreSmall (port_sizes (nin_or_nout v) g)
  small g i = small_sizes (nin_or_nout v) g.many (λ m. many_small k v g keeps i m)

  text_from : (input : Bool) (gs : List Group) (x : Point) → ((g : Group) → In g gs → In g ((row k).ins ++ (row k).outs)) → (f : FromGroup (nin_or_nout v) input gs x) → IsStepText (point_step x) (text_of (point_step x))
  text_from input gs x inside f =
      subst (λ (s : NetStep). IsStepText s (text_of s)) (sym (ap (λ (y : List ℕ). step y x.indices) f.name ∙ ap (λ (y : List ℕ). step f.group.name y) f.indices))
      (spelled f.group.name (port_sizes (nin_or_nout v) f.group) f.place (one_named ((row k).ins ++ (row k).outs) f.group (all_named k) (inside f.group f.there)) (small f.group (inside f.group f.there)) f.within)

  same_side : (input : Bool) (gs : List Group) (x y : Point) → Apart (group_names gs) → FromGroup (nin_or_nout v) input gs x → FromGroup (nin_or_nout v) input gs y → x.name ≡ y.name → (x.value_type ≡ y.value_type) × (x.input ≡ y.input)
  same_side input gs x y a f g e =
      let same : f.group ≡ g.group = one_group gs f.group g.group a f.there g.there (sym f.name ∙ e ∙ g.name) in
      (f.type_is ∙ ap (λ (z : Group). z.value_type) same ∙ sym g.type_is, f.input_is ∙ sym g.input_is)

  two_sides : (x y : Point) → FromGroup (nin_or_nout v) true (row k).ins x → FromGroup (nin_or_nout v) false (row k).outs y → x.name ≡ y.name → ⊥
  two_sides x y f g e = apart_across (group_names (row k).ins) (group_names (row k).outs) f.group.name names_split
      (in_map (λ (z : Group). z.name) f.group (row k).ins f.there)
      (subst (λ n. In n (group_names (row k).outs)) (sym (sym f.name ∙ e ∙ g.name)) (in_map (λ (z : Group). z.name) g.group (row k).outs g.there))

  both_whole : (ins outs : List Point) → GroupArrays (nin_or_nout v) true (row k).ins ins → GroupArrays (nin_or_nout v) false (row k).outs outs → AreWhole (ins ++ outs) []
  both_whole ins outs a b = record {
    own_arrays = a.arrays ++ b.arrays;
    part_arrays = [];
    arrays = record {
      steps = append-nil (map point_step (ins ++ outs)) ∙ map-append point_step ins outs ∙ ap (λ (l : List NetStep). l ++ map point_step outs) a.are ∙ ap (λ (l : List NetStep). flat_map steps_of a.arrays ++ l) b.are
          ∙ sym (flat_map-append steps_of a.arrays b.arrays) ∙ ap (flat_map steps_of) (sym (append-nil (a.arrays ++ b.arrays)));
      sizes = λ x i. elim (in_either x a.arrays b.arrays (subst (λ (l : List ArrayOf). In x l) (append-nil (a.arrays ++ b.arrays)) i)) as (λ _. AreSizes x.sizes) [ inl h ↦ a.sizes x h | inr h ↦ b.sizes x h ];
      apart = subst (λ (l : List ArrayOf). Apart (map array_name l)) (sym (append-nil (a.arrays ++ b.arrays))) (subst (λ l. Apart l) (sym (map-append array_name a.arrays b.arrays))
          (apart_append (map array_name a.arrays) (map array_name b.arrays) a.apart b.apart (λ x i j.
          let y = of_map array_name x a.arrays i in
          let z = of_map array_name x b.arrays j in
          apart_across (group_names (row k).ins) (group_names (row k).outs) x names_split
          (subst (λ n. In n (group_names (row k).ins)) (sym y.2) (a.names y.0 y.1)) (subst (λ n. In n (group_names (row k).outs)) (sym z.2) (b.names z.0 z.1)))));
    };
    own_spelled = λ x i. text x (comes x i);
    part_spelled = λ s i. absurd i;
    alike = λ x y i j e. same x y (comes x i) (comes y j) e;
  }
    where
      comes : (x : Point) → In x (ins ++ outs) → FromGroup (nin_or_nout v) true (row k).ins x ⊎ FromGroup (nin_or_nout v) false (row k).outs x
      comes x i = elim (in_either x ins outs i) as (λ _. FromGroup (nin_or_nout v) true (row k).ins x ⊎ FromGroup (nin_or_nout v) false (row k).outs x) [ inl h ↦ inl (a.from x h) | inr h ↦ inr (b.from x h) ]

      text : (x : Point) → FromGroup (nin_or_nout v) true (row k).ins x ⊎ FromGroup (nin_or_nout v) false (row k).outs x → IsStepText (point_step x) (text_of (point_step x))
      text x (inl f) = text_from true (row k).ins x (λ g m. in_left g (row k).ins (row k).outs m) f
      text x (inr f) = text_from false (row k).outs x (λ g m. in_right g (row k).ins (row k).outs m) f

      same : (x y : Point) → FromGroup (nin_or_nout v) true (row k).ins x ⊎ FromGroup (nin_or_nout v) false (row k).outs x → FromGroup (nin_or_nout v) true (row k).ins y ⊎ FromGroup (nin_or_nout v) false (row k).outs y
          → x.name ≡ y.name → (x.value_type ≡ y.value_type) × (x.input ≡ y.input)
      same x y (inl f) (inl g) e = same_side true (row k).ins x y (apart_left (group_names (row k).ins) (group_names (row k).outs) names_split) f g e
      same x y (inl f) (inr g) e = absurd (two_sides x y f g e)
      same x y (inr f) (inl g) e = absurd (two_sides y x g f (sym e))
      same x y (inr f) (inr g) e = same_side false (row k).outs x y (apart_right (group_names (row k).ins) (group_names (row k).outs) names_split) f g e

  -- an instance of a kind
  pub kind_whole : (ps : List Point) → ports_of w p k v ≡ Ok ps → AreWhole ps []
  kind_whole ps e =
      let z = sides (ports_from w p (nin_or_nout v) true (row k).ins) (ports_from w p (nin_or_nout v) false (row k).outs) ps e in
      subst (λ (l : List Point). AreWhole l []) z.4 (both_whole z.0 z.1
      (group_arrays w p (nin_or_nout v) true (row k).ins z.0 (λ g i. small g (in_left g (row k).ins (row k).outs i)) (apart_left (group_names (row k).ins) (group_names (row k).outs) names_split) z.2)
      (group_arrays w p (nin_or_nout v) false (row k).outs z.1 (λ g i. small g (in_right g (row k).ins (row k).outs i)) (apart_right (group_names (row k).ins) (group_names (row k).outs) names_split) z.3))
