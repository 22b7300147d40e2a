-- The elements which occurrences join stand in the lists of the walk.
use Rattle.std.proofs.Common.{◌≡◌, ◌<◌, ◌≤◌, ◌⊎◌, ℕ, zero, suc, Bool, true, false, cond, List, [], ◌∷◌, ◌++◌, map, length, refl, sym, ap, ◌∙◌, subst, arith, inl, inr, Ok, Err, Option, Some, None}
use Rattle.std.specs.Prelude.{◌&&◌, nat_le, slice_get, unwrap_or, option_map, option_and_then}
use Rattle.std.specs.Option.{option_or}
use Rattle.std.specs.Str.{bytes_eq}
use Rattle.std.proofs.lemmas.Bool.{cases_lt}
use Rattle.std.proofs.lemmas.Bool.Decides.{nat_tests}
use Rattle.std.proofs.lemmas.Option.{slice_get-map}
use Rattle.cdl_source.specs.declared.rules.TheConstants.{WRONG_SHAPE}
use Rattle.cdl_values.specs.declared.value.Array.{Array}
use Rattle.cdl_values.specs.declared.value.Value.{Value}
use Rattle.cdl_values.specs.declared.value.ValueType.{ValueType}
use Rattle.cdl_values.specs.Values.{items_of as size_of}
use Rattle.cdl_array.specs.Outcomes.{Outcome, then_to}
use Rattle.cdl_array.specs.Sizes.{count_of}
use Rattle.cdl_kinds.specs.declared.kind.Kind.{Kind}
use Rattle.cdl_kinds.specs.Table.{Group, ParameterRow, row}
use Rattle.cdl_kinds.specs.Ports.{nin_or_nout}
use Rattle.cdl_tree.specs.declared.class.Item.{Item}
use Rattle.cdl_tree.specs.declared.class.Dim.{Dim}
use Rattle.cdl_tree.specs.declared.expr.Expr.{Expr}
use Rattle.cdl_scopes.specs.Classes.{Declared, declared}
use Rattle.cdl_scopes.specs.Lookup.{item_name}
use Rattle.cdl_classes.specs.declared.found.ClassId.{ClassId}
use Rattle.cdl_classes.specs.Table.{items_at}
use Rattle.cdl_paths.specs.declared.path.Step.{Step}
use Rattle.cdl_paths.specs.Members.{item_at}
use Rattle.cdl_params.specs.Kept.{Model}
use Rattle.cdl_worth.specs.Sizes.{dim_sizes, known, counted, sizes_of}
use Rattle.cdl_worth.specs.Units.{group_named}
use Rattle.cdl_worth.specs.Values.{dims as dims_by}
use Rattle.cdl_stations.specs.Keys.{Key, In}
use Rattle.cdl_stations.proofs.Grown.{in_left, in_right, in_either}
use Rattle.cdl_walk.specs.declared.walked.Content.TheVariants as content
use Rattle.cdl_walk.specs.declared.walked.Element.{Element}
use Rattle.cdl_walk.specs.declared.walked.Instance.{Instance}
use Rattle.cdl_walk.specs.declared.walked.Point.{Point}
use Rattle.cdl_walk.specs.Elements.{tabulate, point_at, points, port_sizes, indices_at}
use Rattle.cdl_walk.specs.Instances.{Thing, Block, Elementary, Elements, IsThing, Seen, Owned, owned_by, instances_from, elements_from, instances_in, elements_in, seen_instance, seen_element, plain_units, ports_from}
use Rattle.cdl_items.specs.Roles.{items_of}
use Rattle.cdl_walk.specs.Stations.{the_root}
use Rattle.cdl_walk.specs.Places.{start}
use Rattle.cdl_walk.specs.Worth.{dims}
use Rattle.cdl_source.specs.declared.limits.TheConstants.{MOST_LINKS}
use Rattle.cdl_classes.specs.Table.{item_of}
use Rattle.cdl_params.specs.Kept.{classes}
use Rattle.cdl_worth.specs.Values.{evaluate as evaluate_by}
use Rattle.cdl_kinds.specs.Parameters.{parameters}
use Rattle.cdl_items.specs.declared.role.Part.{Part}
use Rattle.cdl_items.specs.declared.role.Part.TheVariants as part
use Rattle.cdl_items.specs.declared.role.Role.{Role}
use Rattle.cdl_items.specs.declared.role.Role.TheVariants as role
use Rattle.cdl_walk.specs.Instances.{values}
use Rattle.cdl_items.specs.Roles.{role_of}
use Rattle.cdl_walk.specs.Worth.{value, present}
use Rattle.cdl_source.specs.declared.rules.TheConstants.{SHAPES_DIFFER}
use Rattle.cdl_joins.specs.declared.verdicts.Verdict.{Verdict}
use Rattle.cdl_joins.specs.declared.verdicts.Verdict.TheVariants.{Breaks, Dropped, Joins}
use Rattle.cdl_joins.specs.Verdicts.{joined, with_owners, with_components, with_ends}
use Rattle.cdl_statements.specs.Complete.{Stands, AllStand, IsUnfolded, JoinStanding, AllJoinStanding}
use Rattle.cdl_statements.specs.Directory.{Directory, directory, name_in, path_in}
use Rattle.cdl_statements.specs.inner.Seen.{IsInstance, IsListed}
use Rattle.cdl_tree.specs.declared.class.Part.{Part as Name}
use Rattle.cdl_tree.specs.declared.class.Sub.{Sub}
use Rattle.cdl_paths.specs.declared.path.Local.{Local}
use Rattle.cdl_paths.specs.declared.path.Path.{Path}
use Rattle.cdl_model.specs.Names.{ElementName}
use Rattle.cdl_walk.specs.Instances.{elements}
use Rattle.cdl_walk.specs.Stations.{no_element}
use Rattle.cdl_joins.specs.declared.sides.Owners.{Owners}
use Rattle.cdl_joins.specs.declared.sides.Piece.{Piece}
use Rattle.cdl_joins.specs.declared.sides.Side.{Side}
use Rattle.cdl_joins.specs.Ends.{Connector, OfBlock, OfKind, Member, End, connector_name, member_at, member_named, connector_of, ports_named, connector_named, end_with, own_end, end_through, end_of}
use Rattle.cdl_joins.specs.Integers.{integer}
use Rattle.cdl_joins.specs.Picks.{picks, indices}
use Rattle.cdl_joins.specs.Sides.{element, holds, is_there, sizes_in, count_in, count_by, one_size, sizes, has, stands, owners, itself, path_of, element_path, elements_of, elements_selected, all_have, fit, piece, piece_of, pieces, side, side_of, piece_elements, all_elements}
use Rattle.cdl_joins.specs.Sides.{elements as elements_in_side}
use Rattle.cdl_statements.proofs.Ranges.{Within, number_of, selected_within, both_hold, then_some, map_some}
use Rattle.cdl_statements.proofs.Reaching.{Inner, Known, reach, connector_stands, ports_stand, inner_block, through}

-- ---- lists

module _ {X : Type 0} where
  get_in : (xs : List X) (i : ℕ) (x : X) → slice_get xs i ≡ Some x → In x xs
  get_in [] i x e = cc
  get_in (y ∷ ys) zero x e = let same : y ≡ x = cc in inl (sym same)
  get_in (y ∷ ys) (suc i) x e = inr (get_in ys i x e)

  in_get : (x : X) (xs : List X) → In x xs → (i : ℕ) × (slice_get xs i ≡ Some x)
  in_get x [] h = absurd h
  in_get x (y ∷ ys) (inl e) = (0, ap Some (sym e))
  in_get x (y ∷ ys) (inr h) = let r = in_get x ys h in (suc r.0, r.1)

  in_tabulate : (n : ℕ) (f : ℕ → X) (k : ℕ) → k < n → In (f k) (tabulate n f)
  in_tabulate zero f k h = absurd (omega (arith, h))
  in_tabulate (suc n) f k h = elim (cases_lt k n) [
    | inl lt ↦ in_left (f k) (tabulate n f) (f n ∷ []) (in_tabulate n f k lt)
    | inr le ↦ (let same : k ≡ n = omega (arith, h, le) in in_right (f k) (tabulate n f) (f n ∷ []) (inl (ap f same)))
  ]

module _ {A B : Type 0} where
  in_map : (f : A → B) (x : A) (xs : List A) → In x xs → In (f x) (map f xs)
  in_map f x [] h = absurd h
  in_map f x (y ∷ ys) (inl e) = inl (ap f e)
  in_map f x (y ∷ ys) (inr h) = inr (in_map f x ys h)

  map_in : (f : A → B) (y : B) (xs : List A) → In y (map f xs) → (x : A) × In x xs × (f x ≡ y)
  map_in f y [] h = absurd h
  map_in f y (x ∷ xs) (inl e) = (x, inl refl, sym e)
  map_in f y (x ∷ xs) (inr h) = let r = map_in f y xs h in (r.0, inr r.1, r.2)

-- ---- what stands in the model is listed

thing_of : (s : Seen) (ts : List (Key × Thing)) → In s (instances_in ts) → (k : Key) × (t : Thing) × In {X = Key × Thing} (k, t) ts × In s (instances_from t)
thing_of s [] h = absurd h
thing_of s ((k, t) ∷ ts) h = elim (in_either s (instances_from t) (instances_in ts) h) [
  | inl a ↦ (k, t, inl refl, a)
  | inr b ↦ (let r = thing_of s ts b in (r.0, r.1, inr r.2, r.3))
]

all_owned : (o : Owned) (k : Key) (t : Thing) (ts : List (Key × Thing)) → In {X = Key × Thing} (k, t) ts → In o (elements_from t) → In o (elements_in ts)
all_owned o k t [] h m = absurd h
all_owned o k t (x ∷ ts) (inl e) m = in_left o (elements_from x.1) (elements_in ts) (subst (λ (y : Key × Thing). In o (elements_from y.1)) e m)
all_owned o k t (x ∷ ts) (inr h) m = in_right o (elements_from x.1) (elements_in ts) (all_owned o k t ts h m)

abbrev block_seen : List Step → ClassId → Seen
block_seen p c = record { path = p; content = content.Block c }

same_block : (p q : List Step) (c d : ClassId) → block_seen p c ≡ block_seen q d → c ≡ d
same_block p q c d e = let kept : content.Block c ≡ content.Block d = ap (λ (s : Seen). s.content) e in cc

abbrev kind_seen : List Step → Kind → List Array → Seen
kind_seen q k v = record { path = q; content = content.Elementary k v }

no_kind : (p : List Step) (c : ClassId) (q : List Step) (k : Kind) (v : List Array) → block_seen p c ≡ kind_seen q k v → ⊥
no_kind p c q k v e = let kept : content.Block c ≡ content.Elementary k v = ap (λ (s : Seen). s.content) e in cc

block_from : (p : List Step) (c : ClassId) (t : Thing) → In (block_seen p c) (instances_from t) → t ≡ Block p c
block_from p c (Block q d) (inl e) = let a : p ≡ q = ap (λ (s : Seen). s.path) e in let b : c ≡ d = same_block p q c d e in ap (λ (z : List Step). Block z d) (sym a) ∙ ap (Block p) (sym b)
block_from p c (Block q d) (inr h) = absurd h
block_from p c (Elementary q k v ps) (inl e) = absurd (no_kind p c q k v e)
block_from p c (Elementary q k v ps) (inr h) = absurd h
block_from p c (Elements q ps) h = absurd h

module _ (w : Model) (xs : List Instance) (es : List Element) (a : IsUnfolded w xs es) where
  -- an instance of a declared block among the instances
  pub scope_reached : (i : ℕ) (x : Instance) (c : ClassId) → slice_get xs i ≡ Some x → x.content ≡ content.Block c → Inner w start (the_root w) x.path.steps c
  scope_reached i x c e f =
      let seen : seen_instance x ≡ block_seen x.path.steps c = ap (λ z. record { path = x.path.steps; content = z }) f in
      let listed : In (seen_instance x) (map seen_instance a.found.instances) = in_map seen_instance x a.found.instances (subst (λ (ys : List Instance). In x ys) a.instances (get_in xs i x e)) in
      let brought : In (block_seen x.path.steps c) (instances_in a.all.things) = subst (λ (s : Seen). In s (instances_in a.all.things)) seen (subst (λ (ss : List Seen). In (seen_instance x) ss) a.all.instances listed) in
      let t = thing_of (block_seen x.path.steps c) a.all.things brought in
      let thing : IsThing w [] (the_root w) t.0 (Block x.path.steps c) = subst (λ (z : Thing). IsThing w [] (the_root w) t.0 z) (block_from x.path.steps c t.1 t.3) (a.all.lists.only t.0 t.1 t.2) in
      reach w start (the_root w) a.fine t.0 x.path.steps c thing

  -- an element that something brings has a number
  owned_stands : (k : Key) (t : Thing) → IsThing w [] (the_root w) k t → (p : List Step) (x : Point) → In (owned_by p x) (elements_from t) → Stands (directory xs es).names (element p x.name x.indices)
  owned_stands k t s p x m =
      let brought : In (owned_by p x) (map (seen_element a.found.instances) a.found.elements) = subst (λ (os : List Owned). In (owned_by p x) os) (sym a.all.elements) (all_owned (owned_by p x) k t a.all.things (a.all.lists.each k t s) m) in
      let e = map_in (seen_element a.found.instances) (owned_by p x) a.found.elements brought in
      let i = in_get e.0 es (a.elements e.0 e.1) in
      let name : name_in a.found.instances e.0 ≡ element p x.name x.indices = ap (λ (o : Owned). element o.path o.point.name o.point.indices) e.2 in
      let here : name_in xs e.0 ≡ element p x.name x.indices = ap (λ (ys : List Instance). name_in ys e.0) a.instances ∙ name in
      record { number = i.0; at = slice_get-map (name_in xs) es i.0 ∙ ap (option_map (name_in xs)) i.1 ∙ ap Some here }

  point_stands : (k : Key) (t : Thing) → IsThing w [] (the_root w) k t → (p : List Step) (name : List ℕ) (y : ValueType) (input : Bool) (ns : List ℕ) (us : List Value) → length ns ≤ 2
      → ((o : Owned) → In o (map (owned_by p) (points name y input ns us)) → In o (elements_from t)) → (is : List ℕ) → Within is ns → Stands (directory xs es).names (element p name is)
  point_stands k t s p name y input ns us few m is v =
      let n = number_of ns is few v in
      let one : In (point_at name y input ns us n.0) (points name y input ns us) = in_tabulate (size_of ns) (point_at name y input ns us) n.0 n.1 in
      subst (λ (js : List ℕ). Stands (directory xs es).names (element p name js)) n.2
      (owned_stands k t s p (point_at name y input ns us n.0) (m (owned_by p (point_at name y input ns us n.0)) (in_map (owned_by p) (point_at name y input ns us n.0) (points name y input ns us) one)))

-- ---- sizes are few

few_case : (b : Bool) (ns : List ℕ) (o : Outcome ℕ) (n : ℕ) → nat_le (length ns) 2 ≡ b → cond b o (Err WRONG_SHAPE) ≡ Ok n → length ns ≤ 2
few_case true ns o n e h = grind (arith, nat_tests, e)
few_case false ns o n e h = cc

known_case : (ws : List (Option ℕ)) (c : Outcome ℕ) (ns : List ℕ) → counted (known ws) ≡ c → then_to (then_to c (λ n. Ok ws)) (λ us. Ok (known us)) ≡ Ok ns → length ns ≤ 2
known_case ws (Err r) ns e h = cc
known_case ws (Ok n) ns e h =
    let same : known ws ≡ ns = cc in
    subst (λ (zs : List ℕ). length zs ≤ 2) same (few_case (nat_le (length (known ws)) 2) (known ws) (count_of (known ws)) n refl e)

known_few : (o : Outcome (List (Option ℕ))) (ns : List ℕ) → then_to (then_to o (λ ws. then_to (counted (known ws)) (λ n. Ok ws))) (λ ws. Ok (known ws)) ≡ Ok ns → length ns ≤ 2
known_few (Err r) ns h = cc
known_few (Ok ws) ns h = known_case ws (counted (known ws)) ns refl h

few_sizes : (at : Expr → Outcome Array) (ds : List Dim) (ns : List ℕ) → sizes_of at ds ≡ Ok ns → length ns ≤ 2
few_sizes at ds ns h = known_few (dim_sizes at ds) ns h

dims_few : (w : Model) (p : List Step) (x : Item) (ns : List ℕ) → dims w p x ≡ Ok ns → length ns ≤ 2
unfolding dims_by
dims_few w p x ns h = few_sizes (evaluate_by (classes w) MOST_LINKS w.root p []) x.dims ns h

-- ---- what names mean

listed : (o : Option (List Item)) (k : ℕ) (x : Item) → option_and_then (λ items. slice_get items k) o ≡ Some x → slice_get (unwrap_or o []) k ≡ Some x
listed None k x h = cc
listed (Some items) k x h = h

-- an item of this number in a block, and what it is there
record Found (ds : List Declared) (c : ClassId) (m : Member) : Type 0 where
  number : ℕ
  item : slice_get (items_of ds c.index) number ≡ Some m.item
  role : role_of ds c.index number m.item ≡ m.role

member_found : (ds : List Declared) (c : ClassId) (x : List ℕ) (m : Member) → member_named ds c x ≡ Some m → Found ds c m
member_found ds c x m h =
    let t = then_some (λ k. option_map (member_at ds c k) (item_at ds c.index k)) (item_of ds c.index x) m h in
    let u = map_some (member_at ds c t.0) (item_at ds c.index t.0) m t.2 in
    let item : u.0 ≡ m.item = ap (λ (z : Member). z.item) u.2 in
    record {
      number = t.0;
      item = listed (items_at ds c.index) t.0 u.0 u.1 ∙ ap Some item;
      role = ap (λ (y : Item). role_of ds c.index t.0 y) (sym item) ∙ ap (λ (z : Member). z.role) u.2;
    }

connector_role : (item : Item) (r : Role) (conn : Connector) → connector_of item r ≡ Some conn → (t : ValueType) × (input : Bool) × (r ≡ role.Connector t input) × (OfBlock item ≡ conn)
connector_role item role.Value conn h = cc
connector_role item (role.Connector t input) conn h = (t, input, refl, cc)
connector_role item (role.Component q) conn h = cc
connector_role item role.Other conn h = cc

group_case : (b : Bool) (g f : Group) (o : Option Group) (gs : List Group) → cond b (Some g) o ≡ Some f → (o ≡ Some f → In f gs) → In f (g ∷ gs)
group_case true g f o gs h k = let same : g ≡ f = cc in inl (sym same)
group_case false g f o gs h k = inr (k h)

group_in : (x : List ℕ) (gs : List Group) (g : Group) → group_named x gs ≡ Some g → In g gs
group_in x [] g h = cc
group_in x (f ∷ gs) g h = group_case (bytes_eq f.name x) f g (group_named x gs) gs h (λ e. group_in x gs g e)

either_in : (o : Option Group) (x : List ℕ) (ins outs : List Group) (g : Group) → group_named x ins ≡ o → option_or o (group_named x outs) ≡ Some g → In g ins ⊎ In g outs
either_in None x ins outs g e h = inr (group_in x outs g h)
either_in (Some f) x ins outs g e h = inl (group_in x ins g (e ∙ h))

holds_case : (o : Outcome Bool) → holds o ≡ true → o ≡ Ok true
holds_case (Ok true) h = refl
holds_case (Ok false) h = cc
holds_case (Err r) h = cc

sizes_case : (o : Outcome (List ℕ)) (ns : List ℕ) → sizes_in o ≡ Some ns → o ≡ Ok ns
sizes_case (Ok ms) ns h = let same : ms ≡ ns = cc in ap Ok same
sizes_case (Err r) ns h = cc

-- ---- ports

module _ (w : Model) (q : List Step) (n : ℕ) (input : Bool) where
  -- the ports of one of these names are among all
  record Among (g : Group) (ps : List Point) : Type 0 where
    units : List Value
    each : (x : Point) → In x (points g.name g.value_type input (port_sizes n g) units) → In x ps

  ports_next : (f g : Group) (o : Outcome (List Value)) (s : Outcome (List Point)) (ps : List Point) → then_to o (λ us. then_to s (λ more. Ok (points f.name f.value_type input (port_sizes n f) us ++ more))) ≡ Ok ps
      → (g ≡ f) ⊎ ((more : List Point) → s ≡ Ok more → Among g more) → Among g ps
  ports_next f g (Err r) s ps h k = cc
  ports_next f g (Ok us) (Err r) ps h k = cc
  ports_next f g (Ok us) (Ok more) ps h (inl e) =
      let made : points f.name f.value_type input (port_sizes n f) us ++ more ≡ ps = cc in
      record {
        units = us;
        each = λ x m. subst (λ (zs : List Point). In x zs) made (in_left x (points f.name f.value_type input (port_sizes n f) us) more
            (subst (λ (z : Group). In x (points z.name z.value_type input (port_sizes n z) us)) e m));
      }
  ports_next f g (Ok us) (Ok more) ps h (inr k) =
      let made : points f.name f.value_type input (port_sizes n f) us ++ more ≡ ps = cc in
      let rest : Among g more = k more refl in
      record { units = rest.units; each = λ x m. subst (λ (zs : List Point). In x zs) made (in_right x (points f.name f.value_type input (port_sizes n f) us) more (rest.each x m)) }

  ports_among : (gs : List Group) (g : Group) (ps : List Point) → ports_from w q n input gs ≡ Ok ps → In g gs → Among g ps
  ports_among [] g ps h m = absurd m
  ports_among (f ∷ gs) g ps h (inl e) = ports_next f g (plain_units w q f.name f.value_type) (ports_from w q n input gs) ps h (inl e)
  ports_among (f ∷ gs) g ps h (inr m) = ports_next f g (plain_units w q f.name f.value_type) (ports_from w q n input gs) ps h (inr (λ more e. ports_among gs g more e m))

sides_case : (o s : Outcome (List Point)) (ps : List Point) → then_to o (λ ins. then_to s (λ outs. Ok (ins ++ outs))) ≡ Ok ps → (ins : List Point) × (outs : List Point) × (o ≡ Ok ins) × (s ≡ Ok outs) × (ins ++ outs ≡ ps)
sides_case (Err r) s ps h = cc
sides_case (Ok ins) (Err r) ps h = cc
sides_case (Ok ins) (Ok outs) ps h = (ins, outs, refl, refl, cc)

first_case : (o : Outcome Array) (s : Outcome (List Array)) (v : List Array) (n : ℕ) → then_to o (λ a. then_to s (λ vs. Ok (a ∷ vs))) ≡ Ok v → count_in o ≡ Some n → n ≡ nin_or_nout v
first_case (Err r) s v n h k = cc
first_case (Ok a) (Err r) v n h k = cc
first_case (Ok a) (Ok vs) v n h k =
    let made : a ∷ vs ≡ v = cc in
    let same : nin_or_nout (a ∷ []) ≡ n = cc in
    sym same ∙ ap nin_or_nout made

first_value : (w : Model) (q : List Step) (rs : List ParameterRow) (v : List Array) (n : ℕ) → values w q rs ≡ Ok v → count_by w q rs ≡ Some n → n ≡ nin_or_nout v
first_value w q [] v n h k = cc
first_value w q (r ∷ rs) v n h k = first_case (value w q r.name) (values w q rs) v n h k

count_case : (b : Bool) (g : Group) (o : Option ℕ) (ns : List ℕ) (n : ℕ) → g.many ≡ b → ((m : ℕ) → o ≡ Some m → m ≡ n) → cond b (option_map one_size o) (Some []) ≡ Some ns → ns ≡ cond b (n ∷ []) []
count_case true g None ns n e f h = cc
count_case true g (Some m) ns n e f h = let made : m ∷ [] ≡ ns = cc in sym made ∙ ap (λ (k : ℕ). k ∷ []) (f m refl)
count_case false g o ns n e f h = cc

few_ports : (n : ℕ) (g : Group) (b : Bool) → length (cond b (n ∷ []) []) ≤ 2
few_ports n g true = omega arith
few_ports n g false = omega arith

role_case : (ds : List Declared) (item : Item) (r : Role) (subs : List Sub) (y : Name) (e : End) → end_through ds item r subs y ≡ Some e
    → (q : Part) × (conn : Connector) × (r ≡ role.Component q) × (connector_named ds q y.name.text ≡ Some conn) × (end_with (Some (record { item = item; subs = subs })) y conn ≡ e)
role_case ds item role.Value subs y e h = cc
role_case ds item (role.Connector t input) subs y e h = cc
role_case ds item (role.Component q) subs y e h = let t = map_some (end_with (Some (record { item = item; subs = subs })) y) (connector_named ds q y.name.text) e h in (q, t.0, refl, t.1, t.2)
role_case ds item role.Other subs y e h = cc

-- ---- connectors

abbrev Good : Model → List Instance → List Element → Connector → List Step → Type 0
Good w xs es conn q = (ns : List ℕ) → sizes w q conn ≡ Some ns → (is : List ℕ) → Within is ns → Stands (directory xs es).names (element q (connector_name conn) is)

module _ (w : Model) (xs : List Instance) (es : List Element) (a : IsUnfolded w xs es) where
  good_item : (p : List Step) (c : ClassId) (i : Inner w start (the_root w) p c) (item : Item) (t : ValueType) (input : Bool) (k : ℕ) → slice_get (items_of (declared w.files) c.index) k ≡ Some item
      → role_of (declared w.files) c.index k item ≡ role.Connector t input → has w p (OfBlock item) ≡ true → Good w xs es (OfBlock item) p
  good_item p c i item t input k at r there ns sized is v =
      let here : present w p item ≡ Ok true = holds_case (present w p item) there in
      let d : dims w p item ≡ Ok ns = sizes_case (dims w p item) ns sized in
      let s = connector_stands w start (the_root w) p c i k item t input ns at r here d in
      point_stands w xs es a s.1 (Elements p (points (item_name item) t input ns s.0)) s.2 p (item_name item) t input ns s.0 (dims_few w p item ns d) (λ o m. m) is v

  good_block : (p : List Step) (c : ClassId) (i : Inner w start (the_root w) p c) (x : List ℕ) (conn : Connector) → connector_named (declared w.files) (part.Block c) x ≡ Some conn → has w p conn ≡ true → Good w xs es conn p
  good_block p c i x conn e there =
      let t = then_some (λ (m : Member). connector_of m.item m.role) (member_named (declared w.files) c x) conn e in
      let f : Found (declared w.files) c t.0 = member_found (declared w.files) c x t.0 t.1 in
      let r = connector_role t.0.item t.0.role conn t.2 in
      subst (λ (z : Connector). has w p z ≡ true → Good w xs es z p) r.3 (good_item p c i t.0.item r.0 r.1 f.number f.item (f.role ∙ r.2)) there

  lift : (q : List Step) (ps qs : List Point) → ((x : Point) → In x ps → In x qs) → (o : Owned) → In o (map (owned_by q) ps) → In o (map (owned_by q) qs)
  lift q ps qs f o m = let r = map_in (owned_by q) o ps m in subst (λ (y : Owned). In y (map (owned_by q) qs)) r.2 (in_map (owned_by q) r.0 qs (f r.0 r.1))

  good_port : (q : List Step) (kind : Kind) (z : Known w q kind) (k : Key) → IsThing w [] (the_root w) k (Elementary q kind z.params z.points) → (g : Group) (input : Bool) (ps : List Point) → Among w q (nin_or_nout z.params) input g ps
      → ((x : Point) → In x ps → In x z.points) → (is : List ℕ) → Within is (port_sizes (nin_or_nout z.params) g) → Stands (directory xs es).names (element q g.name is)
  good_port q kind z k s g input ps m f is v =
      point_stands w xs es a k (Elementary q kind z.params z.points) s q g.name g.value_type input (port_sizes (nin_or_nout z.params) g) m.units (few_ports (nin_or_nout z.params) g g.many)
      (lift q (points g.name g.value_type input (port_sizes (nin_or_nout z.params) g) m.units) z.points (λ x i. f x (m.each x i))) is v

  good_kind : (q : List Step) (kind : Kind) (z : Known w q kind) (k : Key) → IsThing w [] (the_root w) k (Elementary q kind z.params z.points) → (g : Group) → In g (row kind).ins ⊎ In g (row kind).outs → Good w xs es (OfKind kind g) q
  good_kind q kind z k s g m ns sized is v =
      let n : ℕ = nin_or_nout z.params in
      let same : ns ≡ port_sizes n g = count_case g.many g (count_by w q (parameters kind)) ns n refl (λ c e. first_value w q (parameters kind) z.params c z.values e) sized in
      let inside : Within is (port_sizes n g) = subst (λ (ms : List ℕ). Within is ms) same v in
      let parts = sides_case (ports_from w q n true (row kind).ins) (ports_from w q n false (row kind).outs) z.points z.ports in
      elim m [
        | inl i ↦ good_port q kind z k s g true parts.0 (ports_among w q n true (row kind).ins g parts.0 parts.2 i) (λ x j. subst (λ (zs : List Point). In x zs) parts.4 (in_left x parts.0 parts.1 j)) is inside
        | inr i ↦ good_port q kind z k s g false parts.1 (ports_among w q n false (row kind).outs g parts.1 parts.3 i) (λ x j. subst (λ (zs : List Point). In x zs) parts.4 (in_right x parts.0 parts.1 j)) is inside
      ]

  good_ports : (q : List Step) (kind : Kind) (z : Known w q kind) (k : Key) → IsThing w [] (the_root w) k (Elementary q kind z.params z.points) → (x : List ℕ) (conn : Connector) → ports_named kind x ≡ Some conn → Good w xs es conn q
  good_ports q kind z k s x conn e =
      let t = map_some (OfKind kind) (option_or (group_named x (row kind).ins) (group_named x (row kind).outs)) conn e in
      subst (λ (y : Connector). Good w xs es y q) t.2 (good_kind q kind z k s t.0 (either_in (group_named x (row kind).ins) x (row kind).ins (row kind).outs t.0 refl t.1))

  -- ---- owners

  there_elements : (o : Outcome Bool) (z : Outcome (List ℕ)) (ms : List ℕ) → o ≡ Ok true → z ≡ Ok ms → then_to o (λ there. cond there z no_element) ≡ Ok ms
  there_elements o z ms e f = rw (e, f) refl

  good_element : (p : List Step) (c : ClassId) (i : Inner w start (the_root w) p c) (k : ℕ) (item : Item) (q : Part) (x : List ℕ) (conn : Connector) (ms : List ℕ) (n : ℕ)
      → slice_get (items_of (declared w.files) c.index) k ≡ Some item → role_of (declared w.files) c.index k item ≡ role.Component q → connector_named (declared w.files) q x ≡ Some conn
      → elements w p item ≡ Ok ms → n < size_of ms → has w (p ++ (record { name = item_name item; indices = indices_at ms n }) ∷ []) conn ≡ true → Good w xs es conn (p ++ (record { name = item_name item; indices = indices_at ms n }) ∷ [])
  good_element p c i k item (part.Block b) x conn ms n at r e f lt there =
      let own : elements w i.here.steps item ≡ Ok ms = subst (λ (z : List Step). elements w z item ≡ Ok ms) (sym i.steps) f in
      let inner : Inner w i.here c (i.here.steps ++ (record { name = item_name item; indices = indices_at ms n }) ∷ []) b = inner_block w i.here c k item b ms n at r i.fine own lt in
      let moved : Inner w i.here c (p ++ (record { name = item_name item; indices = indices_at ms n }) ∷ []) b =
      subst (λ (z : List Step). Inner w i.here c (z ++ (record { name = item_name item; indices = indices_at ms n }) ∷ []) b) i.steps inner in
      good_block (p ++ (record { name = item_name item; indices = indices_at ms n }) ∷ []) b (through w start i.here (the_root w) c p (p ++ (record { name = item_name item; indices = indices_at ms n }) ∷ []) b i refl moved) x conn e there
  good_element p c i k item (part.Kind kind) x conn ms n at r e f lt there =
      let s = ports_stand w start (the_root w) p c i k item kind ms n at r f lt in
      good_ports (p ++ (record { name = item_name item; indices = indices_at ms n }) ∷ []) kind s.0 s.1 s.2 x conn e

  have_in : (conn : Connector) (paths : List Path) (q : Path) → all_have w conn paths ≡ true → In q paths → has w q.steps conn ≡ true
  have_in conn [] q h m = absurd m
  have_in conn (y ∷ paths) q h (inl e) = ap (λ (z : Path). has w z.steps conn) e ∙ (both_hold (has w y.steps conn) (all_have w conn paths) h).0
  have_in conn (y ∷ paths) q h (inr m) = have_in conn paths q (both_hold (has w y.steps conn) (all_have w conn paths) h).1 m

  abbrev AllGood : End → List Path → Type 0
  AllGood e paths = (q : Path) → In q paths → Good w xs es e.connector q.steps

  only_path : (conn : Connector) (p : List Step) → Good w xs es conn p → (q : Path) → In q (path_of p ∷ []) → Good w xs es conn q.steps
  only_path conn p g q (inl e) = subst (λ (z : Path). Good w xs es conn z.steps) (sym e) g
  only_path conn p g q (inr m) = absurd m

  -- the connectors that an own end selects
  good_own : (p : List Step) (c : ClassId) (i : Inner w start (the_root w) p c) (x : Name) (e : End) (o : Owners) (locals : List Local) → own_end (declared w.files) c x ≡ Some e → stands w p e ≡ true → owners w p locals e.component ≡ Some o → AllGood e o.paths
  good_own p c i x e o locals f there g =
      let t = map_some (end_with None x) (connector_named (declared w.files) (part.Block c) x.name.text) e f in
      subst (λ (z : End). stands w p z ≡ true → owners w p locals z.component ≡ Some o → AllGood z o.paths) t.2
      (λ here own. let one : itself p ≡ o = cc in subst (λ (z : Owners). AllGood (end_with None x t.0) z.paths) one (only_path t.0 p (good_block p c i x.name.text t.0 t.1 here))) there g

  -- the connectors that an end through a component selects
  good_through : (p : List Step) (c : ClassId) (i : Inner w start (the_root w) p c) (m : Member) (k : Found (declared w.files) c m) (q : Part) (subs : List Sub) (y : Name) (conn : Connector) (o : Owners) (locals : List Local)
      → m.role ≡ role.Component q → connector_named (declared w.files) q y.name.text ≡ Some conn → is_there w p m.item ≡ true → elements_selected w p locals (record { item = m.item; subs = subs }) ≡ Some o
      → all_have w conn o.paths ≡ true → (z : Path) → In z o.paths → Good w xs es conn z.steps
  good_through p c i m k q subs y conn o locals r e there sel have z mem =
      let t = map_some (elements_of p (item_name m.item)) (option_and_then (λ ns. picks (integer w p locals) ns subs) (sizes_in (dims w p m.item))) o sel in
      let u = then_some (λ ns. picks (integer w p locals) ns subs) (sizes_in (dims w p m.item)) t.0 t.1 in
      let d : dims w p m.item ≡ Ok u.0 = sizes_case (dims w p m.item) u.0 u.1 in
      let here : present w p m.item ≡ Ok true = holds_case (present w p m.item) there in
      let sized : elements w p m.item ≡ Ok u.0 = there_elements (present w p m.item) (dims w p m.item) u.0 here d in
      let listed : In z (map (element_path p (item_name m.item)) (indices t.0)) = subst (λ (n : Owners). In z n.paths) (sym t.2) mem in
      let row = map_in (element_path p (item_name m.item)) z (indices t.0) listed in
      let n = number_of u.0 row.0 (dims_few w p m.item u.0 d) (selected_within (integer w p locals) u.0 subs t.0 u.2 row.0 row.1) in
      let path : p ++ (record { name = item_name m.item; indices = indices_at u.0 n.0 }) ∷ [] ≡ z.steps =
      ap (λ (is : List ℕ). p ++ (record { name = item_name m.item; indices = is }) ∷ []) n.2 ∙ ap (λ (v : Path). v.steps) row.2 in
      subst (λ (v : List Step). Good w xs es conn v) path
      (good_element p c i k.number m.item q y.name.text conn u.0 n.0 k.item (k.role ∙ r) e sized n.1 (subst (λ (v : List Step). has w v conn ≡ true) (sym path) (have_in conn o.paths z have mem)))

  component_role : (m : Member) (subs : List Sub) (y : Name) (e : End) → end_through (declared w.files) m.item m.role subs y ≡ Some e
      → (q : Part) × (conn : Connector) × (m.role ≡ role.Component q) × (connector_named (declared w.files) q y.name.text ≡ Some conn) × (end_with (Some (record { item = m.item; subs = subs })) y conn ≡ e)
  component_role m subs y e h = role_case (declared w.files) m.item m.role subs y e h

  good_end : (p : List Step) (c : ClassId) (i : Inner w start (the_root w) p c) (parts : List Name) (e : End) (o : Owners) (locals : List Local) → end_of (declared w.files) c parts ≡ Some e → stands w p e ≡ true
      → owners w p locals e.component ≡ Some o → all_have w e.connector o.paths ≡ true → AllGood e o.paths
  good_end p c i [] e o locals f there g have = cc
  good_end p c i (x ∷ []) e o locals f there g have = good_own p c i x e o locals f there g
  good_end p c i (x ∷ y ∷ []) e o locals f there g have =
      let t = then_some (λ (m : Member). end_through (declared w.files) m.item m.role x.subs y) (member_named (declared w.files) c x.name.text) e f in
      let r = component_role t.0 x.subs y e t.2 in
      subst (λ (z : End). stands w p z ≡ true → owners w p locals z.component ≡ Some o → all_have w z.connector o.paths ≡ true → AllGood z o.paths) r.4
      (λ here sel has. good_through p c i t.0 (member_found (declared w.files) c x.name.text t.0 t.1) r.0 x.subs y r.1 o locals r.2 r.3 here sel has) there g have
  good_end p c i (x ∷ y ∷ z ∷ more) e o locals f there g have = cc

  -- ---- sides

  rows_stand : (conn : Connector) (q : List Step) (ns : List ℕ) (rows : List (List ℕ)) → Good w xs es conn q → sizes w q conn ≡ Some ns → ((is : List ℕ) → In is rows → Within is ns)
      → AllStand (directory xs es).names (map (element q (connector_name conn)) rows)
  rows_stand conn q ns [] g s v = tt
  rows_stand conn q ns (is ∷ rows) g s v = (g ns s is (v is (inl refl)), rows_stand conn q ns rows g s (λ js m. v js (inr m)))

  both_stand : (ns us vs : List ElementName) → AllStand ns us → AllStand ns vs → AllStand ns (us ++ vs)
  both_stand ns [] vs s t = t
  both_stand ns (x ∷ us) vs s t = (s.0, both_stand ns us vs s.1 t)

  piece_stands : (p : List Step) (locals : List Local) (e : End) (q : Path) (x : Piece) → piece w p locals e q ≡ Some x → Good w xs es e.connector q.steps → AllStand (directory xs es).names (piece_elements (connector_name e.connector) x)
  piece_stands p locals e q x h g =
      let t = map_some (piece_of q) (option_and_then (λ ns. picks (integer w p locals) ns e.subs) (sizes w q.steps e.connector)) x h in
      let u = then_some (λ ns. picks (integer w p locals) ns e.subs) (sizes w q.steps e.connector) t.0 t.1 in
      subst (λ (y : Piece). AllStand (directory xs es).names (piece_elements (connector_name e.connector) y)) t.2
      (rows_stand e.connector q.steps u.0 (indices t.0) g u.1 (selected_within (integer w p locals) u.0 e.subs t.0 u.2))

  pieces_stand : (p : List Step) (locals : List Local) (e : End) (paths : List Path) (ys : List Piece) → pieces w p locals e paths ≡ Some ys → AllGood e paths → AllStand (directory xs es).names (all_elements (connector_name e.connector) ys)
  pieces_stand p locals e [] ys h g = let none : [] ≡ ys = cc in subst (λ (zs : List Piece). AllStand (directory xs es).names (all_elements (connector_name e.connector) zs)) none tt
  pieces_stand p locals e (q ∷ paths) ys h g =
      let t = then_some (λ x. option_map (λ zs. x ∷ zs) (pieces w p locals e paths)) (piece w p locals e q) ys h in
      let u = map_some (λ zs. t.0 ∷ zs) (pieces w p locals e paths) ys t.2 in
      subst (λ (zs : List Piece). AllStand (directory xs es).names (all_elements (connector_name e.connector) zs)) u.2
      (both_stand (directory xs es).names (piece_elements (connector_name e.connector) t.0) (all_elements (connector_name e.connector) u.0) (piece_stands p locals e q t.0 t.1 (g q (inl refl)))
      (pieces_stand p locals e paths u.0 u.1 (λ z m. g z (inr m))))

  side_stands : (p : List Step) (locals : List Local) (e : End) (o : Owners) (s : Side) → side w p locals e o ≡ Some s → AllGood e o.paths → AllStand (directory xs es).names (elements_in_side s)
  side_stands p locals e o s h g =
      let t = map_some (side_of o.shape (connector_name e.connector)) (pieces w p locals e o.paths) s h in
      subst (λ (z : Side). AllStand (directory xs es).names (elements_in_side z)) t.2 (pieces_stand p locals e o.paths t.0 t.1 g)

-- ---- verdicts

-- what two ends are whose sides are joined
record AreJoined (w : Model) (p : List Step) (locals : List Local) (left right : Option End) (l r : Side) : Type 0 where
  one : End
  two : End
  one_is : left ≡ Some one
  two_is : right ≡ Some two
  one_stands : stands w p one ≡ true
  two_stands : stands w p two ≡ true
  first : Owners
  second : Owners
  first_is : owners w p locals one.component ≡ Some first
  second_is : owners w p locals two.component ≡ Some second
  first_has : all_have w one.connector first.paths ≡ true
  second_has : all_have w two.connector second.paths ≡ true
  one_side : side w p locals one first ≡ Some l
  two_side : side w p locals two second ≡ Some r

or_dropped : (b : Bool) (v : Verdict) (l r : Side) → cond b v Dropped ≡ Joins l r → (b ≡ true) × (v ≡ Joins l r)
or_dropped true v l r h = (refl, h)
or_dropped false v l r h = cc

or_broken : (b : Bool) (k m l r : Side) → cond b (Joins k m) (Breaks SHAPES_DIFFER) ≡ Joins l r → (k ≡ l) × (m ≡ r)
or_broken true k m l r h = (cc, cc)
or_broken false k m l r h = cc

sides_joined : (x y : Option Side) (l r : Side) → joined x y ≡ Joins l r → (x ≡ Some l) × (y ≡ Some r)
sides_joined None y l r h = cc
sides_joined (Some k) None l r h = cc
sides_joined (Some k) (Some m) l r h = let e = or_broken (fit k m) k m l r h in (ap Some e.0, ap Some e.1)

owners_joined : (w : Model) (p : List Step) (locals : List Local) (e f : End) (x y : Option Owners) (l r : Side) → stands w p e ≡ true → stands w p f ≡ true → owners w p locals e.component ≡ x → owners w p locals f.component ≡ y
    → with_owners w p locals e f x y ≡ Joins l r → AreJoined w p locals (Some e) (Some f) l r
owners_joined w p locals e f None y l r a b c d h = cc
owners_joined w p locals e f (Some o) None l r a b c d h = cc
owners_joined w p locals e f (Some o) (Some n) l r a b c d h =
    let t = or_dropped (all_have w e.connector o.paths && all_have w f.connector n.paths) (joined (side w p locals e o) (side w p locals f n)) l r h in
    let u = both_hold (all_have w e.connector o.paths) (all_have w f.connector n.paths) t.0 in
    let v = sides_joined (side w p locals e o) (side w p locals f n) l r t.1 in
    record { one = e; two = f; one_is = refl; two_is = refl; one_stands = a; two_stands = b; first = o; second = n; first_is = c; second_is = d; first_has = u.0; second_has = u.1; one_side = v.0; two_side = v.1 }

ends_joined : (w : Model) (p : List Step) (locals : List Local) (x y : Option End) (l r : Side) → with_ends w p locals x y ≡ Joins l r → AreJoined w p locals x y l r
ends_joined w p locals None y l r h = cc
ends_joined w p locals (Some e) None l r h = cc
ends_joined w p locals (Some e) (Some f) l r h =
    let t = or_dropped (stands w p e && stands w p f) (with_components w p locals e f) l r h in
    let u = both_hold (stands w p e) (stands w p f) t.0 in
    owners_joined w p locals e f (owners w p locals e.component) (owners w p locals f.component) l r u.0 u.1 refl refl t.1

module _ (w : Model) (xs : List Instance) (es : List Element) (a : IsUnfolded w xs es) where
  joins_stand : (p : List Step) (c : ClassId) → Inner w start (the_root w) p c → JoinStanding w (directory xs es).names p c
  joins_stand p c i = record {
    left = λ locals x l r h.
        let j = ends_joined w p locals (end_of (declared w.files) c x.left.parts) (end_of (declared w.files) c x.right.parts) l r h in
        side_stands w xs es a p locals j.one j.first l j.one_side (good_end w xs es a p c i x.left.parts j.one j.first locals j.one_is j.one_stands j.first_is j.first_has);
    right = λ locals x l r h.
        let j = ends_joined w p locals (end_of (declared w.files) c x.left.parts) (end_of (declared w.files) c x.right.parts) l r h in
        side_stands w xs es a p locals j.two j.second r j.two_side (good_end w xs es a p c i x.right.parts j.two j.second locals j.two_is j.two_stands j.second_is j.second_has);
  }

  -- all that occurrences join has numbers
  pub all_joins_stand : AllJoinStanding w xs (directory xs es).names
  all_joins_stand = record { each = λ i x c e f. joins_stand x.path.steps c (scope_reached w xs es a i x c e f) }

-- each instance of the list, by its number
pub all_instances : (w : Model) (xs : List Instance) (es : List Element) (d : Directory) → IsUnfolded w xs es → d ≡ directory xs es → IsListed w d xs
all_instances w xs es d a f = record {
  each = λ i x here. subst (λ (z : Directory). IsInstance w z i x) (sym f)
      (record { at = slice_get-map path_in xs i ∙ ap (option_map path_in) here; joins = λ c k. (all_joins_stand w xs es a).each i x c here k });
}
