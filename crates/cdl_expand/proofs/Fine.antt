-- Where no station of the walk fails, instances aren't too deep, and the values of parameters keep the rows of their kinds.
use Rattle.std.proofs.Common.{◌≡◌, ℕ, ◌<◌, ◌≤◌, Bool, true, false, cond, List, [], ◌∷◌, ◌++◌, length, refl, sym, ap, ◌∙◌, subst, Result, Ok, Err, Option, Some, None}
use Rattle.std.specs.Prelude.{nat_le, not, ◌||◌, is_some}
use Rattle.std.proofs.lemmas.Bool.{leb-true}
use Rattle.cdl_source.specs.declared.limits.TheConstants.{MOST_STEPS}
use Rattle.cdl_source.specs.declared.rules.TheConstants.{TOO_MANY_OR_TOO_DEEP, CONTAINS_ITSELF, FINAL_MODIFIED, PARAMETER_OUT_OF_CONDITION}
use Rattle.cdl_values.specs.declared.value.Array.{Array}
use Rattle.cdl_values.specs.declared.value.Value.{Value}
use Rattle.cdl_values.specs.Values.{items_of as size_of}
use Rattle.cdl_array.specs.Outcomes.{Outcome, then_to}
use Rattle.cdl_kinds.specs.declared.kind.Kind.{Kind}
use Rattle.cdl_kinds.specs.Conditions.{Keeps, conditions, first_broken}
use Rattle.cdl_kinds.specs.Ports.{nin_or_nout}
use Rattle.cdl_kinds.specs.Table.{Group, ParameterRow, row}
use Rattle.cdl_tree.specs.declared.class.Item.{Item}
use Rattle.cdl_scopes.specs.Classes.{declared}
use Rattle.cdl_scopes.specs.Lookup.{item_name}
use Rattle.cdl_classes.specs.declared.found.ClassId.{ClassId}
use Rattle.cdl_paths.specs.declared.path.Step.{Step}
use Rattle.cdl_params.specs.Kept.{Model}
use Rattle.cdl_stations.specs.Keys.{Key}
use Rattle.cdl_stations.specs.Runs.{on_ok}
use Rattle.cdl_items.specs.declared.role.Part.{Part}
use Rattle.cdl_items.specs.declared.role.Part.TheVariants as part
use Rattle.cdl_items.specs.declared.role.Role.TheVariants as role
use Rattle.cdl_walk.specs.declared.walked.KindInstance.{KindInstance}
use Rattle.cdl_walk.specs.declared.walked.Point.{Point}
use Rattle.cdl_walk.specs.Elements.{indices_at, is_real, points, port_sizes}
use Rattle.cdl_walk.specs.Events.{Event, Fails, Opens, Begins}
use Rattle.cdl_walk.specs.Faults.{Fault, at, named}
use Rattle.cdl_items.specs.Finals.{a_unit, a_value, modifies_final}
use Rattle.cdl_walk.specs.Instances.{Thing, Block, Elementary, Elements, elements, connector_elements, plain_units, ports_from, ports_of, values, IsOfKind, IsPart, IsThing}
use Rattle.cdl_walk.specs.Judges.{NoneFails}
use Rattle.cdl_walk.specs.Places.{Here, entered, inside, start}
use Rattle.cdl_items.specs.Roles.{role_of}
use Rattle.cdl_walk.specs.Rows.{fit}
use Rattle.cdl_walk.specs.Stations.{unless, unless_rule, no_element, component_station, items_in, parameter_station, parameter_stations, conditions_station, port_station, port_stations, ports, units, the_kind, block_station, stands, skips, ForItem, ForPart, ForElement, InKind, InBlock, InItem, InModel, the_root}
use Rattle.cdl_walk.specs.Worth.{value, dims, present, unit}
use Rattle.cdl_walk.proofs.Fitting.{fit_is}
use Rattle.cdl_model.proofs.Keyed.{Below, OfKind, at_item, below, of_kind, worth_is, item_at}

abbrev pub Good : Thing → Type 0
Good (Block q c) = length q ≤ MOST_STEPS
Good (Elementary q k v ps) = (length q ≤ MOST_STEPS) × Keeps k v
Good (Elements q ps) = Unit {0}

-- ---- outcomes

module _ {A : Type 0} where
  unless_ok : (b : Bool) (r : ℕ) (o : Outcome A) (a : A) → unless b r o ≡ Ok a → o ≡ Ok a
  unless_ok true r o a h = cc
  unless_ok false r o a h = h

  at_ok : (p : List Step) (o : Outcome A) (a : A) → at p o ≡ Ok a → o ≡ Ok a
  at_ok p (Ok b) a h = cc
  at_ok p (Err r) a h = cc

  both_ok : (o : Outcome A) (x y : A) → o ≡ Ok x → o ≡ Ok y → x ≡ y
  both_ok o x y e f = cc

  -- a station that doesn't fail has an outcome
  station_ok : (p : List Step) (o : Outcome A) → ((q : List Step) (r : ℕ) → Fails q r ≡ skips p o → ⊥) → (a : A) × (o ≡ Ok a)
  station_ok p (Ok a) f = (a, refl)
  station_ok p (Err r) f = absurd (f p r refl)

module _ {A B F : Type 0} where
  ok_parts : (o : Result A F) (f : A → Result B F) (b : B) → on_ok o f ≡ Ok b → (a : A) × (o ≡ Ok a) × (f a ≡ Ok b)
  ok_parts (Ok a) f b h = (a, refl, h)
  ok_parts (Err e) f b h = absurd (cc)

component_chosen : (o : Outcome Bool) (z : Outcome (List ℕ)) (b : Bool) (r : ℕ) (x : Option ℕ) (n : List ℕ)
    → then_to o (λ there. cond there (then_to z (λ sizes. unless b r (unless_rule x (Ok sizes)))) no_element) ≡ Ok n → then_to o (λ there. cond there z no_element) ≡ Ok n
component_chosen (Err q) z b r x n h = cc
component_chosen (Ok false) z b r x n h = h
component_chosen (Ok true) (Err q) b r x n h = cc
component_chosen (Ok true) (Ok s) true r x n h = cc
component_chosen (Ok true) (Ok s) false r (Some q) n h = cc
component_chosen (Ok true) (Ok s) false r None n h = h

component_plain : (w : Model) (h : Here) (item : Item) (p : Part) (n : List ℕ) → component_station w h item p ≡ Ok n → elements w h.steps item ≡ Ok n
component_plain w h item p n e = component_chosen (present w h.steps item) (dims w h.steps item) _ CONTAINS_ITSELF _ n e

parameter_plain : (w : Model) (h : Here) (x : List ℕ) (a : Array) → parameter_station w h x ≡ Ok a → value w h.steps x ≡ Ok a
parameter_plain w h x a e = unless_ok (modifies_final h.components (a_value x) false) FINAL_MODIFIED (value w h.steps x) a (at_ok (named h.steps x) _ a e)

values_next : (o : Result Array Fault) (p : Outcome Array) (s : Result (List Array) Fault) (t : Outcome (List Array)) (v : List Array) → ((a : Array) → o ≡ Ok a → p ≡ Ok a) → ((vs : List Array) → s ≡ Ok vs → t ≡ Ok vs)
    → on_ok o (λ a. on_ok s (λ vs. Ok (a ∷ vs))) ≡ Ok v → then_to p (λ a. then_to t (λ vs. Ok (a ∷ vs))) ≡ Ok v
values_next (Err q) p s t v f g h = cc
values_next (Ok a) p (Err q) t v f g h = cc
values_next (Ok a) p (Ok vs) t v f g h = let same : a ∷ vs ≡ v = cc in rw (f a refl, g vs refl) (ap Ok same)

values_plain : (w : Model) (h : Here) (rs : List ParameterRow) (v : List Array) → parameter_stations w h rs ≡ Ok v → values w h.steps rs ≡ Ok v
values_plain w h [] v e = let same : [] ≡ v = cc in ap Ok same
values_plain w h (r ∷ rs) v e = values_next (parameter_station w h r.name) (value w h.steps r.name) (parameter_stations w h rs) (values w h.steps rs) v (parameter_plain w h r.name) (values_plain w h rs) e

condition_kept : (b : Bool) (o : Option ℕ) (p : List Step) (r : ℕ) (v u : List Array) → at p (unless (not b || is_some o) r (Ok v)) ≡ Ok u → (b ≡ true) × (o ≡ None)
condition_kept true None p r v u e = (refl, refl)
condition_kept true (Some n) p r v u e = absurd (cc)
condition_kept false o p r v u e = absurd (cc)

-- the values of the parameters of a kind, where the station of the instance has an outcome
kind_kept : (w : Model) (h : Here) (k : Kind) (x : KindInstance) (v : List Array) → block_station w h k ≡ Ok x → values w h.steps (row k).parameters ≡ Ok v → Keeps k v
kind_kept w h k x v e f =
    let a = ok_parts (parameter_stations w h (row k).parameters) (λ z. on_ok (conditions_station h k z) (λ u. on_ok (ports w h k u) (λ ps. Ok (the_kind u ps)))) x e in
    let b = ok_parts (conditions_station h k a.0) (λ u. on_ok (ports w h k u) (λ ps. Ok (the_kind u ps))) x a.2 in
    let c = condition_kept (fit k a.0) (first_broken (conditions k a.0)) h.steps PARAMETER_OUT_OF_CONDITION a.0 b.0 b.1 in
    let same : a.0 ≡ v = both_ok (values w h.steps (row k).parameters) a.0 v (values_plain w h (row k).parameters a.0 a.1) f in
    subst (λ (z : List Array). Keeps k z) same (record { fits = fit_is k a.0 c.0; holds = c.1 })

-- ---- stations that don't fail

abbrev pub Fine : Model → Here → ClassId → Type 0
Fine w h c = (k : Key) (q : List Step) (r : ℕ) → InBlock w h c k (Fails q r) → ⊥

abbrev pub FineKind : Model → Here → Kind → Type 0
FineKind w h k = (l : Key) (q : List Step) (r : ℕ) → InKind w h k l (Fails q r) → ⊥

not_deep : (b : Bool) (n r : ℕ) (p : List Step) (c : ClassId) → nat_le n MOST_STEPS ≡ b → ((q : List Step) (s : ℕ) → Fails q s ≡ cond b (Opens p c) (Fails p r) → ⊥) → n ≤ MOST_STEPS
not_deep true n r p c e f = leb-true n MOST_STEPS e
not_deep false n r p c e f = absurd (f p r refl)

kind_not_deep : (b : Bool) (n r : ℕ) (p : List Step) → nat_le n MOST_STEPS ≡ b → ((q : List Step) (s : ℕ) → Fails q s ≡ cond b (Begins p) (Fails p r) → ⊥) → n ≤ MOST_STEPS
kind_not_deep true n r p e f = leb-true n MOST_STEPS e
kind_not_deep false n r p e f = absurd (f p r refl)

settled : (h : Here) (k : Kind) (o : Result KindInstance Fault) → ((q : List Step) (r : ℕ) → Fails q r ≡ stands h k o → ⊥) → (x : KindInstance) × (o ≡ Ok x)
settled h k (Ok x) f = (x, refl)
settled h k (Err g) f = absurd (f g.0 g.1 refl)

block_deep : (w : Model) (h : Here) (c : ClassId) → Fine w h c → length h.steps ≤ MOST_STEPS
block_deep w h c f = not_deep (nat_le (length h.steps) MOST_STEPS) (length h.steps) TOO_MANY_OR_TOO_DEEP h.steps c refl (λ q r e. f [] q r e)

good_kind : (w : Model) (h : Here) (kind : Kind) (k : Key) (t : Thing) → FineKind w h kind → OfKind w h.steps kind k t → Good t
good_kind w h kind k t f o =
    let x = settled h kind (block_station w h kind) (λ q r e. f (0 ∷ []) q r (refl, e)) in
    subst (λ (z : Thing). Good z) (sym o.thing) (
      kind_not_deep (nat_le (length h.steps) MOST_STEPS) (length h.steps) TOO_MANY_OR_TOO_DEEP h.steps refl (λ q r e. f [] q r e),
      kind_kept w h kind x.0 o.params x.1 o.values_are,
    )

-- ---- a component

module _ (w : Model) (h : Here) (c : ClassId) (i : ℕ) (item : Item) (p : Part) (a : item_at w c i ≡ Some item) (e : role_of (declared w.files) c.index i item ≡ role.Component p) where
  at_component : (x : Event) → x ≡ skips (named h.steps (item_name item)) (component_station w (inside h c) item p) → InBlock w h c (i ∷ []) x
  at_component x s = subst (λ o. ForItem w c i o (λ z r. InItem w (inside h c) z r [] x)) (sym a) (subst (λ r. InItem w (inside h c) item r [] x) (sym e) s)

  in_component : (x : ℕ) (k : Key) (d : Event) (sizes : List ℕ) → component_station w (inside h c) item p ≡ Ok sizes → x < size_of sizes
      → ForPart (entered (inside h c) item (indices_at sizes x)) p (λ g b. InBlock w g b k d) (λ g kind. InKind w g kind k d) → InBlock w h c (i ∷ x ∷ k) d
  in_component x k d sizes q l s =
      let sized : ForElement (component_station w (inside h c) item p) (inside h c) item p x (λ g b. InBlock w g b k d) (λ g kind. InKind w g kind k d) =
      subst (λ o. ForElement o (inside h c) item p x (λ g b. InBlock w g b k d) (λ g kind. InKind w g kind k d)) (sym q) (l, s) in
      subst (λ o. ForItem w c i o (λ z r. InItem w (inside h c) z r (x ∷ k) d)) (sym a) (subst (λ r. InItem w (inside h c) item r (x ∷ k) d) (sym e) sized)

  -- its sizes are those of what stands in the model
  the_sizes : Fine w h c → (sizes : List ℕ) → elements w h.steps item ≡ Ok sizes → component_station w (inside h c) item p ≡ Ok sizes
  the_sizes f sizes g =
      let n = station_ok (named h.steps (item_name item)) (component_station w (inside h c) item p) (λ q r s. f (i ∷ []) q r (at_component (Fails q r) s)) in
      let same : n.0 ≡ sizes = both_ok (elements w h.steps item) n.0 sizes (component_plain w (inside h c) item p n.0 n.1) g in
      n.1 ∙ ap Ok same

-- what is an element of the component is fine too
pub block_fine : (w : Model) (h : Here) (c : ClassId) (i x : ℕ) (item : Item) (d : ClassId) (sizes : List ℕ) → item_at w c i ≡ Some item → role_of (declared w.files) c.index i item ≡ role.Component (part.Block d)
    → elements w h.steps item ≡ Ok sizes → x < size_of sizes → Fine w h c → Fine w (entered (inside h c) item (indices_at sizes x)) d
block_fine w h c i x item d sizes a e g l f k q r m = f (i ∷ x ∷ k) q r (in_component w h c i item (part.Block d) a e x k (Fails q r) sizes (the_sizes w h c i item (part.Block d) a e f sizes g) l m)

pub kind_fine : (w : Model) (h : Here) (c : ClassId) (i x : ℕ) (item : Item) (kind : Kind) (sizes : List ℕ) → item_at w c i ≡ Some item → role_of (declared w.files) c.index i item ≡ role.Component (part.Kind kind)
    → elements w h.steps item ≡ Ok sizes → x < size_of sizes → Fine w h c → FineKind w (entered (inside h c) item (indices_at sizes x)) kind
kind_fine w h c i x item kind sizes a e g l f k q r m = f (i ∷ x ∷ k) q r (in_component w h c i item (part.Kind kind) a e x k (Fails q r) sizes (the_sizes w h c i item (part.Kind kind) a e f sizes g) l m)

part_good : (w : Model) (h : Here) (c : ClassId) (i x : ℕ) (k : Key) (t : Thing) (b : Below w h.steps c i x k t) (z : Part) → b.part ≡ z → Fine w h c
    → ((d : ClassId) → Fine w (entered (inside h c) b.item (indices_at b.sizes x)) d → IsThing w (entered (inside h c) b.item (indices_at b.sizes x)).steps d k t → Good t)
    → IsPart z (entered (inside h c) b.item (indices_at b.sizes x)).steps (λ q d. IsThing w q d k t) (λ q kind. IsOfKind w q kind k t) → Good t
part_good w h c i x k t b (part.Block d) e f rec s = rec d (block_fine w h c i x b.item d b.sizes b.at (b.role_is ∙ ap role.Component e) b.worth b.within f) s
part_good w h c i x k t b (part.Kind kind) e f rec s =
    good_kind w (entered (inside h c) b.item (indices_at b.sizes x)) kind k t
    (kind_fine w h c i x b.item kind b.sizes b.at (b.role_is ∙ ap role.Component e) b.worth b.within f)
    (of_kind w (entered (inside h c) b.item (indices_at b.sizes x)).steps kind k t s)

pub good : (w : Model) (k : Key) (h : Here) (c : ClassId) (t : Thing) → Fine w h c → IsThing w h.steps c k t → Good t
good w [] h c t f s = subst (λ (z : Thing). Good z) (sym s) (block_deep w h c f)
good w (i ∷ []) h c t f s =
    let a = at_item w h.steps c i t s in
    let ps = worth_is (connector_elements w h.steps a.item a.value_type a.input) (λ ps. t ≡ Elements h.steps ps) a.worth in
    subst (λ (z : Thing). Good z) (sym ps.2) tt
good w (i ∷ x ∷ k) h c t f s =
    let b = below w h.steps c i x k t s in
    part_good w h c i x k t b b.part refl f (λ d g y. good w k (entered (inside h c) b.item (indices_at b.sizes x)) d t g y) b.there

-- all that stands in a model
pub all_good : (w : Model) → NoneFails (InModel w) → (k : Key) (t : Thing) → IsThing w [] (the_root w) k t → Good t
all_good w f k t s = good w k start (the_root w) t f s

-- ---- where a block stands

pub record FineAt (w : Model) (q : List Step) (d : ClassId) : Type 0 where
  pub here : Here
  pub steps : here.steps ≡ q
  pub fine : Fine w here d

same_block : (p q : List Step) (c d : ClassId) → Block p c ≡ Block q d → (p ≡ q) × (c ≡ d)
same_block p q c d e = (cc, cc)

abbrev kind_thing : List Step → Kind → List Array → List Point → Thing
kind_thing p k v ps = Elementary p k v ps

no_elementary : (q p : List Step) (d : ClassId) (k : Kind) (v : List Array) (ps : List Point) → Block q d ≡ kind_thing p k v ps → ⊥
no_elementary q p d k v ps e = cc

no_elements : (q p : List Step) (d : ClassId) (ps : List Point) → Block q d ≡ Elements p ps → ⊥
no_elements q p d ps e = cc

part_at : (w : Model) (h : Here) (c : ClassId) (q : List Step) (d : ClassId) (i x : ℕ) (k : Key) (b : Below w h.steps c i x k (Block q d)) (z : Part) → b.part ≡ z → Fine w h c
    → ((e : ClassId) → Fine w (entered (inside h c) b.item (indices_at b.sizes x)) e → IsThing w (entered (inside h c) b.item (indices_at b.sizes x)).steps e k (Block q d) → FineAt w q d)
    → IsPart z (entered (inside h c) b.item (indices_at b.sizes x)).steps (λ r e. IsThing w r e k (Block q d)) (λ r kind. IsOfKind w r kind k (Block q d)) → FineAt w q d
part_at w h c q d i x k b (part.Block e) g f rec s = rec e (block_fine w h c i x b.item e b.sizes b.at (b.role_is ∙ ap role.Component g) b.worth b.within f) s
part_at w h c q d i x k b (part.Kind kind) g f rec s =
    let o = of_kind w (entered (inside h c) b.item (indices_at b.sizes x)).steps kind k (Block q d) s in
    absurd (no_elementary q (entered (inside h c) b.item (indices_at b.sizes x)).steps d kind o.params o.ports o.thing)

fine_at : (w : Model) (k : Key) (h : Here) (c : ClassId) (q : List Step) (d : ClassId) → Fine w h c → IsThing w h.steps c k (Block q d) → FineAt w q d
fine_at w [] h c q d f s = let e = same_block q h.steps d c s in record { here = h; steps = sym e.0; fine = subst (λ (z : ClassId). Fine w h z) (sym e.1) f }
fine_at w (i ∷ []) h c q d f s =
    let a = at_item w h.steps c i (Block q d) s in
    let ps = worth_is (connector_elements w h.steps a.item a.value_type a.input) (λ ps. Block q d ≡ Elements h.steps ps) a.worth in
    absurd (no_elements q h.steps d ps.0 ps.2)
fine_at w (i ∷ x ∷ k) h c q d f s =
    let b = below w h.steps c i x k (Block q d) s in
    part_at w h c q d i x k b b.part refl f (λ e g y. fine_at w k (entered (inside h c) b.item (indices_at b.sizes x)) e q d g y) b.there

-- a block of a model has a place where no station fails
pub block_at : (w : Model) → NoneFails (InModel w) → (k : Key) (q : List Step) (d : ClassId) → IsThing w [] (the_root w) k (Block q d) → FineAt w q d
block_at w f k q d s = fine_at w k start (the_root w) q d f s

-- ---- an instance of a kind stands there

unit_chosen : (b m : Bool) (r : ℕ) (o : Outcome (List Value)) (us : List Value) → cond b (unless m r o) (Ok []) ≡ Ok us → cond b o (Ok []) ≡ Ok us
unit_chosen true m r o us e = unless_ok m r o us e
unit_chosen false m r o us e = e

port_plain : (w : Model) (h : Here) (g : Group) (us : List Value) → port_station w h g ≡ Ok us → plain_units w h.steps g.name g.value_type ≡ Ok us
port_plain w h g us e = unit_chosen (is_real g.value_type) (modifies_final h.components (a_unit g.name) false) FINAL_MODIFIED (then_to (unit w h.steps g.name) items_in) us (at_ok (named h.steps g.name) (units w h g.name g.value_type false) us e)

module _ {A : Type 0} where
  points_next : (o : Result A Fault) (p : Outcome A) (s : Result (List Point) Fault) (t : Outcome (List Point)) (f : A → List Point) (ps : List Point) → ((a : A) → o ≡ Ok a → p ≡ Ok a)
      → ((qs : List Point) → s ≡ Ok qs → t ≡ Ok qs) → on_ok o (λ a. on_ok s (λ qs. Ok (f a ++ qs))) ≡ Ok ps → then_to p (λ a. then_to t (λ qs. Ok (f a ++ qs))) ≡ Ok ps
  points_next (Err q) p s t f ps g k h = cc
  points_next (Ok a) p (Err q) t f ps g k h = cc
  points_next (Ok a) p (Ok qs) t f ps g k h = let same : f a ++ qs ≡ ps = cc in rw (g a refl, k qs refl) (ap Ok same)

ports_plain : (w : Model) (h : Here) (n : ℕ) (input : Bool) (gs : List Group) (ps : List Point) → port_stations w h n input gs ≡ Ok ps → ports_from w h.steps n input gs ≡ Ok ps
ports_plain w h n input [] ps e = let same : [] ≡ ps = cc in ap Ok same
ports_plain w h n input (g ∷ gs) ps e = points_next (port_station w h g) (plain_units w h.steps g.name g.value_type) (port_stations w h n input gs) (ports_from w h.steps n input gs)
    (λ us. points g.name g.value_type input (port_sizes n g) us) ps (port_plain w h g) (ports_plain w h n input gs) e

kind_ports_plain : (w : Model) (h : Here) (k : Kind) (v : List Array) (ps : List Point) → ports w h k v ≡ Ok ps → ports_of w h.steps k v ≡ Ok ps
kind_ports_plain w h k v ps e = points_next (port_stations w h (nin_or_nout v) true (row k).ins) (ports_from w h.steps (nin_or_nout v) true (row k).ins)
    (port_stations w h (nin_or_nout v) false (row k).outs) (ports_from w h.steps (nin_or_nout v) false (row k).outs) (λ ins. ins) ps
    (ports_plain w h (nin_or_nout v) true (row k).ins) (ports_plain w h (nin_or_nout v) false (row k).outs) e

abbrev the_values : List Array → Outcome (List Array)
the_values v = Ok v

values_same : (x y : List Array) → the_values x ≡ the_values y → x ≡ y
values_same x y e = cc

pub kind_there : (w : Model) (h : Here) (k : Kind) → FineKind w h k → (v : List Array) × (ps : List Point) × (values w h.steps (row k).parameters ≡ Ok v) × (ports_of w h.steps k v ≡ Ok ps)
kind_there w h k f =
    let x = settled h k (block_station w h k) (λ q r e. f (0 ∷ []) q r (refl, e)) in
    let a = ok_parts (parameter_stations w h (row k).parameters) (λ z. on_ok (conditions_station h k z) (λ u. on_ok (ports w h k u) (λ ps. Ok (the_kind u ps)))) x.0 x.1 in
    let b = ok_parts (conditions_station h k a.0) (λ u. on_ok (ports w h k u) (λ ps. Ok (the_kind u ps))) x.0 a.2 in
    let c = ok_parts (ports w h k b.0) (λ ps. Ok (the_kind b.0 ps)) x.0 b.2 in
    let same : a.0 ≡ b.0 = values_same a.0 b.0 (unless_ok (not (fit k a.0) || is_some (first_broken (conditions k a.0))) PARAMETER_OUT_OF_CONDITION (Ok a.0) b.0 (at_ok h.steps (unless (not (fit k a.0) || is_some (first_broken (conditions k a.0))) PARAMETER_OUT_OF_CONDITION (Ok a.0)) b.0 b.1)) in
    (b.0, c.0, values_plain w h (row k).parameters a.0 a.1 ∙ ap Ok same, kind_ports_plain w h k b.0 c.0 c.1)
