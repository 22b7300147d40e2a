-- Where all events go, what they bring is all that stands in the model.
use Rattle.std.proofs.Common.{◌≡◌, ℕ, Bool, true, false, cond, List, [], ◌∷◌, ◌++◌, length, refl, sym, ap, ◌∙◌, subst, Result, Ok, Err, Option, Some, None, inl, inr}
use Rattle.std.specs.Prelude.{nat_le}
use Rattle.std.specs.List.{slice_get}
use Rattle.cdl_source.specs.declared.limits.TheConstants.{MOST_STEPS}
use Rattle.cdl_source.specs.declared.rules.TheConstants.{TOO_MANY_OR_TOO_DEEP, CONTAINS_ITSELF, FINAL_MODIFIED, PARAMETER_OUT_OF_CONDITION}
use Rattle.cdl_values.specs.declared.value.Array.{Array}
use Rattle.cdl_values.specs.declared.value.Value.{Value}
use Rattle.cdl_values.specs.declared.value.ValueType.{ValueType}
use Rattle.cdl_array.specs.Outcomes.{Outcome, then_to}
use Rattle.cdl_kinds.specs.declared.kind.Kind.{Kind}
use Rattle.cdl_kinds.specs.Table.{Group, ParameterRow, row}
use Rattle.cdl_kinds.specs.Ports.{nin_or_nout}
use Rattle.cdl_tree.specs.declared.class.Item.{Item}
use Rattle.cdl_scopes.specs.Classes.{declared}
use Rattle.cdl_scopes.specs.Lookup.{item_name}
use Rattle.cdl_classes.specs.declared.found.ClassId.{ClassId}
use Rattle.cdl_paths.specs.declared.path.Step.{Step}
use Rattle.cdl_params.specs.Kept.{Model}
use Rattle.cdl_stations.specs.Keys.{Key, In, Sorted, Lists}
use Rattle.cdl_stations.specs.Runs.{on_ok, goes, Went}
use Rattle.cdl_stations.proofs.FromRuns.{Splits, split, Halves, halves}
use Rattle.cdl_items.specs.declared.role.Part.{Part}
use Rattle.cdl_items.specs.declared.role.Part.TheVariants as part
use Rattle.cdl_items.specs.declared.role.Role.{Role}
use Rattle.cdl_items.specs.declared.role.Role.TheVariants as role
use Rattle.cdl_walk.specs.declared.walked.KindInstance.{KindInstance}
use Rattle.cdl_walk.specs.declared.walked.Point.{Point}
use Rattle.cdl_walk.specs.declared.walked.Walked.{Walked}
use Rattle.cdl_items.specs.Roles.{items_of, role_of}
use Rattle.cdl_walk.specs.Worth.{value, dims, present, unit}
use Rattle.cdl_items.specs.Finals.{a_unit, a_value, modifies_final, unit_is_final}
use Rattle.cdl_walk.specs.Faults.{Fault, named, at}
use Rattle.cdl_walk.specs.Places.{Here, start, entered, inside}
use Rattle.cdl_walk.specs.Elements.{points, port_sizes, indices_at, is_real}
use Rattle.cdl_walk.specs.Events.{Event, Fails, Skips, Opens, Begins, Stands, Adds, nothing, step}
use Rattle.cdl_walk.specs.Stations.{unless_rule, unless, items_in, units, connector_station, component_station, no_element, parameter_station, parameter_stations, conditions_station, port_station, port_stations, ports, the_kind, block_station, opens, begins, stands, adds, skips, item_event, ForItem, ForPart, ForElement, ForRole, InKind, InBlock, InItem, InModel, the_root}
use Rattle.cdl_walk.specs.Instances.{Thing, Block, Elementary, Elements, elements, plain_units, connector_elements, values, ports_from, ports_of, IsWorth, IsOfKind, IsPart, IsElement, IsInRole, IsAtItem, IsThing, IsInItem}

-- ---- what is worth something at a station is that without its rules

module _ {A : Type 0} where
  unless_ok : (b : Bool) (r : ℕ) (o : Outcome A) (a : A) → unless b r o ≡ Ok a → o ≡ Ok a
  unless_ok true r o a h = cc
  unless_ok false r o a h = h

  rule_ok : (x : Option ℕ) (o : Outcome A) (a : A) → unless_rule x o ≡ Ok a → o ≡ Ok a
  rule_ok None o a h = h
  rule_ok (Some r) o a h = cc

  at_ok : (p : List Step) (o : Outcome A) (a : A) → at p o ≡ Ok a → o ≡ Ok a
  at_ok p (Ok b) a h = cc
  at_ok p (Err r) a h = cc

  is_worth : (o : Outcome A) (a : A) (P : A → Type 0) → o ≡ Ok a → P a → IsWorth o P
  is_worth o a P e p = subst (λ (z : Outcome A). IsWorth z P) (sym e) p

  worth_at : (o : Outcome A) (a : A) (P : A → Type 0) → o ≡ Ok a → IsWorth o P → P a
  worth_at o a P e p = subst (λ (z : Outcome A). IsWorth z P) e p

  worth_like : (o o' : Outcome A) (P : A → Type 0) → ((a : A) → o ≡ Ok a → o' ≡ Ok a) → IsWorth o P → IsWorth o' P
  worth_like (Ok a) o' P f h = is_worth o' a P (f a refl) h
  worth_like (Err r) o' P f h = absurd h

units_chosen : (b m : Bool) (r : ℕ) (o : Outcome (List Value)) (us : List Value) → cond b (unless m r o) (Ok []) ≡ Ok us → cond b o (Ok []) ≡ Ok us
units_chosen true m r o us h = unless_ok m r o us h
units_chosen false m r o us h = h

units_plain : (w : Model) (h : Here) (x : List ℕ) (t : ValueType) (fin : Bool) (us : List Value) → units w h x t fin ≡ Ok us → plain_units w h.steps x t ≡ Ok us
units_plain w h x t fin us e = units_chosen (is_real t) (modifies_final h.components (a_unit x) fin) FINAL_MODIFIED (then_to (unit w h.steps x) items_in) us e

connector_chosen : (o : Outcome Bool) (z : Outcome (List ℕ)) (x : Option ℕ) (u v : Outcome (List Value)) (f : List ℕ → List Value → List Point) (ps : List Point) → ((us : List Value) → u ≡ Ok us → v ≡ Ok us)
    → then_to o (λ there. then_to z (λ sizes. unless_rule x (cond there (then_to u (λ us. Ok (f sizes us))) (Ok [])))) ≡ Ok ps
    → then_to o (λ there. cond there (then_to z (λ sizes. then_to v (λ us. Ok (f sizes us)))) (Ok [])) ≡ Ok ps
connector_chosen (Err r) z x u v f ps g h = cc
connector_chosen (Ok b) (Err r) x u v f ps g h = cc
connector_chosen (Ok b) (Ok sizes) (Some r) u v f ps g h = cc
connector_chosen (Ok true) (Ok sizes) None (Err r) v f ps g h = cc
connector_chosen (Ok true) (Ok sizes) None (Ok us) v f ps g h = subst (λ (y : Outcome (List Value)). then_to y (λ us. Ok (f sizes us)) ≡ Ok ps) (sym (g us refl)) h
connector_chosen (Ok false) (Ok sizes) None u v f ps g h = h

connector_plain : (w : Model) (h : Here) (item : Item) (t : ValueType) (input : Bool) (ps : List Point) → connector_station w h item t input ≡ Ok ps → connector_elements w h.steps item t input ≡ Ok ps
connector_plain w h item t input ps e = connector_chosen (present w h.steps item) (dims w h.steps item) _ (units w h (item_name item) t (unit_is_final item)) (plain_units w h.steps (item_name item) t)
    (λ sizes us. points (item_name item) t input sizes us) ps (units_plain w h (item_name item) t (unit_is_final item)) e

component_chosen : (o : Outcome Bool) (z : Outcome (List ℕ)) (b : Bool) (r : ℕ) (x : Option ℕ) (n : List ℕ)
    → then_to o (λ there. cond there (then_to z (λ sizes. unless b r (unless_rule x (Ok sizes)))) no_element) ≡ Ok n → then_to o (λ there. cond there z no_element) ≡ Ok n
component_chosen (Err q) z b r x n h = cc
component_chosen (Ok false) z b r x n h = h
component_chosen (Ok true) (Err q) b r x n h = cc
component_chosen (Ok true) (Ok s) true r x n h = cc
component_chosen (Ok true) (Ok s) false r (Some q) n h = cc
component_chosen (Ok true) (Ok s) false r None n h = h

component_plain : (w : Model) (h : Here) (item : Item) (p : Part) (n : List ℕ) → component_station w h item p ≡ Ok n → elements w h.steps item ≡ Ok n
component_plain w h item p n e = component_chosen (present w h.steps item) (dims w h.steps item) _ CONTAINS_ITSELF _ n e

parameter_plain : (w : Model) (h : Here) (x : List ℕ) (a : Array) → parameter_station w h x ≡ Ok a → value w h.steps x ≡ Ok a
parameter_plain w h x a e = unless_ok (modifies_final h.components (a_value x) false) FINAL_MODIFIED (value w h.steps x) a (at_ok (named h.steps x) _ a e)

values_next : (o : Result Array Fault) (o' : Outcome Array) (s : Result (List Array) Fault) (s' : Outcome (List Array)) (v : List Array) → ((a : Array) → o ≡ Ok a → o' ≡ Ok a) → ((vs : List Array) → s ≡ Ok vs → s' ≡ Ok vs)
    → on_ok o (λ a. on_ok s (λ vs. Ok (a ∷ vs))) ≡ Ok v → then_to o' (λ a. then_to s' (λ vs. Ok (a ∷ vs))) ≡ Ok v
values_next (Err q) o' s s' v f g h = cc
values_next (Ok a) o' (Err q) s' v f g h = cc
values_next (Ok a) o' (Ok vs) s' v f g h = let same : a ∷ vs ≡ v = cc in rw (f a refl, g vs refl) (ap Ok same)

values_plain : (w : Model) (h : Here) (rs : List ParameterRow) (v : List Array) → parameter_stations w h rs ≡ Ok v → values w h.steps rs ≡ Ok v
values_plain w h [] v e = let same : [] ≡ v = cc in ap Ok same
values_plain w h (r ∷ rs) v e = values_next (parameter_station w h r.name) (value w h.steps r.name) (parameter_stations w h rs) (values w h.steps rs) v (parameter_plain w h r.name) (values_plain w h rs) e

module _ {A : Type 0} where
  points_next : (o : Result A Fault) (o' : Outcome A) (s : Result (List Point) Fault) (s' : Outcome (List Point)) (f : A → List Point) (ps : List Point) → ((a : A) → o ≡ Ok a → o' ≡ Ok a)
      → ((qs : List Point) → s ≡ Ok qs → s' ≡ Ok qs) → on_ok o (λ a. on_ok s (λ qs. Ok (f a ++ qs))) ≡ Ok ps → then_to o' (λ a. then_to s' (λ qs. Ok (f a ++ qs))) ≡ Ok ps
  points_next (Err q) o' s s' f ps g k h = cc
  points_next (Ok a) o' (Err q) s' f ps g k h = cc
  points_next (Ok a) o' (Ok qs) s' f ps g k h = let same : f a ++ qs ≡ ps = cc in rw (g a refl, k qs refl) (ap Ok same)

port_plain : (w : Model) (h : Here) (g : Group) (us : List Value) → port_station w h g ≡ Ok us → plain_units w h.steps g.name g.value_type ≡ Ok us
port_plain w h g us e = units_plain w h g.name g.value_type false us (at_ok (named h.steps g.name) _ us e)

ports_plain_from : (w : Model) (h : Here) (n : ℕ) (input : Bool) (gs : List Group) (ps : List Point) → port_stations w h n input gs ≡ Ok ps → ports_from w h.steps n input gs ≡ Ok ps
ports_plain_from w h n input [] ps e = let same : [] ≡ ps = cc in ap Ok same
ports_plain_from w h n input (g ∷ gs) ps e = points_next (port_station w h g) (plain_units w h.steps g.name g.value_type) (port_stations w h n input gs) (ports_from w h.steps n input gs)
    (λ us. points g.name g.value_type input (port_sizes n g) us) ps (port_plain w h g) (ports_plain_from w h n input gs) e

ports_plain : (w : Model) (h : Here) (k : Kind) (v : List Array) (ps : List Point) → ports w h k v ≡ Ok ps → ports_of w h.steps k v ≡ Ok ps
ports_plain w h k v ps e = points_next (port_stations w h (nin_or_nout v) true (row k).ins) (ports_from w h.steps (nin_or_nout v) true (row k).ins)
    (port_stations w h (nin_or_nout v) false (row k).outs) (ports_from w h.steps (nin_or_nout v) false (row k).outs) (λ ins. ins) ps
    (ports_plain_from w h (nin_or_nout v) true (row k).ins) (ports_plain_from w h (nin_or_nout v) false (row k).outs) e

abbrev worth_this : List Array → Outcome (List Array)
worth_this v = Ok v

conditions_same : (h : Here) (k : Kind) (v u : List Array) → conditions_station h k v ≡ Ok u → v ≡ u
conditions_same h k v u e = let kept : worth_this v ≡ worth_this u = unless_ok _ PARAMETER_OUT_OF_CONDITION (Ok v) u (at_ok h.steps _ u e) in cc

abbrev Parts : (x : KindInstance) → Result (List Array) Fault → (List Array → Result (List Point) Fault) → Type 0
Parts x o g = (o ≡ Ok x.params) × (g x.params ≡ Ok x.points)

block_last : (r : Result (List Point) Fault) (u : List Array) (x : KindInstance) → on_ok r (λ ps. Ok (the_kind u ps)) ≡ Ok x → (u ≡ x.params) × (r ≡ Ok x.points)
block_last (Err q) u x h = cc
block_last (Ok ps) u x h = let same : the_kind u ps ≡ x = cc in (ap (λ (y : KindInstance). y.params) same, ap (λ (y : KindInstance). Ok y.points) same)

block_middle : (s : Result (List Array) Fault) (v : List Array) (g : List Array → Result (List Point) Fault) (x : KindInstance) → ((u : List Array) → s ≡ Ok u → v ≡ u)
    → on_ok s (λ u. on_ok (g u) (λ ps. Ok (the_kind u ps))) ≡ Ok x → (v ≡ x.params) × (g x.params ≡ Ok x.points)
block_middle (Err q) v g x i h = cc
block_middle (Ok u) v g x i h = let last = block_last (g u) u x h in (i u refl ∙ last.0, subst (λ (y : List Array). g y ≡ Ok x.points) last.0 last.1)

block_parts : (o : Result (List Array) Fault) (f : List Array → Result (List Array) Fault) (g : List Array → Result (List Point) Fault) (x : KindInstance) → ((v u : List Array) → f v ≡ Ok u → v ≡ u)
    → on_ok o (λ v. on_ok (f v) (λ u. on_ok (g u) (λ ps. Ok (the_kind u ps)))) ≡ Ok x → Parts x o g
block_parts (Err q) f g x i h = cc
block_parts (Ok v) f g x i h = let rest = block_middle (f v) v g x (i v) h in (ap Ok rest.0, rest.1)

abbrev PlainParts : Model → Here → Kind → KindInstance → Type 0
PlainParts w h k x = (values w h.steps (row k).parameters ≡ Ok x.params) × (ports_of w h.steps k x.params ≡ Ok x.points)

block_plain : (w : Model) (h : Here) (k : Kind) (x : KindInstance) → block_station w h k ≡ Ok x → PlainParts w h k x
block_plain w h k x e = let parts = block_parts (parameter_stations w h (row k).parameters) (conditions_station h k) (ports w h k) x (conditions_same h k) e in
    (values_plain w h (row k).parameters x.params parts.0, ports_plain w h k x.params x.points parts.1)

-- ---- what an event brings

abbrev Brings : Event → Thing → Type 0
Brings (Fails p r) t = ⊥
Brings Skips t = ⊥
Brings (Opens p c) t = t ≡ Block p c
Brings (Begins p) t = ⊥
Brings (Stands p k v ps) t = t ≡ Elementary p k v ps
Brings (Adds p d ps) t = t ≡ Elements d ps

opens_brings : (b : Bool) (p : List Step) (c : ClassId) (r : ℕ) (t : Thing) → Brings (cond b (Opens p c) (Fails p r)) t → t ≡ Block p c
opens_brings true p c r t h = h
opens_brings false p c r t h = absurd h

begins_bring : (b : Bool) (p : List Step) (r : ℕ) (t : Thing) → Brings (cond b (Begins p) (Fails p r)) t → ⊥
begins_bring true p r t h = h
begins_bring false p r t h = h

skips_bring : (A : Type 0) (p : List Step) (o : Outcome A) (t : Thing) → Brings (skips p o) t → ⊥
skips_bring A p (Ok a) t h = h
skips_bring A p (Err r) t h = h

adds_bring : (p d : List Step) (o : Outcome (List Point)) (t : Thing) → Brings (adds p d o) t → IsWorth o (λ ps. t ≡ Elements d ps)
adds_bring p d (Ok ps) t h = h
adds_bring p d (Err r) t h = h

stands_bring : (w : Model) (h : Here) (k : Kind) (o : Result KindInstance Fault) (t : Thing) → ((x : KindInstance) → o ≡ Ok x → PlainParts w h k x) → Brings (stands h k o) t
    → IsWorth (values w h.steps (row k).parameters) (λ v. IsWorth (ports_of w h.steps k v) (λ ps. t ≡ Elementary h.steps k v ps))
stands_bring w h k (Err f) t g b = absurd b
stands_bring w h k (Ok x) t g b = let parts = g x refl in
    is_worth (values w h.steps (row k).parameters) x.params (λ v. IsWorth (ports_of w h.steps k v) (λ ps. t ≡ Elementary h.steps k v ps)) parts.0
    (is_worth (ports_of w h.steps k x.params) x.points (λ ps. t ≡ Elementary h.steps k x.params ps) parts.1 b)

at_event : (e f : Event) (t : Thing) → e ≡ f → Brings e t → Brings f t
at_event e f t s b = subst (λ (x : Event). Brings x t) s b

-- ---- what an event brings stands there

kind_to : (w : Model) (h : Here) (k : Kind) (l : Key) (e : Event) (t : Thing) → InKind w h k l e → Brings e t → IsOfKind w h.steps k l t
kind_to w h k [] e t s b = absurd (begins_bring (nat_le (length h.steps) MOST_STEPS) h.steps TOO_MANY_OR_TOO_DEEP t (at_event e (begins h) t s b))
kind_to w h k (i ∷ []) e t s b = (s.0, stands_bring w h k (block_station w h k) t (block_plain w h k) (at_event e (stands h k (block_station w h k)) t s.1 b))
kind_to w h k (i ∷ j ∷ l) e t s b = absurd s

item_to : (w : Model) (h : Here) (item : Item) (r : Role) (t : Thing) → Brings (item_event w h item r) t → IsAtItem w h.steps item r t
item_to w h item role.Value t b = skips_bring Array _ _ t b
item_to w h item (role.Connector y input) t b = worth_like (connector_station w h item y input) (connector_elements w h.steps item y input) (λ ps. t ≡ Elements h.steps ps) (connector_plain w h item y input)
    (adds_bring (named h.steps (item_name item)) h.steps (connector_station w h item y input) t b)
item_to w h item (role.Component p) t b = skips_bring (List ℕ) _ _ t b
item_to w h item role.Other t b = b

abbrev AtBlock : Type 1
AtBlock = Here → ClassId → Type 0

abbrev AtKind : Type 1
AtKind = Here → Kind → Type 0

abbrev OfBlock : Type 1
OfBlock = List Step → ClassId → Type 0

abbrev OfKind : Type 1
OfKind = List Step → Kind → Type 0

part_to : (g : Here) (p : Part) (P : AtBlock) (Q : AtKind) (P' : OfBlock) (Q' : OfKind) → ((z : Here) (c : ClassId) → P z c → P' z.steps c) → ((z : Here) (k : Kind) → Q z k → Q' z.steps k) → ForPart g p P Q → IsPart p g.steps P' Q'
part_to g (part.Block c) P Q P' Q' f q s = f g c s
part_to g (part.Kind k) P Q P' Q' f q s = q g k s

element_to : (o o' : Outcome (List ℕ)) (h : Here) (item : Item) (p : Part) (x : ℕ) (P : AtBlock) (Q : AtKind) (P' : OfBlock) (Q' : OfKind) → ((n : List ℕ) → o ≡ Ok n → o' ≡ Ok n)
    → ((z : Here) (c : ClassId) → P z c → P' z.steps c) → ((z : Here) (k : Kind) → Q z k → Q' z.steps k) → ForElement o h item p x P Q → IsElement o' h.steps item p x P' Q'
element_to (Err r) o' h item p x P Q P' Q' g f q s = absurd s
element_to (Ok n) o' h item p x P Q P' Q' g f q s = subst (λ (z : Outcome (List ℕ)). IsElement z h.steps item p x P' Q') (sym (g n refl)) (s.0, part_to (entered h item (indices_at n x)) p P Q P' Q' f q s.1)

role_to : (w : Model) (h : Here) (item : Item) (r : Role) (x : ℕ) (P : AtBlock) (Q : AtKind) (P' : OfBlock) (Q' : OfKind)
    → ((z : Here) (c : ClassId) → P z c → P' z.steps c) → ((z : Here) (k : Kind) → Q z k → Q' z.steps k) → ForRole w h item r x P Q → IsInRole w h.steps item r x P' Q'
role_to w h item role.Value x P Q P' Q' f q s = s
role_to w h item (role.Connector t input) x P Q P' Q' f q s = s
role_to w h item (role.Component p) x P Q P' Q' f q s = element_to (component_station w h item p) (elements w h.steps item) h item p x P Q P' Q' (component_plain w h item p) f q s
role_to w h item role.Other x P Q P' Q' f q s = s

for_item : (w : Model) (c : ClassId) (i : ℕ) (o : Option Item) (P Q : Item → Role → Type 0) → ((x : Item) (r : Role) → P x r → Q x r) → ForItem w c i o P → ForItem w c i o Q
for_item w c i None P Q f s = s
for_item w c i (Some x) P Q f s = f x _ s

mutual
  to_thing : (w : Model) (h : Here) (c : ClassId) (k : Key) (e : Event) (t : Thing) → InBlock w h c k e → Brings e t → IsThing w h.steps c k t
  to_thing w h c [] e t s b = opens_brings (nat_le (length h.steps) MOST_STEPS) h.steps c TOO_MANY_OR_TOO_DEEP t (at_event e (opens h c) t s b)
  to_thing w h c (i ∷ k) e t s b = for_item w c i (slice_get (items_of (declared w.files) c.index) i) (λ x r. InItem w (inside h c) x r k e) (λ x r. IsInItem w h.steps x r k t)
      (λ x r z. to_item w (inside h c) x r k e t z b) s

  to_item : (w : Model) (h : Here) (x : Item) (r : Role) (k : Key) (e : Event) (t : Thing) → InItem w h x r k e → Brings e t → IsInItem w h.steps x r k t
  to_item w h x r [] e t s b = item_to w h x r t (at_event e (item_event w h x r) t s b)
  to_item w h x r (n ∷ k) e t s b = role_to w h x r n (λ g c. InBlock w g c k e) (λ g kind. InKind w g kind k e) (λ q c. IsThing w q c k t) (λ q kind. IsOfKind w q kind k t)
      (λ g c z. to_thing w g c k e t z b) (λ g kind z. kind_to w g kind k e t z b) s

-- ---- what stands there is brought, where no event fails

abbrev pub Family : Type 1
Family = Key → Event → Type 0

abbrev pub Fine : Family → Type 0
Fine S = (k : Key) (q : List Step) (r : ℕ) → S k (Fails q r) → ⊥

record Brought (S : Family) (k : Key) (t : Thing) : Type 0 where
  event : Event
  there : S k event
  brings : Brings event t

pub fine_here : (b : Bool) (p : List Step) (c : ClassId) (r : ℕ) → (Fails p r ≡ cond b (Opens p c) (Fails p r) → ⊥) → Opens p c ≡ cond b (Opens p c) (Fails p r)
fine_here true p c r f = refl
fine_here false p c r f = absurd (f refl)

stands_of : (w : Model) (h : Here) (k : Kind) (o : Result KindInstance Fault) (t : Thing) → ((x : KindInstance) → o ≡ Ok x → PlainParts w h k x) → ((q : List Step) (r : ℕ) → Fails q r ≡ stands h k o → ⊥)
    → IsWorth (values w h.steps (row k).parameters) (λ v. IsWorth (ports_of w h.steps k v) (λ ps. t ≡ Elementary h.steps k v ps)) → Brings (stands h k o) t
stands_of w h k (Err f) t g n s = absurd (n f.0 f.1 refl)
stands_of w h k (Ok x) t g n s = let parts = g x refl in
    worth_at (ports_of w h.steps k x.params) x.points (λ ps. t ≡ Elementary h.steps k x.params ps) parts.1
    (worth_at (values w h.steps (row k).parameters) x.params (λ v. IsWorth (ports_of w h.steps k v) (λ ps. t ≡ Elementary h.steps k v ps)) parts.0 s)

kind_of : (w : Model) (h : Here) (k : Kind) → Fine (InKind w h k) → (l : Key) (t : Thing) → IsOfKind w h.steps k l t → Brought (InKind w h k) l t
kind_of w h k f [] t s = absurd s
kind_of w h k f (i ∷ []) t s = record {
  event = stands h k (block_station w h k);
  there = (s.0, refl);
  brings = stands_of w h k (block_station w h k) t (block_plain w h k) (λ q r e. f (i ∷ []) q r (s.0, e)) s.1;
}
kind_of w h k f (i ∷ j ∷ l) t s = absurd s

adds_of : (p d : List Step) (o o' : Outcome (List Point)) (t : Thing) → ((ps : List Point) → o ≡ Ok ps → o' ≡ Ok ps) → ((q : List Step) (r : ℕ) → Fails q r ≡ adds p d o → ⊥) → IsWorth o' (λ ps. t ≡ Elements d ps) → Brings (adds p d o) t
adds_of p d (Err r) o' t f n s = absurd (n p r refl)
adds_of p d (Ok ps) o' t f n s = worth_at o' ps (λ qs. t ≡ Elements d qs) (f ps refl) s

item_of : (w : Model) (h : Here) (item : Item) (r : Role) (t : Thing) → ((q : List Step) (n : ℕ) → Fails q n ≡ item_event w h item r → ⊥) → IsAtItem w h.steps item r t → Brought (InItem w h item r) [] t
item_of w h item role.Value t f s = absurd s
item_of w h item (role.Connector y input) t f s = record {
  event = item_event w h item (role.Connector y input);
  there = refl;
  brings = adds_of (named h.steps (item_name item)) h.steps (connector_station w h item y input) (connector_elements w h.steps item y input) t (connector_plain w h item y input) f s;
}
item_of w h item (role.Component p) t f s = absurd s
item_of w h item role.Other t f s = absurd s

fails_there : (q : List Step) (o : Outcome (List ℕ)) (r : ℕ) → o ≡ Err r → Fails q r ≡ skips q o
fails_there q o r e = rw e refl

-- the event that brings what stands in an element of a component
element_of : (w : Model) (h : Here) (o o' : Outcome (List ℕ)) (item : Item) (p : Part) (x : ℕ) (k : Key) (t : Thing) → ((n : List ℕ) → o ≡ Ok n → o' ≡ Ok n) → ((r : ℕ) → o ≡ Err r → ⊥)
    → ((g : Here) (c : ClassId) → Fine (InBlock w g c) → IsThing w g.steps c k t → Brought (InBlock w g c) k t)
    → Fine (λ l e. ForElement o h item p x (λ g c. InBlock w g c l e) (λ g kind. InKind w g kind l e))
    → IsElement o' h.steps item p x (λ q c. IsThing w q c k t) (λ q kind. IsOfKind w q kind k t)
    → Brought (λ l e. ForElement o h item p x (λ g c. InBlock w g c l e) (λ g kind. InKind w g kind l e)) k t
element_of w h (Err r) o' item p x k t f n rec fine s = absurd (n r refl)
element_of w h (Ok n) o' item (part.Block c) x k t f m rec fine s =
    let there : IsElement (Ok n) h.steps item (part.Block c) x (λ q c. IsThing w q c k t) (λ q kind. IsOfKind w q kind k t) =
    subst (λ (z : Outcome (List ℕ)). IsElement z h.steps item (part.Block c) x (λ q c. IsThing w q c k t) (λ q kind. IsOfKind w q kind k t)) (f n refl) s in
    let inner : Brought (InBlock w (entered h item (indices_at n x)) c) k t = rec (entered h item (indices_at n x)) c (λ l q r e. fine l q r (there.0, e)) there.1 in
    record { event = inner.event; there = (there.0, inner.there); brings = inner.brings }
element_of w h (Ok n) o' item (part.Kind kind) x k t f m rec fine s =
    let there : IsElement (Ok n) h.steps item (part.Kind kind) x (λ q c. IsThing w q c k t) (λ q kind. IsOfKind w q kind k t) =
    subst (λ (z : Outcome (List ℕ)). IsElement z h.steps item (part.Kind kind) x (λ q c. IsThing w q c k t) (λ q kind. IsOfKind w q kind k t)) (f n refl) s in
    let inner : Brought (InKind w (entered h item (indices_at n x)) kind) k t = kind_of w (entered h item (indices_at n x)) kind (λ l q r e. fine l q r (there.0, e)) k t there.1 in
    record { event = inner.event; there = (there.0, inner.there); brings = inner.brings }

role_of_thing : (w : Model) (h : Here) (item : Item) (r : Role) (x : ℕ) (k : Key) (t : Thing)
    → ((g : Here) (c : ClassId) → Fine (InBlock w g c) → IsThing w g.steps c k t → Brought (InBlock w g c) k t)
    → Fine (InItem w h item r) → IsInRole w h.steps item r x (λ q c. IsThing w q c k t) (λ q kind. IsOfKind w q kind k t) → Brought (InItem w h item r) (x ∷ k) t
role_of_thing w h item role.Value x k t rec fine s = absurd s
role_of_thing w h item (role.Connector y input) x k t rec fine s = absurd s
role_of_thing w h item (role.Component p) x k t rec fine s =
    let inner : Brought (λ l e. ForElement (component_station w h item p) h item p x (λ g c. InBlock w g c l e) (λ g kind. InKind w g kind l e)) k t =
    element_of w h (component_station w h item p) (elements w h.steps item) item p x k t (component_plain w h item p)
    (λ r e. fine [] (named h.steps (item_name item)) r (fails_there (named h.steps (item_name item)) (component_station w h item p) r e)) rec (λ l q r e. fine (x ∷ l) q r e) s in
    record { event = inner.event; there = inner.there; brings = inner.brings }
role_of_thing w h item role.Other x k t rec fine s = absurd s

some_of : (w : Model) (g : Here) (c : ClassId) (i : ℕ) (o : Option Item) (k : Key) (t : Thing) → ((x : Item) (r : Role) → Fine (InItem w g x r) → IsInItem w g.steps x r k t → Brought (InItem w g x r) k t)
    → Fine (λ l e. ForItem w c i o (λ x r. InItem w g x r l e)) → ForItem w c i o (λ x r. IsInItem w g.steps x r k t) → Brought (λ l e. ForItem w c i o (λ x r. InItem w g x r l e)) k t
some_of w g c i None k t rec fine s = absurd s
some_of w g c i (Some x) k t rec fine s = let inner = rec x (role_of (declared w.files) c.index i x) (λ l q r e. fine l q r e) s in record { event = inner.event; there = inner.there; brings = inner.brings }

mutual
  of_thing : (w : Model) (h : Here) (c : ClassId) → Fine (InBlock w h c) → (k : Key) (t : Thing) → IsThing w h.steps c k t → Brought (InBlock w h c) k t
  of_thing w h c f [] t s = record { event = Opens h.steps c; there = fine_here (nat_le (length h.steps) MOST_STEPS) h.steps c TOO_MANY_OR_TOO_DEEP (f [] h.steps TOO_MANY_OR_TOO_DEEP); brings = s }
  of_thing w h c f (i ∷ k) t s =
      let inner : Brought (λ l e. ForItem w c i (slice_get (items_of (declared w.files) c.index) i) (λ x r. InItem w (inside h c) x r l e)) k t =
      some_of w (inside h c) c i (slice_get (items_of (declared w.files) c.index) i) k t (λ x r g z. of_item w (inside h c) x r g k t z) (λ l q r e. f (i ∷ l) q r e) s in
      record { event = inner.event; there = inner.there; brings = inner.brings }

  of_item : (w : Model) (h : Here) (x : Item) (r : Role) → Fine (InItem w h x r) → (k : Key) (t : Thing) → IsInItem w h.steps x r k t → Brought (InItem w h x r) k t
  of_item w h x r f [] t s = item_of w h x r t (λ q n e. f [] q n e) s
  of_item w h x r f (n ∷ k) t s = role_of_thing w h x r n k t (λ g c z y. of_thing w g c z k t y) f s

-- ---- lists

abbrev pub thing_at : Event → Option Thing
thing_at (Fails p r) = None
thing_at Skips = None
thing_at (Opens p c) = Some (Block p c)
thing_at (Begins p) = None
thing_at (Stands p k v ps) = Some (Elementary p k v ps)
thing_at (Adds p d ps) = Some (Elements d ps)

brings_some : (e : Event) (t : Thing) → Brings e t → thing_at e ≡ Some t
brings_some (Fails p r) t b = absurd b
brings_some Skips t b = absurd b
brings_some (Opens p c) t b = ap Some (sym b)
brings_some (Begins p) t b = absurd b
brings_some (Stands p k v ps) t b = ap Some (sym b)
brings_some (Adds p d ps) t b = ap Some (sym b)

abbrev nothing_there : Option Thing
nothing_there = None

none_is : (t : Thing) → nothing_there ≡ Some t → ⊥
none_is t h = cc

some_brings : (e : Event) (t : Thing) → thing_at e ≡ Some t → Brings e t
some_brings (Fails p r) t h = absurd (none_is t h)
some_brings Skips t h = absurd (none_is t h)
some_brings (Opens p c) t h = cc
some_brings (Begins p) t h = absurd (none_is t h)
some_brings (Stands p k v ps) t h = cc
some_brings (Adds p d ps) t h = cc

abbrev pub with_thing : Key → Option Thing → List (Key × Thing) → List (Key × Thing)
with_thing k None rest = rest
with_thing k (Some t) rest = (k, t) ∷ rest

abbrev pub all_things : List (Key × Event) → List (Key × Thing)
all_things [] = []
all_things (x ∷ xs) = with_thing x.0 (thing_at x.1) (all_things xs)

record HasEvent (k : Key) (t : Thing) (xs : List (Key × Event)) : Type 0 where
  event : Event
  there : In {X = Key × Event} (k, event) xs
  is : thing_at event ≡ Some t

later : (k : Key) (t : Thing) (x : Key × Event) (xs : List (Key × Event)) → HasEvent k t xs → HasEvent k t (x ∷ xs)
later k t x xs h = record { event = h.event; there = inr h.there; is = h.is }

in_with : (k l : Key) (t : Thing) (e : Event) (xs : List (Key × Event)) (o : Option Thing) → thing_at e ≡ o → (In {X = Key × Thing} (k, t) (all_things xs) → HasEvent k t xs)
    → In {X = Key × Thing} (k, t) (with_thing l o (all_things xs)) → HasEvent k t ((l, e) ∷ xs)
in_with k l t e xs None q f m = later k t (l, e) xs (f m)
in_with k l t e xs (Some u) q f (inl s) = record {
  event = e;
  there = inl (ap (λ (x : Key × Thing). (x.0, e)) s);
  is = q ∙ ap (λ (x : Key × Thing). Some x.1) (sym s);
}
in_with k l t e xs (Some u) q f (inr m) = later k t (l, e) xs (f m)

in_things : (k : Key) (t : Thing) (xs : List (Key × Event)) → In {X = Key × Thing} (k, t) (all_things xs) → HasEvent k t xs
in_things k t [] m = absurd m
in_things k t ((l, e) ∷ xs) m = in_with k l t e xs (thing_at e) refl (in_things k t xs) m

first_with : (k l : Key) (t : Thing) (o : Option Thing) (rest : List (Key × Thing)) → k ≡ l → o ≡ Some t → In {X = Key × Thing} (k, t) (with_thing l o rest)
first_with k l t o rest s q = subst (λ (z : Option Thing). In {X = Key × Thing} (k, t) (with_thing l z rest)) (sym q) (inl (ap (λ (j : Key). (j, t)) s))

rest_with : (k l : Key) (t : Thing) (o : Option Thing) (rest : List (Key × Thing)) → In {X = Key × Thing} (k, t) rest → In {X = Key × Thing} (k, t) (with_thing l o rest)
rest_with k l t None rest m = m
rest_with k l t (Some u) rest m = inr m

things_in : (k : Key) (e : Event) (t : Thing) (xs : List (Key × Event)) → In {X = Key × Event} (k, e) xs → thing_at e ≡ Some t → In {X = Key × Thing} (k, t) (all_things xs)
things_in k e t [] m h = absurd m
things_in k e t ((l, f) ∷ xs) (inl s) h = first_with k l t (thing_at f) (all_things xs) (ap (λ (x : Key × Event). x.0) s) (ap (λ (x : Key × Event). thing_at x.1) (sym s) ∙ h)
things_in k e t ((l, f) ∷ xs) (inr m) h = rest_with k l t (thing_at f) (all_things xs) (things_in k e t xs m h)

sorted_with : (l : Key) (e : Event) (xs : List (Key × Event)) (o : Option Thing) → Sorted ((l, e) ∷ xs) → Sorted (all_things xs) → Sorted (with_thing l o (all_things xs))
sorted_with l e xs None s r = r
sorted_with l e xs (Some u) s r = (λ k t m. let h = in_things k t xs m in s.0 k h.event h.there, r)

sorted_things : (xs : List (Key × Event)) → Sorted xs → Sorted (all_things xs)
sorted_things [] s = tt
sorted_things ((l, e) ∷ xs) s = sorted_with l e xs (thing_at e) s (sorted_things xs s.1)

no_ok : (f : Fault) (g : Walked → Result Walked Fault) (n : Walked) → on_ok (Err f) g ≡ Ok n → ⊥
no_ok f g n h = cc

pub no_fault : (S : Family) (n : Walked) → Went step S nothing n → Fine S
no_fault S n v k q r s =
    let at : Splits {X = Key × Event} (k, Fails q r) v.entries = split {X = Key × Event} (k, Fails q r) v.entries (v.lists.each k (Fails q r) s) in
    let both : Halves step at.front ((k, Fails q r) ∷ at.rest) nothing n = halves step at.front ((k, Fails q r) ∷ at.rest) nothing n (subst (λ (zs : List (Key × Event)). goes step nothing zs ≡ Ok n) at.are v.goes) in
    no_ok (q, r) (λ m. goes step m at.rest) n both.second

pub all_there : (w : Model) → Fine (InModel w) → (xs : List (Key × Event)) → Lists (InModel w) xs → Lists (IsThing w [] (the_root w)) (all_things xs)
all_there w f xs l = record {
  each = λ k t s. let b = of_thing w start (the_root w) f k t s in things_in k b.event t xs (l.each k b.event b.there) (brings_some b.event t b.brings);
  only = λ k t m. let h = in_things k t xs m in to_thing w start (the_root w) k h.event t (l.only k h.event h.there) (some_brings h.event t h.is);
  sorted = sorted_things xs l.sorted;
}
