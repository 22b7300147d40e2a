-- What stands in an instance of a declared block, where no station fails, stands in the model.
use Rattle.std.proofs.Common.{◌≡◌, ◌<◌, ℕ, Bool, true, false, cond, List, [], ◌∷◌, ◌++◌, refl, sym, ap, ◌∙◌, subst, append_assoc, Result, Ok, Err, Option, Some, None}
use Rattle.std.specs.List.{slice_get}
use Rattle.cdl_source.specs.declared.rules.TheConstants.{CONTAINS_ITSELF, FINAL_MODIFIED, PARAMETER_OUT_OF_CONDITION}
use Rattle.cdl_values.specs.declared.value.Array.{Array}
use Rattle.cdl_values.specs.declared.value.Value.{Value}
use Rattle.cdl_values.specs.declared.value.ValueType.{ValueType}
use Rattle.cdl_values.specs.Values.{items_of as size_of}
use Rattle.cdl_array.specs.Outcomes.{Outcome, then_to}
use Rattle.cdl_kinds.specs.declared.kind.Kind.{Kind}
use Rattle.cdl_kinds.specs.Table.{Group, ParameterRow, row}
use Rattle.cdl_kinds.specs.Ports.{nin_or_nout}
use Rattle.cdl_tree.specs.declared.class.Item.{Item}
use Rattle.cdl_scopes.specs.Classes.{declared}
use Rattle.cdl_scopes.specs.Lookup.{item_name}
use Rattle.cdl_classes.specs.declared.found.ClassId.{ClassId}
use Rattle.cdl_paths.specs.declared.path.Step.{Step}
use Rattle.cdl_params.specs.Kept.{Model}
use Rattle.cdl_stations.specs.Keys.{Key}
use Rattle.cdl_stations.specs.Runs.{on_ok}
use Rattle.cdl_items.specs.declared.role.Part.{Part}
use Rattle.cdl_items.specs.declared.role.Part.TheVariants as part
use Rattle.cdl_items.specs.declared.role.Role.{Role}
use Rattle.cdl_items.specs.declared.role.Role.TheVariants as role
use Rattle.cdl_walk.specs.declared.walked.KindInstance.{KindInstance}
use Rattle.cdl_walk.specs.declared.walked.Point.{Point}
use Rattle.cdl_items.specs.Roles.{items_of, role_of}
use Rattle.cdl_walk.specs.Worth.{value, dims, present, unit}
use Rattle.cdl_items.specs.Finals.{a_unit, a_value, modifies_final, unit_is_final}
use Rattle.cdl_walk.specs.Faults.{Fault, named, at}
use Rattle.cdl_walk.specs.Places.{Here, entered, inside}
use Rattle.cdl_walk.specs.Elements.{points, port_sizes, indices_at, is_real}
use Rattle.cdl_walk.specs.Events.{Event, Fails}
use Rattle.cdl_walk.specs.Stations.{unless_rule, unless, items_in, units, connector_station, component_station, no_element, parameter_station, parameter_stations, conditions_station, port_station, port_stations, ports, the_kind, block_station, stands, adds, skips, item_event, ForItem, ForPart, ForElement, InKind, InBlock, InItem}
use Rattle.cdl_walk.specs.Instances.{Thing, Block, Elementary, Elements, elements, plain_units, connector_elements, values, ports_from, ports_of, IsWorth, IsOfKind, IsPart, IsElement, IsInRole, IsAtItem, IsThing, IsInItem}

-- ---- what stations are worth, without their rules

module _ {A : Type 0} where
  unless_ok : (b : Bool) (r : ℕ) (o : Outcome A) (a : A) → unless b r o ≡ Ok a → o ≡ Ok a
  unless_ok true r o a h = cc
  unless_ok false r o a h = h

  at_ok : (p : List Step) (o : Outcome A) (a : A) → at p o ≡ Ok a → o ≡ Ok a
  at_ok p (Ok b) a h = cc
  at_ok p (Err r) a h = cc

  worth_this : (o : Outcome A) (a : A) (P : A → Type 0) → o ≡ Ok a → P a → IsWorth o P
  worth_this o a P e p = subst (λ (z : Outcome A). IsWorth z P) (sym e) p

component_chosen : (o : Outcome Bool) (z : Outcome (List ℕ)) (b : Bool) (r : ℕ) (x : Option ℕ) (n : List ℕ)
    → then_to o (λ there. cond there (then_to z (λ sizes. unless b r (unless_rule x (Ok sizes)))) no_element) ≡ Ok n → then_to o (λ there. cond there z no_element) ≡ Ok n
component_chosen (Err q) z b r x n h = cc
component_chosen (Ok false) z b r x n h = h
component_chosen (Ok true) (Err q) b r x n h = cc
component_chosen (Ok true) (Ok s) true r x n h = cc
component_chosen (Ok true) (Ok s) false r (Some q) n h = cc
component_chosen (Ok true) (Ok s) false r None n h = h

component_plain : (w : Model) (h : Here) (item : Item) (p : Part) (n : List ℕ) → component_station w h item p ≡ Ok n → elements w h.steps item ≡ Ok n
component_plain w h item p n e = component_chosen (present w h.steps item) (dims w h.steps item) _ CONTAINS_ITSELF _ n e

units_chosen : (b m : Bool) (r : ℕ) (o : Outcome (List Value)) (us : List Value) → cond b (unless m r o) (Ok []) ≡ Ok us → cond b o (Ok []) ≡ Ok us
units_chosen true m r o us h = unless_ok m r o us h
units_chosen false m r o us h = h

units_plain : (w : Model) (h : Here) (x : List ℕ) (t : ValueType) (fin : Bool) (us : List Value) → units w h x t fin ≡ Ok us → plain_units w h.steps x t ≡ Ok us
units_plain w h x t fin us e = units_chosen (is_real t) (modifies_final h.components (a_unit x) fin) FINAL_MODIFIED (then_to (unit w h.steps x) items_in) us e

connector_chosen : (o : Outcome Bool) (z : Outcome (List ℕ)) (x : Option ℕ) (u v : Outcome (List Value)) (f : List ℕ → List Value → List Point) (ps : List Point) → ((us : List Value) → u ≡ Ok us → v ≡ Ok us)
    → then_to o (λ there. then_to z (λ sizes. unless_rule x (cond there (then_to u (λ us. Ok (f sizes us))) (Ok [])))) ≡ Ok ps
    → then_to o (λ there. cond there (then_to z (λ sizes. then_to v (λ us. Ok (f sizes us)))) (Ok [])) ≡ Ok ps
connector_chosen (Err r) z x u v f ps g h = cc
connector_chosen (Ok b) (Err r) x u v f ps g h = cc
connector_chosen (Ok b) (Ok sizes) (Some r) u v f ps g h = cc
connector_chosen (Ok true) (Ok sizes) None (Err r) v f ps g h = cc
connector_chosen (Ok true) (Ok sizes) None (Ok us) v f ps g h = subst (λ (y : Outcome (List Value)). then_to y (λ us. Ok (f sizes us)) ≡ Ok ps) (sym (g us refl)) h
connector_chosen (Ok false) (Ok sizes) None u v f ps g h = h

connector_plain : (w : Model) (h : Here) (item : Item) (t : ValueType) (input : Bool) (ps : List Point) → connector_station w h item t input ≡ Ok ps → connector_elements w h.steps item t input ≡ Ok ps
connector_plain w h item t input ps e = connector_chosen (present w h.steps item) (dims w h.steps item) _ (units w h (item_name item) t (unit_is_final item)) (plain_units w h.steps (item_name item) t)
    (λ sizes us. points (item_name item) t input sizes us) ps (units_plain w h (item_name item) t (unit_is_final item)) e

parameter_plain : (w : Model) (h : Here) (x : List ℕ) (a : Array) → parameter_station w h x ≡ Ok a → value w h.steps x ≡ Ok a
parameter_plain w h x a e = unless_ok (modifies_final h.components (a_value x) false) FINAL_MODIFIED (value w h.steps x) a (at_ok (named h.steps x) _ a e)

values_next : (o : Result Array Fault) (o' : Outcome Array) (s : Result (List Array) Fault) (s' : Outcome (List Array)) (v : List Array) → ((a : Array) → o ≡ Ok a → o' ≡ Ok a) → ((vs : List Array) → s ≡ Ok vs → s' ≡ Ok vs)
    → on_ok o (λ a. on_ok s (λ vs. Ok (a ∷ vs))) ≡ Ok v → then_to o' (λ a. then_to s' (λ vs. Ok (a ∷ vs))) ≡ Ok v
values_next (Err q) o' s s' v f g h = cc
values_next (Ok a) o' (Err q) s' v f g h = cc
values_next (Ok a) o' (Ok vs) s' v f g h = let same : a ∷ vs ≡ v = cc in rw (f a refl, g vs refl) (ap Ok same)

values_plain : (w : Model) (h : Here) (rs : List ParameterRow) (v : List Array) → parameter_stations w h rs ≡ Ok v → values w h.steps rs ≡ Ok v
values_plain w h [] v e = let same : [] ≡ v = cc in ap Ok same
values_plain w h (r ∷ rs) v e = values_next (parameter_station w h r.name) (value w h.steps r.name) (parameter_stations w h rs) (values w h.steps rs) v (parameter_plain w h r.name) (values_plain w h rs) e

module _ {A : Type 0} where
  points_next : (o : Result A Fault) (o' : Outcome A) (s : Result (List Point) Fault) (s' : Outcome (List Point)) (f : A → List Point) (ps : List Point) → ((a : A) → o ≡ Ok a → o' ≡ Ok a)
      → ((qs : List Point) → s ≡ Ok qs → s' ≡ Ok qs) → on_ok o (λ a. on_ok s (λ qs. Ok (f a ++ qs))) ≡ Ok ps → then_to o' (λ a. then_to s' (λ qs. Ok (f a ++ qs))) ≡ Ok ps
  points_next (Err q) o' s s' f ps g k h = cc
  points_next (Ok a) o' (Err q) s' f ps g k h = cc
  points_next (Ok a) o' (Ok qs) s' f ps g k h = let same : f a ++ qs ≡ ps = cc in rw (g a refl, k qs refl) (ap Ok same)

port_plain : (w : Model) (h : Here) (g : Group) (us : List Value) → port_station w h g ≡ Ok us → plain_units w h.steps g.name g.value_type ≡ Ok us
port_plain w h g us e = units_plain w h g.name g.value_type false us (at_ok (named h.steps g.name) _ us e)

ports_plain_from : (w : Model) (h : Here) (n : ℕ) (input : Bool) (gs : List Group) (ps : List Point) → port_stations w h n input gs ≡ Ok ps → ports_from w h.steps n input gs ≡ Ok ps
ports_plain_from w h n input [] ps e = let same : [] ≡ ps = cc in ap Ok same
ports_plain_from w h n input (g ∷ gs) ps e = points_next (port_station w h g) (plain_units w h.steps g.name g.value_type) (port_stations w h n input gs) (ports_from w h.steps n input gs)
    (λ us. points g.name g.value_type input (port_sizes n g) us) ps (port_plain w h g) (ports_plain_from w h n input gs) e

ports_plain : (w : Model) (h : Here) (k : Kind) (v : List Array) (ps : List Point) → ports w h k v ≡ Ok ps → ports_of w h.steps k v ≡ Ok ps
ports_plain w h k v ps e = points_next (port_stations w h (nin_or_nout v) true (row k).ins) (ports_from w h.steps (nin_or_nout v) true (row k).ins)
    (port_stations w h (nin_or_nout v) false (row k).outs) (ports_from w h.steps (nin_or_nout v) false (row k).outs) (λ ins. ins) ps
    (ports_plain_from w h (nin_or_nout v) true (row k).ins) (ports_plain_from w h (nin_or_nout v) false (row k).outs) e

abbrev this : List Array → Outcome (List Array)
this v = Ok v

conditions_same : (h : Here) (k : Kind) (v u : List Array) → conditions_station h k v ≡ Ok u → v ≡ u
conditions_same h k v u e = let kept : this v ≡ this u = unless_ok _ PARAMETER_OUT_OF_CONDITION (Ok v) u (at_ok h.steps _ u e) in cc

abbrev failed : Fault → Result KindInstance Fault
failed f = Err f

no_ok : (f : Fault) (x : KindInstance) → failed f ≡ Ok x → ⊥
no_ok f x e = cc

-- what an instance of a kind is
pub record Known (w : Model) (p : List Step) (k : Kind) : Type 0 where
  pub params : List Array
  pub points : List Point
  pub values : values w p (row k).parameters ≡ Ok params
  pub ports : ports_of w p k params ≡ Ok points

block_last : (w : Model) (h : Here) (k : Kind) (u : List Array) (r : Result (List Point) Fault) (x : KindInstance) → ports w h k u ≡ r → values w h.steps (row k).parameters ≡ Ok u → on_ok r (λ ps. Ok (the_kind u ps)) ≡ Ok x → Known w h.steps k
block_last w h k u (Err f) x e v i = absurd (no_ok f x i)
block_last w h k u (Ok ps) x e v i = record { params = u; points = ps; values = v; ports = ports_plain w h k u ps e }

block_middle : (w : Model) (h : Here) (k : Kind) (v : List Array) (s : Result (List Array) Fault) (x : KindInstance) → conditions_station h k v ≡ s → values w h.steps (row k).parameters ≡ Ok v
    → on_ok s (λ u. on_ok (ports w h k u) (λ ps. Ok (the_kind u ps))) ≡ Ok x → Known w h.steps k
block_middle w h k v (Err f) x e i j = absurd (no_ok f x j)
block_middle w h k v (Ok u) x e i j = block_last w h k u (ports w h k u) x refl (i ∙ ap Ok (conditions_same h k v u e)) j

block_known : (w : Model) (h : Here) (k : Kind) (o : Result (List Array) Fault) (x : KindInstance) → parameter_stations w h (row k).parameters ≡ o
    → on_ok o (λ v. on_ok (conditions_station h k v) (λ u. on_ok (ports w h k u) (λ ps. Ok (the_kind u ps)))) ≡ Ok x → Known w h.steps k
block_known w h k (Err f) x e j = absurd (no_ok f x j)
block_known w h k (Ok v) x e j = block_middle w h k v (conditions_station h k v) x refl (values_plain w h (row k).parameters v e) j

-- ---- where no station fails

abbrev pub Family : Type 1
Family = Key → Event → Type 0

abbrev pub Fine : Family → Type 0
Fine S = (k : Key) (q : List Step) (r : ℕ) → S k (Fails q r) → ⊥

skips_fine : {A : Type 0} (q : List Step) (o : Outcome A) → ((p : List Step) (r : ℕ) → Fails p r ≡ skips q o → ⊥) → (a : A) × (o ≡ Ok a)
skips_fine q (Ok a) f = (a, refl)
skips_fine q (Err r) f = absurd (f q r refl)

adds_fine : (q d : List Step) (o : Outcome (List Point)) → ((p : List Step) (r : ℕ) → Fails p r ≡ adds q d o → ⊥) → (ps : List Point) × (o ≡ Ok ps)
adds_fine q d (Ok ps) f = (ps, refl)
adds_fine q d (Err r) f = absurd (f q r refl)

stands_fine : (h : Here) (k : Kind) (o : Result KindInstance Fault) → ((p : List Step) (r : ℕ) → Fails p r ≡ stands h k o → ⊥) → (x : KindInstance) × (o ≡ Ok x)
stands_fine h k (Ok x) f = (x, refl)
stands_fine h k (Err g) f = absurd (f g.0 g.1 refl)

kind_known : (w : Model) (h : Here) (k : Kind) → Fine (InKind w h k) → Known w h.steps k
kind_known w h k f =
    let fine : (x : KindInstance) × (block_station w h k ≡ Ok x) = stands_fine h k (block_station w h k) (λ p r e. f (0 ∷ []) p r (refl, e)) in
    block_known w h k (parameter_stations w h (row k).parameters) fine.0 refl fine.1

-- ---- instances of declared blocks

-- an instance of a declared block within another: no station in it fails, and what stands in it stands in the other
pub record Inner (w : Model) (h : Here) (c : ClassId) (p : List Step) (d : ClassId) : Type 0 where
  pub here : Here
  pub steps : here.steps ≡ p
  pub fine : Fine (InBlock w here d)
  pub key : Key
  pub within : (l : Key) (t : Thing) → IsThing w p d l t → IsThing w h.steps c (key ++ l) t

block_same : (p q : List Step) (c d : ClassId) → Block p d ≡ Block q c → (q ≡ p) × (c ≡ d)
block_same p q c d e = (cc, cc)

not_elements : (p q : List Step) (d : ClassId) (ps : List Point) → Block p d ≡ Elements q ps → ⊥
not_elements p q d ps e = cc

not_kind : (p q : List Step) (d : ClassId) (k : Kind) (v : List Array) (ps : List Point) → Block p d ≡ Elementary q k v ps → ⊥
not_kind p q d k v ps e = cc

worth_none : {A : Type 0} (o : Outcome A) (P : A → Type 0) → ((a : A) → P a → ⊥) → IsWorth o P → ⊥
worth_none (Ok a) P f h = f a h
worth_none (Err r) P f h = h

no_block_of_kind : (w : Model) (q : List Step) (k : Kind) (l : Key) (p : List Step) (d : ClassId) → IsOfKind w q k l (Block p d) → ⊥
no_block_of_kind w q k [] p d s = s
no_block_of_kind w q k (i ∷ []) p d s = worth_none (values w q (row k).parameters) (λ v. IsWorth (ports_of w q k v) (λ ps. Block p d ≡ Elementary q k v ps))
    (λ v. worth_none (ports_of w q k v) (λ ps. Block p d ≡ Elementary q k v ps) (λ ps. not_kind p q d k v ps)) s.1
no_block_of_kind w q k (i ∷ j ∷ l) p d s = s

no_block_at_item : (w : Model) (q : List Step) (x : Item) (r : Role) (p : List Step) (d : ClassId) → IsAtItem w q x r (Block p d) → ⊥
no_block_at_item w q x role.Value p d s = s
no_block_at_item w q x (role.Connector t input) p d s = worth_none (connector_elements w q x t input) (λ ps. Block p d ≡ Elements q ps) (λ ps. not_elements p q d ps) s
no_block_at_item w q x (role.Component z) p d s = s
no_block_at_item w q x role.Other p d s = s

abbrev Recursion : Model → Key → List Step → ClassId → Type 0
Recursion w k p d = (g : Here) (b : ClassId) → Fine (InBlock w g b) → IsThing w g.steps b k (Block p d) → Inner w g b p d

-- the element of this number of a component
module _ (w : Model) (h : Here) (c : ClassId) (i : ℕ) (x : Item) (is : slice_get (items_of (declared w.files) c.index) i ≡ Some x) (q : Part) (role_is : role_of (declared w.files) c.index i x ≡ role.Component q) (f : Fine (InBlock w h c)) where
  item_fine : Fine (InItem w (inside h c) x (role.Component q))
  item_fine l p r e = f (i ∷ l) p r (subst (λ (o : Option Item). ForItem w c i o (λ y s. InItem w (inside h c) y s l (Fails p r))) (sym is) (subst (λ (s : Role). InItem w (inside h c) x s l (Fails p r)) (sym role_is) e))

  station : (ms : List ℕ) × (component_station w (inside h c) x q ≡ Ok ms)
  station = skips_fine (named h.steps (item_name x)) (component_station w (inside h c) x q) (λ p r e. item_fine [] p r e)

  pub component_is : (ms : List ℕ) → elements w h.steps x ≡ Ok ms → component_station w (inside h c) x q ≡ Ok ms
  component_is ms e = let plain : elements w h.steps x ≡ Ok station.0 = component_plain w (inside h c) x q station.0 station.1 in let same : station.0 ≡ ms = cc in station.1 ∙ ap Ok same

  pub element_fine : (ms : List ℕ) (n : ℕ) → elements w h.steps x ≡ Ok ms → n < size_of ms
      → (l : Key) (p : List Step) (r : ℕ) → ForPart (entered (inside h c) x (indices_at ms n)) q (λ g b. InBlock w g b l (Fails p r)) (λ g k. InKind w g k l (Fails p r)) → ⊥
  element_fine ms n e lt l p r s = item_fine (n ∷ l) p r
      (subst (λ (o : Outcome (List ℕ)). ForElement o (inside h c) x q n (λ g b. InBlock w g b l (Fails p r)) (λ g k. InKind w g k l (Fails p r))) (sym (component_is ms e)) (lt, s))

  -- what stands in that element
  pub element_within : (ms : List ℕ) (n : ℕ) → elements w h.steps x ≡ Ok ms → n < size_of ms → (l : Key) (t : Thing)
      → IsPart q (h.steps ++ (record { name = item_name x; indices = indices_at ms n }) ∷ []) (λ z b. IsThing w z b l t) (λ z k. IsOfKind w z k l t) → IsThing w h.steps c (i ∷ n ∷ l) t
  element_within ms n e lt l t s = subst (λ (o : Option Item). ForItem w c i o (λ y r. IsInItem w h.steps y r (n ∷ l) t)) (sym is)
      (subst (λ (r : Role). IsInItem w h.steps x r (n ∷ l) t) (sym role_is)
      (subst (λ (o : Outcome (List ℕ)). IsElement o h.steps x q n (λ z b. IsThing w z b l t) (λ z k. IsOfKind w z k l t)) (sym e) (lt, s)))

-- the element of this number, where it is of a declared block
pub inner_block : (w : Model) (h : Here) (c : ClassId) (i : ℕ) (x : Item) (b : ClassId) (ms : List ℕ) (n : ℕ) → slice_get (items_of (declared w.files) c.index) i ≡ Some x → role_of (declared w.files) c.index i x ≡ role.Component (part.Block b)
    → Fine (InBlock w h c) → elements w h.steps x ≡ Ok ms → n < size_of ms → Inner w h c (h.steps ++ (record { name = item_name x; indices = indices_at ms n }) ∷ []) b
inner_block w h c i x b ms n is r f e lt = record {
  here = entered (inside h c) x (indices_at ms n);
  steps = refl;
  fine = λ l p q s. element_fine w h c i x is (part.Block b) r f ms n e lt l p q s;
  key = i ∷ n ∷ [];
  within = λ l t s. element_within w h c i x is (part.Block b) r f ms n e lt l t s;
}

pub through : (w : Model) (h g : Here) (c b : ClassId) (p q : List Step) (d : ClassId) → (a : Inner w h c p b) → a.here ≡ g → (z : Inner w g b q d) → Inner w h c q d
through w h g c b p q d a s z = record {
  here = z.here;
  steps = z.steps;
  fine = z.fine;
  key = a.key ++ z.key;
  within = λ l t i. subst (λ (k : Key). IsThing w h.steps c k t) (sym (append_assoc a.key z.key l))
      (a.within (z.key ++ l) t (subst (λ (y : List Step). IsThing w y b (z.key ++ l) t) (ap (λ (y : Here). y.steps) (sym s) ∙ a.steps) (z.within l t i)));
}

-- ---- every instance of a declared block is reached

reach_part : (w : Model) (h : Here) (c : ClassId) (i : ℕ) (x : Item) (n : ℕ) (k : Key) (p : List Step) (d : ClassId) (q : Part) (ms : List ℕ) → Recursion w k p d
    → slice_get (items_of (declared w.files) c.index) i ≡ Some x → role_of (declared w.files) c.index i x ≡ role.Component q → Fine (InBlock w h c) → elements w h.steps x ≡ Ok ms → n < size_of ms
    → IsPart q (h.steps ++ (record { name = item_name x; indices = indices_at ms n }) ∷ []) (λ z b. IsThing w z b k (Block p d)) (λ z kind. IsOfKind w z kind k (Block p d)) → Inner w h c p d
reach_part w h c i x n k p d (part.Kind kind) ms rec is r f e lt s = absurd (no_block_of_kind w (h.steps ++ (record { name = item_name x; indices = indices_at ms n }) ∷ []) kind k p d s)
reach_part w h c i x n k p d (part.Block b) ms rec is r f e lt s =
    let a : Inner w h c (h.steps ++ (record { name = item_name x; indices = indices_at ms n }) ∷ []) b = inner_block w h c i x b ms n is r f e lt in
    through w h a.here c b (h.steps ++ (record { name = item_name x; indices = indices_at ms n }) ∷ []) p d a refl
    (rec a.here b a.fine (subst (λ (z : List Step). IsThing w z b k (Block p d)) (sym a.steps) s))

reach_element : (w : Model) (h : Here) (c : ClassId) (i : ℕ) (x : Item) (n : ℕ) (k : Key) (p : List Step) (d : ClassId) (q : Part) (o : Outcome (List ℕ)) → Recursion w k p d
    → slice_get (items_of (declared w.files) c.index) i ≡ Some x → role_of (declared w.files) c.index i x ≡ role.Component q → Fine (InBlock w h c) → elements w h.steps x ≡ o
    → IsElement o h.steps x q n (λ z b. IsThing w z b k (Block p d)) (λ z kind. IsOfKind w z kind k (Block p d)) → Inner w h c p d
reach_element w h c i x n k p d q (Err r) rec is g f e s = absurd s
reach_element w h c i x n k p d q (Ok ms) rec is g f e s = reach_part w h c i x n k p d q ms rec is g f e s.0 s.1

reach_role : (w : Model) (h : Here) (c : ClassId) (i : ℕ) (x : Item) (n : ℕ) (k : Key) (p : List Step) (d : ClassId) (r : Role) → Recursion w k p d
    → slice_get (items_of (declared w.files) c.index) i ≡ Some x → role_of (declared w.files) c.index i x ≡ r → Fine (InBlock w h c)
    → IsInRole w h.steps x r n (λ z b. IsThing w z b k (Block p d)) (λ z kind. IsOfKind w z kind k (Block p d)) → Inner w h c p d
reach_role w h c i x n k p d role.Value rec is g f s = absurd s
reach_role w h c i x n k p d (role.Connector t input) rec is g f s = absurd s
reach_role w h c i x n k p d (role.Component q) rec is g f s = reach_element w h c i x n k p d q (elements w h.steps x) rec is g f refl s
reach_role w h c i x n k p d role.Other rec is g f s = absurd s

reach_some : (w : Model) (h : Here) (c : ClassId) (i : ℕ) (o : Option Item) (n : ℕ) (k : Key) (p : List Step) (d : ClassId) → Recursion w k p d → slice_get (items_of (declared w.files) c.index) i ≡ o → Fine (InBlock w h c)
    → ForItem w c i o (λ x r. IsInItem w h.steps x r (n ∷ k) (Block p d)) → Inner w h c p d
reach_some w h c i None n k p d rec is f s = absurd s
reach_some w h c i (Some x) n k p d rec is f s = reach_role w h c i x n k p d (role_of (declared w.files) c.index i x) rec is refl f s

no_item : (w : Model) (q : List Step) (c : ClassId) (i : ℕ) (o : Option Item) (p : List Step) (d : ClassId) → ForItem w c i o (λ x r. IsAtItem w q x r (Block p d)) → ⊥
no_item w q c i None p d s = s
no_item w q c i (Some x) p d s = no_block_at_item w q x (role_of (declared w.files) c.index i x) p d s

pub reach : (w : Model) (h : Here) (c : ClassId) → Fine (InBlock w h c) → (k : Key) (p : List Step) (d : ClassId) → IsThing w h.steps c k (Block p d) → Inner w h c p d
reach w h c f [] p d s = let e : (h.steps ≡ p) × (c ≡ d) = block_same p h.steps c d s in record {
  here = h;
  steps = e.0;
  fine = subst (λ (b : ClassId). Fine (InBlock w h b)) e.1 f;
  key = [];
  within = λ l t i. subst (λ (z : List Step). IsThing w z c l t) (sym e.0) (subst (λ (b : ClassId). IsThing w p b l t) (sym e.1) i);
}
reach w h c f (i ∷ []) p d s = absurd (no_item w h.steps c i (slice_get (items_of (declared w.files) c.index) i) p d s)
reach w h c f (i ∷ n ∷ k) p d s = reach_some w h c i (slice_get (items_of (declared w.files) c.index) i) n k p d (λ g b y z. reach w g b y k p d z) refl f s

-- ---- what stands in it

abbrev truth : Bool → Outcome Bool
truth b = Ok b

no_truth : (r : ℕ) → Err r ≡ truth true → ⊥
no_truth r e = cc

no_false : truth false ≡ truth true → ⊥
no_false e = cc

abbrev sized : List ℕ → Outcome (List ℕ)
sized ns = Ok ns

no_sizes : (r : ℕ) (ns : List ℕ) → Err r ≡ sized ns → ⊥
no_sizes r ns e = cc

abbrev some_points : List Point → Outcome (List Point)
some_points ps = Ok ps

no_points : (r : ℕ) (ps : List Point) → Err r ≡ some_points ps → ⊥
no_points r ps e = cc

units_found : (o : Outcome Bool) (z : Outcome (List ℕ)) (u : Outcome (List Value)) (f : List ℕ → List Value → List Point) (ps : List Point) (ns : List ℕ) → o ≡ Ok true → z ≡ Ok ns
    → then_to o (λ there. cond there (then_to z (λ sizes. then_to u (λ us. Ok (f sizes us)))) (Ok [])) ≡ Ok ps → (us : List Value) × (ps ≡ f ns us)
units_found (Err r) z u f ps ns a b h = absurd (no_truth r a)
units_found (Ok false) z u f ps ns a b h = absurd (no_false a)
units_found (Ok true) (Err r) u f ps ns a b h = absurd (no_sizes r ns b)
units_found (Ok true) (Ok ms) (Err r) f ps ns a b h = absurd (no_points r ps h)
units_found (Ok true) (Ok ms) (Ok us) f ps ns a b h = let same : ms ≡ ns = cc in let made : f ms us ≡ ps = cc in (us, sym made ∙ ap (λ (z : List ℕ). f z us) same)

-- the elements of a connector that is there
pub connector_stands : (w : Model) (h : Here) (c : ClassId) (p : List Step) (d : ClassId) (a : Inner w h c p d) (i : ℕ) (x : Item) (t : ValueType) (input : Bool) (ns : List ℕ)
    → slice_get (items_of (declared w.files) d.index) i ≡ Some x → role_of (declared w.files) d.index i x ≡ role.Connector t input → present w p x ≡ Ok true → dims w p x ≡ Ok ns
    → (us : List Value) × (k : Key) × IsThing w h.steps c k (Elements p (points (item_name x) t input ns us))
connector_stands w h c p d a i x t input ns is r there sized =
    let fine : (q : List Step) (n : ℕ) → Fails q n ≡ item_event w (inside a.here d) x (role.Connector t input) → ⊥ =
    λ q n e. a.fine (i ∷ []) q n (subst (λ (o : Option Item). ForItem w d i o (λ y s. InItem w (inside a.here d) y s [] (Fails q n))) (sym is) (subst (λ (s : Role). InItem w (inside a.here d) x s [] (Fails q n)) (sym r) e)) in
    let worth : (ps : List Point) × (connector_station w (inside a.here d) x t input ≡ Ok ps) = adds_fine (named a.here.steps (item_name x)) a.here.steps (connector_station w (inside a.here d) x t input) fine in
    let plain : connector_elements w p x t input ≡ Ok worth.0 = subst (λ (z : List Step). connector_elements w z x t input ≡ Ok worth.0) a.steps (connector_plain w (inside a.here d) x t input worth.0 worth.1) in
    let some : (us : List Value) × (worth.0 ≡ points (item_name x) t input ns us) =
    units_found (present w p x) (dims w p x) (plain_units w p (item_name x) t) (λ sizes us. points (item_name x) t input sizes us) worth.0 ns there sized plain in (
      some.0,
      a.key ++ i ∷ [],
      a.within (i ∷ []) (Elements p (points (item_name x) t input ns some.0))
          (subst (λ (o : Option Item). ForItem w d i o (λ y s. IsInItem w p y s [] (Elements p (points (item_name x) t input ns some.0)))) (sym is)
          (subst (λ (s : Role). IsAtItem w p x s (Elements p (points (item_name x) t input ns some.0))) (sym r)
          (worth_this (connector_elements w p x t input) worth.0 (λ ps. Elements p (points (item_name x) t input ns some.0) ≡ Elements p ps) plain (ap (Elements p) (sym some.1))))),
    )

kind_within : (w : Model) (p : List Step) (d : ClassId) (i : ℕ) (x : Item) (kind : Kind) (ms : List ℕ) (n : ℕ) → slice_get (items_of (declared w.files) d.index) i ≡ Some x
    → role_of (declared w.files) d.index i x ≡ role.Component (part.Kind kind) → elements w p x ≡ Ok ms → n < size_of ms → (z : Known w (p ++ (record { name = item_name x; indices = indices_at ms n }) ∷ []) kind)
    → IsThing w p d (i ∷ n ∷ 0 ∷ []) (Elementary (p ++ (record { name = item_name x; indices = indices_at ms n }) ∷ []) kind z.params z.points)
kind_within w p d i x kind ms n is r e lt z =
    let child : List Step = p ++ (record { name = item_name x; indices = indices_at ms n }) ∷ [] in
    let t : Thing = Elementary child kind z.params z.points in
    let of_kind : IsOfKind w child kind (0 ∷ []) t = (
      refl,
      worth_this (values w child (row kind).parameters) z.params (λ v. IsWorth (ports_of w child kind v) (λ ps. t ≡ Elementary child kind v ps)) z.values
          (worth_this (ports_of w child kind z.params) z.points (λ ps. t ≡ Elementary child kind z.params ps) z.ports refl),
    ) in
    subst (λ (o : Option Item). ForItem w d i o (λ y s. IsInItem w p y s (n ∷ 0 ∷ []) t)) (sym is)
    (subst (λ (s : Role). IsInItem w p x s (n ∷ 0 ∷ []) t) (sym r)
    (subst (λ (o : Outcome (List ℕ)). IsElement o p x (part.Kind kind) n (λ q b. IsThing w q b (0 ∷ []) t) (λ q k. IsOfKind w q k (0 ∷ []) t)) (sym e) (lt, of_kind)))

-- the ports of an instance of a kind
pub ports_stand : (w : Model) (h : Here) (c : ClassId) (p : List Step) (d : ClassId) (a : Inner w h c p d) (i : ℕ) (x : Item) (kind : Kind) (ms : List ℕ) (n : ℕ) → slice_get (items_of (declared w.files) d.index) i ≡ Some x
    → role_of (declared w.files) d.index i x ≡ role.Component (part.Kind kind) → elements w p x ≡ Ok ms → n < size_of ms
    → (z : Known w (p ++ (record { name = item_name x; indices = indices_at ms n }) ∷ []) kind) × (k : Key)
    × IsThing w h.steps c k (Elementary (p ++ (record { name = item_name x; indices = indices_at ms n }) ∷ []) kind z.params z.points)
ports_stand w h c p d a i x kind ms n is r e lt =
    let own : elements w a.here.steps x ≡ Ok ms = subst (λ (z : List Step). elements w z x ≡ Ok ms) (sym a.steps) e in
    let fine : Fine (InKind w (entered (inside a.here d) x (indices_at ms n)) kind) = λ l q y v. element_fine w a.here d i x is (part.Kind kind) r a.fine ms n own lt l q y v in
    let known : Known w (p ++ (record { name = item_name x; indices = indices_at ms n }) ∷ []) kind =
    subst (λ (z : List Step). Known w (z ++ (record { name = item_name x; indices = indices_at ms n }) ∷ []) kind) a.steps (kind_known w (entered (inside a.here d) x (indices_at ms n)) kind fine) in
    let child : List Step = p ++ (record { name = item_name x; indices = indices_at ms n }) ∷ [] in
    let stands : IsThing w p d (i ∷ n ∷ 0 ∷ []) (Elementary child kind known.params known.points) = kind_within w p d i x kind ms n is r e lt known in
    (known, a.key ++ i ∷ n ∷ 0 ∷ [], a.within (i ∷ n ∷ 0 ∷ []) (Elementary child kind known.params known.points) stands)
