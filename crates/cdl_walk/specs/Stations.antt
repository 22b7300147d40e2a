-- The stations of the walk.
use Rattle.std.specs.Prelude.{ℕ, ◌<◌, ◌≡◌, ◌==◌, Bool, true, false, not, ◌||◌, cond, nat_le, List, [], ◌∷◌, ◌++◌, length, Option, Some, None, is_some, Result, Ok, Err, slice_get}
use Rattle.cdl_source.specs.declared.limits.TheConstants.{MOST_STEPS}
use Rattle.cdl_source.specs.declared.rules.TheConstants.{TOO_MANY_OR_TOO_DEEP, CONTAINS_ITSELF, FINAL_MODIFIED, PARAMETER_OUT_OF_CONDITION}
use Rattle.cdl_values.specs.declared.value.Array.{Array}
use Rattle.cdl_values.specs.declared.value.Value.{Value}
use Rattle.cdl_values.specs.declared.value.ValueType.{ValueType}
use Rattle.cdl_values.specs.Values.{items_of as size_of}
use Rattle.cdl_array.specs.Outcomes.{Outcome, then_to}
use Rattle.cdl_kinds.specs.declared.kind.Kind.{Kind}
use Rattle.cdl_kinds.specs.Table.{Group, ParameterRow, row}
use Rattle.cdl_kinds.specs.Ports.{nin_or_nout}
use Rattle.cdl_kinds.specs.Conditions.{conditions, first_broken}
use Rattle.cdl_tree.specs.declared.class.Item.{Item}
use Rattle.cdl_scopes.specs.Classes.{declared}
use Rattle.cdl_scopes.specs.Lookup.{item_name}
use Rattle.cdl_classes.specs.declared.found.ClassId.{ClassId}
use Rattle.cdl_paths.specs.declared.path.Step.{Step}
use Rattle.cdl_params.specs.Kept.{Model}
use Rattle.cdl_stations.specs.Keys.{Key}
use Rattle.cdl_stations.specs.Runs.{on_ok}
use Rattle.cdl_items.specs.declared.role.Part.{Part}
use Rattle.cdl_items.specs.declared.role.Part.TheVariants as part
use Rattle.cdl_items.specs.declared.role.Role.{Role}
use Rattle.cdl_items.specs.declared.role.Role.TheVariants as role
use Rattle.cdl_items.specs.declared.arguments.Target.{Target}
use Rattle.cdl_items.specs.declared.arguments.Target.TheVariants as target
use Rattle.cdl_walk.specs.declared.walked.KindInstance.{KindInstance}
use Rattle.cdl_walk.specs.declared.walked.Point.{Point}
use Rattle.cdl_walk.specs.Worth.{value, dims, present, unit}
use Rattle.cdl_walk.specs.Rows.{fit}
use Rattle.cdl_items.specs.Roles.{items_of, role_of}
use Rattle.cdl_items.specs.Arguments.{arguments_rule}
use Rattle.cdl_items.specs.Finals.{a_value, a_unit, modifies_final, value_is_final, unit_is_final}
use Rattle.cdl_walk.specs.Faults.{Fault, named, at}
use Rattle.cdl_walk.specs.Places.{Here, start, entered, inside}
use Rattle.cdl_walk.specs.Elements.{points, port_sizes, indices_at, is_real}
use Rattle.cdl_walk.specs.Events.{Event, Fails, Skips, Opens, Begins, Stands, Adds}

-- a rule that is broken first, or what comes behind
abbrev pub unless_rule : {A : Type 0} → Option ℕ → Outcome A → Outcome A
unless_rule None next = next
unless_rule (Some r) next = Err r

abbrev pub unless : {A : Type 0} → Bool → ℕ → Outcome A → Outcome A
unless test r next = cond test (Err r) next

-- C22 and C23 of the arguments of a declaration
abbrev pub arguments_of : {A : Type 0} → Model → Target → Item → Outcome A → Outcome A
arguments_of w t item next = unless_rule (arguments_rule (declared w.files) t [] item.args) next

-- ---- parameters and connectors

-- a parameter or constant: its arguments, C24, its value
abbrev pub value_station : Model → Here → Item → Outcome Array
value_station w h item = arguments_of w target.Attributes item
    (unless (modifies_final h.components (a_value (item_name item)) (value_is_final item)) FINAL_MODIFIED (value w h.steps (item_name item)))

abbrev pub items_in : Array → Outcome (List Value)
items_in a = Ok a.items

-- C24 of a unit, and then the unit; none where the type isn't Real
abbrev pub units : Model → Here → List ℕ → ValueType → Bool → Outcome (List Value)
units w h name t own_final = cond (is_real t) (unless (modifies_final h.components (a_unit name) own_final) FINAL_MODIFIED (then_to (unit w h.steps name) items_in)) (Ok [])

-- a connector: its condition, its sizes, its arguments, and where it is there its unit and its elements
abbrev pub connector_station : Model → Here → Item → ValueType → Bool → Outcome (List Point)
connector_station w h item t input = then_to (present w h.steps item) (λ there. then_to (dims w h.steps item) (λ sizes. arguments_of w target.Attributes item
    (cond there (then_to (units w h (item_name item) t (unit_is_final item)) (λ us. Ok (points (item_name item) t input sizes us))) (Ok []))))

-- ---- components

abbrev pub is_among : ClassId → List ClassId → Bool
is_among c [] = false
is_among c (d ∷ ds) = d.index == c.index || is_among c ds

abbrev pub is_one_of : Part → List ClassId → Bool
is_one_of (part.Block c) classes = is_among c classes
is_one_of (part.Kind k) classes = false

abbrev pub no_element : Outcome (List ℕ)
no_element = Ok (0 ∷ [])

-- a component: its condition, and no element where it is false; its sizes; C21; its arguments
abbrev pub component_station : Model → Here → Item → Part → Outcome (List ℕ)
component_station w h item p = then_to (present w h.steps item) (λ there. cond there
    (then_to (dims w h.steps item) (λ sizes. unless (is_one_of p h.classes) CONTAINS_ITSELF (arguments_of w (target.Part p) item (Ok sizes))))
    no_element)

-- ---- instances of kinds

-- a parameter at its own place: C24, then its value
abbrev pub parameter_station : Model → Here → List ℕ → Result Array Fault
parameter_station w h name = at (named h.steps name) (unless (modifies_final h.components (a_value name) false) FINAL_MODIFIED (value w h.steps name))

abbrev pub parameter_stations : Model → Here → List ParameterRow → Result (List Array) Fault
parameter_stations w h [] = Ok []
parameter_stations w h (r ∷ rs) = on_ok (parameter_station w h r.name) (λ v. on_ok (parameter_stations w h rs) (λ vs. Ok (v ∷ vs)))

-- C32 at the place of the instance: the values have the types and shapes of the parameters, and break no condition
abbrev pub conditions_station : Here → Kind → List Array → Result (List Array) Fault
conditions_station h k v = at h.steps (unless (not (fit k v) || is_some (first_broken (conditions k v))) PARAMETER_OUT_OF_CONDITION (Ok v))

-- the unit of the ports of a name, at their place
abbrev pub port_station : Model → Here → Group → Result (List Value) Fault
port_station w h g = at (named h.steps g.name) (units w h g.name g.value_type false)

-- the ports of these names, where an array has n
abbrev pub port_stations : Model → Here → ℕ → Bool → List Group → Result (List Point) Fault
port_stations w h n input [] = Ok []
port_stations w h n input (g ∷ gs) = on_ok (port_station w h g) (λ us. on_ok (port_stations w h n input gs) (λ more. Ok (points g.name g.value_type input (port_sizes n g) us ++ more)))

abbrev pub ports : Model → Here → Kind → List Array → Result (List Point) Fault
ports w h k v = on_ok (port_stations w h (nin_or_nout v) true (row k).ins) (λ ins. on_ok (port_stations w h (nin_or_nout v) false (row k).outs) (λ outs. Ok (ins ++ outs)))

-- an instance of a kind: its parameters, C32, the units of its ports
abbrev pub the_kind : List Array → List Point → KindInstance
the_kind v ps = record { params = v; points = ps }

abbrev pub block_station : Model → Here → Kind → Result KindInstance Fault
block_station w h k = on_ok (parameter_stations w h (row k).parameters) (λ v. on_ok (conditions_station h k v) (λ u. on_ok (ports w h k u) (λ ps. Ok (the_kind u ps))))

-- ---- what comes at them

-- an instance has at most 16 steps
abbrev pub opens : Here → ClassId → Event
opens h c = cond (nat_le (length h.steps) MOST_STEPS) (Opens h.steps c) (Fails h.steps TOO_MANY_OR_TOO_DEEP)

abbrev pub begins : Here → Event
begins h = cond (nat_le (length h.steps) MOST_STEPS) (Begins h.steps) (Fails h.steps TOO_MANY_OR_TOO_DEEP)

abbrev pub stands : Here → Kind → Result KindInstance Fault → Event
stands h k (Ok x) = Stands h.steps k x.params x.points
stands h k (Err f) = Fails f.0 f.1

abbrev pub adds : List Step → List Step → Outcome (List Point) → Event
adds p d (Ok points) = Adds p d points
adds p d (Err r) = Fails p r

abbrev pub skips : {A : Type 0} → List Step → Outcome A → Event
skips p (Ok a) = Skips
skips p (Err r) = Fails p r

-- at an item itself
abbrev pub item_event : Model → Here → Item → Role → Event
item_event w h item role.Value = skips (named h.steps (item_name item)) (value_station w h item)
item_event w h item (role.Connector t input) = adds (named h.steps (item_name item)) h.steps (connector_station w h item t input)
item_event w h item (role.Component p) = skips (named h.steps (item_name item)) (component_station w h item p)
item_event w h item role.Other = Skips

-- ---- the stations by their keys

-- what holds of the item of that number in a declared block, and of its role
abbrev pub ForItem : Model → ClassId → ℕ → Option Item → (Item → Role → Type 0) → Type 0
ForItem w c i None P = ⊥
ForItem w c i (Some item) P = P item (role_of (declared w.files) c.index i item)

abbrev pub ForPart : Here → Part → (Here → ClassId → Type 0) → (Here → Kind → Type 0) → Type 0
ForPart h (part.Block c) P Q = P h c
ForPart h (part.Kind k) P Q = Q h k

-- what holds of the element of that number of a component with these sizes
abbrev pub ForElement : Outcome (List ℕ) → Here → Item → Part → ℕ → (Here → ClassId → Type 0) → (Here → Kind → Type 0) → Type 0
ForElement (Err r) h item p x P Q = ⊥
ForElement (Ok sizes) h item p x P Q = (x < size_of sizes) × ForPart (entered h item (indices_at sizes x)) p P Q

abbrev pub ForRole : Model → Here → Item → Role → ℕ → (Here → ClassId → Type 0) → (Here → Kind → Type 0) → Type 0
ForRole w h item role.Value x P Q = ⊥
ForRole w h item (role.Connector t input) x P Q = ⊥
ForRole w h item (role.Component p) x P Q = ForElement (component_station w h item p) h item p x P Q
ForRole w h item role.Other x P Q = ⊥

-- at an instance of a kind: that it begins, and then what it is
abbrev pub InKind : Model → Here → Kind → Key → Event → Type 0
InKind w h k [] e = e ≡ begins h
InKind w h k (i ∷ []) e = (i ≡ 0) × (e ≡ stands h k (block_station w h k))
InKind w h k (i ∷ j ∷ more) e = ⊥

abbrev mutual
  -- at an instance of a declared block: first itself, then its items
  pub InBlock : Model → Here → ClassId → Key → Event → Type 0
  InBlock w h c [] e = e ≡ opens h c
  InBlock w h c (i ∷ k) e = ForItem w c i (slice_get (items_of (declared w.files) c.index) i) (λ item role. InItem w (inside h c) item role k e)

  -- at an item: first itself, then its elements
  pub InItem : Model → Here → Item → Role → Key → Event → Type 0
  InItem w h item role [] e = e ≡ item_event w h item role
  InItem w h item role (x ∷ k) e = ForRole w h item role x (λ g c. InBlock w g c k e) (λ g kind. InKind w g kind k e)

-- at an element of a component
abbrev pub InPart : Model → Here → Part → Key → Event → Type 0
InPart w h (part.Block c) k e = InBlock w h c k e
InPart w h (part.Kind kind) k e = InKind w h kind k e

abbrev pub the_root : Model → ClassId
the_root w = record { index = w.root }

-- all stations of a model
abbrev pub InModel : Model → Key → Event → Type 0
InModel w = InBlock w start (the_root w)
