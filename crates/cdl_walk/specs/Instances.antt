-- What stands in a model, by conditions, sizes, values and units alone: its instances, and the elements of its connectors and ports.
use Rattle.std.specs.Prelude.{ℕ, ◌<◌, ◌≡◌, Bool, true, false, cond, List, [], ◌∷◌, ◌++◌, length, Ok, Err, Option, Some, None, map, slice_get}
use Rattle.cdl_values.specs.declared.value.Array.{Array}
use Rattle.cdl_values.specs.declared.value.Value.{Value}
use Rattle.cdl_values.specs.declared.value.ValueType.{ValueType}
use Rattle.cdl_values.specs.Values.{items_of as size_of}
use Rattle.cdl_array.specs.Outcomes.{Outcome, then_to}
use Rattle.cdl_kinds.specs.declared.kind.Kind.{Kind}
use Rattle.cdl_kinds.specs.Table.{Group, ParameterRow, row}
use Rattle.cdl_kinds.specs.Ports.{nin_or_nout}
use Rattle.cdl_tree.specs.declared.class.Item.{Item}
use Rattle.cdl_scopes.specs.Classes.{declared}
use Rattle.cdl_scopes.specs.Lookup.{item_name}
use Rattle.cdl_classes.specs.declared.found.ClassId.{ClassId}
use Rattle.cdl_paths.specs.declared.path.Step.{Step}
use Rattle.cdl_params.specs.Kept.{Model}
use Rattle.cdl_stations.specs.Keys.{Key, In, Lists}
use Rattle.cdl_items.specs.declared.role.Part.{Part}
use Rattle.cdl_items.specs.declared.role.Part.TheVariants as part
use Rattle.cdl_items.specs.declared.role.Role.{Role}
use Rattle.cdl_items.specs.declared.role.Role.TheVariants as role
use Rattle.cdl_walk.specs.declared.walked.Content.{Content}
use Rattle.cdl_walk.specs.declared.walked.Content.TheVariants as content
use Rattle.cdl_walk.specs.declared.walked.Element.{Element}
use Rattle.cdl_walk.specs.declared.walked.Instance.{Instance}
use Rattle.cdl_walk.specs.declared.walked.Point.{Point}
use Rattle.cdl_walk.specs.declared.walked.Walked.{Walked}
use Rattle.cdl_items.specs.Roles.{items_of}
use Rattle.cdl_walk.specs.Elements.{points, port_sizes, indices_at, is_real}
use Rattle.cdl_walk.specs.Worth.{value, dims, present, unit}
use Rattle.cdl_walk.specs.Stations.{ForItem, items_in, no_element, the_root}
use Rattle.cdl_walk.specs.Events.{outer}

-- at a path an instance of a declared block; one of a kind, with the values of its parameters and its ports; or the elements of a
-- connector of the instance there
pub data Thing : Type 0 where
  Block : List Step → ClassId → Thing
  Elementary : List Step → Kind → List Array → List Point → Thing
  Elements : List Step → List Point → Thing

-- ---- what an item is worth

-- the sizes of a component; no element where its condition is false
abbrev pub elements : Model → List Step → Item → Outcome (List ℕ)
elements w p item = then_to (present w p item) (λ there. cond there (dims w p item) no_element)

-- the units of a connector, or of the ports of a name; none where the type isn't Real
abbrev pub plain_units : Model → List Step → List ℕ → ValueType → Outcome (List Value)
plain_units w p x t = cond (is_real t) (then_to (unit w p x) items_in) (Ok [])

-- the elements of a connector; none where its condition is false
abbrev pub connector_elements : Model → List Step → Item → ValueType → Bool → Outcome (List Point)
connector_elements w p item t input = then_to (present w p item) (λ there. cond there
    (then_to (dims w p item) (λ sizes. then_to (plain_units w p (item_name item) t) (λ us. Ok (points (item_name item) t input sizes us))))
    (Ok []))

-- the values of these parameters of a kind
abbrev pub values : Model → List Step → List ParameterRow → Outcome (List Array)
values w p [] = Ok []
values w p (r ∷ rs) = then_to (value w p r.name) (λ v. then_to (values w p rs) (λ vs. Ok (v ∷ vs)))

-- the ports of these names, where an array has n
abbrev pub ports_from : Model → List Step → ℕ → Bool → List Group → Outcome (List Point)
ports_from w p n input [] = Ok []
ports_from w p n input (g ∷ gs) =
    then_to (plain_units w p g.name g.value_type) (λ us. then_to (ports_from w p n input gs) (λ more. Ok (points g.name g.value_type input (port_sizes n g) us ++ more)))

-- the ports of a kind with these values of its parameters, first the inputs
abbrev pub ports_of : Model → List Step → Kind → List Array → Outcome (List Point)
ports_of w p k v = then_to (ports_from w p (nin_or_nout v) true (row k).ins) (λ ins. then_to (ports_from w p (nin_or_nout v) false (row k).outs) (λ outs. Ok (ins ++ outs)))

-- ---- where it stands

-- it is worth something, of which this holds
abbrev pub IsWorth : {A : Type 0} → Outcome A → (A → Type 0) → Type 0
IsWorth (Ok a) P = P a
IsWorth (Err r) P = ⊥

-- an instance of a kind stands behind the place where it begins
abbrev pub IsOfKind : Model → List Step → Kind → Key → Thing → Type 0
IsOfKind w p k [] t = ⊥
IsOfKind w p k (i ∷ []) t = (i ≡ 0) × IsWorth (values w p (row k).parameters) (λ v. IsWorth (ports_of w p k v) (λ ps. t ≡ Elementary p k v ps))
IsOfKind w p k (i ∷ j ∷ more) t = ⊥

-- what holds of an instance at a path, by what it is of
abbrev pub IsPart : Part → List Step → (List Step → ClassId → Type 0) → (List Step → Kind → Type 0) → Type 0
IsPart (part.Block c) p P Q = P p c
IsPart (part.Kind k) p P Q = Q p k

-- what holds of the element of that number of a component with these sizes
abbrev pub IsElement : Outcome (List ℕ) → List Step → Item → Part → ℕ → (List Step → ClassId → Type 0) → (List Step → Kind → Type 0) → Type 0
IsElement (Err r) p item q x P Q = ⊥
IsElement (Ok sizes) p item q x P Q = (x < size_of sizes) × IsPart q (p ++ (record { name = item_name item; indices = indices_at sizes x }) ∷ []) P Q

abbrev pub IsInRole : Model → List Step → Item → Role → ℕ → (List Step → ClassId → Type 0) → (List Step → Kind → Type 0) → Type 0
IsInRole w p item role.Value x P Q = ⊥
IsInRole w p item (role.Connector t input) x P Q = ⊥
IsInRole w p item (role.Component q) x P Q = IsElement (elements w p item) p item q x P Q
IsInRole w p item role.Other x P Q = ⊥

-- only connectors bring something themselves
abbrev pub IsAtItem : Model → List Step → Item → Role → Thing → Type 0
IsAtItem w p item role.Value thing = ⊥
IsAtItem w p item (role.Connector t input) thing = IsWorth (connector_elements w p item t input) (λ ps. thing ≡ Elements p ps)
IsAtItem w p item (role.Component q) thing = ⊥
IsAtItem w p item role.Other thing = ⊥

abbrev mutual
  -- what stands in an instance of a declared block at a path: itself, then what its items bring
  pub IsThing : Model → List Step → ClassId → Key → Thing → Type 0
  IsThing w p c [] t = t ≡ Block p c
  IsThing w p c (i ∷ k) t = ForItem w c i (slice_get (items_of (declared w.files) c.index) i) (λ item role. IsInItem w p item role k t)

  -- what an item brings: itself, then its elements row by row
  pub IsInItem : Model → List Step → Item → Role → Key → Thing → Type 0
  IsInItem w p item role [] t = IsAtItem w p item role t
  IsInItem w p item role (x ∷ k) t = IsInRole w p item role x (λ q c. IsThing w q c k t) (λ q kind. IsOfKind w q kind k t)

-- ---- all of it

-- an instance by its path and by what it is, an element by the path of its instance and by what it is
pub record Seen : Type 0 where
  pub path : List Step
  pub content : Content

pub record Owned : Type 0 where
  pub path : List Step
  pub point : Point

abbrev pub owned_by : List Step → Point → Owned
owned_by p x = record { path = p; point = x }

abbrev pub instances_from : Thing → List Seen
instances_from (Block p c) = (record { path = p; content = content.Block c }) ∷ []
instances_from (Elementary p k v ps) = (record { path = p; content = content.Elementary k v }) ∷ []
instances_from (Elements p ps) = []

abbrev pub elements_from : Thing → List Owned
elements_from (Block p c) = []
elements_from (Elementary p k v ps) = map (owned_by p) ps
elements_from (Elements p ps) = map (owned_by p) ps

abbrev pub instances_in : List (Key × Thing) → List Seen
instances_in [] = []
instances_in (x ∷ xs) = instances_from x.1 ++ instances_in xs

abbrev pub elements_in : List (Key × Thing) → List Owned
elements_in [] = []
elements_in (x ∷ xs) = elements_from x.1 ++ elements_in xs

abbrev pub seen_instance : Instance → Seen
seen_instance x = record { path = x.path.steps; content = x.content }

abbrev pub path_in : Option Instance → List Step
path_in None = []
path_in (Some x) = x.path.steps

-- the path of the instance of that number
abbrev pub path_at : List Instance → ℕ → List Step
path_at xs i = path_in (slice_get xs i)

abbrev pub seen_element : List Instance → Element → Owned
seen_element xs e = record { path = path_at xs e.instance; point = e.point }

-- an instance of that number is a part of one before it, which has its path without the last step; the root is a part of none
abbrev pub IsPartOf : List Instance → ℕ → List Step → Option ℕ → Type 0
IsPartOf xs i [] o = o ≡ None
IsPartOf xs i (s ∷ rest) None = ⊥
IsPartOf xs i (s ∷ rest) (Some j) = (j < i) × (path_at xs j ≡ outer (s ∷ rest))

-- the instances and elements are all that stand in the model, in the order of keys, which is preorder
pub record AreAll (w : Model) (found : Walked) : Type 0 where
  pub things : List (Key × Thing)
  pub lists : Lists (IsThing w [] (the_root w)) things
  pub instances : map seen_instance found.instances ≡ instances_in things
  pub elements : map (seen_element found.instances) found.elements ≡ elements_in things
  pub parents : (i : ℕ) (x : Instance) → slice_get found.instances i ≡ Some x → IsPartOf found.instances i x.path.steps x.parent
  pub owners : (e : Element) → In e found.elements → e.instance < length found.instances
