-- What the ends of connect statements select.
use Rattle.std.specs.Prelude.{ℕ, Bool, true, false, ◌&&◌, ◌||◌, cond, List, [], ◌∷◌, ◌++◌, map, Option, Some, None, option_map, option_and_then, Ok, Err}
use Rattle.std.specs.List.{flat_map, list_all}
use Rattle.std.specs.Str.{bytes_eq}
use Rattle.cdl_values.specs.declared.value.Array.{Array}
use Rattle.cdl_array.specs.Outcomes.{Outcome}
use Rattle.cdl_kinds.specs.declared.kind.Kind.{Kind}
use Rattle.cdl_kinds.specs.Parameters.{parameters}
use Rattle.cdl_kinds.specs.Ports.{nin_or_nout}
use Rattle.cdl_kinds.specs.Table.{ParameterRow}
use Rattle.cdl_tree.specs.declared.class.Item.{Item}
use Rattle.cdl_scopes.specs.Lookup.{item_name}
use Rattle.cdl_paths.specs.declared.path.Local.{Local}
use Rattle.cdl_paths.specs.declared.path.Path.{Path}
use Rattle.cdl_paths.specs.declared.path.Step.{Step}
use Rattle.cdl_params.specs.Kept.{Model}
use Rattle.cdl_walk.specs.Worth.{value, dims, present}
use Rattle.cdl_model.specs.Names.{ElementName}
use Rattle.cdl_joins.specs.declared.picks.Pick.{Pick}
use Rattle.cdl_joins.specs.declared.sides.Owners.{Owners}
use Rattle.cdl_joins.specs.declared.sides.Piece.{Piece}
use Rattle.cdl_joins.specs.declared.sides.Side.{Side}
use Rattle.cdl_joins.specs.Integers.{integer}
use Rattle.cdl_joins.specs.Ends.{Connector, OfBlock, OfKind, connector_name, Component, End}
use Rattle.cdl_joins.specs.Picks.{picks, shape, indices}

-- ---- what is there

abbrev pub holds : Outcome Bool → Bool
holds (Ok b) = b
holds (Err r) = false

-- an item of the instance at a path is there
abbrev pub is_there : Model → List Step → Item → Bool
is_there w p item = holds (present w p item)

-- the instance at a path has the connector; a kind has all its ports
abbrev pub has : Model → List Step → Connector → Bool
has w p (OfBlock item) = is_there w p item
has w p (OfKind k g) = true

-- the component that an end goes through, or its own connector, is there
abbrev pub stands_by : Model → List Step → Connector → Option Component → Bool
stands_by w p connector None = has w p connector
stands_by w p connector (Some c) = is_there w p c.item

abbrev pub stands : Model → List Step → End → Bool
stands w p e = stands_by w p e.connector e.component

-- ---- sizes

abbrev pub sizes_in : Outcome (List ℕ) → Option (List ℕ)
sizes_in (Ok ns) = Some ns
sizes_in (Err r) = None

abbrev pub count_in : Outcome Array → Option ℕ
count_in (Ok a) = Some (nin_or_nout (a ∷ []))
count_in (Err r) = None

-- how many ports an array of ports of an instance of a kind has: its first parameter says so
abbrev pub count_by : Model → List Step → List ParameterRow → Option ℕ
count_by w p [] = None
count_by w p (r ∷ rs) = count_in (value w p r.name)

abbrev pub one_size : ℕ → List ℕ
one_size n = n ∷ []

abbrev pub port_sizes : Model → List Step → Kind → Bool → Option (List ℕ)
port_sizes w p k many = cond many (option_map one_size (count_by w p (parameters k))) (Some [])

-- the sizes of a connector of the instance at a path
abbrev pub sizes : Model → List Step → Connector → Option (List ℕ)
sizes w p (OfBlock item) = sizes_in (dims w p item)
sizes w p (OfKind k g) = port_sizes w p k g.many

-- ---- instances

abbrev pub path_of : List Step → Path
path_of p = record { steps = p }

-- the path of the element with these indices of a component
abbrev pub element_path : List Step → List ℕ → List ℕ → Path
element_path p name is = path_of (p ++ (record { name = name; indices = is }) ∷ [])

-- the elements of a component that are selected, in their shape
abbrev pub elements_of : List Step → List ℕ → List Pick → Owners
elements_of p name xs = record { shape = shape xs; paths = map (element_path p name) (indices xs) }

abbrev pub itself : List Step → Owners
itself p = record { shape = []; paths = path_of p ∷ [] }

abbrev pub elements_selected : Model → List Step → List Local → Component → Option Owners
elements_selected w p locals c = option_map (elements_of p (item_name c.item)) (option_and_then (λ ns. picks (integer w p locals) ns c.subs) (sizes_in (dims w p c.item)))

-- the instance itself, or the elements of the component that the subscripts select
abbrev pub owners : Model → List Step → List Local → Option Component → Option Owners
owners w p locals None = Some (itself p)
owners w p locals (Some c) = elements_selected w p locals c

abbrev pub all_have : Model → Connector → List Path → Bool
all_have w connector paths = list_all (λ (q : Path). has w q.steps connector) paths

-- ---- elements

abbrev pub piece_of : Path → List Pick → Piece
piece_of q xs = record { path = q; shape = shape xs; indices = indices xs }

-- what an end of the instance at a path selects in the connector of one of these instances
abbrev pub piece : Model → List Step → List Local → End → Path → Option Piece
piece w p locals e q = option_map (piece_of q) (option_and_then (λ ns. picks (integer w p locals) ns e.subs) (sizes w q.steps e.connector))

abbrev pub pieces : Model → List Step → List Local → End → List Path → Option (List Piece)
pieces w p locals e [] = Some []
pieces w p locals e (q ∷ qs) = option_and_then (λ x. option_map (λ xs. x ∷ xs) (pieces w p locals e qs)) (piece w p locals e q)

abbrev pub side_of : List ℕ → List ℕ → List Piece → Side
side_of outer name xs = record { outer = outer; name = name; pieces = xs }

-- all that an end selects
abbrev pub side : Model → List Step → List Local → End → Owners → Option Side
side w p locals e a = option_map (side_of a.shape (connector_name e.connector)) (pieces w p locals e a.paths)

abbrev pub inner_shape : List Piece → List ℕ
inner_shape [] = []
inner_shape (x ∷ xs) = x.shape

abbrev pub same_shape : List ℕ → List ℕ → Bool
same_shape ms ns = bytes_eq ms ns

-- all pieces have the same shape
abbrev pub have_shape : List ℕ → List Piece → Bool
have_shape ns xs = list_all (λ (x : Piece). same_shape x.shape ns) xs

abbrev pub alike : List Piece → Bool
alike xs = have_shape (inner_shape xs) xs

-- the dimensions of the component come before those of the connector
abbrev pub full_shape : Side → List ℕ
full_shape s = s.outer ++ inner_shape s.pieces

abbrev pub element : List Step → List ℕ → List ℕ → ElementName
element p name is = record { path = p; name = name; indices = is }

abbrev pub piece_elements : List ℕ → Piece → List ElementName
piece_elements name x = map (element x.path.steps name) x.indices

abbrev pub all_elements : List ℕ → List Piece → List ElementName
all_elements name xs = flat_map (piece_elements name) xs

-- the elements, row by row
abbrev pub elements : Side → List ElementName
elements s = all_elements s.name s.pieces

abbrev pub is_empty : {A : Type 0} → List A → Bool
is_empty [] = true
is_empty (x ∷ xs) = false

-- none of the pieces has an element
abbrev pub has_none : List Piece → Bool
has_none xs = list_all (λ (x : Piece). is_empty x.indices) xs

-- Each side selects connectors of one shape, and the two have the same shape or no element at all.
abbrev pub fit : Side → Side → Bool
fit l r = alike l.pieces && alike r.pieces && (same_shape (full_shape l) (full_shape r) || (has_none l.pieces && has_none r.pieces))
