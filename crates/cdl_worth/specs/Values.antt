-- What parameters are worth. A place is a first class, which is the root of the model or a package, and the steps behind it, with
-- their sizes beside them; an expression has the names of the class that stands there.
use Rattle.std.specs.Prelude.{ℕ, zero, suc, ◌+◌, pos, Bool, true, false, List, [], ◌∷◌, ◌++◌, take, drop, map, replicate, codes, Option, Some, None, option_and_then, slice_get, Ok, Err}
use Rattle.cdl_decimal.specs.Near.{in_range}
use Rattle.cdl_values.specs.declared.value.Array.{Array}
use Rattle.cdl_values.specs.declared.value.Value.{Value}
use Rattle.cdl_values.specs.declared.value.Value.TheVariants as a
use Rattle.cdl_values.specs.declared.value.ValueType.{ValueType}
use Rattle.cdl_values.specs.declared.value.ValueType.TheVariants as type
use Rattle.cdl_tree.specs.declared.name.Name.{Name}
use Rattle.cdl_tree.specs.declared.expr.Expr.{Expr}
use Rattle.cdl_tree.specs.declared.class.Item.{Item}
use Rattle.cdl_source.specs.declared.limits.TheConstants.{MOST_LINKS}
use Rattle.cdl_source.specs.declared.rules.TheConstants.{WRONG_TYPE, UNKNOWN_NAME, PARAMETERS_TOO_DEEP, PARAMETER_WITHOUT_VALUE}
use Rattle.cdl_array.specs.Outcomes.{Outcome, then_to, some_or}
use Rattle.cdl_array.specs.Scalars.{scalar}
use Rattle.cdl_array.specs.Operators.{condition}
use Rattle.cdl_array.specs.Sizes.{size_of}
use Rattle.cdl_kinds.specs.declared.kind.Kind.{Kind}
use Rattle.cdl_kinds.specs.declared.parameter.Preset.{Preset}
use Rattle.cdl_kinds.specs.declared.parameter.Preset.TheVariants as preset
use Rattle.cdl_kinds.specs.Table.{ParameterRow}
use Rattle.cdl_kinds.specs.Parameters.{parameters}
use Rattle.cdl_scopes.specs.Classes.{Full, Declared, parts_of}
use Rattle.cdl_scopes.specs.Lookup.{item_name}
use Rattle.cdl_classes.specs.declared.found.Found.{Found}
use Rattle.cdl_classes.specs.declared.found.Found.TheVariants as it
use Rattle.cdl_paths.specs.declared.path.Step.{Step}
use Rattle.cdl_paths.specs.declared.path.Local.{Local}
use Rattle.cdl_paths.specs.declared.reference.Reference.{Reference}
use Rattle.cdl_paths.specs.declared.reference.Reference.TheVariants as reference
use Rattle.cdl_paths.specs.Members.{Declaration, item_at, member, inside, site}
use Rattle.cdl_paths.specs.Modifiers.{eaches}
use Rattle.cdl_paths.specs.Bindings.{Given, Bound, by_text, by_kind, binding_of, row_named}
use Rattle.cdl_paths.specs.References.{refers}
use Rattle.cdl_paths.specs.HandOut.{indices_left, handed}
use Rattle.cdl_worth.specs.Expressions.{eval}
use Rattle.cdl_worth.specs.Sizes.{declared_sizes, sizes_of, member_sizes, gather}

abbrev pub Steps : Type 0
Steps = List Step

abbrev pub StepSizes : Type 0
StepSizes = List (Outcome (List ℕ))

-- what a link leads to: the parameter or constant of this name at a place
abbrev pub Link : Type 0
Link = ℕ → StepSizes → Steps → List ℕ → Outcome Array

abbrev pub the_class : ℕ → Found
the_class r = it.Class (record { index = r })

-- ---- names

abbrev pub constant : Link → ℕ → Option Item → Outcome Array
constant link q None = Err UNKNOWN_NAME
constant link q (Some x) = link q [] [] (item_name x)

-- what a reference is worth, by what its own parameters and what links are worth
abbrev pub worth : List Declared → Link → (List ℕ → Outcome Array) → List ℕ → Reference → Outcome Array
worth ds link own x (reference.Local z) = Ok (scalar (a.Integer z))
worth ds link own x reference.Own = own x
worth ds link own x (reference.Constant p i) = constant link p.index (item_at ds p.index i)
worth ds link own x (reference.Literal c o) = Ok (scalar (a.Enumeration c.index o))
worth ds link own x reference.Unknown = Err UNKNOWN_NAME

abbrev pub first_part : Full → List ℕ
first_part [] = []
first_part (x ∷ rest) = x

abbrev pub names_in : List Declared → Link → (List ℕ → Outcome Array) → List Local → Full → Option Found → Outcome Array
names_in ds link own locals name (Some (it.Class c)) = worth ds link own (first_part name) (refers ds c.index locals name)
names_in ds link own locals name _ = Err UNKNOWN_NAME

-- what names are worth at a place, with these locals
abbrev pub names : List Declared → Link → ℕ → StepSizes → Steps → List Local → Name → Outcome Array
names ds link r ss p locals name = names_in ds link (link r ss p) locals (parts_of name) (site ds (the_class r) p)

abbrev pub eval_at : List Declared → Link → ℕ → StepSizes → Steps → List Local → Expr → Outcome Array
eval_at ds link r ss p locals e = eval (names ds link r ss p locals) e

-- ---- values that are given

-- the value of a giver's expression, at its own place
abbrev pub written : List Declared → Link → ℕ → StepSizes → Steps → Given → Outcome Array
written ds link r ss p g = eval_at ds link r (take g.steps ss) (take g.steps p) [] g.value

-- which of the steps from the giver on are left out
abbrev pub outs : Steps → List ℕ → Given → List Bool
outs p n g = eaches g.args (drop (g.steps + 1) p) n

-- First the expression, then the declared sizes, then what is handed out over the steps.
abbrev pub given_value : List Declared → Link → ℕ → StepSizes → Steps → List ℕ → ValueType → Outcome (List (Option ℕ)) → Given → Outcome Array
given_value ds link r ss p n t own g =
    then_to (written ds link r ss p g) (λ a.
    then_to own (λ ws.
    then_to (gather (outs p n g) (drop g.steps ss)) (λ ns.
    handed t (map Some ns ++ ws) (indices_left (outs p n g) (drop g.steps p)) a)))

-- ---- parameters and constants of declared classes

abbrev pub declared_type : Found → Option ValueType
declared_type (it.Scalar t) = Some t
declared_type (it.Class c) = Some (type.Enumeration c.index)
declared_type _ = None

abbrev pub item_value : List Declared → Link → ℕ → StepSizes → Steps → List ℕ → Declaration → Option Bound → Outcome Array
item_value ds link r ss p n m (Some (by_text g)) =
    some_or (declared_type m.class) WRONG_TYPE (λ t. given_value ds link r ss p n t (declared_sizes (eval_at ds link r ss p []) m.item.dims) g)
item_value ds link r ss p n m _ = Err PARAMETER_WITHOUT_VALUE

-- ---- parameters of kinds

-- 1 for each input
abbrev pub one_of : ValueType → Value
one_of type.Real = a.Real (pos 1000000)
one_of _ = a.Integer (pos 1)

abbrev pub ones : ValueType → ℕ → Array
ones t n = record { value_type = t; shape = n ∷ []; items = replicate n (one_of t) }

-- a default, by what another parameter of the kind is worth, and by `nin`; a Real is in range
abbrev pub preset_value : (ℕ → Outcome Array) → Outcome ℕ → ValueType → Preset → Outcome Array
preset_value same nin t preset.Absent = Err PARAMETER_WITHOUT_VALUE
preset_value same nin t (preset.Same j) = same j
preset_value same nin t preset.Ones = then_to nin (λ n. Ok (ones t n))
preset_value same nin t (preset.Boolean b) = Ok (scalar (a.Boolean b))
preset_value same nin t (preset.Integer z) = Ok (scalar (a.Integer z))
preset_value same nin t (preset.Real q) = some_or (in_range q) PARAMETER_WITHOUT_VALUE (λ x. Ok (scalar (a.Real x)))

abbrev pub row_sizes : Outcome ℕ → Bool → Outcome (List (Option ℕ))
row_sizes nin false = Ok []
row_sizes nin true = then_to nin (λ n. Ok (Some n ∷ []))

abbrev pub row_bound : List Declared → Link → ℕ → StepSizes → Steps → (ℕ → Outcome Array) → Outcome ℕ → ParameterRow → Option Bound → Outcome Array
row_bound ds link r ss p same nin row None = Err PARAMETER_WITHOUT_VALUE
row_bound ds link r ss p same nin row (Some (by_text g)) = given_value ds link r ss p row.name row.value_type (row_sizes nin row.per_nin) g
row_bound ds link r ss p same nin row (Some (by_kind d)) = preset_value same nin row.value_type d

abbrev pub row_value : List Declared → Link → ℕ → StepSizes → Steps → (ℕ → Outcome Array) → Outcome ℕ → ParameterRow → Outcome Array
row_value ds link r ss p same nin row = row_bound ds link r ss p same nin row (binding_of ds (the_class r) 0 p row.name)

-- a parameter that rests on no other of its kind
abbrev pub plain_value : List Declared → Link → ℕ → StepSizes → Steps → Option ParameterRow → Outcome Array
plain_value ds link r ss p None = Err PARAMETER_WITHOUT_VALUE
plain_value ds link r ss p (Some row) = row_value ds link r ss p (λ j. Err PARAMETER_WITHOUT_VALUE) (Err PARAMETER_WITHOUT_VALUE) row

abbrev pub nin_of : List Declared → Link → ℕ → StepSizes → Steps → Kind → Outcome ℕ
nin_of ds link r ss p kind = then_to (plain_value ds link r ss p (row_named (codes "nin") (parameters kind))) size_of

abbrev pub kind_value : List Declared → Link → ℕ → StepSizes → Steps → Kind → ParameterRow → Outcome Array
kind_value ds link r ss p kind row =
    row_value ds link r ss p (λ j. plain_value ds link r ss p (slice_get (parameters kind) j)) (nin_of ds link r ss p kind) row

-- ---- values

abbrev pub value_in : List Declared → Link → ℕ → StepSizes → Steps → List ℕ → Option Found → Outcome Array
value_in ds link r ss p n (Some (it.Class c)) =
    some_or (member ds c.index n) UNKNOWN_NAME (λ m. item_value ds link r ss p n m (binding_of ds (the_class r) 0 p n))
value_in ds link r ss p n (Some (it.Kind kind)) = some_or (row_named n (parameters kind)) UNKNOWN_NAME (kind_value ds link r ss p kind)
value_in ds link r ss p n _ = Err UNKNOWN_NAME

-- the parameter or constant of this name at a place, where links lead to these values
abbrev pub value_by : List Declared → Link → Link
value_by ds link r ss p n = value_in ds link r ss p n (site ds (the_class r) p)

-- what a link leads to, where this many links are left
abbrev pub link : List Declared → ℕ → Link
link ds zero r ss p n = Err PARAMETERS_TOO_DEEP
link ds (suc d) r ss p n = value_by ds (link ds d) r ss p n

-- ---- sizes of steps, each with all links anew

abbrev pub member_at : List Declared → ℕ → Steps → List ℕ → Option Declaration
member_at ds r p x = option_and_then (λ f. inside ds f x) (site ds (the_class r) p)

unfoldable pub step_size : List Declared → ℕ → StepSizes → Steps → List ℕ → Outcome (List ℕ)
step_size ds r ss p x = member_sizes (eval_at ds (link ds MOST_LINKS) r ss p []) (member_at ds r p x)

-- the sizes of further steps, behind a place whose steps have these sizes
abbrev pub sizes_from : List Declared → ℕ → StepSizes → Steps → Steps → StepSizes
sizes_from ds r ss p [] = []
sizes_from ds r ss p (s ∷ rest) = step_size ds r ss p s.name ∷ sizes_from ds r (ss ++ step_size ds r ss p s.name ∷ []) (p ++ s ∷ []) rest

unfoldable pub sizes : List Declared → ℕ → Steps → StepSizes
sizes ds r p = sizes_from ds r [] [] p

-- ---- what the calls answer, with so many links

unfoldable pub value : List Declared → ℕ → ℕ → Steps → List ℕ → Outcome Array
value ds d r p n = value_by ds (link ds d) r (sizes ds r p) p n

abbrev pub names_at : List Declared → ℕ → ℕ → Steps → List Local → Name → Outcome Array
names_at ds d r p locals name = names ds (link ds d) r (sizes ds r p) p locals name

abbrev pub evaluate : List Declared → ℕ → ℕ → Steps → List Local → Expr → Outcome Array
evaluate ds d r p locals e = eval (names_at ds d r p locals) e

unfoldable pub dims : List Declared → ℕ → ℕ → Steps → Item → Outcome (List ℕ)
dims ds d r p x = sizes_of (evaluate ds d r p []) x.dims

-- an item without a condition is there
abbrev pub present_if : (Expr → Outcome Array) → Option Expr → Outcome Bool
present_if at None = Ok true
present_if at (Some e) = then_to (at e) condition

unfoldable pub present : List Declared → ℕ → ℕ → Steps → Item → Outcome Bool
present ds d r p x = present_if (evaluate ds d r p []) x.condition
