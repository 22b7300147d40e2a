-- What the units of a connector are. A connector is one more step, of whose name `unit` is given.
use Rattle.std.specs.Prelude.{ℕ, Bool, true, false, cond, List, [], ◌∷◌, ◌++◌, map, drop, codes, Option, Some, None, Ok, Err}
use Rattle.std.specs.Str.{bytes_eq}
use Rattle.cdl_values.specs.declared.value.Array.{Array}
use Rattle.cdl_values.specs.declared.value.Value.TheVariants as a
use Rattle.cdl_source.specs.declared.rules.TheConstants.{UNKNOWN_NAME}
use Rattle.cdl_array.specs.Outcomes.{Outcome, then_to}
use Rattle.cdl_array.specs.Scalars.{scalar}
use Rattle.cdl_array.specs.Sizes.{size_of}
use Rattle.cdl_kinds.specs.declared.kind.Kind.{Kind}
use Rattle.cdl_kinds.specs.Table.{Group, row}
use Rattle.cdl_kinds.specs.Parameters.{parameters}
use Rattle.cdl_scopes.specs.Classes.{Declared}
use Rattle.cdl_classes.specs.declared.found.Found.{Found}
use Rattle.cdl_classes.specs.declared.found.Found.TheVariants as it
use Rattle.cdl_paths.specs.declared.path.Step.{Step}
use Rattle.cdl_paths.specs.Members.{member, site}
use Rattle.cdl_paths.specs.Bindings.{Given, Bound, by_text, binding_of, row_named}
use Rattle.cdl_paths.specs.HandOut.{indices_left, units}
use Rattle.cdl_worth.specs.Sizes.{member_sizes, gather}
use Rattle.cdl_worth.specs.Values.{Link, Steps, StepSizes, the_class, eval_at, written, outs, plain_value, link, sizes}

-- ---- the sizes of connectors

abbrev pub group_named : List ℕ → List Group → Option Group
group_named name [] = None
group_named name (g ∷ gs) = cond (bytes_eq g.name name) (Some g) (group_named name gs)

-- one for each, where there are so many
abbrev pub many_sizes : Outcome ℕ → Bool → Outcome (List ℕ)
many_sizes count false = Ok []
many_sizes count true = then_to count (λ n. Ok (n ∷ []))

-- the number of inputs or outputs of an instance of a kind, which a parameter says
abbrev pub ports_of : List Declared → Link → ℕ → StepSizes → Steps → Kind → List ℕ → Outcome ℕ
ports_of ds link r ss p kind name = then_to (plain_value ds link r ss p (row_named name (parameters kind))) size_of

abbrev pub port_sizes : Outcome ℕ → Outcome ℕ → Option Group → Option Group → Outcome (List ℕ)
port_sizes nin nout (Some g) out = many_sizes nin g.many
port_sizes nin nout None (Some g) = many_sizes nout g.many
port_sizes nin nout None None = Err UNKNOWN_NAME

-- those of the declaration, or those of a port of a kind
abbrev pub connector_sizes : List Declared → Link → ℕ → StepSizes → Steps → List ℕ → Option Found → Outcome (List ℕ)
connector_sizes ds link r ss p n (Some (it.Class c)) = member_sizes (eval_at ds link r ss p []) (member ds c.index n)
connector_sizes ds link r ss p n (Some (it.Kind kind)) =
    port_sizes (ports_of ds link r ss p kind (codes "nin")) (ports_of ds link r ss p kind (codes "nout")) (group_named n (row kind).ins) (group_named n (row kind).outs)
connector_sizes ds link r ss p n _ = Err UNKNOWN_NAME

-- ---- units

abbrev pub connector : List ℕ → Step
connector n = record { name = n; indices = [] }

abbrev pub through : Steps → List ℕ → Steps
through p n = p ++ connector n ∷ []

abbrev pub last_out : List Bool → Bool
last_out [] = false
last_out (b ∷ []) = b
last_out (b ∷ c ∷ more) = last_out (c ∷ more)

-- the sizes of a connector, where its own step is not left out
abbrev pub own_left : List Bool → List ℕ → List ℕ
own_left outs ns = cond (last_out outs) [] ns

-- First the expression, then what is handed out over the steps and the connector, of these sizes.
abbrev pub given_unit : List Declared → Link → ℕ → StepSizes → Steps → List Bool → List ℕ → Given → Outcome Array
given_unit ds link r ss p left ns g =
    then_to (written ds link r ss p g) (λ a.
    then_to (gather left (drop g.steps ss)) (λ ws.
    units (map Some (ws ++ own_left left ns)) (indices_left left (drop g.steps p)) ns a))

-- without a giver each unit is the empty text
abbrev pub unit_by : List Declared → Link → ℕ → StepSizes → Steps → List ℕ → List ℕ → Option Bound → Outcome Array
unit_by ds link r ss p n ns (Some (by_text g)) = given_unit ds link r ss p (outs (through p n) (codes "unit") g) ns g
unit_by ds link r ss p n ns _ = units [] [] ns (scalar (a.Str []))

unfoldable pub unit : List Declared → ℕ → ℕ → Steps → List ℕ → Outcome Array
unit ds d r p n =
    then_to (connector_sizes ds (link ds d) r (sizes ds r p) p n (site ds (the_class r) p)) (λ ns.
    unit_by ds (link ds d) r (sizes ds r p) p n ns (binding_of ds (the_class r) 0 (through p n) (codes "unit")))
