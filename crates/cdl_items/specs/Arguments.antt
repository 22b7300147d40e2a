-- What the arguments of declarations may be: rules C22 and C23.
use Rattle.std.specs.Prelude.{ℕ, Bool, true, not, ◌&&◌, ◌||◌, cond, List, [], ◌∷◌, ◌++◌, map, codes, Option, Some, None, is_some, option_and_then}
use Rattle.std.specs.List.{list_any}
use Rattle.std.specs.Option.{option_or}
use Rattle.std.specs.Str.{bytes_eq}
use Rattle.cdl_source.specs.declared.rules.TheConstants.{NOTHING_TO_MODIFY, MODIFIED_TWICE}
use Rattle.cdl_kinds.specs.declared.kind.Kind.{Kind}
use Rattle.cdl_kinds.specs.declared.parameter.Parameter.{Parameter}
use Rattle.cdl_kinds.specs.declared.ports.Group.{Group as DeclaredGroup}
use Rattle.cdl_kinds.specs.Table.{Group, ParameterRow, row}
use Rattle.cdl_tree.specs.declared.class.Item.{Item}
use Rattle.cdl_tree.specs.declared.class.Modifier.{Modifier, fold-Modifier}
use Rattle.cdl_tree.specs.declared.class.Modifier.TheOpen.{Modifier-F}
use Rattle.cdl_scopes.specs.Classes.{Declared}
use Rattle.cdl_classes.specs.Table.{item_of}
use Rattle.cdl_paths.specs.Members.{item_at}
use Rattle.cdl_paths.specs.Modifiers.{name_of}
use Rattle.cdl_items.specs.declared.role.Part.TheVariants as part
use Rattle.cdl_items.specs.declared.role.Role.{Role}
use Rattle.cdl_items.specs.declared.role.Role.TheVariants as role
use Rattle.cdl_items.specs.declared.arguments.Target.{Target}
use Rattle.cdl_items.specs.declared.arguments.Target.TheVariants as target
use Rattle.cdl_items.specs.declared.arguments.Modified.{Modified}
use Rattle.cdl_items.specs.declared.arguments.Modified.TheVariants as what
use Rattle.cdl_items.specs.Roles.{role_of}

abbrev pub is_attribute : List ℕ → Bool
is_attribute x =
    bytes_eq x (codes "quantity") || bytes_eq x (codes "unit") || bytes_eq x (codes "displayUnit") || bytes_eq x (codes "min") || bytes_eq x (codes "max")
    || bytes_eq x (codes "start") || bytes_eq x (codes "fixed") || bytes_eq x (codes "nominal")

abbrev pub has_name : List ParameterRow → List ℕ → Bool
has_name rs x = list_any (λ (r : ParameterRow). bytes_eq r.name x) rs

abbrev pub has_port : List Group → List ℕ → Bool
has_port gs x = list_any (λ (g : Group). bytes_eq g.name x) gs

abbrev pub has_parameter : List Parameter → List ℕ → Bool
has_parameter rs x = list_any (λ (r : Parameter). bytes_eq r.name.now x) rs

abbrev pub has_group : List DeclaredGroup → List ℕ → Bool
has_group gs x = list_any (λ (g : DeclaredGroup). bytes_eq g.name.now x) gs

-- what an argument of this name modifies: a parameter or a port of a kind
abbrev pub modified_in_kind : Kind → List ℕ → Option Modified
modified_in_kind k x =
    cond (has_name (row k).parameters x) (Some what.Value)
    (cond (has_port (row k).ins x || has_port (row k).outs x) (Some what.Connector) None)

abbrev pub modified_item : Role → Option Modified
modified_item role.Value = Some what.Value
modified_item (role.Connector t input) = Some what.Connector
modified_item (role.Component p) = Some (what.Component p)
modified_item role.Other = None

-- what an argument of this name modifies: an item of a block, a parameter or port of a kind, or an attribute
abbrev pub modified : List Declared → Target → List ℕ → Option Modified
modified ds (target.Part (part.Block c)) x =
    option_and_then (λ k. option_and_then (λ (i : Item). modified_item (role_of ds c.index k i)) (item_at ds c.index k)) (item_of ds c.index x)
modified ds (target.Part (part.Kind k)) x = modified_in_kind k x
modified ds target.Attributes x = cond (is_attribute x) (Some what.Attribute) None

-- The form of an argument: with or without a value, with or without a list. An attribute has a value and no list; what modifies a
-- connector or a component has no value.
abbrev pub has_form : Modified → Bool → Bool → Bool
has_form what.Value has_value has_list = true
has_form what.Connector has_value has_list = not has_value
has_form (what.Component p) has_value has_list = not has_value
has_form what.Attribute has_value has_list = has_value && not has_list

-- what the list of an argument modifies
abbrev pub inner : Modified → Target
inner what.Value = target.Attributes
inner what.Connector = target.Attributes
inner (what.Component p) = target.Part p
inner what.Attribute = target.Attributes

abbrev pub is_among : List ℕ → List (List ℕ) → Bool
is_among x names = list_any (λ y. bytes_eq y x) names

abbrev pub is_named : List ℕ → List Modifier → Bool
is_named x args = list_any (λ (m : Modifier). bytes_eq (name_of m) x) args

-- an argument: its name, and the rule that it breaks first for a target where its name stood before it or not
pub record Argument : Type 0 where
  pub name : List ℕ
  pub rule : Target → Bool → Option ℕ

-- the rule that is broken first among arguments, behind those of these names
abbrev pub first_rule : Target → List (List ℕ) → List Argument → Option ℕ
first_rule t names [] = None
first_rule t names (a ∷ args) = option_or (a.rule t (is_among a.name names)) (first_rule t (names ++ a.name ∷ []) args)

abbrev pub listed : Option (List Argument) → List Argument
listed None = []
listed (Some args) = args

abbrev pub rule_for : Option Modified → Bool → Bool → Bool → List Argument → Option ℕ
rule_for None has_value has_list again args = Some NOTHING_TO_MODIFY
rule_for (Some m) has_value has_list again args =
    cond (has_form m has_value has_list) (cond again (Some MODIFIED_TWICE) (first_rule (inner m) [] args)) (Some NOTHING_TO_MODIFY)

-- C22 where it modifies nothing or has no form, else C23 where its name stood before it, else what its list breaks
abbrev pub argument_step : List Declared → Modifier-F Argument → Argument
argument_step ds m = record {
  name = m.name.text;
  rule = λ t again. rule_for (modified ds t m.name.text) (is_some m.value) (is_some m.args) again (listed m.args);
}

unfoldable pub argument : List Declared → Modifier → Argument
argument ds = fold-Modifier Argument (argument_step ds)

abbrev pub argument_rule : List Declared → Modifier → Target → Bool → Option ℕ
argument_rule ds m = (argument ds m).rule

-- the rule that these arguments of a target break first, behind those of these names
abbrev pub arguments_rule : List Declared → Target → List (List ℕ) → List Modifier → Option ℕ
arguments_rule ds t names args = first_rule t names (map (argument ds) args)
