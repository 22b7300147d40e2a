-- When an argument modifies what is final: rule C24.
use Rattle.std.specs.Prelude.{ℕ, Bool, true, false, ◌&&◌, ◌||◌, List, [], ◌∷◌, codes, Option, Some, None, is_some}
use Rattle.cdl_tree.specs.declared.class.Item.{Item}
use Rattle.cdl_tree.specs.declared.class.Prefix.{Prefix}
use Rattle.cdl_tree.specs.declared.class.Prefix.TheVariants as prefix
use Rattle.cdl_tree.specs.declared.class.Modifier.{Modifier, out-Modifier}
use Rattle.cdl_scopes.specs.Lookup.{item_name}
use Rattle.cdl_paths.specs.Modifiers.{args_of, first, value_of}
use Rattle.cdl_items.specs.declared.finals.Own.{Own}
use Rattle.cdl_items.specs.declared.finals.Own.TheVariants as own

-- what is modified, by its name in its component: a parameter, or the unit of a connector
pub data OwnName : Type 0 where
  a_value : List ℕ → OwnName
  a_unit : List ℕ → OwnName

abbrev pub own_of : Own → OwnName
own_of (own.Value x) = a_value x.now
own_of (own.Unit x) = a_unit x.now

abbrev pub is_final : Modifier → Bool
is_final m = (out-Modifier m).is_final

abbrev pub has_value : Modifier → Bool
has_value m = is_some (value_of m)

-- there is an argument, and this holds of it
abbrev pub of_argument : (Modifier → Bool) → Option Modifier → Bool
of_argument p None = false
of_argument p (Some m) = p m

abbrev pub gives_value : List Modifier → List ℕ → Bool
gives_value args x = of_argument has_value (first x args)

abbrev pub seals_value : List Modifier → List ℕ → Bool
seals_value args x = of_argument is_final (first x args)

-- the arguments give a value to what stands in the same component: a parameter, or the unit of a connector
abbrev pub gives_own : List Modifier → OwnName → Bool
gives_own args (a_value x) = gives_value args x
gives_own args (a_unit x) = of_argument (λ m. gives_value (args_of m) (codes "unit")) (first x args)

-- the same, where it stands behind these components, each inside the one before
abbrev pub gives : List Modifier → List Item → OwnName → Bool
gives args [] x = gives_own args x
gives args (d ∷ inner) x = of_argument (λ m. gives (args_of m) inner x) (first (item_name d) args)

-- one of the arguments that lead there is final
abbrev pub seals_own : List Modifier → OwnName → Bool
seals_own args (a_value x) = seals_value args x
seals_own args (a_unit x) = of_argument (λ m. is_final m || seals_value (args_of m) (codes "unit")) (first x args)

abbrev pub seals : List Modifier → List Item → OwnName → Bool
seals args [] x = seals_own args x
seals args (d ∷ inner) x = of_argument (λ m. is_final m || seals (args_of m) inner x) (first (item_name d) args)

-- a declaration of one of these components is final, or an argument of it that leads there
abbrev pub is_sealed : List Item → OwnName → Bool
is_sealed [] x = false
is_sealed (d ∷ inner) x = d.is_final || (seals d.args inner x || is_sealed inner x)

-- C24: an argument of one of these components, from the root on, gives a value, and nearer to it, further in, something is final; the last
-- says whether its own declaration is
abbrev pub modifies_final : List Item → OwnName → Bool → Bool
modifies_final [] x own_final = false
modifies_final (d ∷ inner) x own_final = (gives d.args inner x && (own_final || is_sealed inner x)) || modifies_final inner x own_final

abbrev pub is_constant : Prefix → Bool
is_constant prefix.Plain = false
is_constant prefix.Parameter = false
is_constant prefix.Constant = true

-- a parameter's own declaration is final; a constant's always is
abbrev pub value_is_final : Item → Bool
value_is_final item = item.is_final || is_constant item.prefix

-- a connector's own declaration is final for its unit, or its argument `unit` is
abbrev pub unit_is_final : Item → Bool
unit_is_final item = item.is_final || seals_value item.args (codes "unit")
