-- Arguments one by one.
use Rattle.std.proofs.Common.{◌≡◌, ℕ, Bool, true, false, ◌||◌, List, [], ◌∷◌, ◌++◌, map, take, drop, length, get_or, suc, ◌<◌, ◌≤◌, ◌+◌, Option, Some, None, refl, sym, ap, ◌∙◌, rules, add-one, drop-cons}
use Rattle.std.proofs.lemmas.List.{take_more, map-append, drop_all}
use Rattle.std.specs.Prelude.{is_some}
use Rattle.std.specs.Option.{option_or}
use Rattle.std.specs.List.{list_any}
use Rattle.std.specs.Str.{bytes_eq}
use Rattle.cdl_kinds.specs.declared.parameter.Parameter.{Parameter}
use Rattle.cdl_kinds.specs.declared.ports.Group.{Group as DeclaredGroup}
use Rattle.cdl_kinds.specs.Parameters.{parameter_row}
use Rattle.cdl_kinds.specs.Groups.{group_row}
use Rattle.cdl_kinds.specs.Table.{Group, ParameterRow}
use Rattle.cdl_tree.specs.declared.class.Modifier.{Modifier, out-Modifier, the_lemmas}
use Rattle.cdl_scopes.specs.Classes.{Declared}
use Rattle.cdl_paths.specs.Modifiers.{args_of, listed, name_of, value_of}
use Rattle.cdl_items.specs.declared.arguments.Target.{Target}
use Rattle.cdl_items.specs.Arguments.{has_name, has_port, has_parameter, has_group, modified, is_named, is_among, first_rule, rule_for, argument, argument_rule, arguments_rule}

pub any_map : {X Y : Type 0} (p : Y → Bool) (f : X → Y) (xs : List X) → list_any p (map f xs) ≡ list_any (λ x. p (f x)) xs
any_map p f [] = refl
any_map p f (x ∷ xs) = ap (λ (b : Bool). p (f x) || b) (any_map p f xs)

pub parameter_named : (rs : List Parameter) (qs : List ParameterRow) (x : List ℕ) → map parameter_row rs ≡ qs → has_parameter rs x ≡ has_name qs x
parameter_named rs qs x e = sym (any_map (λ (r : ParameterRow). bytes_eq r.name x) parameter_row rs) ∙ ap (λ (q : List ParameterRow). has_name q x) e

pub port_named : (gs : List DeclaredGroup) (hs : List Group) (x : List ℕ) → map group_row gs ≡ hs → has_group gs x ≡ has_port hs x
port_named gs hs x e = sym (any_map (λ (g : Group). bytes_eq g.name x) group_row gs) ∙ ap (λ (q : List Group). has_port q x) e

pub argument_list : (ds : List Declared) (m : Modifier) (t : Target) (again : Bool) (xs : List Modifier) → (out-Modifier m).args ≡ Some xs
    → argument_rule ds m t again ≡ rule_for (modified ds t (name_of m)) (is_some (value_of m)) true again (map (argument ds) xs)
unfolding argument
argument_list ds m t again xs h = search (rules, the_lemmas)

pub argument_alone : (ds : List Declared) (m : Modifier) (t : Target) (again : Bool) → (out-Modifier m).args ≡ None
    → argument_rule ds m t again ≡ rule_for (modified ds t (name_of m)) (is_some (value_of m)) false again []
unfolding argument
argument_alone ds m t again h = search (rules, the_lemmas)

pub argument_named : (ds : List Declared) (m : Modifier) → (argument ds m).name ≡ name_of m
unfolding argument
argument_named ds m = search (rules, the_lemmas)

argument_for : (ds : List Declared) (m : Modifier) (t : Target) (again : Bool) (o : Option (List Modifier)) → (out-Modifier m).args ≡ o
    → argument_rule ds m t again ≡ rule_for (modified ds t (name_of m)) (is_some (value_of m)) (is_some o) again (map (argument ds) (listed o))
argument_for ds m t again None h = argument_alone ds m t again h
argument_for ds m t again (Some xs) h = argument_list ds m t again xs h

-- an argument is judged by what it modifies, by its form, by its name, and then by its list
pub argument_is : (ds : List Declared) (m : Modifier) (t : Target) (again : Bool)
    → argument_rule ds m t again ≡ rule_for (modified ds t (name_of m)) (is_some (value_of m)) (is_some (out-Modifier m).args) again (map (argument ds) (args_of m))
argument_is ds m t again = argument_for ds m t again (out-Modifier m).args refl

-- behind the arguments so far: the next one, and then the rest
pub next_rule : (ds : List Declared) (t : Target) (args : List Modifier) (i : ℕ) (x : Modifier) → i < length args → x ≡ get_or args i x
    → first_rule t (map name_of (take i args)) (map (argument ds) (drop i args))
    ≡ option_or (argument_rule ds x t (is_named (name_of x) (take i args))) (first_rule t (map name_of (take (i + 1) args)) (map (argument ds) (drop (i + 1) args)))
next_rule ds t args i x l e =
    let rest : drop i args ≡ x ∷ drop (i + 1) args = rw (add-one) (drop-cons args i x l ∙ ap (λ (y : Modifier). y ∷ drop (suc i) args) (sym e)) in
    let front : take (i + 1) args ≡ take i args ++ x ∷ [] = take_more args i x l ∙ ap (λ (y : Modifier). take i args ++ y ∷ []) (sym e) in
    let names : map name_of (take (i + 1) args) ≡ map name_of (take i args) ++ name_of x ∷ [] = ap (map name_of) front ∙ map-append name_of (take i args) (x ∷ []) in
    let again : is_among (name_of x) (map name_of (take i args)) ≡ is_named (name_of x) (take i args) = any_map (λ (y : List ℕ). bytes_eq y (name_of x)) name_of (take i args) in
    let name : (argument ds x).name ≡ name_of x = argument_named ds x in
    ap (λ (ms : List Modifier). first_rule t (map name_of (take i args)) (map (argument ds) ms)) rest
    ∙ ap (λ (n : List ℕ). option_or (argument_rule ds x t (is_among n (map name_of (take i args)))) (first_rule t (map name_of (take i args) ++ n ∷ []) (map (argument ds) (drop (i + 1) args)))) name
    ∙ ap (λ (b : Bool). option_or (argument_rule ds x t b) (first_rule t (map name_of (take i args) ++ name_of x ∷ []) (map (argument ds) (drop (i + 1) args)))) again
    ∙ ap (λ (ns : List (List ℕ)). option_or (argument_rule ds x t (is_named (name_of x) (take i args))) (first_rule t ns (map (argument ds) (drop (i + 1) args)))) (sym names)

-- where none is left
pub no_rule : (ds : List Declared) (t : Target) (args : List Modifier) (i : ℕ) → length args ≤ i → first_rule t (map name_of (take i args)) (map (argument ds) (drop i args)) ≡ None
no_rule ds t args i l = ap (λ (ms : List Modifier). first_rule t (map name_of (take i args)) (map (argument ds) ms)) (drop_all i args l)

-- the rules of all arguments are those behind the ones so far
abbrev pub GoneTo : List Declared → Target → List Modifier → ℕ → Type 0
GoneTo ds t args i = first_rule t (map name_of (take i args)) (map (argument ds) (drop i args)) ≡ arguments_rule ds t [] args

pub rule_found : (ds : List Declared) (t : Target) (args : List Modifier) (i : ℕ) (x : Modifier) (again : Bool) (r : ℕ) → GoneTo ds t args i → i < length args → x ≡ get_or args i x
    → again ≡ is_named (name_of x) (take i args) → argument_rule ds x t again ≡ Some r → Some r ≡ arguments_rule ds t [] args
rule_found ds t args i x again r g l e a h =
    ap (λ (o : Option ℕ). option_or o (first_rule t (map name_of (take (i + 1) args)) (map (argument ds) (drop (i + 1) args)))) (sym h ∙ ap (λ (b : Bool). argument_rule ds x t b) a)
    ∙ sym (next_rule ds t args i x l e) ∙ g

pub rule_passed : (ds : List Declared) (t : Target) (args : List Modifier) (i : ℕ) (x : Modifier) (again : Bool) → GoneTo ds t args i → i < length args → x ≡ get_or args i x
    → again ≡ is_named (name_of x) (take i args) → argument_rule ds x t again ≡ None → GoneTo ds t args (i + 1)
rule_passed ds t args i x again g l e a h =
    ap (λ (o : Option ℕ). option_or o (first_rule t (map name_of (take (i + 1) args)) (map (argument ds) (drop (i + 1) args)))) (sym h ∙ ap (λ (b : Bool). argument_rule ds x t b) a)
    ∙ sym (next_rule ds t args i x l e) ∙ g
