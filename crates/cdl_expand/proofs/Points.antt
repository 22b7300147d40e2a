-- Elements are Boolean, Integer or Real; only Reals have units, and those are short texts of UTF-8.
use Rattle.std.proofs.Common.{◌≡◌, ℕ, ◌≤◌, Bool, true, false, cond, List, [], ◌∷◌, ◌++◌, map, length, Option, Some, None, Ok, Err, refl, sym, ap, ◌∙◌, subst, arith, inl, inr, if◌then◌else◌, codes, IsUtf8, All}
use Rattle.std.specs.Prelude.{◌&&◌, IfOk, slice_get, option_and_then}
use Rattle.std.specs.List.{list_all}
use Rattle.std.specs.Str.{bytes_eq}
use Rattle.std.proofs.lemmas.List.Elements.{All-head, All-tail}
use Rattle.std.proofs.lemmas.Str.{IsUtf8-nil}
use Rattle.std.proofs.lemmas.Bool.{false≢true}
use Rattle.cdl_source.specs.declared.limits.TheConstants.{LONGEST_UNIT}
use Rattle.cdl_values.specs.declared.value.Array.{Array}
use Rattle.cdl_values.specs.declared.value.Value.{Value}
use Rattle.cdl_values.specs.declared.value.Value.TheVariants as value
use Rattle.cdl_values.specs.declared.value.ValueType.{ValueType}
use Rattle.cdl_values.specs.declared.value.ValueType.TheVariants as type
use Rattle.cdl_values.specs.Values.{items_of}
use Rattle.cdl_array.specs.Outcomes.{Outcome, then_to}
use Rattle.cdl_kinds.specs.declared.kind.Kind.{Kind}
use Rattle.cdl_kinds.specs.declared.kind.Kind.TheVariants as kind
use Rattle.cdl_kinds.specs.Names.{kinds, found}
use Rattle.cdl_kinds.specs.Ports.{nin_or_nout}
use Rattle.cdl_kinds.specs.Table.{Group, row}
use Rattle.cdl_connect.specs.WellFormed.{is_plain}
use Rattle.cdl_network.specs.Lists.{In}
use Rattle.cdl_network.specs.Rules.{is_real as is_real_in}
use Rattle.cdl_network.proofs.Inside.{in_filter, in_slice}
use Rattle.cdl_tree.specs.declared.class.Item.{Item}
use Rattle.cdl_tree.specs.declared.class.Prefix.{Prefix}
use Rattle.cdl_tree.specs.declared.class.Prefix.TheVariants as prefix
use Rattle.cdl_scopes.specs.declared.lookup.Sought.TheVariants.{Class}
use Rattle.cdl_scopes.specs.Classes.{Full, Declared, declared, parts_of}
use Rattle.cdl_scopes.specs.Lookup.{Entity, a_class, a_package, in_cdl, in_modelica, a_type, a_constant, a_literal, item_name, meaning}
use Rattle.cdl_classes.specs.declared.found.ClassId.{ClassId}
use Rattle.cdl_classes.specs.declared.found.Found.{Found}
use Rattle.cdl_classes.specs.declared.found.Found.TheVariants as it
use Rattle.cdl_classes.specs.Found.{joined, connector_named, connector_at, or_kind, modelica_found, found_of}
use Rattle.cdl_paths.specs.declared.path.Step.{Step}
use Rattle.cdl_classes.specs.Rules.{class_of}
use Rattle.cdl_paths.specs.Members.{item_at}
use Rattle.cdl_worth.specs.Texts.{HasUnits, IsUnit}
use Rattle.cdl_params.specs.Kept.{Model}
use Rattle.cdl_stations.specs.Keys.{Key, In as InKeys}
use Rattle.cdl_items.specs.declared.role.Role.TheVariants as role
use Rattle.cdl_walk.specs.declared.walked.Point.{Point}
use Rattle.cdl_walk.specs.Elements.{is_real, point_at, points, port_sizes, text_in, text_of, unit_at}
use Rattle.cdl_walk.specs.Instances.{Thing, Block, Elementary, Elements, Seen, Owned, IsThing, owned_by, elements_from, elements_in, instances_in, plain_units, ports_from, ports_of}
use Rattle.cdl_walk.specs.Events.{same_steps}
use Rattle.cdl_items.specs.Roles.{class_at, plain_role, role_by, role_of}
use Rattle.cdl_walk.specs.Stations.{items_in, the_root}
use Rattle.cdl_walk.specs.Worth.{dims, present, unit}
use Rattle.cdl_model.specs.Parts.{Unfolding, AreParts, by_instance, own}
use Rattle.cdl_model.proofs.Joined.{in_either, of_tabulate}
use Rattle.cdl_expand.specs.inner.Ordered.{HaveUnits}
use Rattle.cdl_expand.proofs.Ports.{sides}
use Rattle.cdl_expand.proofs.Things.{Things, brings_elements, brought, each_thing}
use Rattle.cdl_expand.proofs.Walking.{to_keys}

abbrev items_ok : List Value → Outcome (List Value)
items_ok vs = Ok vs

abbrev points_ok : List Point → Outcome (List Point)
points_ok ps = Ok ps

the_items : (xs ys : List Value) → items_ok xs ≡ items_ok ys → xs ≡ ys
the_items xs ys e = cc

the_points : (xs ys : List Point) → points_ok xs ≡ points_ok ys → xs ≡ ys
the_points xs ys e = cc

-- ---- units

-- a text of at most 64 bytes
abbrev pub IsShort : List ℕ → Type 0
IsShort t = length t ≤ LONGEST_UNIT

-- that is UTF-8
abbrev pub IsUnitText : List ℕ → Type 0
IsUnitText t = IsUtf8 t × IsShort t

none_short : IsShort []
none_short = omega arith

no_unit : IsUnitText []
no_unit = (IsUtf8-nil, none_short)

unit_text : (v : Value) → IsUnit v → IsUnitText (text_of v)
unit_text (value.Str t) h = h
unit_text (value.Boolean b) h = no_unit
unit_text (value.Integer z) h = no_unit
unit_text (value.Real z) h = no_unit
unit_text (value.Enumeration c o) h = no_unit

unit_texts : (vs : List Value) → All IsUnit vs → (v : Value) → In v vs → IsUnitText (text_of v)
unit_texts [] h v i = absurd i
unit_texts (x ∷ xs) h v (inl e) = subst (λ (z : Value). IsUnitText (text_of z)) (sym e) (unit_text x (All-head IsUnit x xs h))
unit_texts (x ∷ xs) h v (inr i) = unit_texts xs (All-tail IsUnit x xs h) v i

both : (b c : Bool) → (b && c) ≡ true → (b ≡ true) × (c ≡ true)
both true c h = (refl, h)
both false c h = absurd (false≢true h)

module _ {A B : Type 0} where
  then_parts : (o : Outcome A) (f : A → Outcome B) (b : B) → then_to o f ≡ Ok b → (a : A) × (o ≡ Ok a) × (f a ≡ Ok b)
  then_parts (Ok a) f b h = (a, refl, h)
  then_parts (Err r) f b h = absurd (cc)

-- the units of the elements of a type: texts of units, and none where it isn't Real
pub record AreUnitsOf (t : ValueType) (us : List Value) : Type 0 where
  pub real : is_real t ≡ false → us ≡ []
  pub text : (v : Value) → In v us → IsUnitText (text_of v)

no_units : (t : ValueType) (us : List Value) → [] ≡ us → AreUnitsOf t us
no_units t us e = record { real = λ h. sym e; text = λ v i. absurd (subst (λ (l : List Value). In v l) (sym e) i) }

units_chosen : (w : Model) (good : HaveUnits w) (p : List Step) (x : List ℕ) (t : ValueType) (b : Bool) (us : List Value) → is_real t ≡ b → cond b (then_to (unit w p x) items_in) (Ok []) ≡ Ok us → AreUnitsOf t us
units_chosen w good p x t true us e h =
    let a = then_parts (unit w p x) items_in us h in
    let same : a.0.items ≡ us = the_items a.0.items us a.2 in
    record {
      real = λ f. absurd (false≢true (sym f ∙ e));
      text = λ v i. unit_texts a.0.items (subst (λ (o : Outcome Array). IfOk o HasUnits) a.1 (good p x)) v (subst (λ (l : List Value). In v l) (sym same) i);
    }
units_chosen w good p x t false us e h = no_units t us (the_items [] us h)

pub units_of : (w : Model) (good : HaveUnits w) (p : List Step) (x : List ℕ) (t : ValueType) (us : List Value) → plain_units w p x t ≡ Ok us → AreUnitsOf t us
units_of w good p x t us h = units_chosen w good p x t (is_real t) us refl h

-- ---- types

-- connectors that are found have plain types
abbrev FoundPlain : Option Found → Type 0
FoundPlain None = Unit {0}
FoundPlain (Some (it.Connector t b)) = is_plain t ≡ true
FoundPlain (Some f) = Unit {0}

chosen : (b : Bool) (x y : Option Found) → FoundPlain x → FoundPlain y → FoundPlain (if b then x else y)
chosen true x y f g = f
chosen false x y f g = g

abbrev found_connector : ValueType → Bool → Option Found
found_connector t input = Some (it.Connector t input)

abbrev real_output : List ℕ → Option Found
real_output x = if bytes_eq x (codes "RealOutput") then found_connector type.Real false else None

abbrev real_input : List ℕ → Option Found
real_input x = if bytes_eq x (codes "RealInput") then found_connector type.Real true else real_output x

abbrev integer_output : List ℕ → Option Found
integer_output x = if bytes_eq x (codes "IntegerOutput") then found_connector type.Integer false else real_input x

abbrev integer_input : List ℕ → Option Found
integer_input x = if bytes_eq x (codes "IntegerInput") then found_connector type.Integer true else integer_output x

abbrev boolean_output : List ℕ → Option Found
boolean_output x = if bytes_eq x (codes "BooleanOutput") then found_connector type.Boolean false else integer_input x

named_plain : (x : List ℕ) → FoundPlain (connector_named x)
named_plain x =
    chosen (bytes_eq x (codes "BooleanInput")) (found_connector type.Boolean true) (boolean_output x) refl
    (chosen (bytes_eq x (codes "BooleanOutput")) (found_connector type.Boolean false) (integer_input x) refl
    (chosen (bytes_eq x (codes "IntegerInput")) (found_connector type.Integer true) (integer_output x) refl
    (chosen (bytes_eq x (codes "IntegerOutput")) (found_connector type.Integer false) (real_input x) refl
    (chosen (bytes_eq x (codes "RealInput")) (found_connector type.Real true) (real_output x) refl
    (chosen (bytes_eq x (codes "RealOutput")) (found_connector type.Real false) None refl tt)))))

at_plain : (x : Full) → FoundPlain (connector_at x)
at_plain [] = tt
at_plain (i ∷ []) = tt
at_plain (i ∷ x ∷ []) = chosen (bytes_eq i (codes "Interfaces")) (connector_named x) None (named_plain x) tt
at_plain (i ∷ x ∷ y ∷ rest) = tt

kind_plain : (o : Option Found) (k : Option Kind) → FoundPlain o → FoundPlain (Some (or_kind o k))
kind_plain None None h = tt
kind_plain None (Some k) h = tt
kind_plain (Some f) k h = h

not_connector : (b : Bool) (f g : Found) → FoundPlain (Some f) → FoundPlain (Some g) → FoundPlain (Some (if b then f else g))
not_connector true f g x y = x
not_connector false f g x y = y

modelica_plain : (x : Full) → FoundPlain (Some (modelica_found x))
modelica_plain [] = tt
modelica_plain (a ∷ []) = tt
modelica_plain (a ∷ b ∷ []) = not_connector (bytes_eq a (codes "SIunits")) (it.Scalar type.Real) it.Unsupported tt tt
modelica_plain (a ∷ b ∷ c ∷ []) = not_connector (bytes_eq a (codes "Units") && bytes_eq b (codes "SI")) (it.Scalar type.Real) it.Unsupported tt tt
modelica_plain (a ∷ b ∷ c ∷ d ∷ rest) = tt

entity_plain : (e : Entity) → FoundPlain (found_of e)
entity_plain (a_class i) = tt
entity_plain (a_package q) = tt
entity_plain (in_cdl below) = kind_plain (connector_at below) (found (joined below) kinds) (at_plain below)
entity_plain (in_modelica below) = modelica_plain below
entity_plain (a_type t) = tt
entity_plain (a_constant p i) = tt
entity_plain (a_literal c k) = tt

class_plain : (o : Option Entity) → FoundPlain (option_and_then found_of o)
class_plain None = tt
class_plain (Some e) = entity_plain e

item_plain : (ds : List Declared) (c : ℕ) (o : Option Item) → FoundPlain (option_and_then (class_of ds c) o)
item_plain ds c None = tt
item_plain ds c (Some x) = class_plain (meaning ds Class c (parts_of x.class))

role_plain : (f : Option Found) (t : ValueType) (b : Bool) → FoundPlain f → plain_role f ≡ role.Connector t b → is_plain t ≡ true
role_plain None t b h e = absurd (cc)
role_plain (Some (it.Class c)) t b h e = absurd (cc)
role_plain (Some (it.Kind k)) t b h e = absurd (cc)
role_plain (Some (it.Connector u i)) t b h e = let same : u ≡ t = cc in ap is_plain (sym same) ∙ h
role_plain (Some (it.Scalar u)) t b h e = absurd (cc)
role_plain (Some it.Package) t b h e = absurd (cc)
role_plain (Some it.Unsupported) t b h e = absurd (cc)

prefix_plain : (p : Prefix) (f : Option Found) (t : ValueType) (b : Bool) → FoundPlain f → role_by p f ≡ role.Connector t b → is_plain t ≡ true
prefix_plain prefix.Parameter f t b h e = absurd (cc)
prefix_plain prefix.Constant f t b h e = absurd (cc)
prefix_plain prefix.Plain f t b h e = role_plain f t b h e

-- a connector has a plain type
pub connector_type : (ds : List Declared) (c k : ℕ) (x : Item) (t : ValueType) (b : Bool) → role_of ds c k x ≡ role.Connector t b → is_plain t ≡ true
connector_type ds c k x t b e = prefix_plain x.prefix (class_at ds c k) t b (item_plain ds c (item_at ds c k)) e

-- so have the ports of kinds
groups_plain : (k : Kind) → list_all (λ (g : Group). is_plain g.value_type) ((row k).ins ++ (row k).outs) ≡ true
groups_plain kind.LogicalAnd = refl
groups_plain k = refl

-- ---- what stands in a model

-- an element is of a plain type; its unit is a text of one, and empty where it isn't Real
pub record IsFine (x : Point) : Type 0 where
  pub plain : is_plain x.value_type ≡ true
  pub text : IsUnitText x.unit
  pub real : is_real_in x.value_type ≡ false → x.unit ≡ []

abbrev pub AreFine : List Point → Type 0
AreFine ps = (x : Point) → In x ps → IsFine x

unit_small : (us : List Value) (o : Option Value) → ((v : Value) → o ≡ Some v → IsUnitText (text_of v)) → IsUnitText (text_in o)
unit_small us None f = no_unit
unit_small us (Some v) f = f v refl

real_same : (t : ValueType) → is_real_in t ≡ false → is_real t ≡ false
real_same type.Boolean e = refl
real_same type.Integer e = refl
real_same type.Real e = absurd (false≢true (sym e))
real_same type.Str e = refl
real_same (type.Enumeration c) e = refl

map_id : (xs : List Point) → map (λ (y : Point). y) xs ≡ xs
map_id [] = refl
map_id (x ∷ xs) = ap (λ (l : List Point). x ∷ l) (map_id xs)

points_fine : (name : List ℕ) (t : ValueType) (input : Bool) (ns : List ℕ) (us : List Value) → is_plain t ≡ true → AreUnitsOf t us → AreFine (points name t input ns us)
points_fine name t input ns us p u x i =
    let z = of_tabulate (λ (y : Point). y) (items_of ns) (point_at name t input ns us) x (subst (λ (l : List Point). In x l) (sym (map_id (points name t input ns us))) i) in
    subst (λ (y : Point). IsFine y) (sym z.2) (record {
      plain = p;
      text = unit_small us (slice_get us z.0) (λ v e. u.text v (in_slice us z.0 v e));
      real = λ e. ap (λ (l : List Value). unit_at l z.0) (u.real (real_same t e));
    })

both_fine : (ps qs : List Point) → AreFine ps → AreFine qs → AreFine (ps ++ qs)
both_fine ps qs f g x i = elim (in_either x ps qs i) as (λ _. IsFine x) [ inl a ↦ f x a | inr b ↦ g x b ]

ports_fine : (w : Model) (good : HaveUnits w) (p : List Step) (n : ℕ) (input : Bool) (gs : List Group) (ps : List Point) → list_all (λ (g : Group). is_plain g.value_type) gs ≡ true → ports_from w p n input gs ≡ Ok ps → AreFine ps
ports_fine w good p n input [] ps f e = λ x i. absurd (subst (λ (l : List Point). In x l) (sym (the_points [] ps e)) i)
ports_fine w good p n input (g ∷ gs) ps f e =
    let a = then_parts (plain_units w p g.name g.value_type) (λ us. then_to (ports_from w p n input gs) (λ more. Ok (points g.name g.value_type input (port_sizes n g) us ++ more))) ps e in
    let b = then_parts (ports_from w p n input gs) (λ more. Ok (points g.name g.value_type input (port_sizes n g) a.0 ++ more)) ps a.2 in
    let t = both (is_plain g.value_type) (list_all (λ (h : Group). is_plain h.value_type) gs) f in
    subst (λ (l : List Point). AreFine l) (the_points (points g.name g.value_type input (port_sizes n g) a.0 ++ b.0) ps b.2)
    (both_fine (points g.name g.value_type input (port_sizes n g) a.0) b.0
    (points_fine g.name g.value_type input (port_sizes n g) a.0 t.0 (units_of w good p g.name g.value_type a.0 a.1))
    (ports_fine w good p n input gs b.0 t.1 b.1))

list_both : {A : Type 0} (f : A → Bool) (xs ys : List A) → list_all f (xs ++ ys) ≡ true → (list_all f xs ≡ true) × (list_all f ys ≡ true)
list_both f [] ys h = (refl, h)
list_both f (x ∷ xs) ys h =
    let a = both (f x) (list_all f (xs ++ ys)) h in
    let b = list_both f xs ys a.1 in
    (ap (λ t. t && list_all f xs) a.0 ∙ b.0, b.1)

kind_fine : (w : Model) (good : HaveUnits w) (p : List Step) (k : Kind) (v : List Array) (ps : List Point) → ports_of w p k v ≡ Ok ps → AreFine ps
kind_fine w good p k v ps e =
    let z = sides (ports_from w p (nin_or_nout v) true (row k).ins) (ports_from w p (nin_or_nout v) false (row k).outs) ps e in
    let g = list_both (λ (h : Group). is_plain h.value_type) (row k).ins (row k).outs (groups_plain k) in
    subst (λ (l : List Point). AreFine l) z.4
    (both_fine z.0 z.1 (ports_fine w good p (nin_or_nout v) true (row k).ins z.0 g.0 z.2) (ports_fine w good p (nin_or_nout v) false (row k).outs z.1 g.1 z.3))

-- a connector that isn't there has no elements, another one has those of its sizes
connector_fine : (w : Model) (p : List Step) (item : Item) (t : ValueType) (input : Bool) (o : Outcome Bool) (z : Outcome (List ℕ)) (y : Outcome (List Value)) (ps : List Point) → is_plain t ≡ true
    → ((us : List Value) → y ≡ Ok us → AreUnitsOf t us)
    → then_to o (λ there. cond there (then_to z (λ ns. then_to y (λ us. Ok (points (item_name item) t input ns us)))) (Ok [])) ≡ Ok ps → AreFine ps
connector_fine w p item t input (Err r) z y ps f g e = absurd (cc)
connector_fine w p item t input (Ok false) z y ps f g e = λ x i. absurd (subst (λ (l : List Point). In x l) (sym (the_points [] ps e)) i)
connector_fine w p item t input (Ok true) (Err r) y ps f g e = absurd (cc)
connector_fine w p item t input (Ok true) (Ok ns) (Err r) ps f g e = absurd (cc)
connector_fine w p item t input (Ok true) (Ok ns) (Ok us) ps f g e =
    subst (λ (l : List Point). AreFine l) (the_points (points (item_name item) t input ns us) ps e) (points_fine (item_name item) t input ns us f (g us refl))

abbrev points_from : Thing → List Point
points_from (Block p c) = []
points_from (Elementary p k v ps) = ps
points_from (Elements p ps) = ps

fine_thing : (w : Model) (good : HaveUnits w) (k : Key) (p : List Step) (c : ClassId) (t : Thing) → IsThing w p c k t → AreFine (points_from t)
fine_thing w good = each_thing w (λ t. AreFine (points_from t)) (λ p c x i. absurd i) (λ p k v ps e f. kind_fine w good p k v ps f) (λ p c i t a.
    let z = brings_elements w p c i t a in
    subst (λ (y : Thing). AreFine (points_from y)) (sym z.2)
    (connector_fine w p a.item a.value_type a.input (present w p a.item) (dims w p a.item) (plain_units w p (item_name a.item) a.value_type) z.0
    (connector_type (declared w.files) c.index i a.item a.value_type a.input a.role_is) (λ us h. units_of w good p (item_name a.item) a.value_type us h) z.1))

owned_point : (p : List Step) (ps : List Point) (x : Owned) → InKeys x (map (owned_by p) ps) → In x.point ps
owned_point p [] x i = absurd i
owned_point p (y ∷ ps) x (inl e) = inl (ap (λ (z : Owned). z.point) e)
owned_point p (y ∷ ps) x (inr i) = inr (owned_point p ps x i)

from_point : (t : Thing) (x : Owned) → InKeys x (elements_from t) → In x.point (points_from t)
from_point (Block p c) x i = absurd i
from_point (Elementary p k v ps) x i = owned_point p ps x i
from_point (Elements p ps) x i = owned_point p ps x i

-- each element of a model is fine
pub all_fine : (w : Model) (good : HaveUnits w) (xs : Things) → ((k : Key) (t : Thing) → InKeys {X = Key × Thing} (k, t) xs → IsThing w [] (the_root w) k t) → (x : Owned) → InKeys x (elements_in xs) → IsFine x.point
all_fine w good xs f x i = let b = brought x xs i in fine_thing w good b.0 [] (the_root w) b.1 (f b.0 b.1 b.2) x.point (from_point b.1 x b.3)

-- ---- by instance

in_grouped : (ss : List Seen) (os : List Owned) (x : Owned) → In x (by_instance ss os) → In x os
in_grouped [] os x i = absurd i
in_grouped (s ∷ ss) os x i = elim (in_either x (own os s.path) (by_instance ss os) i) as (λ _. In x os) [
  | inl a ↦ in_filter (λ (y : Owned). same_steps y.path s.path) x os a
  | inr b ↦ in_grouped ss os x b
]

pub unfolded_fine : (w : Model) (good : HaveUnits w) (u : Unfolding) → AreParts w u → (x : Owned) → In x u.elements → IsFine x.point
unfolded_fine w good u r x i =
    let there : In x (by_instance (instances_in r.things) (elements_in r.things)) = subst (λ (l : List Owned). In x l) r.elements i in
    all_fine w good r.things r.lists.only x (to_keys x (elements_in r.things) (in_grouped (instances_in r.things) (elements_in r.things) x there))
