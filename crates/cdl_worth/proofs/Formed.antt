-- The expressions that bind parameters of formed classes are formed.
use Rattle.std.proofs.Common.{ℕ, zero, suc, ◌+◌, ◌≡◌, refl, sym, ap, ◌∙◌, subst, rules, Bool, true, false, cond, ◌&&◌, List, [], ◌∷◌, map, Option, Some, None}
use Rattle.std.specs.Prelude.{slice_get, option_map, option_and_then}
use Rattle.std.specs.List.{list_all}
use Rattle.std.specs.Str.{bytes_eq}
use Rattle.std.proofs.lemmas.Bool.{and_parts}
use Rattle.cdl_source.specs.declared.place.Span.{Span}
use Rattle.cdl_tree.specs.declared.name.Ident.{Ident}
use Rattle.cdl_tree.specs.declared.expr.Expr.{Expr}
use Rattle.cdl_tree.specs.declared.class.Item.{Item}
use Rattle.cdl_tree.specs.declared.class.Modifier.{Modifier, out-Modifier, the_lemmas as modifier_lemmas}
use Rattle.cdl_tree.specs.declared.class.Statement.{Statement}
use Rattle.cdl_tree.specs.declared.class.ClassTree.{ClassTree, the_lemmas, roll-ClassTree}
use Rattle.cdl_tree.specs.declared.class.ClassTree.TheFolds.{ind-ClassTree, map-ClassTree}
use Rattle.cdl_tree.specs.declared.class.ClassTree.TheOpen.{ClassTree-F}
use Rattle.cdl_tree.specs.Parts.{items_of}
use Rattle.cdl_tree.specs.Proper.{all_of}
use Rattle.cdl_tree.specs.Formed.{formed_ident, formed_name, is_formed}
use Rattle.cdl_tree.specs.FormedFiles.{formed_value, formed_dim, formed_item, formed_class, formed_modifier, formed_statement}
use Rattle.cdl_kinds.specs.Table.{ParameterRow}
use Rattle.cdl_kinds.specs.Parameters.{parameters}
use Rattle.cdl_scopes.specs.Classes.{Declared}
use Rattle.cdl_classes.specs.declared.found.Found.{Found}
use Rattle.cdl_classes.specs.declared.found.Found.TheVariants as it
use Rattle.cdl_classes.specs.Rules.{class_of}
use Rattle.cdl_classes.specs.Table.{item_of}
use Rattle.cdl_paths.specs.declared.path.Step.{Step}
use Rattle.cdl_paths.specs.Members.{Declaration, declaration, declaration_at, item_at, inside}
use Rattle.cdl_paths.specs.Modifiers.{name_of, value_of, args_of, listed, first, given}
use Rattle.cdl_paths.specs.Bindings.{Bound, by_text, by_kind, the_given, own, given_or, binding_of, row_named}
use Rattle.cdl_worth.specs.Texts.{are_formed}

pub at_test : {X : Type 0} (p : X → Bool) (xs : List X) (i : ℕ) (x : X) → list_all p xs ≡ true → slice_get xs i ≡ Some x → p x ≡ true
at_test p [] i x h e = absurd (cc)
at_test p (y ∷ ys) zero x h e = let q : y ≡ x = cc in subst (λ z. p z ≡ true) q (and_parts (p y) (list_all p ys) h).0
at_test p (y ∷ ys) (suc i) x h e = at_test p ys i x (and_parts (p y) (list_all p ys) h).1 e

-- ---- arguments

all_listed : {X : Type 0} (p : X → Bool) (xs : List X) → all_of (map p xs) ≡ list_all p xs
all_listed p [] = refl
all_listed p (x ∷ xs) = ap (λ (b : Bool). p x && b) (all_listed p xs)

modifier_list : (m : Modifier) (xs : List Modifier) → (out-Modifier m).args ≡ Some xs
    → formed_modifier m ≡ (formed_ident (out-Modifier m).name && (all_of (map formed_modifier xs) && formed_value (value_of m)))
unfolding formed_modifier
modifier_list m xs h = search (rules, modifier_lemmas)

modifier_alone : (m : Modifier) → (out-Modifier m).args ≡ None → formed_modifier m ≡ (formed_ident (out-Modifier m).name && formed_value (value_of m))
unfolding formed_modifier
modifier_alone m h = search (rules, modifier_lemmas)

-- the value and the list of a formed argument are formed
modifier_by : (m : Modifier) (o : Option (List Modifier)) → (out-Modifier m).args ≡ o → formed_modifier m ≡ true → (formed_value (value_of m) ≡ true) × (list_all formed_modifier (listed o) ≡ true)
modifier_by m None h f = ((and_parts (formed_ident (out-Modifier m).name) (formed_value (value_of m)) (sym (modifier_alone m h) ∙ f)).1, refl)
modifier_by m (Some xs) h f =
    let both = and_parts (formed_ident (out-Modifier m).name) (all_of (map formed_modifier xs) && formed_value (value_of m)) (sym (modifier_list m xs h) ∙ f) in
    let rest = and_parts (all_of (map formed_modifier xs)) (formed_value (value_of m)) both.1 in
    (rest.1, sym (all_listed formed_modifier xs) ∙ rest.0)

modifier_parts : (m : Modifier) → formed_modifier m ≡ true → (formed_value (value_of m) ≡ true) × (list_all formed_modifier (args_of m) ≡ true)
modifier_parts m f = modifier_by m (out-Modifier m).args refl f

abbrev FormedArgument : Option Modifier → Type 0
FormedArgument None = Unit {0}
FormedArgument (Some m) = formed_modifier m ≡ true

chosen_formed : (b : Bool) (m : Modifier) (o : Option Modifier) → formed_modifier m ≡ true → FormedArgument o → FormedArgument (cond b (Some m) o)
chosen_formed true m o h k = h
chosen_formed false m o h k = k

first_formed : (name : List ℕ) (args : List Modifier) → list_all formed_modifier args ≡ true → FormedArgument (first name args)
first_formed name [] h = tt
first_formed name (m ∷ ms) h =
    let both = and_parts (formed_modifier m) (list_all formed_modifier ms) h in
    chosen_formed (bytes_eq (name_of m) name) m (first name ms) both.0 (first_formed name ms both.1)

value_formed : (o : Option Modifier) → FormedArgument o → formed_value (option_and_then value_of o) ≡ true
value_formed None h = refl
value_formed (Some m) h = (modifier_parts m h).0

inner_formed : (f : List Modifier → Option Expr) (o : Option Modifier) → FormedArgument o → ((args : List Modifier) → list_all formed_modifier args ≡ true → formed_value (f args) ≡ true)
    → formed_value (option_and_then (λ m. f (args_of m)) o) ≡ true
inner_formed f None h k = refl
inner_formed f (Some m) h k = k (args_of m) (modifier_parts m h).1

given_formed : (steps : List Step) (name : List ℕ) (args : List Modifier) → list_all formed_modifier args ≡ true → formed_value (given args steps name) ≡ true
given_formed [] name args h = value_formed (first name args) (first_formed name args h)
given_formed (s ∷ rest) name args h = inner_formed (λ inner. given inner rest name) (first s.name args) (first_formed s.name args h) (given_formed rest name)

-- ---- items

block_is : (n : Ident) (xs : List Item) (ss : List Statement) (s : Span)
    → formed_class (roll-ClassTree (ClassTree-F.Block n xs ss s)) ≡ (formed_ident n && (list_all formed_item xs && list_all formed_statement ss))
unfolding formed_class
block_is n xs ss s = search (rules, the_lemmas)

package_is : (n : Ident) (ts : List ClassTree) (xs : List Item) (s : Span)
    → formed_class (roll-ClassTree (ClassTree-F.Package n ts xs s)) ≡ (formed_ident n && (all_of (map formed_class ts) && list_all formed_item xs))
unfolding formed_class
package_is n ts xs s = search (rules, the_lemmas)

block_items : (n : Ident) (xs : List Item) (ss : List Statement) (s : Span) → items_of (roll-ClassTree (ClassTree-F.Block n xs ss s)) ≡ xs
unfolding items_of
block_items n xs ss s = search (rules, the_lemmas)

package_items : (n : Ident) (ts : List ClassTree) (xs : List Item) (s : Span) → items_of (roll-ClassTree (ClassTree-F.Package n ts xs s)) ≡ xs
unfolding items_of
package_items n ts xs s = search (rules, the_lemmas)

enumeration_items : (n : Ident) (is : List Ident) (s : Span) → items_of (roll-ClassTree (ClassTree-F.Enumeration n is s)) ≡ []
unfolding items_of
enumeration_items n is s = search (rules, the_lemmas)

abbrev HasFormed : ClassTree → Type 0
HasFormed c = formed_class c ≡ true → list_all formed_item (items_of c) ≡ true

class_items : (c : ClassTree) → HasFormed c
class_items = ind-ClassTree HasFormed (λ x y is. subst (λ z. HasFormed (roll-ClassTree z)) is (elim y as (λ k. HasFormed (roll-ClassTree (map-ClassTree _ ClassTree (λ e. e.0) k))) [
  | ClassTree-F.Block n xs ss s ↦ λ h. ap (list_all formed_item) (block_items n xs ss s) ∙ (and_parts _ _ (and_parts _ _ (sym (block_is n xs ss s) ∙ h)).1).0
  | ClassTree-F.Package n cs xs s ↦ λ h. ap (list_all formed_item) (package_items n (map (λ e. e.0) cs) xs s) ∙ (and_parts _ _ (and_parts _ _ (sym (package_is n (map (λ e. e.0) cs) xs s) ∙ h)).1).1
  | ClassTree-F.Enumeration n is s ↦ λ h. ap (list_all formed_item) (enumeration_items n is s)
]))

in_class : (o : Option Declared) → ((d : Declared) → o ≡ Some d → formed_class d.tree ≡ true) → (k : ℕ) (x : Item)
    → option_and_then (λ items. slice_get items k) (option_map (λ (d : Declared). items_of d.tree) o) ≡ Some x → formed_item x ≡ true
in_class None h k x e = absurd (cc)
in_class (Some d) h k x e = at_test formed_item (items_of d.tree) k x (class_items d.tree (h d refl)) e

item_formed : (ds : List Declared) → are_formed ds ≡ true → (c k : ℕ) (x : Item) → item_at ds c k ≡ Some x → formed_item x ≡ true
item_formed ds h c k x e = in_class (slice_get ds c) (λ d f. at_test (λ (d : Declared). formed_class d.tree) ds c d h f) k x e

declared_item : (x : Item) (o : Option Found) (m : Declaration) → option_map (declaration x) o ≡ Some m → Some x ≡ Some m.item
declared_item x None m e = absurd (cc)
declared_item x (Some f) m e = ap (option_map (λ (d : Declaration). d.item)) e

its_item : (g : Item → Option Found) (o : Option Item) (m : Declaration) → option_and_then (λ x. option_map (declaration x) (g x)) o ≡ Some m → o ≡ Some m.item
its_item g None m e = absurd (cc)
its_item g (Some x) m e = declared_item x (g x) m e

member_by : (ds : List Declared) → are_formed ds ≡ true → (c : ℕ) (o : Option ℕ) (m : Declaration) → option_and_then (declaration_at ds c) o ≡ Some m → formed_item m.item ≡ true
member_by ds h c None m e = absurd (cc)
member_by ds h c (Some k) m e = item_formed ds h c k m.item (its_item (class_of ds c) (item_at ds c k) m e)

-- an item that is found is formed
abbrev pub FormedMember : Option Declaration → Type 0
FormedMember o = (m : Declaration) → o ≡ Some m → formed_item m.item ≡ true

inside_formed : (ds : List Declared) → are_formed ds ≡ true → (f : Found) (name : List ℕ) → FormedMember (inside ds f name)
inside_formed ds h (it.Class c) name m e = member_by ds h c.index (item_of ds c.index name) m e
inside_formed ds h (it.Kind k) name m e = absurd (cc)
inside_formed ds h (it.Connector t b) name m e = absurd (cc)
inside_formed ds h (it.Scalar t) name m e = absurd (cc)
inside_formed ds h it.Package name m e = absurd (cc)
inside_formed ds h it.Unsupported name m e = absurd (cc)

item_parts : (x : Item) → formed_item x ≡ true → (list_all formed_modifier x.args ≡ true) × (formed_value x.value ≡ true)
item_parts x h =
    let a = and_parts (formed_name x.class) _ h in
    let b = and_parts (formed_ident x.name) _ a.1 in
    let c = and_parts (list_all formed_dim x.dims) _ b.1 in
    let d = and_parts (list_all formed_modifier x.args) _ c.1 in
    (d.0, (and_parts (formed_value x.value) _ d.1).0)

-- ---- bindings

abbrev pub FormedBound : Option Bound → Type 0
FormedBound None = Unit {0}
FormedBound (Some (by_text g)) = is_formed g.value ≡ true
FormedBound (Some (by_kind d)) = Unit {0}

text_formed : (k : ℕ) (o : Option Expr) → formed_value o ≡ true → FormedBound (option_map (λ e. by_text (the_given k [] e)) o)
text_formed k None h = tt
text_formed k (Some e) h = h

member_bound : (k : ℕ) (o : Option Declaration) → FormedMember o → FormedBound (option_map (λ e. by_text (the_given k [] e)) (option_and_then (λ (m : Declaration). m.item.value) o))
member_bound k None h = tt
member_bound k (Some m) h = text_formed k m.item.value (item_parts m.item (h m refl)).1

row_bound : (o : Option ParameterRow) → FormedBound (option_map (λ (r : ParameterRow). by_kind r.preset) o)
row_bound None = tt
row_bound (Some r) = tt

own_formed : (ds : List Declared) → are_formed ds ≡ true → (f : Found) (k : ℕ) (name : List ℕ) → FormedBound (own ds f k name)
own_formed ds h (it.Class c) k name = member_bound k (inside ds (it.Class c) name) (inside_formed ds h (it.Class c) name)
own_formed ds h (it.Kind kind) k name = row_bound (row_named name (parameters kind))
own_formed ds h (it.Connector t b) k name = tt
own_formed ds h (it.Scalar t) k name = tt
own_formed ds h it.Package k name = tt
own_formed ds h it.Unsupported k name = tt

or_formed : (k : ℕ) (args : List Modifier) (o : Option Expr) (b : Option Bound) → formed_value o ≡ true → FormedBound b → FormedBound (given_or k args o b)
or_formed k args None b h i = i
or_formed k args (Some e) b h i = h

behind : (k : ℕ) (rest : List Step) (name : List ℕ) (o : Option Declaration) (f : Found → Option Bound) → FormedMember o → ((g : Found) → FormedBound (f g))
    → FormedBound (option_and_then (λ (m : Declaration). given_or k m.item.args (given m.item.args rest name) (f m.class)) o)
behind k rest name None f h i = tt
behind k rest name (Some m) f h i = or_formed k m.item.args (given m.item.args rest name) (f m.class) (given_formed rest name m.item.args (item_parts m.item (h m refl)).0) (i m.class)

-- what binds a parameter of formed classes
pub binding_formed : (ds : List Declared) → are_formed ds ≡ true → (p : List Step) (f : Found) (k : ℕ) (name : List ℕ) → FormedBound (binding_of ds f k p name)
binding_formed ds h [] f k name = own_formed ds h f k name
binding_formed ds h (s ∷ rest) f k name = behind k rest name (inside ds f s.name) (λ g. binding_of ds g (k + 1) rest name) (inside_formed ds h f s.name) (λ g. binding_formed ds h rest g (k + 1) name)
