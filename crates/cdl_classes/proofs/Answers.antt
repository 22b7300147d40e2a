-- What a table answers is in range, and of the sort that it says.
use Rattle.std.proofs.lemmas.Option.{same_Some}
use Rattle.std.proofs.Common.{◌≡◌, ◌<◌, ◌≤◌, ◌+◌, ℕ, zero, suc, Bool, true, false, List, [], ◌∷◌, ◌++◌, map, length, Option, Some, None, Vec, nat_lt, refl, sym, ◌∙◌, ap, subst, inl, inr, arith, length-append}
use Rattle.std.specs.Prelude.{IfSome, option_and_then, option_map, if◌then◌else◌}
use Rattle.std.specs.List.{slice_get}
use Rattle.std.specs.Str.{bytes_eq}
use Rattle.std.proofs.lemmas.Bool.{cases_Bool, false≢true, false_from_ne_true}
use Rattle.std.proofs.lemmas.Bool.Decides.{Decides-ltb}
use Rattle.std.proofs.lemmas.List.{length-map}
use Rattle.cdl_tree.specs.declared.class.ClassTree.{ClassTree, out-ClassTree}
use Rattle.cdl_tree.specs.declared.class.ClassTree.TheOpen.{ClassTree-F}
use Rattle.cdl_tree.specs.declared.class.Item.{Item}
use Rattle.cdl_tree.specs.Parts.{items_at as layer_items, items_of, literals_at, literals_of}
use Rattle.cdl_source.specs.declared.place.Place.{Place}
use Rattle.std.specs.declared.alloc.Global.{Global}
use Rattle.cdl_classes.specs.declared.found.ClassId.{ClassId}
use Rattle.cdl_classes.specs.declared.found.ValueFound.{ValueFound}
use Rattle.cdl_scopes.specs.declared.lookup.ClassSort.{ClassSort}
use Rattle.cdl_scopes.specs.declared.lookup.ClassSort.TheVariants as sort
use Rattle.cdl_scopes.specs.declared.lookup.Sought.TheVariants.{Value}
use Rattle.cdl_tree.specs.declared.class.FileTree.{FileTree}
use Rattle.cdl_tree.specs.declared.name.Ident.{Ident}
use Rattle.cdl_tree.specs.declared.name.Name.{Name}
use Rattle.cdl_scopes.specs.declared.lookup.Sought.{Sought}
use Rattle.cdl_scopes.specs.Classes.{Full, Declared, declared, parts_of, text_of}
use Rattle.cdl_scopes.specs.Lookup.{Entity, a_class, a_package, in_cdl, in_modelica, a_type, a_constant, a_literal, first_named_from, first_named, first_of, item_name, member_names, meaning, sort_at, sort_of}
use Rattle.cdl_classes.specs.Found.{value_of}
use Rattle.cdl_classes.specs.Rules.{broken_12, class_of, class_place, if_broken, is_missing, is_none, places_from, places_in}
use Rattle.cdl_classes.specs.Table.{IsOf, IsValue, block_of, if_block, item_of, items_at}
use Rattle.cdl_classes.specs.inner.Kept.{AreItemClasses, classes_of}
use Rattle.cdl_classes.specs.declared.found.Found.{Found}
use Rattle.cdl_scopes.proofs.Lists.{get_at}
use Rattle.cdl_scopes.proofs.Meanings.{Valid, yields_meaning}
use Rattle.cdl_scopes.proofs.Walk.{then_some}

-- ---- the members of a class by its sort

no_literals_at : (c : ClassTree-F ClassTree) → sort_at c ≡ sort.Package → literals_at c ≡ []
no_literals_at (ClassTree-F.Block name items statements span) e = refl
no_literals_at (ClassTree-F.Package name classes constants span) e = refl
no_literals_at (ClassTree-F.Enumeration name literals span) e = cc

no_items_at : (c : ClassTree-F ClassTree) → sort_at c ≡ sort.Enumeration → layer_items c ≡ []
no_items_at (ClassTree-F.Block name items statements span) e = cc
no_items_at (ClassTree-F.Package name classes constants span) e = cc
no_items_at (ClassTree-F.Enumeration name literals span) e = refl

no_literals : (c : ClassTree) → sort_of c ≡ sort.Package → literals_of c ≡ []
unfolding sort_of literals_of
no_literals c e = no_literals_at (out-ClassTree c) e

no_items : (c : ClassTree) → sort_of c ≡ sort.Enumeration → items_of c ≡ []
unfolding sort_of items_of
no_items c e = no_items_at (out-ClassTree c) e

member_size : (c : ClassTree) → length (member_names c) ≡ length (items_of c) + length (literals_of c)
member_size c = omega (arith, length-append (map item_name (items_of c)) (map text_of (literals_of c)), length-map (items_of c) item_name, length-map (literals_of c) text_of)

constant_within : (c : ClassTree) (i : ℕ) → sort_of c ≡ sort.Package → i < length (member_names c) → i < length (items_of c)
constant_within c i s l = omega (arith, member_size c, ap length (no_literals c s))

literal_within : (c : ClassTree) (k : ℕ) → sort_of c ≡ sort.Enumeration → k < length (member_names c) → k + 1 ≤ length (literals_of c)
literal_within c k s l = omega (arith, member_size c, ap length (no_items c s))

-- ---- values

value_is : (ds : List Declared) (e : Entity) (v : ValueFound) → Valid ds e → value_of e ≡ Some v → IsValue ds v
value_is ds (a_class i) v h e = cc
value_is ds (a_package q) v h e = cc
value_is ds (in_cdl below) v h e = cc
value_is ds (in_modelica below) v h e = cc
value_is ds (a_type t) v h e = cc
value_is ds (a_constant p i) v h e =
    let P : ValueFound → Type 0 = λ x. IsValue ds x in
    subst P (same_Some _ v e) (record { declared = h.0; at = h.1; sort = h.2 }, constant_within (h.0).tree i h.2 h.3)
value_is ds (a_literal c k) v h e =
    let P : ValueFound → Type 0 = λ x. IsValue ds x in
    subst P (same_Some _ v e) (record { declared = h.0; at = h.1; sort = h.2 }, omega arith, literal_within (h.0).tree k h.2 h.3)

pub value_known : (ds : List Declared) (number : ℕ) (name : Full) (v : ValueFound) → option_and_then value_of (meaning ds Value number name) ≡ Some v → IsValue ds v
value_known ds number name v e =
    let m = then_some value_of (meaning ds Value number name) v e in
    value_is ds m.0 v (yields_meaning ds Value number name m.0 m.1) m.2

-- ---- blocks

block_sort : (ds : List Declared) (i : ℕ) (d : Declared) (s : ClassSort) (c : ClassId) → slice_get ds i ≡ Some d → sort_of d.tree ≡ s → if_block i s ≡ Some c → IsOf ds sort.Block c
block_sort ds i d sort.Block c a s e =
    let index : i ≡ c.index = ap (λ (x : ClassId). x.index) (same_Some (record { index = i }) c e) in
    record { declared = d; at = ap (λ k. slice_get ds k) (sym index) ∙ a; sort = s }
block_sort ds i d sort.Package c a s e = cc
block_sort ds i d sort.Enumeration c a s e = cc

pub block_known : (ds : List Declared) (q : Full) (c : ClassId) → block_of ds q ≡ Some c → IsOf ds sort.Block c
block_known ds q c e =
    let i = then_some (λ i. option_and_then (λ (d : Declared). if_block i (sort_of d.tree)) (slice_get ds i)) (first_of q ds) c e in
    let d = then_some (λ (d : Declared). if_block i.0 (sort_of d.tree)) (slice_get ds i.0) c i.2 in
    block_sort ds i.0 d.0 (sort_of (d.0).tree) c d.1 refl d.2

-- ---- the first item of a name

from_below : (i k : ℕ) (x : List ℕ) (ys : List (List ℕ)) → first_named_from i x ys ≡ Some k → i ≤ k
from_below i k x [] e = cc
from_below i k x (y ∷ ys) e =
    elim (cases_Bool (bytes_eq x y)) [
      | inl hit ↦
          let same : i ≡ k = same_Some i k (rw hit at e) in
          omega arith
      | inr miss ↦
          let rest = from_below (i + 1) k x ys (rw miss at e) in
          omega arith
    ]

less_if : (a b : ℕ) → a < b → nat_lt a b ≡ true
less_if a b h = (Decides-ltb a b).1 h

more_if : (a b : ℕ) → b ≤ a → nat_lt a b ≡ false
more_if a b h = false_from_ne_true (nat_lt a b) (λ e. absurd (omega (arith, (Decides-ltb a b).0 e)))

front_some : (i k : ℕ) (x : List ℕ) (ys zs : List (List ℕ)) → first_named_from i x (ys ++ zs) ≡ Some k → (if nat_lt k (i + length ys) then Some k else None) ≡ first_named_from i x ys
front_some i k x [] zs e =
    let low = from_below i k x zs e in
    rw (more_if k (i + 0) (omega arith)) refl
front_some i k x (y ∷ ys) zs e =
    elim (cases_Bool (bytes_eq x y)) [
      | inl hit ↦
          let same : i ≡ k = same_Some i k (rw hit at e) in
          rw (less_if k (i + length (y ∷ ys)) (omega arith), hit) (ap (λ z. Some z) (sym same))
      | inr miss ↦
          let size : i + length (y ∷ ys) ≡ (i + 1) + length ys = omega arith in
          ap (λ z. if nat_lt k z then Some k else None) size ∙ front_some (i + 1) k x ys zs (rw miss at e) ∙ rw miss refl
    ]

front_none : (i : ℕ) (x : List ℕ) (ys zs : List (List ℕ)) → first_named_from i x (ys ++ zs) ≡ None → first_named_from i x ys ≡ None
front_none i x [] zs e = refl
front_none i x (y ∷ ys) zs e =
    elim (cases_Bool (bytes_eq x y)) [
      | inl hit ↦ absurd (cc (rw hit at e))
      | inr miss ↦ rw miss (front_none (i + 1) x ys zs (rw miss at e))
    ]

pub item_some : (k : ℕ) (x : List ℕ) (c : ClassTree) → first_named x (member_names c) ≡ Some k → (if nat_lt k (length (items_of c)) then Some k else None) ≡ first_named x (map item_name (items_of c))
item_some k x c e =
    let size : length (items_of c) ≡ 0 + length (map item_name (items_of c)) = omega (arith, length-map (items_of c) item_name) in
    ap (λ z. if nat_lt k z then Some k else None) size ∙ front_some 0 k x (map item_name (items_of c)) (map text_of (literals_of c)) e

pub item_none : (x : List ℕ) (c : ClassTree) → first_named x (member_names c) ≡ None → None ≡ first_named x (map item_name (items_of c))
item_none x c e = sym (front_none 0 x (map item_name (items_of c)) (map text_of (literals_of c)) e)

pub item_at : (ds : List Declared) (i : ℕ) (d : Declared) (x : List ℕ) → slice_get ds i ≡ Some d → item_of ds i x ≡ first_named x (map item_name (items_of d.tree))
item_at ds i d x e = rw e refl

-- ---- the class of an item

pub if_some : {A : Type 0} (o : Option A) (P : A → Type 0) → ((v : A) → o ≡ Some v → P v) → IfSome o P
if_some None P h = tt
if_some (Some v) P h = h v refl

none_broken : (b : Bool) (p : Place) (ps : List Place) → if_broken b p ++ ps ≡ [] → (b ≡ false) × (ps ≡ [])
none_broken true p ps e = cc
none_broken false p ps e = (refl, e)

nothing_in : (ps qs : List Place) → ps ++ qs ≡ [] → (ps ≡ []) × (qs ≡ [])
nothing_in [] qs e = (refl, e)
nothing_in (p ∷ ps) qs e = cc

none_in : (test : ℕ → Item → Bool) (i file : ℕ) (xs : List Item) (j : ℕ) (x : Item) → places_in test i file xs ≡ [] → slice_get xs j ≡ Some x → test i x ≡ false
none_in test i file [] j x e at = cc
none_in test i file (y ∷ xs) zero x e at = ap (test i) (sym (same_Some y x at)) ∙ (none_broken (test i y) (class_place file y) (places_in test i file xs) e).0
none_in test i file (y ∷ xs) (suc j) x e at = none_in test i file xs j x (none_broken (test i y) (class_place file y) (places_in test i file xs) e).1 at

none_from : (test : ℕ → Item → Bool) (n k i : ℕ) (ds : List Declared) (d : Declared) (j : ℕ) (x : Item) → n + k ≡ i → places_from test n ds ≡ [] → slice_get ds k ≡ Some d → slice_get (items_of d.tree) j ≡ Some x → test i x ≡ false
none_from test n k i [] d j x s e at it = cc
none_from test n zero i (c ∷ ds) d j x s e at it =
    let here = (nothing_in (places_in test n c.file (items_of c.tree)) (places_from test (n + 1) ds) e).0 in
    let there : slice_get (items_of c.tree) j ≡ Some x = ap (λ (z : Declared). slice_get (items_of z.tree) j) (same_Some c d at) ∙ it in
    let same : n ≡ i = omega arith in
    ap (λ m. test m x) (sym same) ∙ none_in test n c.file (items_of c.tree) j x here there
none_from test n (suc k) i (c ∷ ds) d j x s e at it =
    none_from test (n + 1) k i ds d j x (omega arith) (nothing_in (places_in test n c.file (items_of c.tree)) (places_from test (n + 1) ds) e).1 at it

mapped_get : {A B : Type 0} (f : A → B) (xs : List A) (j : ℕ) (x : A) → slice_get xs j ≡ Some x → slice_get (map f xs) j ≡ Some (f x)
mapped_get f [] j x e = cc
mapped_get f (y ∷ xs) zero x e = ap (λ z. Some (f z)) (same_Some y x e)
mapped_get f (y ∷ xs) (suc j) x e = mapped_get f xs j x e

module _ (ds : List Declared) (rows : List (Vec (Option Found) Global)) (t : AreItemClasses ds rows) (i j : ℕ) (row : Vec (Option Found) Global) (within : i < length ds) (at : slice_get rows i ≡ Some row) where
  class_at : (d : Declared) × (slice_get ds i ≡ Some d) × (row.items ≡ classes_of ds i (items_of d.tree))
  class_at =
      let d = get_at ds i within in
      (d.0, d.1, t.each i d.0 row d.1 at)

  pub row_within : IfSome (items_at ds i) (λ items. j < length items) → j < length row.items
  row_within h =
      let d = class_at in
      let small : j < length (items_of (d.0).tree) = (let P : Option Declared → Type 0 = λ o. IfSome (option_map (λ (d : Declared). items_of d.tree) o) (λ items. j < length items) in subst P d.1 h) in
      omega (arith, small, ap length d.2, length-map (items_of (d.0).tree) (class_of ds i))

  item_there : (x : Item) (d : Declared) → slice_get ds i ≡ Some d → option_and_then (λ items. slice_get items j) (items_at ds i) ≡ Some x → slice_get (items_of d.tree) j ≡ Some x
  item_there x d e h = sym (rw e refl) ∙ h

  pub class_is : (x : Item) (found : Option Found) → option_and_then (λ items. slice_get items j) (items_at ds i) ≡ Some x → slice_get row.items j ≡ Some found → class_of ds i x ≡ found
  class_is x found h r =
      let d = class_at in
      same_Some (class_of ds i x) found (sym (mapped_get (class_of ds i) (items_of (d.0).tree) j x (item_there x d.0 d.1 h)) ∙ sym (ap (λ ys. slice_get ys j) d.2) ∙ r)

  pub class_found : (x : Item) → broken_12 ds ≡ [] → option_and_then (λ items. slice_get items j) (items_at ds i) ≡ Some x → class_of ds i x ≡ None → ⊥
  class_found x unbroken h none =
      let d = class_at in
      let there : is_missing ds i x ≡ false = none_from (is_missing ds) 0 i i ds d.0 j x (omega arith) unbroken d.1 (item_there x d.0 d.1 h) in
      false≢true (sym there ∙ ap is_none none)

-- ---- the files that a table shows

pub class_within : (files now : List FileTree) (i : ℕ) → files ≡ now → i < length (declared now) → (d : Declared) × (slice_get (declared files) i ≡ Some d)
class_within files now i e l = get_at (declared files) i (let same : length (declared files) ≡ length (declared now) = ap (λ (fs : List FileTree). length (declared fs)) e in omega arith)

pub same_meaning : (files now : List FileTree) (sought : Sought) (number : ℕ) (name : Name) (parts : List Ident) → files ≡ now → parts ≡ name.parts
    → meaning (declared now) sought number (parts_of name) ≡ meaning (declared files) sought number (map text_of parts)
same_meaning files now sought number name parts e p =
    ap (λ (fs : List FileTree). meaning (declared fs) sought number (parts_of name)) (sym e) ∙ ap (λ (ps : List Ident). meaning (declared files) sought number (map text_of ps)) (sym p)
