-- Names declared twice, class by class.
use Rattle.std.proofs.Common.{◌≡◌, ◌+◌, ℕ, List, [], ◌∷◌, ◌++◌, map, take, drop, Option, Some, Vec, refl, sym, ◌∙◌, ap, subst, append_assoc, append-nil}
use Rattle.std.specs.declared.alloc.Global.{Global}
use Rattle.std.specs.BTreeMap.{BTreeMap}
use Rattle.std.specs.List.{slice_get, filter}
use Rattle.std.proofs.lemmas.List.{map-append}
use Rattle.cdl_source.specs.declared.place.Place.{Place}
use Rattle.cdl_tree.specs.declared.class.Item.{Item}
use Rattle.cdl_tree.specs.declared.class.ClassTree.{ClassTree}
use Rattle.cdl_tree.specs.Parts.{class_name, items_of}
use Rattle.cdl_scopes.specs.declared.lookup.ClassSort.{ClassSort}
use Rattle.cdl_scopes.specs.declared.lookup.ClassSort.TheVariants as sort
use Rattle.cdl_scopes.specs.Classes.{Full, Declared, full}
use Rattle.cdl_scopes.specs.Lookup.{sort_of}
use Rattle.cdl_classes.specs.Places.{least}
use Rattle.cdl_classes.specs.inner.Marks.{Marks}
use Rattle.cdl_classes.specs.Rules.{Named, place, constant_named, constants_of, named_in, named_of, later_of, with_name, twice_from, again_in, again_of}
use Rattle.cdl_classes.proofs.Items.{least-append}
use Rattle.cdl_scopes.proofs.Lists.{drop_at}
use Rattle.cdl_classes.proofs.MarkLaws.{twice_append, taken_more}

-- further names are noted, and the first place is known
abbrev pub Step : List Declared → List (Option Place) → List (BTreeMap (Vec ℕ Global) Place) → Option Place → Option Place → List Named → List Named → Type 0
Step ds classes maps first next ns xs = Marks ds classes maps (ns ++ xs) × (next ≡ least first (twice_from ns xs))

pub compose : (ds : List Declared) (classes : List (Option Place)) (maps : List (BTreeMap (Vec ℕ Global) Place)) (first mid last : Option Place) (ns xs ys : List Named) → mid ≡ least first (twice_from ns xs)
    → Step ds classes maps mid last (ns ++ xs) ys → Step ds classes maps first last ns (xs ++ ys)
compose ds classes maps first mid last ns xs ys m s = (
  subst (λ (z : List Named). Marks ds classes maps z) (append_assoc ns xs ys) s.0,
  s.1 ∙ ap (λ (f : Option Place). least f (twice_from (ns ++ xs) ys)) m ∙ sym (least-append first (twice_from ns xs) (twice_from (ns ++ xs) ys))
      ∙ ap (least first) (sym (twice_append ns xs ys)),
)

pub one_step : (ds : List Declared) (classes : List (Option Place)) (maps : List (BTreeMap (Vec ℕ Global) Place)) (first next : Option Place) (ns : List Named) (n : Named) → Marks ds classes maps (ns ++ n ∷ [])
    → next ≡ least first (map (later_of n.at) (filter (with_name n.full) ns)) → Step ds classes maps first next ns (n ∷ [])
one_step ds classes maps first next ns n m e = (m, e ∙ ap (least first) (sym (append-nil (map (later_of n.at) (filter (with_name n.full) ns)))))

pub step_as : (ds : List Declared) (classes : List (Option Place)) (maps : List (BTreeMap (Vec ℕ Global) Place)) (first next : Option Place) (ns xs ys : List Named) → xs ≡ ys → Step ds classes maps first next ns xs → Step ds classes maps first next ns ys
step_as ds classes maps first next ns xs ys e s = let P : List Named → Type 0 = λ zs. Step ds classes maps first next ns zs in subst P e s

pub no_step : (ds : List Declared) (classes : List (Option Place)) (maps : List (BTreeMap (Vec ℕ Global) Place)) (first : Option Place) (ns : List Named) → Marks ds classes maps ns → Step ds classes maps first first ns []
no_step ds classes maps first ns m = (subst (λ (z : List Named). Marks ds classes maps z) (sym (append-nil ns)) m, refl)

pub constants_more : (d : Declared) (items : List Item) (i : ℕ) (x : Item) → slice_get items i ≡ Some x → map (constant_named d) (take i items) ++ constant_named d x ∷ [] ≡ map (constant_named d) (take (i + 1) items)
constants_more d items i x e = sym (ap (map (constant_named d)) (taken_more items i x e) ∙ map-append (constant_named d) (take i items) (x ∷ []))

named_append : (xs ys : List Declared) → named_of (xs ++ ys) ≡ named_of xs ++ named_of ys
named_append [] ys = refl
named_append (x ∷ xs) ys = ap (λ (ns : List Named). named_in x ++ ns) (named_append xs ys) ∙ sym (append_assoc (named_in x) (named_of xs) (named_of ys))

pub named_more : (ds : List Declared) (i : ℕ) (d : Declared) → slice_get ds i ≡ Some d → named_of (take i ds) ++ named_in d ≡ named_of (take (i + 1) ds)
named_more ds i d e =
    sym (ap named_of (taken_more ds i d e) ∙ named_append (take i ds) (d ∷ []) ∙ ap (λ (ns : List Named). named_of (take i ds) ++ ns) (append-nil (named_in d)))

-- the names of a class: its own, and the constants of a package
abbrev pub own_named : Declared → Named
own_named d = record { full = full d; at = place d.file (class_name d.tree) }

pub named_package : (d : Declared) (tree : ClassTree) → d.tree ≡ tree → sort.Package ≡ sort_of tree → (own_named d ∷ []) ++ map (constant_named d) (items_of tree) ≡ named_in d
named_package d tree same k =
    let sort_is : sort_of d.tree ≡ sort.Package = ap sort_of same ∙ sym k in
    ap (λ (t : ClassTree). own_named d ∷ map (constant_named d) (items_of t)) (sym same) ∙ ap (λ (s : ClassSort). own_named d ∷ map (constant_named d) (constants_of d s)) (sym sort_is)

pub named_block : (d : Declared) (tree : ClassTree) → d.tree ≡ tree → sort.Block ≡ sort_of tree → own_named d ∷ [] ≡ named_in d
named_block d tree same k = ap (λ (s : ClassSort). own_named d ∷ map (constant_named d) (constants_of d s)) (sym (ap sort_of same ∙ sym k))

pub named_enumeration : (d : Declared) (tree : ClassTree) → d.tree ≡ tree → sort.Enumeration ≡ sort_of tree → own_named d ∷ [] ≡ named_in d
named_enumeration d tree same k = ap (λ (s : ClassSort). own_named d ∷ map (constant_named d) (constants_of d s)) (sym (ap sort_of same ∙ sym k))

pub next_own : (ds : List Declared) (i : ℕ) (d : Declared) (first : Option Place) → slice_get ds i ≡ Some d
    → least (least first (again_in d)) (again_of (drop (i + 1) ds)) ≡ least first (again_of (drop i ds))
next_own ds i d first e =
    sym (ap (λ (xs : List Declared). least first (again_of xs)) (drop_at ds i d e) ∙ least-append first (again_in d) (again_of (drop (i + 1) ds)))

abbrev pub name_at : Full → List ℕ → Place → Named
name_at q x p = record { full = q ++ x ∷ []; at = p }

pub name_is : (q : Full) (x y : List ℕ) (p r : Place) → x ≡ y → p ≡ r → name_at q x p ≡ name_at q y r
name_is q x y p r e f = ap (λ (z : List ℕ). name_at q z p) e ∙ ap (λ (z : Place). name_at q y z) f

pub named_is : (q : Full) (p r : Place) → p ≡ r → (let n : Named = record { full = q; at = p } in n) ≡ (record { full = q; at = r })
named_is q p r e = ap (λ (z : Place). let n : Named = record { full = q; at = z } in n) e
