-- What a name means in a class, and that its numbers are small.
use Rattle.std.proofs.Common.{◌≡◌, ◌<◌, ◌≤◌, ◌+◌, ◌^◌, ℕ, zero, suc, Bool, true, false, List, [], ◌∷◌, ◌++◌, take, length, Option, Some, None, refl, sym, ◌∙◌, ap, subst, arith, inl, inr}
use Rattle.std.specs.Prelude.{option_and_then, option_map, if◌then◌else◌}
use Rattle.std.specs.List.{slice_get}
use Rattle.std.specs.Option.{option_or}
use Rattle.std.specs.Str.{bytes_eq}
use Rattle.std.proofs.lemmas.Bool.{cases_Bool, false≢true, false_from_ne_true, or_parts}
use Rattle.std.proofs.lemmas.Option.{slice_get_within, same_Some}
use Rattle.cdl_tree.specs.declared.class.ClassTree.{ClassTree}
use Rattle.cdl_tree.specs.declared.class.FileTree.{FileTree}
use Rattle.cdl_scopes.specs.declared.gather.Class.{Class}
use Rattle.cdl_scopes.specs.declared.gather.Classes.{Classes}
use Rattle.cdl_scopes.specs.declared.lookup.ClassSort.{ClassSort}
use Rattle.cdl_scopes.specs.declared.lookup.ClassSort.TheVariants as sort
use Rattle.cdl_scopes.specs.declared.lookup.Sought.{Sought}
use Rattle.cdl_scopes.specs.declared.lookup.Sought.TheVariants.{Class as ClassNames, Value}
use Rattle.cdl_scopes.specs.declared.lookup.Standing.{Standing}
use Rattle.cdl_scopes.specs.declared.lookup.Standing.TheVariants as standing
use Rattle.cdl_scopes.specs.Classes.{Full, Declared, declared, full, same_full, name_of, is_front}
use Rattle.cdl_scopes.specs.Lookup.{Entity, a_class, a_package, in_cdl, in_modelica, a_type, a_constant, a_literal, first_from, first_of, first_named_from, first_named, member_names, scalar_named, type_at, exists, stands, inside, sort_of, constant_in, constant_at, member, has, seek, class_enters, enters, leads, lookup, scope_at, scope_of, meaning, in_library, cdl_name, modelica_name}
use Rattle.cdl_scopes.specs.inner.Gathered.{IsShown, tree_at}
use Rattle.cdl_scopes.specs.inner.Known.{Known, Scoped, IsSmall, means}
use Rattle.cdl_scopes.specs.inner.Kept.{names_of}
use Rattle.cdl_scopes.proofs.Walk.{then_some}
use Rattle.cdl_scopes.proofs.Fronts.{front_trans, front_append}
use Rattle.cdl_scopes.proofs.StandingLaws.{shown_at, unshown, free_full}

-- what lies around a class lies in no library
outer_free : (q : Full) (x : List ℕ) → in_library (q ++ x ∷ []) ≡ false → in_library q ≡ false
outer_free q x h =
    let fs = or_parts (is_front cdl_name (q ++ x ∷ [])) (is_front modelica_name (q ++ x ∷ [])) h in
    let c : is_front cdl_name q ≡ false = false_from_ne_true _ (λ e. false≢true (sym fs.0 ∙ front_trans cdl_name q (q ++ x ∷ []) e (front_append q (x ∷ [])))) in
    let m : is_front modelica_name q ≡ false = false_from_ne_true _ (λ e. false≢true (sym fs.1 ∙ front_trans modelica_name q (q ++ x ∷ []) e (front_append q (x ∷ [])))) in
    rw (c, m) refl

module _ (files : List FileTree) (all : Classes) (h : Known files all) (number : ℕ) (class : Class) (c : slice_get all.list.items number ≡ Some class) where
  pub scoped_name : Scoped files all class.name
  scoped_name =
      let d = shown_at files all h number class c in
      record {
        known = h;
        name = full d.0;
        at = (d.2).name;
        own = free_full (declared files) number d.0 h.free d.1;
      }

  pub scoped_outer : Scoped files all class.outer
  scoped_outer =
      let d = shown_at files all h number class c in
      record {
        known = h;
        name = (d.0).outer;
        at = (d.2).outer;
        own = outer_free (d.0).outer (name_of (d.0).tree) (free_full (declared files) number d.0 h.free d.1);
      }

  pub meaning_is : (sought : Sought) (tree : ClassTree) (s : ClassSort) (name : Full) → tree_at files class.file class.top class.steps.items ≡ Some tree → s ≡ sort_of tree
      → (d : Declared) × (IsShown h.gathered.names.paths files class d) × (in_library (full d) ≡ false) × (in_library d.outer ≡ false)
      × (meaning (declared files) sought number name ≡ lookup (declared files) sought (scope_at d s) name)
  meaning_is sought tree s name t k =
      let d = shown_at files all h number class c in
      let same : tree ≡ (d.0).tree = same_Some _ _ (sym t ∙ (d.2).tree) in
      let sort_is : sort_of (d.0).tree ≡ s = sym (k ∙ ap sort_of same) in
      let free = free_full (declared files) number d.0 h.free d.1 in
      (d.0, d.2, free, outer_free (d.0).outer (name_of (d.0).tree) free, rw (d.1, sort_is) refl)

pub meaning_none : (files : List FileTree) (all : Classes) (h : Known files all) (sought : Sought) (number : ℕ) (name : Full) → slice_get all.list.items number ≡ None
    → meaning (declared files) sought number name ≡ None
meaning_none files all h sought number name none = rw (unshown files all h number none) refl

first_bound : (i k : ℕ) (q : Full) (ds : List Declared) → first_from i q ds ≡ Some k → k < i + length ds
first_bound i k q [] e = cc
first_bound i k q (d ∷ ds) e =
    elim (cases_Bool (same_full q (full d))) [
      | inl hit ↦
          let same : i ≡ k = same_Some i k (rw hit at e) in
          omega arith
      | inr miss ↦
          let rest = first_bound (i + 1) k q ds (rw miss at e) in
          omega arith
    ]

named_bound : (i k : ℕ) (x : List ℕ) (ys : List (List ℕ)) → first_named_from i x ys ≡ Some k → k < i + length ys
named_bound i k x [] e = cc
named_bound i k x (y ∷ ys) e =
    elim (cases_Bool (bytes_eq x y)) [
      | inl hit ↦
          let same : i ≡ k = same_Some i k (rw hit at e) in
          omega arith
      | inr miss ↦
          let rest = named_bound (i + 1) k x ys (rw miss at e) in
          omega arith
    ]

pub first_within : (k : ℕ) (q : Full) (ds : List Declared) → first_of q ds ≡ Some k → k < length ds
first_within k q ds e =
    let b = first_bound 0 k q ds e in
    omega arith

named_within : (k : ℕ) (x : List ℕ) (ys : List (List ℕ)) → first_named x ys ≡ Some k → k < length ys
named_within k x ys e =
    let b = named_bound 0 k x ys e in
    omega arith

-- its numbers are those of classes and of names in them
abbrev pub Valid : List Declared → Entity → Type 0
Valid ds (a_class i) = i < length ds
Valid ds (a_package q) = Unit {0}
Valid ds (in_cdl q) = Unit {0}
Valid ds (in_modelica q) = Unit {0}
Valid ds (a_type t) = Unit {0}
Valid ds (a_constant p i) = (d : Declared) × (slice_get ds p ≡ Some d) × (sort_of d.tree ≡ sort.Package) × (i < length (member_names d.tree))
Valid ds (a_literal c k) = (d : Declared) × (slice_get ds c ≡ Some d) × (sort_of d.tree ≡ sort.Enumeration) × (k < length (member_names d.tree))

abbrev Yields : List Declared → Option Entity → Type 0
Yields ds o = (e : Entity) → o ≡ Some e → Valid ds e

valid_as : (ds : List Declared) (e f : Entity) → e ≡ f → Valid ds e → Valid ds f
valid_as ds e f s h = let P : Entity → Type 0 = λ x. Valid ds x in subst P s h

yields_some : (ds : List Declared) (f : Entity) → Valid ds f → Yields ds (Some f)
yields_some ds f h e s = valid_as ds f e (same_Some f e s) h

yields_none : (ds : List Declared) → Yields ds None
yields_none ds e s = cc

yields_or : (ds : List Declared) (o p : Option Entity) → Yields ds o → Yields ds p → Yields ds (option_or o p)
yields_or ds None p h i = i
yields_or ds (Some f) p h i = h

yields_if : (ds : List Declared) (b : Bool) (o p : Option Entity) → Yields ds o → Yields ds p → Yields ds (if b then o else p)
yields_if ds true o p h i = h
yields_if ds false o p h i = i

yields_map : {A : Type 0} (ds : List Declared) (f : A → Entity) (o : Option A) → ((k : A) → o ≡ Some k → Valid ds (f k)) → Yields ds (option_map f o)
yields_map ds f None h = yields_none ds
yields_map ds f (Some k) h = yields_some ds (f k) (h k refl)

yields_stands : (ds : List Declared) (q : Full) → Yields ds (stands ds q)
yields_stands ds q =
    yields_or ds (option_map a_class (first_of q ds)) (if exists ds q then Some (a_package q) else None)
    (yields_map ds a_class (first_of q ds) (λ k e. first_within k q ds e))
    (yields_if ds (exists ds q) (Some (a_package q)) None (yields_some ds (a_package q) tt) (yields_none ds))

yields_inside : (ds : List Declared) (q : Full) (x : List ℕ) → Yields ds (inside ds q x)
yields_inside ds q x =
    yields_if ds (same_full q cdl_name) (Some (in_cdl (x ∷ []))) (if same_full q modelica_name then Some (in_modelica (x ∷ [])) else stands ds (q ++ x ∷ []))
    (yields_some ds (in_cdl (x ∷ [])) tt)
    (yields_if ds (same_full q modelica_name) (Some (in_modelica (x ∷ []))) (stands ds (q ++ x ∷ [])) (yields_some ds (in_modelica (x ∷ [])) tt) (yields_stands ds (q ++ x ∷ [])))

yields_constant : (ds : List Declared) (i : ℕ) (d : Declared) (s : ClassSort) (x : List ℕ) → slice_get ds i ≡ Some d → sort_of d.tree ≡ s → Yields ds (constant_in i s (first_named x (member_names d.tree)))
yields_constant ds i d sort.Block x h t = yields_none ds
yields_constant ds i d sort.Package x h t = yields_map ds (a_constant i) (first_named x (member_names d.tree)) (λ k e. (d, h, t, named_within k x (member_names d.tree) e))
yields_constant ds i d sort.Enumeration x h t = yields_none ds

yields_constant_at : (ds : List Declared) (q : Full) (x : List ℕ) → Yields ds (constant_at ds q x)
yields_constant_at ds q x e s =
    let i = then_some (λ i. option_and_then (λ (d : Declared). constant_in i (sort_of d.tree) (first_named x (member_names d.tree))) (slice_get ds i)) (first_of q ds) e s in
    let d = then_some (λ (d : Declared). constant_in i.0 (sort_of d.tree) (first_named x (member_names d.tree))) (slice_get ds i.0) e i.2 in
    yields_constant ds i.0 d.0 (sort_of (d.0).tree) x d.1 refl e d.2

yields_member : (ds : List Declared) (sought : Sought) (q : Full) (x : List ℕ) → Yields ds (member ds sought q x)
yields_member ds ClassNames q x = yields_inside ds q x
yields_member ds Value q x = yields_or ds (constant_at ds q x) (inside ds q x) (yields_constant_at ds q x) (yields_inside ds q x)

yields_type : (ds : List Declared) (q : Full) (x : List ℕ) → Yields ds (type_at q x)
yields_type ds [] x = yields_map ds a_type (scalar_named x) (λ k e. tt)
yields_type ds (y ∷ q) x = yields_none ds

yields_has : (ds : List Declared) (sought : Sought) (q : Full) (x : List ℕ) → Yields ds (has ds sought q x)
yields_has ds sought q x = yields_or ds (type_at q x) (member ds sought q x) (yields_type ds q x) (yields_member ds sought q x)

yields_seek : (ds : List Declared) (sought : Sought) (q : Full) (k : ℕ) (x : List ℕ) → Yields ds (seek ds sought q k x)
yields_seek ds sought q zero x = yields_has ds sought [] x
yields_seek ds sought q (suc k) x = yields_or ds (has ds sought (take (suc k) q) x) (seek ds sought q k x) (yields_has ds sought (take (suc k) q) x) (yields_seek ds sought q k x)

yields_class : (ds : List Declared) (sought : Sought) (i : ℕ) (d : Declared) (s : ClassSort) (x : List ℕ) → slice_get ds i ≡ Some d → sort_of d.tree ≡ s → Yields ds (class_enters ds sought i d s x)
yields_class ds sought i d sort.Block x h t = yields_none ds
yields_class ds sought i d sort.Package x h t = yields_member ds sought (full d) x
yields_class ds ClassNames i d sort.Enumeration x h t = yields_none ds
yields_class ds Value i d sort.Enumeration x h t = yields_map ds (a_literal i) (first_named x (member_names d.tree)) (λ k e. (d, h, t, named_within k x (member_names d.tree) e))

yields_enters : (ds : List Declared) (sought : Sought) (e : Entity) (x : List ℕ) → Yields ds (enters ds sought e x)
yields_enters ds sought (a_class i) x f s =
    let d = then_some (λ (d : Declared). class_enters ds sought i d (sort_of d.tree) x) (slice_get ds i) f s in
    yields_class ds sought i d.0 (sort_of (d.0).tree) x d.1 refl f d.2
yields_enters ds sought (a_package q) x f s = yields_member ds sought q x f s
yields_enters ds sought (in_cdl q) x f s = yields_some ds (in_cdl (q ++ x ∷ [])) tt f s
yields_enters ds sought (in_modelica q) x f s = yields_some ds (in_modelica (q ++ x ∷ [])) tt f s
yields_enters ds sought (a_type t) x f s = yields_none ds f s
yields_enters ds sought (a_constant p i) x f s = yields_none ds f s
yields_enters ds sought (a_literal c k) x f s = yields_none ds f s

yields_leads : (ds : List Declared) (sought : Sought) (e : Entity) (rest : Full) → Valid ds e → Yields ds (leads ds sought e rest)
yields_leads ds sought e [] h f s = yields_some ds e h f s
yields_leads ds sought e (x ∷ rest) h f s =
    let g = then_some (λ g. leads ds sought g rest) (enters ds sought e x) f s in
    yields_leads ds sought g.0 rest (yields_enters ds sought e x g.0 g.1) f g.2

yields_lookup : (ds : List Declared) (sought : Sought) (outer name : Full) → Yields ds (lookup ds sought outer name)
yields_lookup ds sought outer [] f s = yields_none ds f s
yields_lookup ds sought outer (x ∷ rest) f s =
    let g = then_some (λ g. leads ds sought g rest) (seek ds sought outer (length outer) x) f s in
    yields_leads ds sought g.0 rest (yields_seek ds sought outer (length outer) x g.0 g.1) f g.2

pub yields_meaning : (ds : List Declared) (sought : Sought) (number : ℕ) (name : Full) (e : Entity) → meaning ds sought number name ≡ Some e → Valid ds e
yields_meaning ds sought number name e s =
    let d = then_some (λ (d : Declared). lookup ds sought (scope_of d) name) (slice_get ds number) e s in
    yields_lookup ds sought (scope_of d.0) name e d.2

pub counted : (ds : List Declared) → length ds ≤ names_of ds
counted [] = omega arith
counted (d ∷ ds) =
    let more : names_of (d ∷ ds) ≡ (1 + length (member_names d.tree)) + names_of ds = refl in
    omega (arith, counted ds)

pub member_counted : (ds : List Declared) (p : ℕ) (d : Declared) → slice_get ds p ≡ Some d → length (member_names d.tree) + 1 ≤ names_of ds
member_counted [] p d e = cc
member_counted (c ∷ ds) zero d e =
    let same : length (member_names c.tree) ≡ length (member_names d.tree) = ap (λ (x : Declared). length (member_names x.tree)) (same_Some c d e) in
    let more : names_of (c ∷ ds) ≡ (1 + length (member_names c.tree)) + names_of ds = refl in
    omega arith
member_counted (c ∷ ds) (suc p) d e =
    let more : names_of (c ∷ ds) ≡ (1 + length (member_names c.tree)) + names_of ds = refl in
    omega (arith, member_counted ds p d e)

small_if : (ds : List Declared) (paths : List Full) (s : Standing) (e : Entity) → names_of ds < 2 ^ 32 → means paths s ≡ Some e → Valid ds e → IsSmall s
small_if ds paths (standing.Class i) e few m v =
    let here = valid_as ds e (a_class i) (same_Some e (a_class i) (sym m)) v in
    omega (arith, counted ds, here)
small_if ds paths (standing.Package n) e few m v = tt
small_if ds paths (standing.Cdl rest) e few m v = tt
small_if ds paths (standing.Modelica rest) e few m v = tt
small_if ds paths (standing.Type t) e few m v = tt
small_if ds paths (standing.Constant p i) e few m v =
    let here = valid_as ds e (a_constant p i) (same_Some e (a_constant p i) (sym m)) v in
    (omega (arith, counted ds, slice_get_within ds p here.0 here.1), omega (arith, member_counted ds p here.0 here.1, here.3))
small_if ds paths (standing.Literal c k) e few m v =
    let here = valid_as ds e (a_literal c k) (same_Some e (a_literal c k) (sym m)) v in
    (omega (arith, counted ds, slice_get_within ds c here.0 here.1), omega (arith, member_counted ds c here.0 here.1, here.3))

pub small : (ds : List Declared) (paths : List Full) (s : Standing) (e : Entity) (sought : Sought) (number : ℕ) (name : Full) → names_of ds < 2 ^ 32 → means paths s ≡ Some e
    → meaning ds sought number name ≡ Some e → IsSmall s
small ds paths s e sought number name few m l = small_if ds paths s e few m (yields_meaning ds sought number name e l)
