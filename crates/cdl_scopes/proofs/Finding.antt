-- What a look-up finds, step by step.
use Rattle.std.proofs.lemmas.Option.{same_Some}
use Rattle.std.proofs.Common.{◌≡◌, ◌<◌, ◌≤◌, ◌+◌, ℕ, zero, suc, true, false, List, [], ◌∷◌, ◌++◌, map, take, drop, get_or, length, Option, Some, None, refl, sym, ◌∙◌, ap, subst, arith, inl, inr, drop-cons, add-one, nat_eq, append_assoc, append-nil, ◌-◌, length-drop}
use Rattle.std.specs.Prelude.{option_map}
use Rattle.std.specs.List.{slice_get, list_any}
use Rattle.std.specs.Option.{option_or}
use Rattle.std.proofs.lemmas.Bool.{cases_Bool, false≢true, false_from_ne_true, and_from, or_parts}
use Rattle.std.proofs.lemmas.List.{same_from_push, take_more}
use Rattle.indexmap.specs.IndexMap.{get}
use Rattle.cdl_tree.specs.declared.class.FileTree.{FileTree}
use Rattle.cdl_tree.specs.declared.name.Ident.{Ident}
use Rattle.cdl_scopes.specs.declared.gather.Classes.{Classes}
use Rattle.cdl_scopes.specs.declared.lookup.Sought.{Sought}
use Rattle.cdl_scopes.specs.declared.lookup.Sought.TheVariants.{Class as ClassNames, Value}
use Rattle.cdl_scopes.specs.declared.lookup.Standing.{Standing}
use Rattle.cdl_scopes.specs.Classes.{Full, Declared, declared, full, same_full, is_front, text_of}
use Rattle.cdl_scopes.specs.Lookup.{Entity, a_class, a_package, in_cdl, in_modelica, first_from, cdl_name, modelica_name, in_library, IsFree, stands, inside, type_at, has, seek, enters, leads}
use Rattle.cdl_scopes.specs.inner.Known.{Known, Finds, IsOwn}
use Rattle.cdl_scopes.proofs.Lists.{cases_option}
use Rattle.cdl_scopes.proofs.Walk.{take_whole}
use Rattle.cdl_scopes.proofs.Fronts.{same_is, bytes_same}

pub finds_as : (paths : List Full) (found : Option Standing) (e f : Option Entity) → Finds paths found e → e ≡ f → Finds paths found f
finds_as paths found e f h same = let P : Option Entity → Type 0 = λ x. Finds paths found x in subst P same h

pub not_none : (e : Entity) (f : Option Entity) → f ≡ Some e → f ≡ None → ⊥
not_none e f h i = cc

module _ (files : List FileTree) (all : Classes) (h : Known files all) where
  pub stands_class : (n i : ℕ) (q : Full) → slice_get h.gathered.names.paths n ≡ Some q → get nat_eq all.by_name n ≡ Some i → stands (declared files) q ≡ Some (a_class i)
  stands_class n i q at e = rw (sym (h.gathered.first n q at) ∙ e) refl

  pub stands_package : (n : ℕ) (q : Full) → slice_get h.gathered.names.paths n ≡ Some q → get nat_eq all.by_name n ≡ None → stands (declared files) q ≡ Some (a_package q)
  stands_package n q at e = rw (sym (h.gathered.first n q at) ∙ e, h.gathered.names.covers.only n q at) refl

  pub top_is : (q : Full) → slice_get h.gathered.names.paths 0 ≡ Some q → q ≡ []
  top_is q at = same_Some q [] (sym at ∙ h.gathered.names.numbers.top)

  -- no scope but the top has types
  pub no_type : (n : ℕ) (q : Full) (x : List ℕ) → slice_get h.gathered.names.paths n ≡ Some q → 0 < n → type_at q x ≡ None
  no_type n [] x at l = absurd (omega (arith, h.gathered.names.numbers.once n 0 [] at h.gathered.names.numbers.top))
  no_type n (y ∷ q) x at l = refl

  pub cdl_is : (q : Full) → slice_get h.gathered.names.paths all.cdl ≡ Some q → q ≡ cdl_name
  cdl_is q at = same_Some q cdl_name (sym at ∙ h.gathered.cdl)

  pub modelica_is : (q : Full) → slice_get h.gathered.names.paths all.modelica ≡ Some q → q ≡ modelica_name
  modelica_is q at = same_Some q modelica_name (sym at ∙ h.gathered.modelica)

  pub not_cdl : (n : ℕ) (q : Full) → slice_get h.gathered.names.paths n ≡ Some q → (n ≡ all.cdl → ⊥) → same_full q cdl_name ≡ false
  not_cdl n q at apart = false_from_ne_true _ (λ e. apart (h.gathered.names.numbers.once n all.cdl q at (h.gathered.cdl ∙ ap (λ r. Some r) (sym (same_is q cdl_name e)))))

  pub not_modelica : (n : ℕ) (q : Full) → slice_get h.gathered.names.paths n ≡ Some q → (n ≡ all.modelica → ⊥) → same_full q modelica_name ≡ false
  not_modelica n q at apart = false_from_ne_true _ (λ e. apart (h.gathered.names.numbers.once n all.modelica q at (h.gathered.modelica ∙ ap (λ r. Some r) (sym (same_is q modelica_name e)))))

pub inside_is : (ds : List Declared) (q : Full) (x : List ℕ) → same_full q cdl_name ≡ false → same_full q modelica_name ≡ false → inside ds q x ≡ stands ds (q ++ x ∷ [])
inside_is ds q x c m = rw (c, m) refl

-- below a package of the library every name is found
leads_cdl : (ds : List Declared) (sought : Sought) (q rest : Full) → leads ds sought (in_cdl q) rest ≡ Some (in_cdl (q ++ rest))
leads_cdl ds sought q [] = ap (λ r. Some (in_cdl r)) (sym (append-nil q))
leads_cdl ds sought q (x ∷ rest) = leads_cdl ds sought (q ++ x ∷ []) rest ∙ ap (λ r. Some (in_cdl r)) (append_assoc q (x ∷ []) rest)

leads_modelica : (ds : List Declared) (sought : Sought) (q rest : Full) → leads ds sought (in_modelica q) rest ≡ Some (in_modelica (q ++ rest))
leads_modelica ds sought q [] = ap (λ r. Some (in_modelica r)) (sym (append-nil q))
leads_modelica ds sought q (x ∷ rest) = leads_modelica ds sought (q ++ x ∷ []) rest ∙ ap (λ r. Some (in_modelica r)) (append_assoc q (x ∷ []) rest)

none_declared : (i : ℕ) (ds : List Declared) (q : Full) → IsFree ds → in_library q ≡ true → first_from i q ds ≡ None
none_declared i [] q f l = refl
none_declared i (d ∷ ds) q f l =
    let fs = or_parts (in_library (full d)) (list_any (λ (x : Declared). in_library (full x)) ds) f in
    elim (cases_Bool (same_full q (full d))) [
      | inl hit ↦ absurd (false≢true (sym fs.0 ∙ ap in_library (sym (same_is q (full d) hit)) ∙ l))
      | inr miss ↦ rw miss (none_declared (i + 1) ds q fs.1 l)
    ]

pub cdl_leads : (ds : List Declared) (sought : Sought) (rest : Full) → IsFree ds → 0 < length rest → leads ds sought (a_package cdl_name) rest ≡ Some (in_cdl rest)
cdl_leads ds sought [] f l = absurd (omega arith)
cdl_leads ds ClassNames (x ∷ rest) f l = leads_cdl ds ClassNames (x ∷ []) rest
cdl_leads ds Value (x ∷ rest) f l = rw (none_declared 0 ds cdl_name f refl) (leads_cdl ds Value (x ∷ []) rest)

pub modelica_leads : (ds : List Declared) (sought : Sought) (rest : Full) → IsFree ds → 0 < length rest → leads ds sought (a_package modelica_name) rest ≡ Some (in_modelica rest)
modelica_leads ds sought [] f l = absurd (omega arith)
modelica_leads ds ClassNames (x ∷ rest) f l = leads_modelica ds ClassNames (x ∷ []) rest
modelica_leads ds Value (x ∷ rest) f l = rw (none_declared 0 ds modelica_name f refl) (leads_modelica ds Value (x ∷ []) rest)

pub package_is : (paths : List Full) (n : ℕ) (q : Full) (e : Entity) → slice_get paths n ≡ Some q → option_map a_package (slice_get paths n) ≡ Some e → e ≡ a_package q
package_is paths n q e at m = same_Some e (a_package q) (sym m ∙ ap (option_map a_package) at)

pub package_at : (paths : List Full) (n : ℕ) (e : Entity) → option_map a_package (slice_get paths n) ≡ Some e → (q : Full) × (slice_get paths n ≡ Some q) × (e ≡ a_package q)
package_at paths n e m =
    elim (cases_option (slice_get paths n)) [
      | inl none ↦ absurd (not_none e _ m (ap (option_map a_package) none))
      | inr some ↦ (some.0, some.1, package_is paths n some.0 e some.1 m)
    ]

pub own_package : (e : Entity) (q : Full) → e ≡ a_package q → same_full q cdl_name ≡ false → same_full q modelica_name ≡ false → IsOwn e
own_package e q s c m = let P : Entity → Type 0 = λ x. IsOwn x in subst P (sym s) (c, m)

pub leads_next : (ds : List Declared) (sought : Sought) (e f : Entity) (x : List ℕ) (rest : Full) → enters ds sought e x ≡ Some f → leads ds sought e (x ∷ rest) ≡ leads ds sought f rest
leads_next ds sought e f x rest h = rw h refl

pub leads_none : (ds : List Declared) (sought : Sought) (e : Entity) (x : List ℕ) (rest : Full) → enters ds sought e x ≡ None → leads ds sought e (x ∷ rest) ≡ None
leads_none ds sought e x rest h = rw h refl

pub rest_is : (rest : List Ident) (i : ℕ) (r : Ident) → i < length rest → r ≡ get_or rest i r → map text_of (drop i rest) ≡ r.text ∷ map text_of (drop (i + 1) rest)
rest_is rest i r h e =
    ap (map text_of) (drop-cons rest i r h ∙ ap (λ (x : Ident). x ∷ drop (suc i) rest) (sym e)) ∙ ap (λ j. r.text ∷ map text_of (drop j rest)) (sym (add-one i))

-- the scope that has the name
pub seek_found : (ds : List Declared) (sought : Sought) (q : Full) (k : ℕ) (x : List ℕ) (f : Entity) → has ds sought (take k q) x ≡ Some f → seek ds sought q k x ≡ Some f
seek_found ds sought q zero x f h = h
seek_found ds sought q (suc k) x f h = rw h refl

-- a scope that lacks it
pub seek_further : (ds : List Declared) (sought : Sought) (q : Full) (k : ℕ) (x : List ℕ) → has ds sought (take (suc k) q) x ≡ None → seek ds sought q (suc k) x ≡ seek ds sought q k x
seek_further ds sought q k x h = rw h refl

pub outer_is : (q p : Full) (k : ℕ) (y : List ℕ) → suc k ≤ length q → take (suc k) q ≡ p ++ y ∷ [] → p ≡ take k q
outer_is q p k y l e =
    let more : take (k + 1) q ≡ take k q ++ get_or q k [] ∷ [] = take_more q k [] (omega arith) in
    (same_from_push p (take k q) y (get_or q k []) (sym e ∙ ap (λ i. take i q) (sym (add-one k)) ∙ more)).0

pub none_taken : (q : Full) (k : ℕ) → k ≤ length q → take k q ≡ [] → k ≡ 0
none_taken q zero l e = refl
none_taken [] (suc k) l e = absurd (omega arith)
none_taken (x ∷ q) (suc k) l e = cc

pub take_front : (q : Full) (k : ℕ) → is_front (take k q) q ≡ true
take_front q zero = refl
take_front [] (suc k) = refl
take_front (x ∷ q) (suc k) = and_from _ (is_front (take k q) q) (bytes_same x x refl) (take_front q k)

front_taken : (p q : Full) (k : ℕ) → take k q ≡ p → is_front p q ≡ true
front_taken p q k e =
    let P : Full → Type 0 = λ r. is_front r q ≡ true in
    subst P e (take_front q k)

pub not_front : (q : Full) (k : ℕ) → in_library q ≡ false → (same_full (take k q) cdl_name ≡ false) × (same_full (take k q) modelica_name ≡ false)
not_front q k h =
    let fs = or_parts (is_front cdl_name q) (is_front modelica_name q) h in (
      false_from_ne_true _ (λ e. false≢true (sym fs.0 ∙ front_taken cdl_name q k (same_is (take k q) cdl_name e))),
      false_from_ne_true _ (λ e. false≢true (sym fs.1 ∙ front_taken modelica_name q k (same_is (take k q) modelica_name e))),
    )

pub taken_rest : (rest : List Ident) (i : ℕ) → take (length rest - i) (drop i rest) ≡ drop i rest
taken_rest rest i = take_whole (length rest - i) (drop i rest) (omega (arith, length-drop i rest))

pub take_less : (q : Full) (j k : ℕ) → j ≤ k → take j (take k q) ≡ take j q
take_less q zero k l = refl
take_less q (suc j) zero l = absurd (omega arith)
take_less [] (suc j) (suc k) l = refl
take_less (x ∷ q) (suc j) (suc k) l = ap (λ r. x ∷ r) (take_less q j k (omega arith))

-- the scopes of a front of a full name are scopes of the name
pub seek_front : (ds : List Declared) (sought : Sought) (q : Full) (x : List ℕ) (j k : ℕ) → j ≤ k → seek ds sought (take k q) j x ≡ seek ds sought q j x
seek_front ds sought q x zero k l = refl
seek_front ds sought q x (suc j) k l =
    ap (λ r. option_or (has ds sought r x) (seek ds sought (take k q) j x)) (take_less q (suc j) k l) ∙ ap (option_or (has ds sought (take (suc j) q) x)) (seek_front ds sought q x j k (omega arith))
