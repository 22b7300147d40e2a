-- No name is declared twice in a class, where C10 is not broken.
use Rattle.std.proofs.Common.{◌≡◌, ℕ, zero, suc, ◌<◌, Bool, true, false, List, [], ◌∷◌, ◌++◌, map, filter, Option, Some, None, slice_get, refl, sym, ap, ◌∙◌, subst, arith, inl, inr, append_assoc}
use Rattle.std.specs.Prelude.{◌||◌, if◌then◌else◌, option_map, unwrap_or}
use Rattle.std.specs.List.{list_any}
use Rattle.std.specs.Str.{bytes_eq}
use Rattle.std.proofs.lemmas.Bool.{false≢true, and_from}
use Rattle.std.proofs.lemmas.List.{append-nil}
use Rattle.cdl_source.specs.declared.place.Place.{Place}
use Rattle.cdl_source.proofs.Cases.{by_lt}
use Rattle.cdl_source.proofs.Options.{bytes_eq-same}
use Rattle.cdl_network.specs.Lists.{In}
use Rattle.cdl_network.proofs.Inside.{in_slice, kept_in}
use Rattle.cdl_network.proofs.Renaming.{slice_map}
use Rattle.cdl_params.specs.Kept.{Model}
use Rattle.cdl_tree.specs.declared.name.Ident.{Ident}
use Rattle.cdl_tree.specs.declared.class.Item.{Item}
use Rattle.cdl_tree.specs.declared.class.ClassTree.{ClassTree, out-ClassTree}
use Rattle.cdl_tree.specs.declared.class.ClassTree.TheOpen.{ClassTree-F}
use Rattle.cdl_tree.specs.Parts.{items_at, items_of}
use Rattle.cdl_scopes.specs.declared.lookup.ClassSort.{ClassSort}
use Rattle.cdl_scopes.specs.declared.lookup.ClassSort.TheVariants as sort
use Rattle.cdl_scopes.specs.Classes.{Full, Declared, declared, full, same_full}
use Rattle.cdl_scopes.specs.Lookup.{item_name, sort_at, sort_of}
use Rattle.cdl_classes.specs.Rules.{Named, name_ident, place, constant_named, named_in, named_of, later_of, with_name, twice_from, own_names, again_from, again_in, again_of, broken_10}
use Rattle.cdl_model.specs.Apart.{NamesApart}
use Rattle.cdl_model.proofs.Joined.{in_left, in_right}

nil_parts : {A : Type 0} (xs ys : List A) → xs ++ ys ≡ [] → (xs ≡ []) × (ys ≡ [])
nil_parts [] ys e = (refl, e)
nil_parts (x ∷ xs) ys e = absurd (cc)

nil_map : {A B : Type 0} (f : A → B) (xs : List A) → map f xs ≡ [] → xs ≡ []
nil_map f [] e = refl
nil_map f (x ∷ xs) e = absurd (cc)

nothing_in : {A : Type 0} (x : A) (xs : List A) → xs ≡ [] → In x xs → ⊥
nothing_in x xs e i = subst (λ l. In x l) e i

no_place : (b : Bool) (p : Place) → (if b then p ∷ [] else []) ≡ [] → b ≡ false
no_place true p e = absurd (cc)
no_place false p e = refl

or_true : (b : Bool) → (b || true) ≡ true
or_true true = refl
or_true false = refl

any_in : (p : List ℕ → Bool) (n : List ℕ) (xs : List (List ℕ)) → In n xs → p n ≡ true → list_any p xs ≡ true
any_in p n [] i h = absurd i
any_in p n (x ∷ xs) (inl e) h = ap (λ b. b || list_any p xs) (ap p (sym e) ∙ h)
any_in p n (x ∷ xs) (inr i) h = ap (λ b. p x || b) (any_in p n xs i h) ∙ or_true (p x)

some_is : {A : Type 0} (x y : A) → Some x ≡ Some y → x ≡ y
some_is x y e = cc

-- ---- names of items

abbrev Fresh : List Ident → List (List ℕ) → ℕ → Ident → Type 0
Fresh is before j x = (In x.text before → ⊥) × ((i : ℕ) (y : Ident) → i < j → slice_get is i ≡ Some y → x.text ≡ y.text → ⊥)

later_fresh : (k : Ident) (is : List Ident) (before : List (List ℕ)) (j : ℕ) (x : Ident) → Fresh is (before ++ k.text ∷ []) j x → (i : ℕ) (y : Ident) → i < suc j → slice_get (k ∷ is) i ≡ Some y → x.text ≡ y.text → ⊥
later_fresh k is before j x f zero y l s q = f.0 (in_right x.text before (k.text ∷ []) (inl (q ∙ ap (λ (z : Ident). z.text) (sym (some_is k y s)))))
later_fresh k is before j x f (suc i) y l s q = f.1 i y (omega (arith, l)) s q

fresh : (file : ℕ) (before : List (List ℕ)) (is : List Ident) (j : ℕ) (x : Ident) → again_from file before is ≡ [] → slice_get is j ≡ Some x → Fresh is before j x
fresh file before [] j x h e = absurd (cc)
fresh file before (k ∷ is) zero x h e =
    let p = nil_parts (if list_any (bytes_eq k.text) before then place file k ∷ [] else []) (again_from file (before ++ k.text ∷ []) is) h in
    let f = no_place (list_any (bytes_eq k.text) before) (place file k) p.0 in
    let same : k ≡ x = some_is k x e in (
      λ i. false≢true (sym f ∙ any_in (bytes_eq k.text) x.text before i (bytes_eq-same k.text x.text (ap (λ (z : Ident). z.text) same))),
      λ i y l s q. absurd (omega (arith, l)),
    )
fresh file before (k ∷ is) (suc j) x h e =
    let p = nil_parts (if list_any (bytes_eq k.text) before then place file k ∷ [] else []) (again_from file (before ++ k.text ∷ []) is) h in
    let f = fresh file (before ++ k.text ∷ []) is j x p.1 e in
    (λ i. f.0 (in_left x.text before (k.text ∷ []) i), later_fresh k is before j x f)

again_at : (ds : List Declared) (c : ℕ) (d : Declared) → again_of ds ≡ [] → slice_get ds c ≡ Some d → again_in d ≡ []
again_at [] c d h e = absurd (cc)
again_at (b ∷ ds) zero d h e = ap again_in (sym (some_is b d e)) ∙ (nil_parts (again_in b) (again_of ds) h).0
again_at (b ∷ ds) (suc c) d h e = again_at ds c d (nil_parts (again_in b) (again_of ds) h).1 e

-- ---- full names

same_self : (p : Full) → same_full p p ≡ true
same_self [] = refl
same_self (x ∷ p) = and_from (bytes_eq x x) (same_full p p) (bytes_eq-same x x refl) (same_self p)

twice_parts : (before xs ys : List Named) → twice_from before (xs ++ ys) ≡ [] → (twice_from before xs ≡ []) × (twice_from (before ++ xs) ys ≡ [])
twice_parts before [] ys h = (refl, subst (λ b. twice_from b ys ≡ []) (sym (append-nil before)) h)
twice_parts before (x ∷ xs) ys h =
    let p = nil_parts (map (later_of x.at) (filter (with_name x.full) before)) (twice_from (before ++ x ∷ []) (xs ++ ys)) h in
    let r = twice_parts (before ++ x ∷ []) xs ys p.1 in
    (ap (λ (l : List Place). l ++ twice_from (before ++ x ∷ []) xs) p.0 ∙ r.0, subst (λ b. twice_from b ys ≡ []) (append_assoc before (x ∷ []) xs) r.1)

twice_at : (before : List Named) (ds : List Declared) (c : ℕ) (d : Declared) → twice_from before (named_of ds) ≡ [] → slice_get ds c ≡ Some d → (b : List Named) × (twice_from b (named_in d) ≡ [])
twice_at before [] c d h e = absurd (cc)
twice_at before (x ∷ ds) zero d h e = (before, ap (λ z. twice_from before (named_in z)) (sym (some_is x d e)) ∙ (twice_parts before (named_in x) (named_of ds) h).0)
twice_at before (x ∷ ds) (suc c) d h e = twice_at (before ++ named_in x) ds c d (twice_parts before (named_in x) (named_of ds) h).1 e

abbrev Alone : List Named → List Named → ℕ → Named → Type 0
Alone xs before j x = ((m : Named) → In m before → same_full x.full m.full ≡ true → ⊥) × ((i : ℕ) (y : Named) → i < j → slice_get xs i ≡ Some y → same_full x.full y.full ≡ true → ⊥)

later_alone : (k : Named) (xs before : List Named) (j : ℕ) (x : Named) → Alone xs (before ++ k ∷ []) j x → (i : ℕ) (y : Named) → i < suc j → slice_get (k ∷ xs) i ≡ Some y → same_full x.full y.full ≡ true → ⊥
later_alone k xs before j x f zero y l s q = f.0 y (in_right y before (k ∷ []) (inl (sym (some_is k y s)))) q
later_alone k xs before j x f (suc i) y l s q = f.1 i y (omega (arith, l)) s q

alone : (before xs : List Named) (j : ℕ) (x : Named) → twice_from before xs ≡ [] → slice_get xs j ≡ Some x → Alone xs before j x
alone before [] j x h e = absurd (cc)
alone before (k ∷ xs) zero x h e =
    let p = nil_parts (map (later_of k.at) (filter (with_name k.full) before)) (twice_from (before ++ k ∷ []) xs) h in
    let none = nil_map (later_of k.at) (filter (with_name k.full) before) p.0 in
    let same : k ≡ x = some_is k x e in (
      λ m i q. nothing_in m (filter (with_name k.full) before) none (kept_in (with_name k.full) m before i (ap (λ (z : Named). same_full z.full m.full) same ∙ q)),
      λ i y l s q. absurd (omega (arith, l)),
    )
alone before (k ∷ xs) (suc j) x h e =
    let p = nil_parts (map (later_of k.at) (filter (with_name k.full) before)) (twice_from (before ++ k ∷ []) xs) h in
    let f = alone (before ++ k ∷ []) xs j x p.1 e in
    (λ m i q. f.0 m (in_left m before (k ∷ []) i) q, later_alone k xs before j x f)

-- ---- a class

no_items : (o : ClassTree-F ClassTree) → sort_at o ≡ sort.Enumeration → items_at o ≡ []
no_items (ClassTree-F.Block name items statements span) e = absurd (cc)
no_items (ClassTree-F.Package name classes constants span) e = absurd (cc)
no_items (ClassTree-F.Enumeration name literals span) e = refl

enumeration_items : (t : ClassTree) → sort_of t ≡ sort.Enumeration → items_of t ≡ []
unfolding sort_of items_of
enumeration_items t e = no_items (out-ClassTree t) e

abbrev Differs : Declared → Type 0
Differs d = (i j : ℕ) (x y : Item) → i < j → slice_get (items_of d.tree) i ≡ Some x → slice_get (items_of d.tree) j ≡ Some y → item_name y ≡ item_name x → ⊥

differs : (ds : List Declared) (c : ℕ) (d : Declared) → broken_10 ds ≡ [] → slice_get ds c ≡ Some d → (s : ClassSort) → sort_of d.tree ≡ s → Differs d
differs ds c d h e sort.Block s i j x y l a b q =
    let p = nil_parts (twice_from [] (named_of ds)) (again_of ds) h in
    let f : again_from d.file [] (map name_ident (items_of d.tree)) ≡ [] = ap (λ z. again_from d.file [] (own_names d z)) (sym s) ∙ again_at ds c d p.1 e in
    (fresh d.file [] (map name_ident (items_of d.tree)) j (name_ident y) f (slice_map name_ident (items_of d.tree) (map name_ident (items_of d.tree)) j y refl b)).1
    i (name_ident x) l (slice_map name_ident (items_of d.tree) (map name_ident (items_of d.tree)) i x refl a) q
differs ds c d h e sort.Package s i j x y l a b q =
    let p = nil_parts (twice_from [] (named_of ds)) (again_of ds) h in
    let z = twice_at [] ds c d p.0 e in
    let head : Named = record { full = full d; at = place d.file (Rattle.cdl_tree.specs.Parts.class_name d.tree) } in
    let whole : List Named = head ∷ map (constant_named d) (items_of d.tree) in
    let f : twice_from z.0 whole ≡ [] = ap (λ o. twice_from z.0 (head ∷ map (constant_named d) (Rattle.cdl_classes.specs.Rules.constants_of d o))) (sym s) ∙ z.1 in
    (alone z.0 whole (suc j) (constant_named d y) f (slice_map (constant_named d) (items_of d.tree) (map (constant_named d) (items_of d.tree)) j y refl b)).1
    (suc i) (constant_named d x) (omega (arith, l)) (slice_map (constant_named d) (items_of d.tree) (map (constant_named d) (items_of d.tree)) i x refl a)
    (ap (λ (n : List ℕ). same_full (full d ++ item_name y ∷ []) (full d ++ n ∷ [])) (sym q) ∙ same_self (full d ++ item_name y ∷ []))
differs ds c d h e sort.Enumeration s i j x y l a b q = nothing_in x (items_of d.tree) (enumeration_items d.tree s) (in_slice (items_of d.tree) i x a)

abbrev InClass : List Declared → Option Declared → ℕ → ℕ → Item → Item → Type 0
InClass ds o i j x y = slice_get (unwrap_or (option_map (λ (d : Declared). items_of d.tree) o) []) i ≡ Some x → slice_get (unwrap_or (option_map (λ (d : Declared). items_of d.tree) o) []) j ≡ Some y → item_name x ≡ item_name y → i ≡ j

in_class : (ds : List Declared) (c : ℕ) (o : Option Declared) (i j : ℕ) (x y : Item) → broken_10 ds ≡ [] → slice_get ds c ≡ o → InClass ds o i j x y
in_class ds c None i j x y h e a b q = absurd (cc)
in_class ds c (Some d) i j x y h e a b q = by_lt i j
    (λ l. absurd (differs ds c d h e (sort_of d.tree) refl i j x y l a b (sym q)))
    (λ g. by_lt j i (λ l. absurd (differs ds c d h e (sort_of d.tree) refl j i y x l b a q)) (λ k. omega (arith, g, k)))

pub names_apart : (w : Model) → broken_10 (declared w.files) ≡ [] → NamesApart w
names_apart w h = record { items = λ c i j x y a b q. in_class (declared w.files) c (slice_get (declared w.files) c) i j x y h refl a b q }
