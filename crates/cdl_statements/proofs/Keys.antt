-- Keys tell names apart, and maps have their places.
use Rattle.std.proofs.Common.{◌≡◌, ◌<◌, ◌⊎◌, ℕ, ◌+◌, List, [], ◌∷◌, ◌++◌, map, length, refl, sym, ap, ◌∙◌, subst, arith, append_assoc, inl, inr, get_or, Option, Some, None, Bool, true, false, cond, Vec}
use Rattle.std.specs.Prelude.{slice_get, option_map}
use Rattle.std.specs.Map.{lookup}
use Rattle.std.specs.BTreeMap.{insert_entry}
use Rattle.std.specs.Str.{bytes_eq}
use Rattle.std.specs.declared.alloc.Global.{Global}
use Rattle.std.proofs.lemmas.Bool.{cases_lt}
use Rattle.std.proofs.lemmas.Slice.Eq.{bytes_eq-Decides}
use Rattle.std.proofs.lemmas.Option.{slice_get-map, slice_get_within, slice_get-get_or}
use Rattle.cdl_paths.specs.declared.path.Step.{Step}
use Rattle.cdl_scopes.specs.Entries.{entry}
use Rattle.cdl_scopes.proofs.Entries.{order, at, lookup-insert}
use Rattle.cdl_walk.specs.declared.walked.Element.{Element}
use Rattle.cdl_walk.specs.declared.walked.Instance.{Instance}
use Rattle.cdl_walk.specs.Instances.{path_at}
use Rattle.cdl_model.specs.Names.{ElementName}
use Rattle.cdl_statements.specs.Complete.{Stands}
use Rattle.cdl_statements.specs.Directory.{directory, name_in}
use Rattle.cdl_joins.specs.Sides.{element}
use Rattle.cdl_statements.specs.inner.Keys.{Numbers, step_key, path_key, instance_key, owner_key, element_key, key_of_element, HasNumber, IsIndex, AreIndices}

-- ---- lists of a known length

tail_of : {X : Type 0} (x y : X) (xs ys : List X) → x ∷ xs ≡ y ∷ ys → (x ≡ y) × (xs ≡ ys)
tail_of x y xs ys e = (cc, cc)

-- two fronts of one length
fronts : (xs ys us vs : List ℕ) → length xs ≡ length ys → xs ++ us ≡ ys ++ vs → (xs ≡ ys) × (us ≡ vs)
fronts [] [] us vs l e = (refl, e)
fronts [] (y ∷ ys) us vs l e = absurd (omega (arith, l))
fronts (x ∷ xs) [] us vs l e = absurd (omega (arith, l))
fronts (x ∷ xs) (y ∷ ys) us vs l e =
    let t : (x ≡ y) × (xs ++ us ≡ ys ++ vs) = tail_of x y (xs ++ us) (ys ++ vs) e in
    let rest : (xs ≡ ys) × (us ≡ vs) = fronts xs ys us vs (omega (arith, l)) t.1 in
    (ap (λ (z : ℕ). z ∷ xs) t.0 ∙ ap (λ (zs : List ℕ). y ∷ zs) rest.0, rest.1)

counted : (xs ys us vs : List ℕ) → (length xs ∷ xs) ++ us ≡ (length ys ∷ ys) ++ vs → (xs ≡ ys) × (us ≡ vs)
counted xs ys us vs e = let t : (length xs ≡ length ys) × (xs ++ us ≡ ys ++ vs) = tail_of (length xs) (length ys) (xs ++ us) (ys ++ vs) e in fronts xs ys us vs t.0 t.1

steps_apart : (x y is js us vs : List ℕ) → step_key x is ++ us ≡ step_key y js ++ vs → (x ≡ y) × (is ≡ js) × (us ≡ vs)
steps_apart x y is js us vs e =
    let assoc : (length x ∷ x) ++ ((length is ∷ is) ++ us) ≡ (length y ∷ y) ++ ((length js ∷ js) ++ vs) =
    sym (append_assoc (length x ∷ x) (length is ∷ is) us) ∙ e ∙ append_assoc (length y ∷ y) (length js ∷ js) vs in
    let a : (x ≡ y) × ((length is ∷ is) ++ us ≡ (length js ∷ js) ++ vs) = counted x y ((length is ∷ is) ++ us) ((length js ∷ js) ++ vs) assoc in
    let b : (is ≡ js) × (us ≡ vs) = counted is js us vs a.1 in
    (a.0, b.0, b.1)

-- ---- keys of paths and of elements

same_step : (s t : Step) → s.name ≡ t.name → s.indices ≡ t.indices → s ≡ t
same_step s t e f = ap (λ (x : List ℕ). record { name = x; indices = s.indices }) e ∙ ap (λ (is : List ℕ). record { name = t.name; indices = is }) f

no_key : (n : ℕ) (xs : List ℕ) → [] ≡ n ∷ xs → ⊥
no_key n xs e = cc

pub paths_apart : (p q : List Step) → path_key p ≡ path_key q → p ≡ q
paths_apart [] [] e = refl
paths_apart [] (t ∷ q) e = absurd (no_key _ _ e)
paths_apart (s ∷ p) [] e = absurd (no_key _ _ (sym e))
paths_apart (s ∷ p) (t ∷ q) e =
    let a : (s.name ≡ t.name) × (s.indices ≡ t.indices) × (path_key p ≡ path_key q) = steps_apart s.name t.name s.indices t.indices (path_key p) (path_key q) e in
    ap (λ (z : Step). z ∷ p) (same_step s t a.0 a.1) ∙ ap (λ (z : List Step). t ∷ z) (paths_apart p q a.2)

owners_apart : (m n : Option ℕ) (us vs : List ℕ) → owner_key m ++ us ≡ owner_key n ++ vs → (m ≡ n) × (us ≡ vs)
owners_apart None None us vs e = (refl, (tail_of 0 0 us vs e).1)
owners_apart None (Some n) us vs e = absurd (omega (arith, (tail_of 0 1 us (n ∷ vs) e).0))
owners_apart (Some m) None us vs e = absurd (omega (arith, (tail_of 1 0 (m ∷ us) vs e).0))
owners_apart (Some m) (Some n) us vs e =
    let a : m ∷ us ≡ n ∷ vs = (tail_of 1 1 (m ∷ us) (n ∷ vs) e).1 in
    let b : (m ≡ n) × (us ≡ vs) = tail_of m n us vs a in
    (ap Some b.0, b.1)

-- ---- maps

entry_next : (m n : Numbers) (k : Vec ℕ Global) (i : ℕ) (y : List ℕ) → n.entries ≡ insert_entry order m.entries k i → entry n y ≡ cond (bytes_eq y k.items) (Some i) (entry m y)
entry_next m n k i y e = ap (lookup (at y)) e ∙ lookup-insert m.entries k i y

no_value : (n : ℕ) → None ≡ Some n → ⊥
no_value n e = cc

not_both : (b : Bool) → b ≡ true → b ≡ false → ⊥
not_both b e f = cc

pub index_starts : (keys : List (List ℕ)) (m : Numbers) → m.entries ≡ [] → IsIndex keys 0 m
index_starts keys m e =
    let none : (y : List ℕ) → entry m y ≡ None = λ y. ap (lookup (at y)) e in
    record { only = λ y n h. absurd (no_value n (sym (none y) ∙ h)); each = λ n y l h. absurd (omega (arith, l)) }

module _ (keys : List (List ℕ)) (i : ℕ) (m n : Numbers) (k : Vec ℕ Global) where
  only_next : IsIndex keys i m → slice_get keys i ≡ Some k.items → (y : List ℕ) (j : ℕ) (b : Bool) → bytes_eq y k.items ≡ b → cond b (Some i) (entry m y) ≡ Some j → slice_get keys j ≡ Some y
  only_next a e y j true hit h =
      let same : y ≡ k.items = (bytes_eq-Decides y k.items).0 hit in
      let place : i ≡ j = cc in
      subst (λ (z : ℕ). slice_get keys z ≡ Some y) place (e ∙ ap Some (sym same))
  only_next a e y j false miss h = a.only y j h

  each_next : IsIndex keys i m → slice_get keys i ≡ Some k.items → (j : ℕ) (y : List ℕ) (b : Bool) → bytes_eq y k.items ≡ b → entry n y ≡ cond b (Some i) (entry m y) → j < i + 1 → slice_get keys j ≡ Some y → HasNumber n y
  each_next a e j y true hit f l h = (i, f)
  each_next a e j y false miss f l h = elim (cases_lt j i) [
    | inl lt ↦ (let known : HasNumber m y = a.each j y lt h in (known.0, f ∙ known.1))
    | inr le ↦ (let place : j ≡ i = omega (arith, l, le) in
        let here : slice_get keys i ≡ Some y = subst (λ (z : ℕ). slice_get keys z ≡ Some y) place h in
        let same : y ≡ k.items = cc in
        absurd (not_both (bytes_eq y k.items) ((bytes_eq-Decides y k.items).1 same) miss))
  ]

  pub index_next : IsIndex keys i m → slice_get keys i ≡ Some k.items → n.entries ≡ insert_entry order m.entries k i → IsIndex keys (i + 1) n
  index_next a e f = record {
    only = λ y j h. only_next a e y j (bytes_eq y k.items) refl (sym (entry_next m n k i y f) ∙ h);
    each = λ j y l h. each_next a e j y (bytes_eq y k.items) refl (entry_next m n k i y f) l h;
  }

-- ---- names

in_map : {A B : Type 0} (f : A → B) (o : Option A) (y : B) → option_map f o ≡ Some y → (x : A) × (o ≡ Some x) × (f x ≡ y)
in_map f None y e = cc
in_map f (Some x) y e = (x, refl, cc)

mapped : {A B : Type 0} (f : A → B) (xs : List A) (i : ℕ) (y : B) → slice_get (map f xs) i ≡ Some y → (x : A) × (slice_get xs i ≡ Some x) × (f x ≡ y)
mapped f xs i y e = in_map f (slice_get xs i) y (sym (slice_get-map f xs i) ∙ e)

map_at : {A B : Type 0} (f : A → B) (xs : List A) (i : ℕ) (x : A) → slice_get xs i ≡ Some x → slice_get (map f xs) i ≡ Some (f x)
map_at f xs i x e = slice_get-map f xs i ∙ ap (option_map f) e

-- the path of an instance has a number, or is empty as there is no instance of that number
path_known : (xs : List Instance) (m : Numbers) (j : ℕ) (o : Option Instance) → slice_get xs j ≡ o → IsIndex (map instance_key xs) (length xs) m → HasNumber m (path_key (path_at xs j)) ⊎ (path_at xs j ≡ [])
path_known xs m j None e a = inr (rw e refl)
path_known xs m j (Some x) e a =
    let known : HasNumber m (path_key x.path.steps) = a.each j (instance_key x) (slice_get_within xs j x e) (map_at instance_key xs j x e) in
    inl (rw e known)

numbered_apart : (xs : List Instance) (m : Numbers) (p q : List Step) (n : ℕ) → IsIndex (map instance_key xs) (length xs) m → entry m (path_key p) ≡ Some n → entry m (path_key q) ≡ Some n → p ≡ q
numbered_apart xs m p q n a e f =
    let one : slice_get (map instance_key xs) n ≡ Some (path_key p) = a.only (path_key p) n e in
    let two : slice_get (map instance_key xs) n ≡ Some (path_key q) = a.only (path_key q) n f in
    paths_apart p q cc

none_has : (m : Numbers) (y : List ℕ) → HasNumber m y → entry m y ≡ None → ⊥
none_has m y h e = absurd (no_value h.0 (sym e ∙ h.1))

-- instances with the same number have the same path
same_owner : (xs : List Instance) (m : Numbers) (i j : ℕ) → IsIndex (map instance_key xs) (length xs) m → entry m (path_key (path_at xs i)) ≡ entry m (path_key (path_at xs j)) → path_at xs i ≡ path_at xs j
same_owner xs m i j a e = elim (path_known xs m i (slice_get xs i) refl a) [
  | inl h ↦ numbered_apart xs m (path_at xs i) (path_at xs j) h.0 a h.1 (sym e ∙ h.1)
  | inr p ↦ elim (path_known xs m j (slice_get xs j) refl a) [
    | inl h ↦ numbered_apart xs m (path_at xs i) (path_at xs j) h.0 a (e ∙ h.1) h.1
    | inr q ↦ p ∙ sym q
  ]
]

same_name : (x y : ElementName) → x.path ≡ y.path → x.name ≡ y.name → x.indices ≡ y.indices → x ≡ y
same_name x y e f g = ap (λ (p : List Step). record { path = p; name = x.name; indices = x.indices }) e ∙ ap (λ (n : List ℕ). record { path = y.path; name = n; indices = x.indices }) f
    ∙ ap (λ (is : List ℕ). record { path = y.path; name = y.name; indices = is }) g

module _ (xs : List Instance) (es : List Element) (m numbers : Numbers) where
  -- elements of one key have one name
  keys_apart : IsIndex (map instance_key xs) (length xs) m → (d e : Element) → key_of_element m xs d ≡ key_of_element m xs e → name_in xs d ≡ name_in xs e
  keys_apart a d e h =
      let split : (entry m (path_key (path_at xs d.instance)) ≡ entry m (path_key (path_at xs e.instance))) × (step_key d.point.name d.point.indices ≡ step_key e.point.name e.point.indices) =
      owners_apart (entry m (path_key (path_at xs d.instance))) (entry m (path_key (path_at xs e.instance))) (step_key d.point.name d.point.indices) (step_key e.point.name e.point.indices) h in
      let step : (d.point.name ≡ e.point.name) × (d.point.indices ≡ e.point.indices) × ([] ≡ []) =
      steps_apart d.point.name e.point.name d.point.indices e.point.indices [] [] (ap (λ (z : List ℕ). z ++ []) split.1) in
      same_name (name_in xs d) (name_in xs e) (same_owner xs m d.instance e.instance a split.0) step.0 step.1

  key_of_name : (e : Element) (p : List Step) (x is : List ℕ) → name_in xs e ≡ element p x is → key_of_element m xs e ≡ element_key m p x is
  key_of_name e p x is h = ap (λ (n : ElementName). element_key m n.path n.name n.indices) h

  -- the number under the key of a name is a number of that name
  pub number_is : AreIndices xs es m numbers → (p : List Step) (x is : List ℕ) (n : ℕ) → Stands (directory xs es).names (element p x is) → entry numbers (element_key m p x is) ≡ Some n
      → slice_get (directory xs es).names n ≡ Some (element p x is)
  number_is a p x is n s h =
      let here : (e : Element) × (slice_get es s.number ≡ Some e) × (name_in xs e ≡ element p x is) = mapped (name_in xs) es s.number (element p x is) s.at in
      let found : (d : Element) × (slice_get es n ≡ Some d) × (key_of_element m xs d ≡ element_key m p x is) = mapped (key_of_element m xs) es n (element_key m p x is) (a.by_name.only (element_key m p x is) n h) in
      let same : name_in xs found.0 ≡ name_in xs here.0 = keys_apart a.by_path found.0 here.0 (found.2 ∙ sym (key_of_name here.0 p x is here.2)) in
      map_at (name_in xs) es n found.0 found.1 ∙ ap Some (same ∙ here.2)

  pub has_number : AreIndices xs es m numbers → (p : List Step) (x is : List ℕ) → Stands (directory xs es).names (element p x is) → entry numbers (element_key m p x is) ≡ None → ⊥
  has_number a p x is s h =
      let here : (e : Element) × (slice_get es s.number ≡ Some e) × (name_in xs e ≡ element p x is) = mapped (name_in xs) es s.number (element p x is) s.at in
      let key : slice_get (map (key_of_element m xs) es) s.number ≡ Some (element_key m p x is) = map_at (key_of_element m xs) es s.number here.0 here.1 ∙ ap Some (key_of_name here.0 p x is here.2) in
      none_has numbers (element_key m p x is) (a.by_name.each s.number (element_key m p x is) (slice_get_within es s.number here.0 here.1) key) h

-- one more instance
pub path_next : (xs : List Instance) (i : ℕ) (m n : Numbers) (k : Vec ℕ Global) (x : Instance) (p : List Step) (v : ℕ) → IsIndex (map instance_key xs) i m → i < length xs → x ≡ get_or xs i x → p ≡ x.path.steps → k.items ≡ path_key p → v ≡ i
    → n.entries ≡ insert_entry order m.entries k v → IsIndex (map instance_key xs) (i + 1) n
path_next xs i m n k x p v a h g e f q r =
    let here : slice_get xs i ≡ Some x = slice_get-get_or xs i x h ∙ ap Some (sym g) in
    let key : k.items ≡ instance_key x = f ∙ ap path_key e in
    index_next (map instance_key xs) i m n k a (map_at instance_key xs i x here ∙ ap Some (sym key)) (subst (λ (z : ℕ). n.entries ≡ insert_entry order m.entries k z) q r)

-- one more element
pub element_next : (xs : List Instance) (es : List Element) (paths : Numbers) (i : ℕ) (m n : Numbers) (k : Vec ℕ Global) (x : Element) (p : List Step) (name is : List ℕ) (v : ℕ) → IsIndex (map (key_of_element paths xs) es) i m → i < length es
    → x ≡ get_or es i x → p ≡ path_at xs x.instance → name ≡ x.point.name → is ≡ x.point.indices → k.items ≡ element_key paths p name is → v ≡ i → n.entries ≡ insert_entry order m.entries k v → IsIndex (map (key_of_element paths xs) es) (i + 1) n
element_next xs es paths i m n k x p name is v a h g e f d b q r =
    let here : slice_get es i ≡ Some x = slice_get-get_or es i x h ∙ ap Some (sym g) in
    let key : k.items ≡ key_of_element paths xs x = b ∙ ap (λ (z : List Step). element_key paths z name is) e ∙ ap (λ (z : List ℕ). element_key paths (path_at xs x.instance) z is) f
    ∙ ap (λ (z : List ℕ). element_key paths (path_at xs x.instance) x.point.name z) d in
    index_next (map (key_of_element paths xs) es) i m n k a (map_at (key_of_element paths xs) es i x here ∙ ap Some (sym key)) (subst (λ (z : ℕ). n.entries ≡ insert_entry order m.entries k z) q r)
