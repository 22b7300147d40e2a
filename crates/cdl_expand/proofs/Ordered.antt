-- The wires of a model stand by scope.
use Rattle.std.proofs.Common.{◌≡◌, ◌⊎◌, ℕ, zero, suc, ◌≤◌, List, [], ◌∷◌, ◌++◌, map, Some, None, slice_get, refl, sym, ap, ◌∙◌, subst, arith, inl, inr}
use Rattle.cdl_network.specs.Lists.{In, Sorted, number}
use Rattle.cdl_network.proofs.Inside.{in_slice}
use Rattle.cdl_network.proofs.Numbers.{number_place}
use Rattle.cdl_network.proofs.Renaming.{slice_map}
use Rattle.cdl_params.specs.Kept.{Model}
use Rattle.cdl_paths.specs.declared.path.Step.{Step}
use Rattle.cdl_stations.specs.Keys.{Key, Before, In as InKeys, Sorted as SortedKeys}
use Rattle.cdl_walk.specs.declared.walked.Instance.{Instance}
use Rattle.cdl_walk.specs.Events.{same_steps}
use Rattle.cdl_walk.specs.Instances.{seen_instance}
use Rattle.cdl_model.specs.Networks.{paths}
use Rattle.cdl_model.specs.Parts.{Unfolding}
use Rattle.cdl_model.specs.Apart.{AreApart}
use Rattle.cdl_model.proofs.Tests.{steps_tell}
use Rattle.cdl_statements.specs.Directory.{NamedWire, path_in}
use Rattle.cdl_statements.specs.Events.{Event, wires_in, wires_of}
use Rattle.cdl_statements.specs.Stations.{InModel}
use Rattle.cdl_expand.proofs.Scoped.{scoped, wire_of}
use Rattle.cdl_expand.proofs.Walking.{to_keys}
use Rattle.cdl_expand.proofs.Wired.{paths_are}

-- ---- numbers that don't fall

-- the number of each isn't above those behind it
abbrev pub Climbs : {A : Type 0} → (A → ℕ) → List A → Type 0
Climbs f xs = Sorted (λ x y. f x ≤ f y) xs

module _ {A : Type 0} (f : A → ℕ) where
  climbs_same : (n : ℕ) (xs : List A) → ((x : A) → In x xs → f x ≡ n) → Climbs f xs
  climbs_same n [] h = tt
  climbs_same n (x ∷ xs) h = (λ y i. let a = h x (inl refl) in let b = h y (inr i) in omega (arith, a, b), climbs_same n xs (λ y i. h y (inr i)))

  either : (z : A) (xs ys : List A) → In z (xs ++ ys) → In z xs ⊎ In z ys
  either z [] ys h = inr h
  either z (x ∷ xs) ys (inl e) = inl (inl e)
  either z (x ∷ xs) ys (inr h) = elim (either z xs ys h) as (λ _. In z (x ∷ xs) ⊎ In z ys) [ inl a ↦ inl (inr a) | inr b ↦ inr b ]

  climbs_both : (xs ys : List A) → Climbs f xs → Climbs f ys → ((x y : A) → In x xs → In y ys → f x ≤ f y) → Climbs f (xs ++ ys)
  climbs_both [] ys a b h = b
  climbs_both (x ∷ xs) ys a b h = (
    λ y i. elim (either y xs ys i) as (λ _. f x ≤ f y) [ inl m ↦ a.0 y m | inr m ↦ h x y (inl refl) m ],
    climbs_both xs ys a.1 b (λ z y i j. h z y (inr i) j),
  )

  same_item : (x y z : A) → Some z ≡ Some x → Some z ≡ Some y → x ≡ y
  same_item x y z e g = cc

  not_there : (x : A) → None ≡ Some x → ⊥
  not_there x e = cc

  the_item : (x z : A) → Some z ≡ Some x → z ≡ x
  the_item x z e = cc

  pub climbs_at : (xs : List A) (j k : ℕ) (x y : A) → Climbs f xs → j ≤ k → slice_get xs j ≡ Some x → slice_get xs k ≡ Some y → f x ≤ f y
  climbs_at [] j k x y c l a b = absurd (not_there x a)
  climbs_at (z ∷ zs) zero zero x y c l a b = let e : f x ≡ f y = ap f (same_item x y z a b) in omega (arith, e)
  climbs_at (z ∷ zs) zero (suc k) x y c l a b = subst (λ q. f q ≤ f y) (the_item x z a) (c.0 y (in_slice zs k y b))
  climbs_at (z ∷ zs) (suc j) zero x y c l a b = absurd (omega (arith, l))
  climbs_at (z ∷ zs) (suc j) (suc k) x y c l a b = climbs_at zs j k x y c.1 (omega (arith, l)) a b

-- ---- wires

heads_climb : (m n : ℕ) (k l : Key) → Before (m ∷ k) (n ∷ l) → m ≤ n
heads_climb m n k l (inl h) = omega (arith, h)
heads_climb m n k l (inr h) = omega (arith, h.0)

module _ (w : Model) (xs : List Instance) (u : Unfolding) (a : AreApart u) (i : u.instances ≡ map seen_instance xs) where
  abbrev scope_number : NamedWire → ℕ
  scope_number v = number same_steps (paths u.instances) v.scope

  -- the scope is the instance whose number begins the key
  by_head : (k : Key) (e : Event) (v : NamedWire) → InModel w xs k e → InKeys v (wires_in e) → (n : ℕ) × (rest : Key) × (k ≡ n ∷ rest) × (scope_number v ≡ n)
  by_head k e v s m =
      let z = scoped w xs k e v s m in
      let path : slice_get (map path_in xs) z.0 ≡ Some z.3.instance.path.steps = slice_map path_in xs (map path_in xs) z.0 z.3.instance refl z.3.at in
      let here : slice_get (paths u.instances) z.0 ≡ Some v.scope =
      ap (λ (l : List (List Step)). slice_get l z.0) (sym (paths_are xs ∙ ap paths (sym i))) ∙ path ∙ ap (λ (q : List Step). Some q) (sym z.3.joins.scope) in
      (z.0, z.1, z.2, number_place same_steps (paths u.instances) z.0 v.scope steps_tell a.instances here)

  one_head : (k : Key) (e : Event) (v x : NamedWire) → InModel w xs k e → InKeys v (wires_in e) → InKeys x (wires_in e) → scope_number x ≡ scope_number v
  one_head k e v x s p q =
      let y = by_head k e v s p in
      let z = by_head k e x s q in
      let same : y.0 ≡ z.0 = first_same y.0 z.0 y.1 z.1 (sym y.2 ∙ z.2) in
      z.3 ∙ sym same ∙ sym y.3
    where
      first_same : (m n : ℕ) (g h : Key) → m ∷ g ≡ n ∷ h → m ≡ n
      first_same m n g h e = cc

  within : (e : Event) (k : Key) (ws : List NamedWire) → InModel w xs k e → ws ≡ wires_in e → Climbs scope_number ws
  within e k [] s q = tt
  within e k (v ∷ ws) s q = climbs_same scope_number (scope_number v) (v ∷ ws)
      (λ x m. one_head k e v x s (subst (λ (l : List NamedWire). InKeys v l) q (inl refl)) (subst (λ (l : List NamedWire). InKeys x l) q (to_keys x (v ∷ ws) m)))

  across : (k l : Key) (d e : Event) (v x : NamedWire) → Before k l → InModel w xs k d → InModel w xs l e → InKeys v (wires_in d) → InKeys x (wires_in e) → scope_number v ≤ scope_number x
  across k l d e v x b s t p q =
      let y = by_head k d v s p in
      let z = by_head l e x t q in
      let order : Before (y.0 ∷ y.1) (z.0 ∷ z.1) = subst (λ (j : Key). Before j (z.0 ∷ z.1)) y.2 (subst (λ (j : Key). Before k j) z.2 b) in
      let h = heads_climb y.0 z.0 y.1 z.1 order in
      let f = y.3 in
      let g = z.3 in
      omega (arith, h, f, g)

  pub wires_climb : (es : List (Key × Event)) → SortedKeys es → ((k : Key) (e : Event) → InKeys {X = Key × Event} (k, e) es → InModel w xs k e) → Climbs scope_number (wires_of es)
  wires_climb [] s f = tt
  wires_climb ((k, e) ∷ es) s f = climbs_both scope_number (wires_in e) (wires_of es)
      (within e k (wires_in e) (f k e (inl refl)) refl)
      (wires_climb es s.1 (λ l d m. f l d (inr m)))
      (λ v x p q. let r = wire_of es x (to_keys x (wires_of es) q) in
      across k r.key e r.event v x (s.0 r.key r.event r.there) (f k e (inl refl)) (f r.key r.event (inr r.there)) (to_keys v (wires_in e) p) r.brought)
