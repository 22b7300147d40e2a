-- What stands at two keys has two paths, or two names.
use Rattle.std.proofs.Common.{◌≡◌, ℕ, ◌<◌, List, [], ◌∷◌, ◌++◌, Some, None, Ok, refl, sym, ap, ◌∙◌, subst}
use Rattle.std.proofs.lemmas.List.{append_cancel_left}
use Rattle.cdl_values.specs.Values.{items_of as size_of}
use Rattle.cdl_array.specs.Outcomes.{Outcome}
use Rattle.cdl_tree.specs.declared.class.Item.{Item}
use Rattle.cdl_scopes.specs.Classes.{declared}
use Rattle.cdl_scopes.specs.Lookup.{item_name}
use Rattle.cdl_classes.specs.declared.found.ClassId.{ClassId}
use Rattle.cdl_paths.specs.declared.path.Step.{Step}
use Rattle.cdl_params.specs.Kept.{Model}
use Rattle.cdl_stations.specs.Keys.{Key}
use Rattle.cdl_items.specs.declared.role.Part.{Part}
use Rattle.cdl_items.specs.declared.role.Part.TheVariants as part
use Rattle.cdl_items.specs.declared.role.Role.TheVariants as role
use Rattle.cdl_walk.specs.Elements.{indices_at}
use Rattle.cdl_items.specs.Roles.{role_of}
use Rattle.cdl_walk.specs.Instances.{Thing, elements, IsOfKind, IsPart, IsThing}
use Rattle.cdl_model.specs.Apart.{NamesApart}
use Rattle.cdl_model.proofs.Keyed.{Mark, Marks, Below, step, of_kind, at_item, below, block_mark, item_mark, goes_on, not_longer}
use Rattle.cdl_model.proofs.Sized.{elements_few, indices_apart}

none_some : (n : List ℕ) (m : Mark) → m ≡ None → m ≡ Some n → ⊥
none_some n m e f = let h : None ≡ Some n = sym e ∙ f in cc

some_same : {A : Type 0} (x y : A) → Some x ≡ Some y → x ≡ y
some_same x y e = cc

abbrev the_sizes : List ℕ → Outcome (List ℕ)
the_sizes x = Ok x

ok_same : (x y : List ℕ) → the_sizes x ≡ the_sizes y → x ≡ y
ok_same x y e = cc

heads_same : (x y : Step) (xs ys : List Step) → x ∷ xs ≡ y ∷ ys → x ≡ y
heads_same x y xs ys e = cc

component_same : (x y : Part) → role.Component x ≡ role.Component y → x ≡ y
component_same x y e = cc

part_same : (w : Model) (k l : Key) (t u : Thing) (x : Part) (r : List Step) → ((d : ClassId) → IsThing w r d k t → IsThing w r d l u → k ≡ l)
    → IsPart x r (λ z d. IsThing w z d k t) (λ z kind. IsOfKind w z kind k t) → IsPart x r (λ z d. IsThing w z d l u) (λ z kind. IsOfKind w z kind l u) → k ≡ l
part_same w k l t u (part.Block d) r rec s z = rec d s z
part_same w k l t u (part.Kind kind) r rec s z = (of_kind w r kind k t s).key ∙ sym (of_kind w r kind l u z).key

-- two elements of components in one instance, at one path
module _ (w : Model) (a : NamesApart w) (p : List Step) (c : ClassId) (i x y : ℕ) (k l : Key) (t u : Thing) (b : Below w p c i x k t) where
  steps_same : (d : Below w p c i y l u) → step (item_name d.item) (indices_at d.sizes y) ≡ step (item_name b.item) (indices_at b.sizes x)
      → (rec : (r : List Step) (e : ClassId) → IsThing w r e k t → IsThing w r e l u → k ≡ l) → i ∷ x ∷ k ≡ i ∷ y ∷ l
  steps_same d e rec =
      let items : b.item ≡ d.item = some_same b.item d.item (sym b.at ∙ d.at) in
      let parts : d.part ≡ b.part = component_same d.part b.part (sym d.role_is ∙ ap (λ (z : Item). role_of (declared w.files) c.index i z) (sym items) ∙ b.role_is) in
      let sizes : d.sizes ≡ b.sizes = ok_same d.sizes b.sizes (sym d.worth ∙ ap (λ (z : Item). elements w p z) (sym items) ∙ b.worth) in
      let indices : indices_at b.sizes x ≡ indices_at b.sizes y = sym (ap (λ (z : List ℕ). indices_at z y) (sym sizes) ∙ ap (λ (z : Step). z.indices) e) in
      let numbers : x ≡ y = indices_apart b.sizes x y (elements_few w p b.item b.sizes b.worth) b.within (subst (λ (z : List ℕ). y < size_of z) sizes d.within) indices in
      let there : IsPart b.part (p ++ (step (item_name b.item) (indices_at b.sizes x)) ∷ []) (λ z f. IsThing w z f l u) (λ z kind. IsOfKind w z kind l u) =
      subst (λ (s : Step). IsPart b.part (p ++ s ∷ []) (λ z f. IsThing w z f l u) (λ z kind. IsOfKind w z kind l u)) e
      (subst (λ (q : Part). IsPart q (p ++ (step (item_name d.item) (indices_at d.sizes y)) ∷ []) (λ z f. IsThing w z f l u) (λ z kind. IsOfKind w z kind l u)) parts d.there) in
      let keys : k ≡ l = part_same w k l t u b.part (p ++ (step (item_name b.item) (indices_at b.sizes x)) ∷ []) (λ f s z. rec (p ++ (step (item_name b.item) (indices_at b.sizes x)) ∷ []) f s z) b.there there in
      ap (λ (n : ℕ). i ∷ n ∷ k) numbers ∙ ap (λ (z : Key). i ∷ y ∷ z) keys

  below_same : (j : ℕ) (q : List Step) (m : Mark) → Below w p c j y l u → Marks t q m → Marks u q m → (rec : (r : List Step) (e : ClassId) → IsThing w r e k t → IsThing w r e l u → k ≡ l)
      → IsThing w p c (j ∷ y ∷ l) u → i ∷ x ∷ k ≡ j ∷ y ∷ l
  below_same j q m d h g rec s =
      let f = goes_on w p q c i x k t m b h in
      let o = goes_on w p q c j y l u m d g in
      let e : step (item_name d.item) (indices_at d.sizes y) ≡ step (item_name b.item) (indices_at b.sizes x) =
      heads_same _ _ o.0 f.0 (append_cancel_left p ((step (item_name d.item) (indices_at d.sizes y)) ∷ o.0) ((step (item_name b.item) (indices_at b.sizes x)) ∷ f.0) (sym o.1 ∙ f.1)) in
      let n : i ≡ j = a.items c.index i j b.item d.item b.at d.at (sym (ap (λ (z : Step). z.name) e)) in
      let v : IsThing w p c (i ∷ y ∷ l) u = subst (λ (z : ℕ). IsThing w p c (z ∷ y ∷ l) u) (sym n) s in
      let b2 = below w p c i y l u v in
      let o2 = goes_on w p q c i y l u m b2 g in
      let e2 : step (item_name b2.item) (indices_at b2.sizes y) ≡ step (item_name b.item) (indices_at b.sizes x) =
      heads_same _ _ o2.0 f.0 (append_cancel_left p ((step (item_name b2.item) (indices_at b2.sizes y)) ∷ o2.0) ((step (item_name b.item) (indices_at b.sizes x)) ∷ f.0) (sym o2.1 ∙ f.1)) in
      steps_same b2 e2 rec ∙ ap (λ (z : ℕ). z ∷ y ∷ l) n

-- a path, and a name at it, have one key
pub same_key : (w : Model) (a : NamesApart w) (k l : Key) (p q : List Step) (c : ClassId) (t u : Thing) (m : Mark) → Marks t q m → Marks u q m → IsThing w p c k t → IsThing w p c l u → k ≡ l
same_key w a [] [] p q c t u m h g s z = refl
same_key w a [] (j ∷ []) p q c t u m h g s z =
    let d = at_item w p c j u z in absurd (none_some (item_name d.item) m (block_mark p q c t m s h).0 (item_mark w p q c j u m d g).0)
same_key w a [] (j ∷ y ∷ l) p q c t u m h g s z =
    let d = below w p c j y l u z in let o = goes_on w p q c j y l u m d g in
    absurd (not_longer p (step (item_name d.item) (indices_at d.sizes y)) o.0 (sym (block_mark p q c t m s h).1 ∙ o.1))
same_key w a (i ∷ []) [] p q c t u m h g s z =
    let b = at_item w p c i t s in absurd (none_some (item_name b.item) m (block_mark p q c u m z g).0 (item_mark w p q c i t m b h).0)
same_key w a (i ∷ []) (j ∷ []) p q c t u m h g s z =
    let b = at_item w p c i t s in
    let d = at_item w p c j u z in
    let e : item_name b.item ≡ item_name d.item = some_same (item_name b.item) (item_name d.item) (sym (item_mark w p q c i t m b h).0 ∙ (item_mark w p q c j u m d g).0) in
    ap (λ (n : ℕ). n ∷ []) (a.items c.index i j b.item d.item b.at d.at e)
same_key w a (i ∷ []) (j ∷ y ∷ l) p q c t u m h g s z =
    let b = at_item w p c i t s in
    let d = below w p c j y l u z in let o = goes_on w p q c j y l u m d g in
    absurd (not_longer p (step (item_name d.item) (indices_at d.sizes y)) o.0 (sym (item_mark w p q c i t m b h).1 ∙ o.1))
same_key w a (i ∷ x ∷ k) [] p q c t u m h g s z =
    let b = below w p c i x k t s in let f = goes_on w p q c i x k t m b h in
    absurd (not_longer p (step (item_name b.item) (indices_at b.sizes x)) f.0 (sym (block_mark p q c u m z g).1 ∙ f.1))
same_key w a (i ∷ x ∷ k) (j ∷ []) p q c t u m h g s z =
    let b = below w p c i x k t s in let f = goes_on w p q c i x k t m b h in
    let d = at_item w p c j u z in
    absurd (not_longer p (step (item_name b.item) (indices_at b.sizes x)) f.0 (sym (item_mark w p q c j u m d g).1 ∙ f.1))
same_key w a (i ∷ x ∷ k) (j ∷ y ∷ l) p q c t u m h g s z =
    below_same w a p c i x y k l t u (below w p c i x k t s) j q m (below w p c j y l u z) h g (λ r e v v2. same_key w a k l r q e t u m h g v v2) z
