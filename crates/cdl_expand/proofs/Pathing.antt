-- The texts of a net's paths and names are steps of whole arrays.
use Rattle.std.proofs.Common.{◌≡◌, ◌⊎◌, ℕ, zero, suc, ◌+◌, ◌<◌, ◌==◌, Bool, true, false, cond, List, [], ◌∷◌, ◌++◌, map, filter, length, append_assoc, codes, Option, Some, None, slice_get, refl, sym, ap, ◌∙◌, subst, arith, inl, inr}
use Rattle.std.specs.Prelude.{option_map}
use Rattle.std.proofs.lemmas.Bool.{eq-eqb, false≢true}
use Rattle.std.proofs.lemmas.List.{append-nil, length-map, map-append}
use Rattle.std.proofs.lemmas.Option.{slice_get_within}
use Rattle.cdl_source.specs.Identifiers.{is_identifier}
use Rattle.cdl_source.proofs.Cases.{by_bool}
use Rattle.cdl_values.specs.declared.value.Array.{Array}
use Rattle.cdl_kinds.specs.declared.kind.Kind.{Kind}
use Rattle.cdl_connect.specs.declared.net.Net.{Net}
use Rattle.cdl_connect.specs.declared.net.NetElement.{NetElement}
use Rattle.cdl_connect.specs.Nets.{element}
use Rattle.cdl_connect.specs.Paths.{Step as NetStep, IsStepText, AreArrays, extended, is_root_path}
use Rattle.cdl_connect.specs.WellFormed.{ArePaths, HasSteps, is_part_of, path_of}
use Rattle.cdl_connect.specs.WellFormed.{path_in as text_in}
use Rattle.cdl_network.specs.Lists.{In, Apart, numbers}
use Rattle.cdl_network.specs.Rules.{is_some_same}
use Rattle.cdl_network.proofs.Inside.{in_slice, kept_in, kept_true}
use Rattle.cdl_network.proofs.Numbers.{number_same}
use Rattle.cdl_network.proofs.Places.{filter_no}
use Rattle.cdl_network.proofs.Renaming.{in_map, slice_map}
use Rattle.cdl_scopes.specs.Lookup.{item_name}
use Rattle.cdl_classes.specs.declared.found.ClassId.{ClassId}
use Rattle.cdl_tree.specs.declared.class.Item.{Item}
use Rattle.cdl_paths.specs.declared.path.Step.{Step}
use Rattle.cdl_params.specs.Kept.{Model}
use Rattle.cdl_stations.specs.Keys.{Key, Lists, In as InKeys}
use Rattle.cdl_stations.proofs.Grown.{lists_like}
use Rattle.cdl_items.specs.declared.role.Part.{Part}
use Rattle.cdl_items.specs.declared.role.Part.TheVariants as part
use Rattle.cdl_walk.specs.declared.walked.Content.{Content}
use Rattle.cdl_walk.specs.declared.walked.Content.TheVariants as content
use Rattle.cdl_walk.specs.declared.walked.Point.{Point}
use Rattle.cdl_walk.specs.Elements.{indices_at}
use Rattle.cdl_walk.specs.Events.{outer, same_steps}
use Rattle.cdl_walk.specs.Instances.{Thing, Block, Elementary, Elements, Seen, Owned, owned_by, IsOfKind, IsPart, IsThing, instances_from, instances_in, elements_from, elements_in}
use Rattle.cdl_walk.specs.Judges.{NoneFails}
use Rattle.cdl_walk.specs.Stations.{InModel, the_root}
use Rattle.cdl_walk.specs.Texts.{indices_text, more_steps, path_text, step_text}
use Rattle.cdl_model.specs.Apart.{AreApart, NamesApart}
use Rattle.cdl_model.specs.NetOf.{NetOf, instance_number, net_element, net_instance}
use Rattle.cdl_model.specs.Networks.{name_of, paths, parent_path, content_at, is_elementary}
use Rattle.cdl_model.specs.Parts.{Unfolding, AreParts, by_instance, own}
use Rattle.cdl_model.proofs.Keyed.{Marks, at_item, below, of_kind, item_at}
use Rattle.cdl_model.proofs.Places.{content_there}
use Rattle.cdl_model.proofs.Tests.{steps_tell, steps_yes}
use Rattle.cdl_model.proofs.Unique.{same_key}
use Rattle.cdl_expand.proofs.Adjacent.{elements_key, in_block, of_block, up_key}
use Rattle.cdl_expand.proofs.Arrays.{AreWhole, block_whole, point_step, text_of}
use Rattle.cdl_expand.proofs.Composite.{root_is}
use Rattle.cdl_expand.proofs.Fine.{FineAt, all_good, block_at}
use Rattle.cdl_expand.proofs.Groups.{kind_whole}
use Rattle.cdl_expand.proofs.Indexed.{element_at, path_in}
use Rattle.cdl_expand.proofs.Outlines.{child_parent, is_child, last_in, last_push, outline, own_from, parent_push, part_from, step_in, thing_path}
use Rattle.cdl_expand.proofs.Preorder.{parent_number, place_is}
use Rattle.cdl_expand.proofs.Rooted.{block_seen, parent_block, thing_at, thing_of}
use Rattle.cdl_expand.proofs.Selected.{below_all, brought_by, lists_below, sub}
use Rattle.cdl_expand.proofs.Things.{Things, brings_elements, filter_all, filter_both, its_ports, kind_listed, kind_seen, own_ports}
use Rattle.cdl_expand.proofs.Walking.{to_keys}

abbrev point_in : Owned → Point
point_in x = x.point

abbrev last_of : Seen → NetStep
last_of s = last_in s.path

-- ---- the elements of an instance, by instance or not

module _ (os : List Owned) (q : List Step) where
  abbrev at_path : Owned → Bool
  at_path x = same_steps x.path q

  own_again : (p : List Step) → same_steps p q ≡ true → own (own os p) q ≡ own os q
  own_again p t =
      let e : p ≡ q = steps_yes p q t in
      ap (λ z. own (own os z) q) e ∙ filter_all at_path (own os q) (λ x i. kept_true at_path x os i)

  own_other : (p : List Step) → same_steps p q ≡ false → own (own os p) q ≡ []
  own_other p t = filter_no at_path (own os p) (λ x i.
      let e : x.path ≡ p = steps_yes x.path p (kept_true (λ (y : Owned). same_steps y.path p) x os i) in
      ap (λ z. same_steps z q) e ∙ t)

  own_empty : (ss : List Seen) → (In q (paths ss) → ⊥) → own (by_instance ss os) q ≡ []
  own_empty [] f = refl
  own_empty (s ∷ ss) f =
      filter_both at_path (own os s.path) (by_instance ss os)
      ∙ ap (λ (l : List Owned). l ++ own (by_instance ss os) q) (own_other s.path (by_bool (same_steps s.path q) (λ t. absurd (f (inl (sym (steps_yes s.path q t))))) (λ t. t)))
      ∙ own_empty ss (λ i. f (inr i))

  pub own_grouped : (ss : List Seen) → Apart (paths ss) → In q (paths ss) → own (by_instance ss os) q ≡ own os q
  own_grouped [] a i = absurd i
  own_grouped (s ∷ ss) a (inl e) =
      filter_both at_path (own os s.path) (by_instance ss os)
      ∙ ap (λ (l : List Owned). l ++ own (by_instance ss os) q) (own_again s.path (ap (λ z. same_steps z q) (sym e) ∙ steps_tell.self q))
      ∙ ap (λ (l : List Owned). own os q ++ l) (own_empty ss (λ i. a.0 (subst (λ z. In z (paths ss)) e i)))
      ∙ append-nil (own os q)
  own_grouped (s ∷ ss) a (inr i) =
      filter_both at_path (own os s.path) (by_instance ss os)
      ∙ ap (λ (l : List Owned). l ++ own (by_instance ss os) q) (own_other s.path (by_bool (same_steps s.path q) (λ t. absurd (a.0 (subst (λ z. In z (paths ss)) (sym (steps_yes s.path q t)) i))) (λ t. t)))
      ∙ own_grouped ss a.1 i

-- ---- what things bring

points_back : (p : List Step) (ps : List Point) → map point_in (map (owned_by p) ps) ≡ ps
points_back p [] = refl
points_back p (x ∷ ps) = ap (λ (l : List Point). x ∷ l) (points_back p ps)

owned_at : (p q : List Step) (ps : List Point) → map point_in (own (map (owned_by p) ps) q) ≡ cond (same_steps p q) ps []
owned_at p q [] = by_bool (same_steps p q) (λ t. sym (ap (λ b. cond {A = List Point} b [] []) t)) (λ t. sym (ap (λ b. cond {A = List Point} b [] []) t))
owned_at p q (x ∷ ps) = by_bool (same_steps p q)
    (λ t. ap (λ b. map point_in (cond b (owned_by p x ∷ own (map (owned_by p) ps) q) (own (map (owned_by p) ps) q))) t ∙ ap (λ (l : List Point). x ∷ l) (owned_at p q ps ∙ ap (λ b. cond b ps []) t) ∙ sym (ap (λ b. cond b (x ∷ ps) []) t))
    (λ t. ap (λ b. map point_in (cond b (owned_by p x ∷ own (map (owned_by p) ps) q) (own (map (owned_by p) ps) q))) t ∙ owned_at p q ps ∙ ap (λ b. cond b ps []) t ∙ sym (ap (λ b. cond b (x ∷ ps) []) t))

thing_points : (q : List Step) (t : Thing) → map point_in (own (elements_from t) q) ≡ own_from q t
thing_points q (Block p c) = refl
thing_points q (Elementary p k v ps) = owned_at p q ps
thing_points q (Elements p ps) = owned_at p q ps

points_brought : (q : List Step) (xs : Things) → map point_in (own (elements_in xs) q) ≡ brought_by (own_from q) xs
points_brought q [] = refl
points_brought q (x ∷ xs) =
    ap (map point_in) (filter_both (λ (y : Owned). same_steps y.path q) (elements_from x.1) (elements_in xs))
    ∙ map-append point_in (own (elements_from x.1) q) (own (elements_in xs) q)
    ∙ ap (λ (l : List Point). l ++ map point_in (own (elements_in xs) q)) (thing_points q x.1)
    ∙ ap (λ (l : List Point). own_from q x.1 ++ l) (points_brought q xs)

abbrev children : List Step → List Seen → List Seen
children q ss = filter (λ (s : Seen). is_child q s.path) ss

one_child : (q : List Step) (s : Seen) → map last_of (children q (s ∷ [])) ≡ cond (is_child q s.path) (last_in s.path ∷ []) []
one_child q s = by_bool (is_child q s.path)
    (λ t. ap (λ b. map last_of (cond b (s ∷ []) [])) t ∙ sym (ap (λ b. cond b (last_in s.path ∷ []) []) t))
    (λ t. ap (λ b. map last_of (cond b (s ∷ []) [])) t ∙ sym (ap (λ b. cond b (last_in s.path ∷ []) []) t))

thing_parts : (q : List Step) (t : Thing) → map last_of (children q (instances_from t)) ≡ part_from q t
thing_parts q (Block p c) = one_child q (block_seen p c)
thing_parts q (Elementary p k v ps) = one_child q (kind_seen p k v)
thing_parts q (Elements p ps) = refl

parts_brought : (q : List Step) (xs : Things) → map last_of (children q (instances_in xs)) ≡ brought_by (part_from q) xs
parts_brought q [] = refl
parts_brought q (x ∷ xs) =
    ap (map last_of) (filter_both (λ (s : Seen). is_child q s.path) (instances_from x.1) (instances_in xs))
    ∙ map-append last_of (children q (instances_from x.1)) (children q (instances_in xs))
    ∙ ap (λ (l : List NetStep). l ++ map last_of (children q (instances_in xs))) (thing_parts q x.1)
    ∙ ap (λ (l : List NetStep). part_from q x.1 ++ l) (parts_brought q xs)

-- ---- what isn't below the key of a block brings it nothing

module _ (w : Model) (names : NamesApart w) (key : Key) (q : List Step) (c : ClassId) (here : IsThing w [] (the_root w) key (Block q c)) where
  abbrev NotBelow : Key → Type 0
  NotBelow k = (l : Key) → k ≡ key ++ l → ⊥

  own_off : (k : Key) (t : Thing) → IsThing w [] (the_root w) k t → NotBelow k → own_from q t ≡ []
  own_off k (Block p d) s f = refl
  own_off k (Elementary p y v ps) s f = by_bool (same_steps p q)
      (λ t. absurd (f [] (same_key w names k key [] q (the_root w) (Elementary p y v ps) (Block q c) None (sym (steps_yes p q t)) refl s here ∙ sym (append-nil key))))
      (λ t. ap (λ b. cond b ps []) t)
  own_off k (Elements p ps) s f = by_bool (same_steps p q)
      (λ t.
      let z = elements_key w k [] (the_root w) p ps s in
      let same : z.0 ≡ key = same_key w names z.0 key [] q (the_root w) (Block p z.1) (Block q c) None (sym (steps_yes p q t)) refl z.4 here in
      absurd (f (z.2 ∷ []) (z.3 ∙ ap (λ (l : Key). l ++ z.2 ∷ []) same)))
      (λ t. ap (λ b. cond b ps []) t)

  no_parent : (p r : List Step) → p ≡ [] → parent_path p ≡ Some r → ⊥
  no_parent [] r e g = cc
  no_parent (x ∷ p) r e g = cc

  outer_is : (p r : List Step) → parent_path p ≡ Some r → outer p ≡ r
  outer_is [] r g = cc
  outer_is (x ∷ p) r g = cc

  step_off : (k : Key) (t : Thing) (p : List Step) → Marks t p None → IsThing w [] (the_root w) k t → NotBelow k → cond (is_child q p) (last_in p ∷ []) [] ≡ []
  step_off k t p m s f = by_bool (is_child q p)
      (λ b. absurd (by_up (child_parent q p b) (up_key w k [] p (the_root w) t m s)))
      (λ b. ap (λ z. cond z (last_in p ∷ []) []) b)
    where
      by_up : parent_path p ≡ Some q → (p ≡ []) ⊎ ((l : Key) × (d : ClassId) × (n : ℕ) × (r : Key) × (k ≡ l ++ n ∷ r) × IsThing w [] (the_root w) l (Block (outer p) d)) → ⊥
      by_up g (inl e) = no_parent p q e g
      by_up g (inr z) =
          let same : z.0 ≡ key = same_key w names z.0 key [] q (the_root w) (Block (outer p) z.1) (Block q c) None (sym (outer_is p q g)) refl z.5 here in
          f (z.2 ∷ z.3) (z.4 ∙ ap (λ (l : Key). l ++ z.2 ∷ z.3) same)

  part_off : (k : Key) (t : Thing) → IsThing w [] (the_root w) k t → NotBelow k → part_from q t ≡ []
  part_off k (Block p d) s f = step_off k (Block p d) p refl s f
  part_off k (Elementary p y v ps) s f = step_off k (Elementary p y v ps) p refl s f
  part_off k (Elements p ps) s f = refl

  below_lists : (xs : Things) → Lists (IsThing w [] (the_root w)) xs → Lists (IsThing w q c) (sub key xs)
  below_lists xs l = lists_like (λ k t. IsThing w [] (the_root w) (key ++ k) t) (IsThing w q c) (sub key xs)
      (λ k t s. in_block w key k [] q (the_root w) c t here s) (λ k t s. of_block w key k [] q (the_root w) c t here s) (lists_below (IsThing w [] (the_root w)) key xs l)

  -- an instance of a declared block
  pub block_of_whole : ((i : ℕ) (x : Item) → item_at w c i ≡ Some x → is_identifier (item_name x) ≡ true) → FineAt w q c → (xs : Things) → Lists (IsThing w [] (the_root w)) xs
      → AreWhole (map point_in (own (elements_in xs) q)) (map last_of (children q (instances_in xs)))
  block_of_whole formed g xs l =
      let ys : Lists (IsThing w g.here.steps c) (sub key xs) = subst (λ (z : List Step). Lists (IsThing w z c) (sub key xs)) (sym g.steps) (below_lists xs l) in
      let o : AreWhole (brought_by (own_from g.here.steps) (sub key xs)) (brought_by (part_from g.here.steps) (sub key xs)) =
      block_whole w names c formed g.here.steps (brought_by (own_from g.here.steps) (sub key xs)) (brought_by (part_from g.here.steps) (sub key xs)) (outline w g.here c g.fine (sub key xs) ys) in
      let o2 : AreWhole (brought_by (own_from q) (sub key xs)) (brought_by (part_from q) (sub key xs)) =
      subst (λ (z : List Step). AreWhole (brought_by (own_from z) (sub key xs)) (brought_by (part_from z) (sub key xs))) g.steps o in
      let own_is : brought_by (own_from q) (sub key xs) ≡ map point_in (own (elements_in xs) q) = sym (points_brought q xs ∙ below_all (own_from q) key xs (λ j e m f. own_off j e (l.only j e m) f)) in
      let part_is : brought_by (part_from q) (sub key xs) ≡ map last_of (children q (instances_in xs)) = sym (parts_brought q xs ∙ below_all (part_from q) key xs (λ j e m f. part_off j e (l.only j e m) f)) in
      subst (λ (z : List NetStep). AreWhole (map point_in (own (elements_in xs) q)) z) part_is (subst (λ (z : List Point). AreWhole z (brought_by (part_from q) (sub key xs))) own_is o2)

-- ---- texts of paths

-- the names of all steps are identifiers
abbrev pub AreNamed : List Step → Type 0
AreNamed p = (s : Step) → In s p → is_identifier s.name ≡ true

named_push : (p : List Step) (s : Step) → AreNamed p → is_identifier s.name ≡ true → AreNamed (p ++ s ∷ [])
named_push [] s f h t (inl e) = ap (λ (z : Step). is_identifier z.name) e ∙ h
named_push [] s f h t (inr i) = absurd i
named_push (x ∷ p) s f h t (inl e) = f t (inl e)
named_push (x ∷ p) s f h t (inr i) = named_push p s (λ y j. f y (inr j)) h t i

module _ (w : Model) (formed : (c : ClassId) (i : ℕ) (x : Item) → item_at w c i ≡ Some x → is_identifier (item_name x) ≡ true) where
  part_named : (k : Key) (t : Thing) (x : Part) (p : List Step) → AreNamed p → ((d : ClassId) → IsThing w p d k t → AreNamed (thing_path t)) → IsPart x p (λ z d. IsThing w z d k t) (λ z y. IsOfKind w z y k t) → AreNamed (thing_path t)
  part_named k t (part.Block d) p f rec s = rec d s
  part_named k t (part.Kind y) p f rec s = let o = of_kind w p y k t s in subst (λ (z : List Step). AreNamed z) (sym (ap thing_path o.thing)) f

  pub path_named : (k : Key) (p : List Step) (c : ClassId) (t : Thing) → AreNamed p → IsThing w p c k t → AreNamed (thing_path t)
  path_named [] p c t f s = subst (λ (z : List Step). AreNamed z) (sym (ap thing_path s)) f
  path_named (i ∷ []) p c t f s = let z = brings_elements w p c i t (at_item w p c i t s) in subst (λ (y : List Step). AreNamed y) (sym (ap thing_path z.2)) f
  path_named (i ∷ x ∷ k) p c t f s =
      let b = below w p c i x k t s in
      let one : Step = record { name = item_name b.item; indices = indices_at b.sizes x } in
      let g : AreNamed (p ++ one ∷ []) = named_push p one f (formed c i b.item b.at) in
      part_named k t b.part (p ++ one ∷ []) g (λ d y. path_named k (p ++ one ∷ []) d t g y) b.there

more_push : (p : List Step) (s : Step) → more_steps (p ++ s ∷ []) ≡ more_steps p ++ (codes "." ++ step_text s)
more_push [] s = ap (λ (l : List ℕ). codes "." ++ l) (append-nil (step_text s))
more_push (x ∷ p) s = ap (λ (l : List ℕ). codes "." ++ (step_text x ++ l)) (more_push p s) ∙ ap (λ (l : List ℕ). codes "." ++ l) (sym (append_assoc (step_text x) (more_steps p) (codes "." ++ step_text s)))

word_there : (x : List ℕ) → is_identifier x ≡ true → (c : ℕ) × (rest : List ℕ) × (x ≡ c ∷ rest)
word_there [] h = absurd (false≢true h)
word_there (c ∷ rest) h = (c, rest, refl)

not_root : (x rest : List ℕ) → ((c : ℕ) × (more : List ℕ) × (x ≡ c ∷ more)) → is_root_path (35 ∷ (x ++ rest)) ≡ false
not_root x rest z = ap (λ (l : List ℕ). is_root_path (35 ∷ (l ++ rest))) z.2

pub path_extended : (p : List Step) (s : Step) → AreNamed p → path_text (p ++ s ∷ []) ≡ extended (path_text p) (step_text s)
path_extended [] s f = ap (λ (l : List ℕ). codes "#" ++ l) (append-nil (step_text s))
path_extended (x ∷ p) s f =
    let root : is_root_path (path_text (x ∷ p)) ≡ false = ap is_root_path (two_parts x p) ∙ not_root x.name (indices_text x.indices ++ more_steps p) (word_there x.name (f x (inl refl))) in
    ap (λ (l : List ℕ). codes "#" ++ (step_text x ++ l)) (more_push p s)
    ∙ ap (λ (l : List ℕ). codes "#" ++ l) (sym (append_assoc (step_text x) (more_steps p) (codes "." ++ step_text s)))
    ∙ joined_text (step_text x ++ more_steps p) (step_text s)
    ∙ sym (ap (λ b. cond b (path_text (x ∷ p) ++ step_text s) (path_text (x ∷ p) ++ codes "." ++ step_text s)) root)
  where
    two_parts : (y : Step) (r : List Step) → path_text (y ∷ r) ≡ 35 ∷ (y.name ++ (indices_text y.indices ++ more_steps r))
    two_parts y r = ap (λ (l : List ℕ). 35 ∷ l) (append_assoc y.name (indices_text y.indices) (more_steps r))

    joined_text : (a b : List ℕ) → codes "#" ++ (a ++ (codes "." ++ b)) ≡ (codes "#" ++ a) ++ codes "." ++ b
    joined_text a b = simp append_assoc

-- ---- by numbers

module _ {A C : Type 0} (f : A → Bool) (g : ℕ → Bool) (h : ℕ → C) (k : A → C) where
  pub by_numbers : (xs : List A) (b : ℕ) → ((i : ℕ) (x : A) → slice_get xs i ≡ Some x → (g (b + i) ≡ f x) × (h (b + i) ≡ k x)) → map h (filter g (numbers b (length xs))) ≡ map k (filter f xs)
  by_numbers [] b e = refl
  by_numbers (x ∷ xs) b e =
      let zero_is : b + 0 ≡ b = omega arith in
      let z = e 0 x refl in
      let test : g b ≡ f x = ap g (sym zero_is) ∙ z.0 in
      let value : h b ≡ k x = ap h (sym zero_is) ∙ z.1 in
      let rest : map h (filter g (numbers (suc b) (length xs))) ≡ map k (filter f xs) = by_numbers xs (suc b) (λ i y q. let r = e (suc i) y q in let same : b + suc i ≡ suc b + i = omega arith in (ap g (sym same) ∙ r.0, ap h (sym same) ∙ r.1)) in
      by_bool (f x)
      (λ t. ap (λ c. map h (cond c (b ∷ filter g (numbers (suc b) (length xs))) (filter g (numbers (suc b) (length xs))))) (test ∙ t)
      ∙ ap (λ (c : C). c ∷ map h (filter g (numbers (suc b) (length xs)))) value ∙ ap (λ (l : List C). k x ∷ l) rest
      ∙ sym (ap (λ c. map k (cond c (x ∷ filter f xs) (filter f xs))) t))
      (λ t. ap (λ c. map h (cond c (b ∷ filter g (numbers (suc b) (length xs))) (filter g (numbers (suc b) (length xs))))) (test ∙ t) ∙ rest
      ∙ sym (ap (λ c. map k (cond c (x ∷ filter f xs) (filter f xs))) t))

-- ---- the net

abbrev step_at : Option Owned → NetStep
step_at None = record { name = []; indices = [] }
step_at (Some y) = point_step y.point

abbrev last_at : Option Seen → NetStep
last_at None = record { name = []; indices = [] }
last_at (Some s) = last_in s.path

pushed_path : (p q : List Step) → parent_path p ≡ Some q → (s : Step) × (p ≡ q ++ s ∷ [])
pushed_path [] q e = absurd (cc)
pushed_path (x ∷ p) q e = let d = split x p in (d.1, d.2 ∙ ap (λ (z : List Step). z ++ d.1 ∷ []) (some_path d.0 q (sym (parent_push d.0 d.1) ∙ ap parent_path (sym d.2) ∙ e)))
  where
    some_path : (a b : List Step) → Some a ≡ Some b → a ≡ b
    some_path a b g = cc

    split : (y : Step) (ys : List Step) → (front : List Step) × (last : Step) × (y ∷ ys ≡ front ++ last ∷ [])
    split y [] = ([], y, refl)
    split y (z ∷ zs) = let r = split z zs in (y ∷ r.0, r.1, ap (λ (l : List Step). y ∷ l) r.2)

module _ (w : Model) (names : NamesApart w) (formed : (c : ClassId) (i : ℕ) (x : Item) → item_at w c i ≡ Some x → is_identifier (item_name x) ≡ true) (fine : NoneFails (InModel w))
    (u : Unfolding) (n : Net) (p : AreParts w u) (a : AreApart u) (r : NetOf u n) where
  abbrev step_of : ℕ → NetStep
  step_of x = step_at (slice_get u.elements x)

  abbrev part_step : ℕ → NetStep
  part_step j = last_at (slice_get u.instances j)

  -- the elements and the parts of an instance
  abbrev points_of : Seen → List Point
  points_of s = map point_in (own u.elements s.path)

  abbrev parts_of : Seen → List NetStep
  parts_of s = map last_of (children s.path u.instances)

  own_is : (s : Seen) → In s.path (paths u.instances) → own u.elements s.path ≡ own (elements_in p.things) s.path
  own_is s i = ap (λ (l : List Owned). own l s.path) p.elements
      ∙ own_grouped (elements_in p.things) s.path (instances_in p.things) (subst (λ (l : List Seen). Apart (paths l)) p.instances a.instances) (subst (λ (l : List Seen). In s.path (paths l)) p.instances i)

  no_parts : (s : Seen) (k : Kind) (v : List Array) → In s u.instances → s.content ≡ content.Elementary k v → children s.path u.instances ≡ []
  no_parts s k v i e = filter_no (λ (z : Seen). is_child s.path z.path) u.instances (λ z m. by_bool (is_child s.path z.path)
      (λ t.
      let plain : is_elementary (content_at u.instances s.path) ≡ false = parent_block w u p a z s.path m (child_parent s.path z.path t) in
      let here : is_elementary (content_at u.instances s.path) ≡ true = ap is_elementary (content_there u.instances s a.instances i) ∙ ap (λ y. is_elementary (Some y)) e in
      absurd (false≢true (sym plain ∙ here)))
      (λ t. t))

  by_content : (s : Seen) (y : Content) → In s u.instances → s.content ≡ y → AreWhole (points_of s) (parts_of s)
  by_content s (content.Block c) i e =
      let listed : InKeys (block_seen s.path c) (instances_in p.things) = subst (λ (z : Seen). InKeys z (instances_in p.things)) (ap (λ (y : Content). seen_of s.path y) e) (subst (λ (l : List Seen). InKeys s l) p.instances (to_keys s u.instances i)) in
      let t = thing_of p.things (block_seen s.path c) listed in
      let there : IsThing w [] (the_root w) t.key (Block s.path c) = subst (λ (z : Thing). IsThing w [] (the_root w) t.key z) (block_from s.path c t.thing t.seen) (p.lists.only t.key t.thing t.there) in
      let whole : AreWhole (map point_in (own (elements_in p.things) s.path)) (map last_of (children s.path (instances_in p.things))) =
      block_of_whole w names t.key s.path c there (formed c) (block_at w fine t.key s.path c there) p.things p.lists in
      subst (λ (l : List Owned). AreWhole (map point_in l) (parts_of s)) (sym (own_is s (in_map (λ (z : Seen). z.path) s u.instances i)))
      (subst (λ (l : List Seen). AreWhole (map point_in (own (elements_in p.things) s.path)) (map last_of (children s.path l))) (sym p.instances) whole)
    where
      seen_of : List Step → Content → Seen
      seen_of q y = record { path = q; content = y }

      no_kind : (c d : ClassId) (q : List Step) (k : Kind) (v : List Array) → block_seen s.path c ≡ kind_seen q k v → ⊥
      no_kind c d q k v g = let h : content.Block c ≡ content.Elementary k v = ap (λ (z : Seen). z.content) g in cc

      same_class : (c d : ClassId) → content.Block c ≡ content.Block d → c ≡ d
      same_class c d g = cc

      block_from : (q : List Step) (d : ClassId) (t : Thing) → InKeys (block_seen q d) (instances_from t) → t ≡ Block q d
      block_from q d (Block x y) (inl g) = ap (λ (z : List Step). Block z y) (sym (ap (λ (z : Seen). z.path) g)) ∙ ap (Block q) (sym (same_class d y (ap (λ (z : Seen). z.content) g)))
      block_from q d (Block x y) (inr m) = absurd m
      block_from q d (Elementary x k v ps) (inl g) = absurd (let h : content.Block d ≡ content.Elementary k v = ap (λ (z : Seen). z.content) g in no_content d k v h)
        where
          no_content : (b : ClassId) (k : Kind) (v : List Array) → content.Block b ≡ content.Elementary k v → ⊥
          no_content b k v h = cc
      block_from q d (Elementary x k v ps) (inr m) = absurd m
      block_from q d (Elements x ps) m = absurd m
  by_content s (content.Elementary k v) i e =
      let listed : InKeys (kind_seen s.path k v) (instances_in p.things) = subst (λ (z : Seen). InKeys z (instances_in p.things)) (ap (λ (y : Content). seen_of s.path y) e) (subst (λ (l : List Seen). InKeys s l) p.instances (to_keys s u.instances i)) in
      let t = kind_listed p.things s.path k v listed in
      let there : IsThing w [] (the_root w) t.0 (Elementary s.path k v t.1) = p.lists.only t.0 (Elementary s.path k v t.1) t.2 in
      let whole : AreWhole t.1 [] = kind_whole w s.path k v (all_good w fine t.0 (Elementary s.path k v t.1) there).1 t.1 (its_ports w t.0 [] (the_root w) s.path k v t.1 there) in
      let own_points : t.1 ≡ points_of s = sym (ap (map point_in) (own_is s (in_map (λ (z : Seen). z.path) s u.instances i) ∙ own_ports w names p.things p.lists t.0 s.path k v t.1 t.2) ∙ points_back s.path t.1) in
      subst (λ (l : List Seen). AreWhole (points_of s) (map last_of l)) (sym (no_parts s k v i e)) (subst (λ (l : List Point). AreWhole l []) own_points whole)
    where
      seen_of : List Step → Content → Seen
      seen_of q y = record { path = q; content = y }

  pub whole_at : (s : Seen) → In s u.instances → AreWhole (points_of s) (parts_of s)
  whole_at s i = by_content s s.content i refl

  module _ (i : ℕ) (s : Seen) (e : slice_get u.instances i ≡ Some s) where
    in_instances : In s u.instances
    in_instances = in_slice u.instances i s e

    all_whole : AreWhole (points_of s) (parts_of s)
    all_whole = whole_at s in_instances

    number_is : instance_number u.instances s.path ≡ i
    number_is = place_is u n a r i s e

    owner_in : (y : Owned) → In y u.elements → In y.path (paths u.instances)
    owner_in y m = a.owners (name_of y) (in_map name_of y u.elements m)

    -- the element is one of the instance where its number says so
    element_test : (x : ℕ) (y : Owned) → slice_get u.elements x ≡ Some y → ((element n x).instance == i) ≡ same_steps y.path s.path
    element_test x y f =
        let l : x < length n.elements = (let h : length n.elements ≡ length u.elements = ap length r.elements ∙ length-map u.elements (net_element u) in let k = slice_get_within u.elements x y f in omega (arith, h, k)) in
        let z = element_at u n a r x l in
        let same : z.0 ≡ y = some_owned z.0 y (sym z.1 ∙ f) in
        ap (λ (b : NetElement). b.instance == i) z.2 ∙ ap (λ (b : Owned). instance_number u.instances b.path == i) same
        ∙ ap (λ k. instance_number u.instances y.path == k) (sym number_is)
        ∙ number_same same_steps (paths u.instances) y.path s.path steps_tell (owner_in y (in_slice u.elements x y f)) (in_map (λ (b : Seen). b.path) s u.instances in_instances)
      where
        some_owned : (b d : Owned) → Some b ≡ Some d → b ≡ d
        some_owned b d g = cc

    element_of : (x : ℕ) → x < length n.elements → (element n x).instance ≡ i → (y : Owned) × (slice_get u.elements x ≡ Some y) × (element n x ≡ net_element u y) × In y.point (points_of s)
    element_of x l o =
        let z = element_at u n a r x l in
        let test : same_steps z.0.path s.path ≡ true = sym (element_test x z.0 z.1) ∙ eq-eqb (element n x).instance i o in
        (z.0, z.1, z.2, in_map point_in z.0 (own u.elements s.path) (kept_in (λ (b : Owned). same_steps b.path s.path) z.0 u.elements (in_slice u.elements x z.0 z.1) test))

    part_test : (j : ℕ) (t : Seen) → slice_get u.instances j ≡ Some t → is_part_of n i j ≡ is_child s.path t.path
    part_test j t f = ap (λ o. is_some_same (λ x y. x == y) i o) (parent_number u n a r j t f) ∙ by_parent (parent_path t.path) refl
      where
        by_parent : (o : Option (List Step)) → parent_path t.path ≡ o → is_some_same (λ x y. x == y) i (option_map (instance_number u.instances) o) ≡ is_some_same same_steps s.path o
        by_parent None g = refl
        by_parent (Some q) g =
            ap (λ k. instance_number u.instances q == k) (sym number_is)
            ∙ number_same same_steps (paths u.instances) q s.path steps_tell (a.parents t.path q (path_in u n a r t j f) g) (in_map (λ (b : Seen). b.path) s u.instances in_instances)

    own_steps : map step_of (filter (λ x. (element n x).instance == i) (numbers 0 (length n.elements))) ≡ map point_step (points_of s)
    own_steps =
        (let h : length n.elements ≡ length u.elements = ap length r.elements ∙ length-map u.elements (net_element u) in ap (λ k. map step_of (filter (λ x. (element n x).instance == i) (numbers 0 k))) h)
        ∙ by_numbers (λ (y : Owned). same_steps y.path s.path) (λ x. (element n x).instance == i) step_of (λ (y : Owned). point_step y.point) u.elements 0
        (λ x y f. let z : 0 + x ≡ x = omega arith in (ap (λ k. (element n k).instance == i) z ∙ element_test x y f, ap step_of z ∙ ap step_at f))
        ∙ twice (own u.elements s.path)
      where
        twice : (ys : List Owned) → map (λ (y : Owned). point_step y.point) ys ≡ map point_step (map point_in ys)
        twice [] = refl
        twice (y ∷ ys) = ap (λ (l : List NetStep). point_step y.point ∷ l) (twice ys)

    part_steps : map part_step (filter (is_part_of n i) (numbers 0 (length n.instances))) ≡ parts_of s
    part_steps =
        (let h : length n.instances ≡ length u.instances = ap length r.instances ∙ length-map u.instances (net_instance u) in ap (λ k. map part_step (filter (is_part_of n i) (numbers 0 k))) h)
        ∙ by_numbers (λ (t : Seen). is_child s.path t.path) (is_part_of n i) part_step last_of u.instances 0
        (λ j t f. let z : 0 + j ≡ j = omega arith in (ap (is_part_of n i) z ∙ part_test j t f, ap part_step z ∙ ap last_at f))

    text_at : (j : ℕ) (t : Seen) → slice_get u.instances j ≡ Some t → path_of n j ≡ path_text t.path
    text_at j t f = ap text_in (slice_map (net_instance u) u.instances n.instances j t r.instances f)

    named_at : AreNamed s.path
    named_at =
        let t = thing_at w u p a s in_instances in
        subst (λ (q : List Step). AreNamed q) (sym (seen_path t.thing s t.seen)) (path_named w formed t.key [] (the_root w) t.thing (λ x m. absurd m) (p.lists.only t.key t.thing t.there))
      where
        seen_path : (t : Thing) (z : Seen) → InKeys z (instances_from t) → z.path ≡ thing_path t
        seen_path (Block q c) z (inl g) = ap (λ (b : Seen). b.path) g
        seen_path (Block q c) z (inr m) = absurd m
        seen_path (Elementary q k v ps) z (inl g) = ap (λ (b : Seen). b.path) g
        seen_path (Elementary q k v ps) z (inr m) = absurd m
        seen_path (Elements q ps) z m = absurd m

    part_text : (j : ℕ) → j < length n.instances → is_part_of n i j ≡ true → (text : List ℕ) × IsStepText (part_step j) text × (path_of n j ≡ extended (path_of n i) text)
    part_text j l b =
        let t = get_seen u.instances j (let h : length n.instances ≡ length u.instances = ap length r.instances ∙ length-map u.instances (net_instance u) in omega (arith, h, l)) in
        let test : is_child s.path t.0.path ≡ true = sym (part_test j t.0 t.1) ∙ b in
        let d = pushed_path t.0.path s.path (child_parent s.path t.0.path test) in
        let here : In (last_of t.0) (parts_of s) = in_map last_of t.0 (children s.path u.instances) (kept_in (λ (z : Seen). is_child s.path z.path) t.0 u.instances (in_slice u.instances j t.0 t.1) test) in
        let same : last_in t.0.path ≡ step_in d.0 = ap last_in d.1 ∙ last_push s.path d.0 in
        let spelled : IsStepText (last_in t.0.path) (text_of (last_in t.0.path)) = all_whole.part_spelled (last_of t.0) here in
        let text : IsStepText (part_step j) (step_text d.0) =
        subst (λ (z : NetStep). IsStepText z (step_text d.0)) (sym (ap last_at t.1)) (subst (λ (z : List ℕ). IsStepText (last_in t.0.path) z) (ap text_of same) spelled) in
        (step_text d.0, text, text_at j t.0 t.1 ∙ ap path_text d.1 ∙ path_extended s.path d.0 named_at ∙ ap (λ (z : List ℕ). extended z (step_text d.0)) (sym (text_at i s e)))
      where
        get_seen : (ys : List Seen) (k : ℕ) → k < length ys → (y : Seen) × (slice_get ys k ≡ Some y)
        get_seen [] k m = absurd (omega (arith, m))
        get_seen (y ∷ ys) zero m = (y, refl)
        get_seen (y ∷ ys) (suc k) m = get_seen ys k (omega (arith, m))

    has_steps : HasSteps n i step_of part_step
    has_steps = record {
      step = λ x l o.
          let y = element_of x l o in
          let spelled : IsStepText (point_step y.0.point) (text_of (point_step y.0.point)) = all_whole.own_spelled y.0.point y.3 in
          subst (λ (z : NetStep). IsStepText z (element n x).name) (sym (ap step_at y.1)) (subst (λ (z : NetElement). IsStepText (point_step y.0.point) z.name) (sym y.2) spelled);
      part = part_text;
      arrays = (
        all_whole.own_arrays,
        all_whole.part_arrays,
        subst (λ (l : List NetStep). AreArrays (all_whole.own_arrays ++ all_whole.part_arrays) (l ++ map part_step (filter (is_part_of n i) (numbers 0 (length n.instances))))) (sym own_steps)
            (subst (λ (l : List NetStep). AreArrays (all_whole.own_arrays ++ all_whole.part_arrays) (map point_step (points_of s) ++ l)) (sym part_steps) all_whole.arrays),
      );
      alike = λ x y l m o q f.
          let b = element_of x l o in
          let d = element_of y m q in
          let name : b.0.point.name ≡ d.0.point.name = sym (ap (λ (z : Option Owned). (step_at z).name) b.1) ∙ f ∙ ap (λ (z : Option Owned). (step_at z).name) d.1 in
          let same = all_whole.alike b.0.point d.0.point b.3 d.3 name in
          (ap (λ (z : NetElement). z.value_type) b.2 ∙ same.0 ∙ sym (ap (λ (z : NetElement). z.value_type) d.2), ap (λ (z : NetElement). z.input) b.2 ∙ same.1 ∙ sym (ap (λ (z : NetElement). z.input) d.2));
    }

  pub are_paths : ArePaths n
  are_paths = record {
    root = ap text_in (root_is w u n p a r);
    each = λ i l.
        let s = get_seen u.instances i (let h : length n.instances ≡ length u.instances = ap length r.instances ∙ length-map u.instances (net_instance u) in omega (arith, h, l)) in
        (step_of, part_step, has_steps i s.0 s.1);
  }
    where
      get_seen : (ys : List Seen) (k : ℕ) → k < length ys → (y : Seen) × (slice_get ys k ≡ Some y)
      get_seen [] k m = absurd (omega (arith, m))
      get_seen (y ∷ ys) zero m = (y, refl)
      get_seen (y ∷ ys) (suc k) m = get_seen ys k (omega (arith, m))
