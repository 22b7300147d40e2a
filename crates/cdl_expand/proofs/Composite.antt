-- The root, each parent and the scope of each wire are composite; and how far instances are below the root.
use Rattle.std.proofs.Common.{◌≡◌, ℕ, zero, suc, ◌+◌, ◌-◌, length-take, ◌≤◌, ◌==◌, Bool, true, false, cond, List, [], ◌∷◌, length, Option, Some, None, slice_get, refl, sym, ap, ◌∙◌, subst, arith, inl, inr}
use Rattle.std.specs.Prelude.{◌||◌, option_map, unwrap_or}
use Rattle.std.proofs.lemmas.Bool.{eq-eqb}
use Rattle.cdl_source.proofs.Cases.{by_bool}
use Rattle.cdl_connect.specs.declared.net.Net.{Net}
use Rattle.cdl_connect.specs.declared.net.NetElement.{NetElement}
use Rattle.cdl_connect.specs.declared.net.RawWire.{RawWire}
use Rattle.cdl_connect.specs.Nets.{element, parent_of, is_elementary as is_elementary_in, network_of}
use Rattle.cdl_connect.specs.WellFormed.{AreComposite, AreNear, is_near, lineage, parent_at}
use Rattle.cdl_network.specs.Lists.{In, has_some}
use Rattle.cdl_network.specs.Network.{Wire}
use Rattle.cdl_network.specs.Rules.{is_some_same, is_own, is_inner}
use Rattle.cdl_network.proofs.Inside.{in_slice}
use Rattle.cdl_network.proofs.Numbers.{slice_number}
use Rattle.cdl_network.proofs.Renaming.{of_map, of_slice_map, slice_map}
use Rattle.cdl_paths.specs.declared.path.Step.{Step}
use Rattle.cdl_params.specs.Kept.{Model}
use Rattle.cdl_walk.specs.Events.{outer, same_steps}
use Rattle.cdl_walk.specs.Instances.{Seen}
use Rattle.cdl_walk.specs.Stations.{the_root}
use Rattle.cdl_model.specs.Apart.{AreApart, AreWires, IsNear}
use Rattle.cdl_model.specs.Names.{ElementName}
use Rattle.cdl_model.specs.NetOf.{NetOf, instance_number, element_number, net_instance}
use Rattle.cdl_model.specs.Networks.{paths, names, name_of, parent_path}
use Rattle.cdl_model.specs.Parts.{Unfolding, AreParts}
use Rattle.cdl_model.proofs.Netting.{at_element, at_instance}
use Rattle.cdl_model.proofs.Tests.{steps_tell}
use Rattle.cdl_expand.proofs.Indexed.{elementary_at, parent_is, path_in, scopes, wire_at}
use Rattle.cdl_expand.proofs.Rooted.{block_seen, parent_block, root_first}

module _ (w : Model) (u : Unfolding) (n : Net) (p : AreParts w u) (a : AreApart u) (r : NetOf u n) where
  -- the root is the first instance
  pub root_is : slice_get n.instances 0 ≡ Some (net_instance u (block_seen [] (the_root w)))
  root_is = slice_map (net_instance u) u.instances n.instances 0 (block_seen [] (the_root w)) r.instances (root_first w u p)

  pub composite : AreWires u → AreComposite n
  composite v = record {
    root = ap is_elementary_in root_is;
    parent = λ i q e.
        let z = parent_is u n a r i q e in
        let there = in_slice u.instances i z.0 z.2 in
        ap (λ k. is_elementary_in (slice_get n.instances k)) z.4
        ∙ elementary_at u n a r z.1 (a.parents z.0.path z.1 (path_in u n a r z.0 i z.2) z.3)
        ∙ parent_block w u p a z.0 z.1 there z.3;
    scope = scopes u n a r v;
  }

-- ---- what wires join is near

near_or : (b c : Bool) → c ≡ true → (b || c) ≡ true
near_or true c e = refl
near_or false c e = e

module _ (u : Unfolding) (n : Net) (a : AreApart u) (r : NetOf u n) where
  -- an element of the instance at this path, or of a part of it
  pub near_there : (q : List Step) (x : ElementName) → In x (names u.elements) → IsNear q x → is_near n (instance_number u.instances q) (element_number u.elements x) ≡ true
  near_there q x i h =
      let y = of_map name_of x u.elements i in
      let owner : (element n (element_number u.elements x)).instance ≡ instance_number u.instances x.path =
      ap (λ z. (element n (element_number u.elements z)).instance) y.2 ∙ ap (λ (z : NetElement). z.instance) (at_element u n a r y.0 y.1) ∙ ap (λ (z : ElementName). instance_number u.instances z.path) (sym y.2) in
      by_case owner h
    where
      by_case : (element n (element_number u.elements x)).instance ≡ instance_number u.instances x.path → IsNear q x → is_near n (instance_number u.instances q) (element_number u.elements x) ≡ true
      by_case o (inl e) = ap (λ b. b || is_inner (network_of n) (instance_number u.instances q) (element_number u.elements x))
          (eq-eqb (element n (element_number u.elements x)).instance (instance_number u.instances q) (o ∙ ap (instance_number u.instances) e))
      by_case o (inr e) =
          let s = of_map (λ (z : Seen). z.path) x.path u.instances (a.owners x i) in
          let parent : parent_of (slice_get n.instances (element n (element_number u.elements x)).instance) ≡ Some (instance_number u.instances q) =
          ap (λ k. parent_of (slice_get n.instances k)) (o ∙ ap (instance_number u.instances) s.2) ∙ ap parent_of (at_instance u n a r s.0 s.1)
          ∙ ap (option_map (instance_number u.instances)) (ap parent_path (sym s.2) ∙ e) in
          near_or (is_own (network_of n) (instance_number u.instances q) (element_number u.elements x)) (is_inner (network_of n) (instance_number u.instances q) (element_number u.elements x))
          (ap (λ z. is_some_same (λ j k. j == k) (instance_number u.instances q) z) parent ∙ eq-eqb (instance_number u.instances q) (instance_number u.instances q) refl)

  pub near : AreWires u → ((v : Wire (List Step) ElementName) → In v u.wires → IsNear v.scope v.left × IsNear v.scope v.right) → AreNear n
  near v h = record {
    left = λ k x e.
        let z = wire_at u n a r k x e in
        let i = in_slice u.wires k z.0 z.1 in
        ap (λ (y : RawWire). is_near n y.scope y.left) z.2 ∙ near_there z.0.scope z.0.left (v.left z.0 i) (h z.0 i).0;
    right = λ k x e.
        let z = wire_at u n a r k x e in
        let i = in_slice u.wires k z.0 z.1 in
        ap (λ (y : RawWire). is_near n y.scope y.right) z.2 ∙ near_there z.0.scope z.0.right (v.right z.0 i) (h z.0 i).1;
  }

-- ---- how deep an instance is

some_there : (o : Option ℕ) → has_some o ≡ true → o ≡ Some (unwrap_or o 0)
some_there None e = absurd (cc)
some_there (Some k) e = refl

pub parent_shorter : (p q : List Step) → parent_path p ≡ Some q → length p ≡ length q + 1
parent_shorter [] q e = absurd (cc)
parent_shorter (s ∷ rest) q e =
    let same : outer (s ∷ rest) ≡ q = cc in
    let size : length (outer (s ∷ rest)) ≡ length rest = omega (arith, length-take (length (s ∷ rest) - 1) (s ∷ rest)) in
    let h : length q ≡ length rest = ap length (sym same) ∙ size in
    omega (arith, h)

module _ (u : Unfolding) (n : Net) (a : AreApart u) (r : NetOf u n) where
  -- what stands at the number of a path
  pub at_path : (q : List Step) → In q (paths u.instances) → (s : Seen) × (slice_get u.instances (instance_number u.instances q) ≡ Some s) × (q ≡ s.path)
  at_path q i = of_slice_map (λ (z : Seen). z.path) u.instances (paths u.instances) (instance_number u.instances q) q refl (slice_number same_steps (paths u.instances) q steps_tell i)

  same_seen : (i : ℕ) (s t : Seen) → slice_get u.instances i ≡ Some s → slice_get u.instances i ≡ Some t → s ≡ t
  same_seen i s t e f = cc

  alone : (k i : ℕ) (p : List Step) → has_some (parent_at n i) ≡ false → length (lineage n (suc k) i) ≤ length p + 1
  alone k i p t = subst (λ b. suc (length (cond b (lineage n k (unwrap_or (parent_at n i) 0)) [])) ≤ length p + 1) (sym t) (omega arith)

  one_up : (k i : ℕ) (s : Seen) → slice_get u.instances i ≡ Some s → ((j : ℕ) (t : Seen) → slice_get u.instances j ≡ Some t → length (lineage n k j) ≤ length t.path + 1)
      → has_some (parent_at n i) ≡ true → length (lineage n (suc k) i) ≤ length s.path + 1
  one_up k i s e rec t =
      let z = parent_is u n a r i (unwrap_or (parent_at n i) 0) (some_there (parent_at n i) t) in
      let same : z.0 ≡ s = same_seen i z.0 s z.2 e in
      let parent : parent_path s.path ≡ Some z.1 = ap (λ (y : Seen). parent_path y.path) (sym same) ∙ z.3 in
      let y = at_path z.1 (a.parents s.path z.1 (path_in u n a r s i e) parent) in
      let rest : length (lineage n k (instance_number u.instances z.1)) ≤ length z.1 + 1 = subst (λ (q : List Step). length (lineage n k (instance_number u.instances z.1)) ≤ length q + 1) (sym y.2) (rec (instance_number u.instances z.1) y.0 y.1) in
      let there : length (lineage n k (unwrap_or (parent_at n i) 0)) ≤ length z.1 + 1 = subst (λ m. length (lineage n k m) ≤ length z.1 + 1) (sym z.4) rest in
      let size = parent_shorter s.path z.1 parent in
      subst (λ b. suc (length (cond b (lineage n k (unwrap_or (parent_at n i) 0)) [])) ≤ length s.path + 1) (sym t) (omega (arith, there, size))

  -- an instance has no more ancestors than its path has steps
  pub lineage_short : (k i : ℕ) (s : Seen) → slice_get u.instances i ≡ Some s → length (lineage n k i) ≤ length s.path + 1
  lineage_short zero i s e = omega arith
  lineage_short (suc k) i s e = by_bool (has_some (parent_at n i)) (λ t. one_up k i s e (λ j y g. lineage_short k j y g) t) (λ t. alone k i s.path t)
