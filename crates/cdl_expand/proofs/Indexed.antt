-- The numbers of a net that is a model's are good.
use Rattle.std.proofs.Common.{◌≡◌, ℕ, ◌<◌, false, List, length, Option, Some, None, slice_get, refl, sym, ap, ◌∙◌, subst}
use Rattle.std.proofs.lemmas.List.{length-map}
use Rattle.std.proofs.lemmas.Option.{slice_get-get_or}
use Rattle.cdl_connect.specs.declared.net.Net.{Net}
use Rattle.cdl_connect.specs.declared.net.NetElement.{NetElement}
use Rattle.cdl_connect.specs.declared.net.NetInstance.{NetInstance}
use Rattle.cdl_connect.specs.declared.net.RawWire.{RawWire}
use Rattle.cdl_connect.specs.Nets.{element, no_element, parent_of, is_block, is_elementary as is_elementary_in}
use Rattle.cdl_connect.specs.WellFormed.{AreNumbers, parent_at}
use Rattle.cdl_network.specs.Lists.{In}
use Rattle.cdl_network.specs.Network.{Wire}
use Rattle.cdl_network.proofs.Inside.{in_slice}
use Rattle.cdl_network.proofs.Numbers.{slice_number}
use Rattle.cdl_network.proofs.Renaming.{in_map, of_map, of_option_map, of_slice_map, slice_map}
use Rattle.cdl_paths.specs.declared.path.Step.{Step}
use Rattle.cdl_walk.specs.declared.walked.Content.{Content}
use Rattle.cdl_walk.specs.declared.walked.Content.TheVariants.{Block, Elementary}
use Rattle.cdl_walk.specs.Events.{same_steps}
use Rattle.cdl_walk.specs.Instances.{Seen, Owned}
use Rattle.cdl_model.specs.Apart.{AreApart, AreWires}
use Rattle.cdl_model.specs.Names.{ElementName}
use Rattle.cdl_model.specs.NetOf.{NetOf, body_of, instance_number, element_number, net_instance, net_element, net_wire}
use Rattle.cdl_model.specs.Networks.{paths, names, name_of, same_name, parent_path, content_at, is_elementary}
use Rattle.cdl_model.specs.Parts.{Unfolding}
use Rattle.cdl_model.proofs.Places.{content_there, number_within}
use Rattle.cdl_model.proofs.Tests.{steps_tell, names_tell}

no_number : (p : ℕ) → None ≡ Some p → ⊥
no_number p e = cc

block_same : (c : Content) → is_block (body_of c) ≡ is_elementary (Some c)
block_same (Block c) = refl
block_same (Elementary k v) = refl

module _ (u : Unfolding) (n : Net) (a : AreApart u) (r : NetOf u n) where
  pub instances_size : length n.instances ≡ length (paths u.instances)
  instances_size = ap length r.instances ∙ length-map u.instances (net_instance u) ∙ sym (length-map u.instances (λ (s : Seen). s.path))

  pub elements_size : length n.elements ≡ length (names u.elements)
  elements_size = ap length r.elements ∙ length-map u.elements (net_element u) ∙ sym (length-map u.elements name_of)

  -- what stands at a number
  pub instance_at : (i : ℕ) (t : NetInstance) → slice_get n.instances i ≡ Some t → (s : Seen) × (slice_get u.instances i ≡ Some s) × (t ≡ net_instance u s)
  instance_at i t e = of_slice_map (net_instance u) u.instances n.instances i t r.instances e

  pub element_at : (x : ℕ) → x < length n.elements → (y : Owned) × (slice_get u.elements x ≡ Some y) × (element n x ≡ net_element u y)
  element_at x l = of_slice_map (net_element u) u.elements n.elements x (element n x) r.elements (slice_get-get_or n.elements x no_element l)

  pub wire_at : (k : ℕ) (x : RawWire) → slice_get n.wires k ≡ Some x → (v : Wire (List Step) ElementName) × (slice_get u.wires k ≡ Some v) × (x ≡ net_wire u v)
  wire_at k x e = of_slice_map (net_wire u) u.wires n.wires k x r.wires e

  pub path_in : (s : Seen) (i : ℕ) → slice_get u.instances i ≡ Some s → In s.path (paths u.instances)
  path_in s i e = in_map (λ (z : Seen). z.path) s u.instances (in_slice u.instances i s e)

  pub instance_within : (p : List Step) → In p (paths u.instances) → instance_number u.instances p < length n.instances
  instance_within p i = subst (λ k. instance_number u.instances p < k) (sym instances_size) (number_within same_steps (paths u.instances) p steps_tell i)

  pub element_within : (x : ElementName) → In x (names u.elements) → element_number u.elements x < length n.elements
  element_within x i = subst (λ k. element_number u.elements x < k) (sym elements_size) (number_within same_name (names u.elements) x names_tell i)

  -- the parent of an instance
  pub parent_is : (i p : ℕ) → parent_at n i ≡ Some p → (s : Seen) × (q : List Step) × (slice_get u.instances i ≡ Some s) × (parent_path s.path ≡ Some q) × (p ≡ instance_number u.instances q)
  parent_is i p e = by_parent (slice_get n.instances i) refl e
    where
      by_parent : (o : Option NetInstance) → slice_get n.instances i ≡ o → parent_of o ≡ Some p
          → (s : Seen) × (q : List Step) × (slice_get u.instances i ≡ Some s) × (parent_path s.path ≡ Some q) × (p ≡ instance_number u.instances q)
      by_parent None f g = absurd (no_number p g)
      by_parent (Some t) f g =
          let s = instance_at i t f in
          let q = of_option_map (instance_number u.instances) (parent_path s.0.path) p (sym (ap (λ (z : NetInstance). z.parent) s.2) ∙ g) in
          (s.0, q.0, s.1, q.1, q.2)

  parent_within : (i p : ℕ) → parent_at n i ≡ Some p → p < length n.instances
  parent_within i p e =
      let z = parent_is i p e in
      subst (λ k. k < length n.instances) (sym z.4) (instance_within z.1 (a.parents z.0.path z.1 (path_in z.0 i z.2) z.3))

  owner_within : (x : ℕ) → x < length n.elements → (element n x).instance < length n.instances
  owner_within x l =
      let y = element_at x l in
      subst (λ (z : NetElement). z.instance < length n.instances) (sym y.2) (instance_within y.0.path (a.owners (name_of y.0) (in_map name_of y.0 u.elements (in_slice u.elements x y.0 y.1))))

  -- an instance of the net is elementary where that of the model is
  pub elementary_at : (p : List Step) → In p (paths u.instances) → is_elementary_in (slice_get n.instances (instance_number u.instances p)) ≡ is_elementary (content_at u.instances p)
  elementary_at p i =
      let s = of_map (λ (z : Seen). z.path) p u.instances i in
      let here : slice_get (paths u.instances) (instance_number u.instances p) ≡ Some p = slice_number same_steps (paths u.instances) p steps_tell i in
      let t = of_slice_map (λ (z : Seen). z.path) u.instances (paths u.instances) (instance_number u.instances p) p refl here in
      ap is_elementary_in (slice_map (net_instance u) u.instances n.instances (instance_number u.instances p) t.0 r.instances t.1)
      ∙ block_same t.0.content
      ∙ ap is_elementary (sym (content_there u.instances t.0 a.instances (in_slice u.instances (instance_number u.instances p) t.0 t.1)))
      ∙ ap (λ q. is_elementary (content_at u.instances q)) (sym t.2)

  module _ (v : AreWires u) where
    wire_in : (k : ℕ) (x : RawWire) (e : slice_get n.wires k ≡ Some x) → In (wire_at k x e).0 u.wires
    wire_in k x e = in_slice u.wires k (wire_at k x e).0 (wire_at k x e).1

    pub numbers : AreNumbers n
    numbers = record {
      parent = parent_within;
      owner = owner_within;
      scope = λ k x e. let z = wire_at k x e in subst (λ (y : RawWire). y.scope < length n.instances) (sym z.2) (instance_within z.0.scope (v.scope z.0 (wire_in k x e)));
      left = λ k x e. let z = wire_at k x e in subst (λ (y : RawWire). y.left < length n.elements) (sym z.2) (element_within z.0.left (v.left z.0 (wire_in k x e)));
      right = λ k x e. let z = wire_at k x e in subst (λ (y : RawWire). y.right < length n.elements) (sym z.2) (element_within z.0.right (v.right z.0 (wire_in k x e)));
    }

    pub scopes : (k : ℕ) (x : RawWire) → slice_get n.wires k ≡ Some x → is_elementary_in (slice_get n.instances x.scope) ≡ false
    scopes k x e =
        let z = wire_at k x e in
        ap (λ (y : RawWire). is_elementary_in (slice_get n.instances y.scope)) z.2
        ∙ elementary_at z.0.scope (v.scope z.0 (wire_in k x e))
        ∙ v.composite z.0 (wire_in k x e)
