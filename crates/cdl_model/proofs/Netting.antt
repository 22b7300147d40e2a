-- A model and its net are one network under two kinds of names.
use Rattle.std.proofs.Common.{◌≡◌, ℕ, List, map, length, Some, slice_get, refl, sym, ap, ◌∙◌, subst}
use Rattle.std.specs.Prelude.{◌-◌, option_map}
use Rattle.std.proofs.lemmas.Option.{slice_get-map, get_or_from_slice_get}
use Rattle.std.proofs.lemmas.List.{length-map}
use Rattle.cdl_network.specs.Lists.{In}
use Rattle.cdl_network.specs.Renamed.{Renamed, rename_wire}
use Rattle.cdl_network.proofs.Numbers.{number_apart, number_same, map_twice}
use Rattle.cdl_network.proofs.Renaming.{in_map, of_map}
use Rattle.cdl_connect.specs.declared.net.Net.{Net}
use Rattle.cdl_connect.specs.declared.net.NetElement.{NetElement}
use Rattle.cdl_connect.specs.Nets.{network_of, wire_in, element, no_element, parent_of, is_block, is_elementary as is_elementary_in, meaning_at, meaning_of as meaning_in, words_at, words_of as words_in, is_direct_at, is_direct_port}
use Rattle.cdl_paths.specs.declared.path.Step.{Step}
use Rattle.cdl_walk.specs.declared.walked.Content.{Content}
use Rattle.cdl_walk.specs.declared.walked.Content.TheVariants.{Block, Elementary}
use Rattle.cdl_walk.specs.Events.{same_steps}
use Rattle.cdl_walk.specs.Instances.{Seen, Owned}
use Rattle.cdl_model.specs.Names.{ElementName}
use Rattle.cdl_model.specs.Parts.{Unfolding}
use Rattle.cdl_model.specs.Networks.{network, paths, names, name_of, same_name, parent_path, content_at, point_at, is_elementary, meaning_of, words_of, is_direct, is_input, type_of, unit_of}
use Rattle.cdl_model.specs.Apart.{AreApart}
use Rattle.cdl_model.specs.NetOf.{NetOf, instance_number, element_number, body_of, net_instance, net_element, net_wire}
use Rattle.cdl_model.proofs.Tests.{steps_tell, names_tell}
use Rattle.cdl_model.proofs.Places.{slice_named, all_numbers, content_there, point_there}

-- what an instance is, in the net and in the model
block_same : (c : Content) → is_block (body_of c) ≡ is_elementary (Some c)
block_same (Block c) = refl
block_same (Elementary k v) = refl

meaning_same : (c : Content) → meaning_in (body_of c) ≡ meaning_of (Some c)
meaning_same (Block c) = refl
meaning_same (Elementary k v) = refl

words_same : (c : Content) → words_in (body_of c) ≡ words_of (Some c)
words_same (Block c) = refl
words_same (Elementary k v) = refl

direct_same : (c : Content) (j : ℕ) → is_direct_port (body_of c) j ≡ is_direct (Some c)
direct_same (Block c) j = refl
direct_same (Elementary k v) j = refl

module _ (u : Unfolding) (n : Net) (a : AreApart u) (r : NetOf u n) where
  -- what stands at a number
  pub at_instance : (s : Seen) → In s u.instances → slice_get n.instances (instance_number u.instances s.path) ≡ Some (net_instance u s)
  at_instance s i =
      ap (λ l. slice_get l (instance_number u.instances s.path)) r.instances
      ∙ slice_get-map (net_instance u) u.instances (instance_number u.instances s.path)
      ∙ ap (option_map (net_instance u)) (slice_named (λ (z : Seen). z.path) same_steps u.instances s steps_tell a.instances i)

  pub at_element : (x : Owned) → In x u.elements → element n (element_number u.elements (name_of x)) ≡ net_element u x
  at_element x i = get_or_from_slice_get n.elements (element_number u.elements (name_of x)) (net_element u x) no_element (
      ap (λ l. slice_get l (element_number u.elements (name_of x))) r.elements
      ∙ slice_get-map (net_element u) u.elements (element_number u.elements (name_of x))
      ∙ ap (option_map (net_element u)) (slice_named name_of same_name u.elements x names_tell a.elements i))

  -- an instance is that of its path, an element that of its name
  pub by_path : (P : List Step → Type 0) → ((s : Seen) → In s u.instances → P s.path) → (p : List Step) → In p (paths u.instances) → P p
  by_path P f p i = let z = of_map (λ (s : Seen). s.path) p u.instances i in subst (λ q. P q) (sym z.2) (f z.0 z.1)

  pub by_name : (P : ElementName → Type 0) → ((x : Owned) → In x u.elements → P (name_of x)) → (x : ElementName) → In x (names u.elements) → P x
  by_name P f x i = let z = of_map name_of x u.elements i in subst (λ q. P q) (sym z.2) (f z.0 z.1)

  content_is : (s : Seen) → In s u.instances → content_at u.instances s.path ≡ Some s.content
  content_is s i = content_there u.instances s a.instances i

  point_is : (x : Owned) → In x u.elements → point_at u.elements (name_of x) ≡ Some x.point
  point_is x i = point_there u.elements x a.elements i

  direct_is : (x : Owned) → In x u.elements → (s : Seen) → In s u.instances → x.path ≡ s.path
      → is_direct_at (slice_get n.instances (element n (element_number u.elements (name_of x))).instance) (element_number u.elements (name_of x)) ≡ is_direct (content_at u.instances x.path)
  direct_is x i s j e =
      ap (λ (z : NetElement). is_direct_at (slice_get n.instances z.instance) (element_number u.elements (name_of x))) (at_element x i)
      ∙ ap (λ p. is_direct_at (slice_get n.instances (instance_number u.instances p)) (element_number u.elements (name_of x))) e
      ∙ ap (λ o. is_direct_at o (element_number u.elements (name_of x))) (at_instance s j)
      ∙ direct_same s.content (element_number u.elements (name_of x) - (net_instance u s).first)
      ∙ ap is_direct (sym (content_is s j))
      ∙ ap (λ p. is_direct (content_at u.instances p)) (sym e)

  pub net_renamed : Renamed (instance_number u.instances) (element_number u.elements) (network u) (network_of n)
  net_renamed = record {
    instances = all_numbers same_steps (paths u.instances) (length n.instances) steps_tell a.instances (ap length r.instances ∙ length-map u.instances (net_instance u) ∙ sym (length-map u.instances (λ (s : Seen). s.path)));
    elements = all_numbers same_name (names u.elements) (length n.elements) names_tell a.elements (ap length r.elements ∙ length-map u.elements (net_element u) ∙ sym (length-map u.elements name_of));
    wires = ap (map wire_in) r.wires ∙ sym (map_twice (net_wire u) wire_in (rename_wire (instance_number u.instances) (element_number u.elements)) u.wires (λ w i. refl));
    same_instance = λ p q i j. number_same same_steps (paths u.instances) p q steps_tell i j;
    same_element = λ x y i j. number_same same_name (names u.elements) x y names_tell i j;
    apart_instances = λ p q i j e. number_apart same_steps (paths u.instances) p q steps_tell i j e;
    apart_elements = λ x y i j e. number_apart same_name (names u.elements) x y names_tell i j e;
    parent = by_path (λ p. parent_of (slice_get n.instances (instance_number u.instances p)) ≡ option_map (instance_number u.instances) (parent_path p))
        (λ s i. ap parent_of (at_instance s i));
    elementary = by_path (λ p. is_elementary_in (slice_get n.instances (instance_number u.instances p)) ≡ is_elementary (content_at u.instances p))
        (λ s i. ap is_elementary_in (at_instance s i) ∙ block_same s.content ∙ ap is_elementary (sym (content_is s i)));
    owner = by_name (λ x. (element n (element_number u.elements x)).instance ≡ instance_number u.instances x.path)
        (λ x i. ap (λ (z : NetElement). z.instance) (at_element x i));
    input = by_name (λ x. (element n (element_number u.elements x)).input ≡ is_input (point_at u.elements x))
        (λ x i. ap (λ (z : NetElement). z.input) (at_element x i) ∙ ap is_input (sym (point_is x i)));
    value_type = by_name (λ x. (element n (element_number u.elements x)).value_type ≡ type_of (point_at u.elements x))
        (λ x i. ap (λ (z : NetElement). z.value_type) (at_element x i) ∙ ap type_of (sym (point_is x i)));
    unit = by_name (λ x. (element n (element_number u.elements x)).unit ≡ unit_of (point_at u.elements x))
        (λ x i. ap (λ (z : NetElement). z.unit) (at_element x i) ∙ ap unit_of (sym (point_is x i)));
    direct = by_name (λ x. is_direct_at (slice_get n.instances (element n (element_number u.elements x)).instance) (element_number u.elements x) ≡ is_direct (content_at u.instances x.path))
        (λ x i. let o = of_map (λ (s : Seen). s.path) x.path u.instances (a.owners (name_of x) (in_map name_of x u.elements i)) in direct_is x i o.0 o.1 o.2);
    meaning = λ p i e. by_path (λ p. meaning_at (slice_get n.instances (instance_number u.instances p)) ≡ meaning_of (content_at u.instances p))
        (λ s i. ap meaning_at (at_instance s i) ∙ meaning_same s.content ∙ ap meaning_of (sym (content_is s i))) p i;
    state_words = λ p i e. by_path (λ p. words_at (slice_get n.instances (instance_number u.instances p)) ≡ words_of (content_at u.instances p))
        (λ s i. ap words_at (at_instance s i) ∙ words_same s.content ∙ ap words_of (sym (content_is s i))) p i;
  }
