-- The net that is made is that of the model.
use Rattle.std.proofs.Common.{◌≡◌, ◌<◌, ◌≤◌, ℕ, true, List, map, length, refl, sym, ap, ◌∙◌, subst, arith, IsUtf8}
use Rattle.std.specs.List.{list_all}
use Rattle.std.proofs.lemmas.List.{length-map}
use Rattle.cdl_source.specs.declared.limits.TheConstants.{LONGEST_UNIT, MOST_ELEMENTS, MOST_INSTANCES, MOST_WIRES}
use Rattle.cdl_connect.specs.declared.net.Net.{Net}
use Rattle.cdl_connect.specs.declared.net.NetElement.{NetElement}
use Rattle.cdl_connect.specs.declared.net.RawWire.{RawWire}
use Rattle.cdl_connect.specs.Nets.{element}
use Rattle.cdl_connect.specs.WellFormed.{AreByScope, AreComposite, AreNear, AreOfKinds, ArePaths, ArePlain, AreUnits, IsIndexed, IsPreorder, IsWellFormed, IsWithinLimits, is_plain}
use Rattle.cdl_network.specs.Lists.{In, number}
use Rattle.cdl_network.specs.Rules.{is_real}
use Rattle.cdl_network.proofs.Inside.{in_slice}
use Rattle.cdl_tree.specs.FormedFiles.{formed_file}
use Rattle.cdl_params.specs.Kept.{Model}
use Rattle.cdl_paths.specs.declared.path.Step.{Step}
use Rattle.cdl_walk.specs.declared.walked.Instance.{Instance}
use Rattle.cdl_walk.specs.declared.walked.Walked.{Walked}
use Rattle.cdl_walk.specs.Events.{same_steps}
use Rattle.cdl_walk.specs.Instances.{Owned, seen_instance, seen_element}
use Rattle.cdl_model.specs.Apart.{AreApart, IsNear, IsUnfolded, NamesApart}
use Rattle.cdl_model.specs.NetOf.{NetOf, net_element, net_wire}
use Rattle.cdl_model.specs.Networks.{paths}
use Rattle.cdl_model.specs.Parts.{AreParts, Unfolding}
use Rattle.cdl_statements.specs.Directory.{NamedWire}
use Rattle.cdl_statements.specs.Events.{wires_of}
use Rattle.cdl_statements.specs.Stations.{InModel}
use Rattle.cdl_expand.specs.Expanded.{IsExpanded, IsNetOfModel}
use Rattle.cdl_expand.specs.inner.Numbered.{IsNumbered, at_numbers}
use Rattle.cdl_expand.specs.inner.Ordered.{AreJoined, HaveUnits, IsOrdered}
use Rattle.cdl_expand.proofs.Bounded.{instances_count, size_is, windows}
use Rattle.cdl_expand.proofs.Composite.{composite, near}
use Rattle.cdl_expand.proofs.Counted.{few_wires}
use Rattle.cdl_expand.proofs.Formed.{item_identifier}
use Rattle.cdl_expand.proofs.Grouped.{rises, stays}
use Rattle.cdl_expand.proofs.Indexed.{element_at, numbers, scopes, wire_at}
use Rattle.cdl_expand.proofs.OfKinds.{kinds}
use Rattle.cdl_expand.proofs.Ordered.{Climbs, climbs_at, wires_climb}
use Rattle.cdl_expand.proofs.Pathing.{are_paths}
use Rattle.cdl_expand.proofs.Placed.{IsPlaced, unfolded}
use Rattle.cdl_expand.proofs.Points.{IsFine, unfolded_fine}
use Rattle.cdl_expand.proofs.Preorder.{not_deep, preorder}
use Rattle.cdl_expand.proofs.Scoped.{scoped, wire_of}
use Rattle.cdl_expand.proofs.Walking.{parts_found, placed_found, to_keys}
use Rattle.cdl_expand.proofs.Windows.{elements_are, instances_are, net_elements_are}
use Rattle.cdl_expand.proofs.Wired.{numbered_wires, wires_stand}

-- what the walk found, with the wires that were joined
abbrev pub made_of : (w : Model) (m : Walked) (raw : List RawWire) → IsOrdered w m → AreJoined w m raw → Unfolding
made_of w m raw o j = unfolded o.found j.wires.wires

pub parts_made : (w : Model) (m : Walked) (raw : List RawWire) (o : IsOrdered w m) (j : AreJoined w m raw) → AreParts w (made_of w m raw o j)
parts_made w m raw o j = parts_found w o.found j.wires.wires o.all

module _ (w : Model) (m : Walked) (raw : List RawWire) (o : IsOrdered w m) (j : AreJoined w m raw) (once : AreApart (made_of w m raw o j)) where
  placed : IsPlaced o.found
  placed = placed_found w o.found j.wires.wires once o.all

  pub seen_made : map seen_instance m.instances ≡ (made_of w m raw o j).instances
  seen_made = ap (map seen_instance) o.instances

  pub owned_made : (made_of w m raw o j).elements ≡ map (seen_element m.instances) m.elements
  owned_made = elements_are o.found j.wires.wires m.elements placed (rises m.elements o.sorted) (stays o.found.elements m.elements o.stable)
      ∙ ap (λ (xs : List Instance). map (seen_element xs) m.elements) (sym o.instances)

  pub expanded_made : IsExpanded w (made_of w m raw o j)
  expanded_made = record {
    unbroken = o.unbroken;
    parts = parts_made w m raw o j;
    instances = m.instances;
    seen = seen_made;
    statements = j.unbroken;
    wires = j.wires.all;
  }

  pub unfolded_made : NamesApart w → IsUnfolded w (made_of w m raw o j)
  unfolded_made names = record {
    names = names;
    parts = parts_made w m raw o j;
    wires = wires_stand m.instances m.elements (made_of w m raw o j) once (sym seen_made) owned_made w raw j.wires.wires refl j.wires.all j.wires.are;
  }

  pub net_made : (n : Net) → IsNumbered m raw n → NetOf (made_of w m raw o j) n
  net_made n k = record {
    instances = k.instances ∙ ap (at_numbers m.elements 0) o.instances
        ∙ instances_are o.found j.wires.wires m.elements placed (rises m.elements o.sorted) (stays o.found.elements m.elements o.stable);
    elements = k.elements ∙ net_elements_are o.found j.wires.wires m.elements placed (rises m.elements o.sorted) (stays o.found.elements m.elements o.stable);
    wires = k.wires ∙ numbered_wires m.instances m.elements (made_of w m raw o j) once (sym seen_made) owned_made raw j.wires.wires j.wires.are;
  }

  pub indexed_made : NamesApart w → (n : Net) → IsNumbered m raw n → IsIndexed n
  indexed_made names n k =
      let net = net_made n k in
      let wires = (unfolded_made names).wires in
      record {
        numbers = numbers (made_of w m raw o j) n once net wires;
        windows = windows n m.instances m.elements k.elements k.instances o.sorted;
        scopes = scopes (made_of w m raw o j) n once net wires;
        instances = subst (λ z. z ≤ MOST_INSTANCES) (sym (instances_count n m.instances m.elements k.elements k.instances o.sorted)) o.few_instances;
        elements = subst (λ z. z ≤ MOST_ELEMENTS) (sym (size_is n m.instances m.elements k.elements k.instances o.sorted)) o.few_elements;
        wires = subst (λ z. z ≤ MOST_WIRES) (sym (wires_size n k)) (few_wires (InModel w m.instances) j.wires.all.events j.wires.all.lists j.unbroken);
      }
    where
      wires_size : (n : Net) (k : IsNumbered m raw n) → length n.wires ≡ length (wires_of j.wires.all.events)
      wires_size n k = ap length (net_made n k).wires ∙ length-map j.wires.wires (net_wire (made_of w m raw o j)) ∙ ap length j.wires.all.are

  pub kinds_made : NamesApart w → (n : Net) → IsNumbered m raw n → AreOfKinds n
  kinds_made names n k = kinds w names o.fine o.found o.all placed m.elements o.sorted o.stable o.few_elements n k.elements (k.instances ∙ ap (at_numbers m.elements 0) o.instances)

  pub composite_made : NamesApart w → (n : Net) → IsNumbered m raw n → AreComposite n
  composite_made names n k = composite w (made_of w m raw o j) n (parts_made w m raw o j) once (net_made n k) (unfolded_made names).wires

  -- each wire joins what is near its scope
  near_wires : (v : NamedWire) → In v j.wires.wires → IsNear v.scope v.left × IsNear v.scope v.right
  near_wires v i =
      let b = wire_of j.wires.all.events v (to_keys v (wires_of j.wires.all.events) (subst (λ (l : List NamedWire). In v l) j.wires.all.are i)) in
      let s = scoped w m.instances b.key b.event v (j.wires.all.lists.only b.key b.event b.there) b.brought in
      (subst (λ (p : List Step). IsNear p v.left) (sym s.3.joins.scope) s.3.joins.left, subst (λ (p : List Step). IsNear p v.right) (sym s.3.joins.scope) s.3.joins.right)

  pub near_made : NamesApart w → (n : Net) → IsNumbered m raw n → AreNear n
  near_made names n k = near (made_of w m raw o j) n once (net_made n k) (unfolded_made names).wires near_wires

  abbrev scope_of : NamedWire → ℕ
  scope_of v = number same_steps (paths (made_of w m raw o j).instances) v.scope

  pub by_scope_made : (n : Net) → IsNumbered m raw n → AreByScope n
  by_scope_made n k = record {
    rising = λ g h x y l e f.
        let a = wire_at (made_of w m raw o j) n once (net_made n k) g x e in
        let b = wire_at (made_of w m raw o j) n once (net_made n k) h y f in
        let climbs : Climbs scope_of (wires_of j.wires.all.events) = wires_climb w m.instances (made_of w m raw o j) once (sym seen_made) j.wires.all.events j.wires.all.lists.sorted (λ q d i. j.wires.all.lists.only q d i) in
        let all : Climbs scope_of j.wires.wires = subst (λ (l : List NamedWire). Climbs scope_of l) (sym j.wires.all.are) climbs in
        let order : scope_of a.0 ≤ scope_of b.0 = climbs_at scope_of j.wires.wires g h a.0 b.0 all l a.1 b.1 in
        let p : x.scope ≡ scope_of a.0 = ap (λ (z : RawWire). z.scope) a.2 in
        let q : y.scope ≡ scope_of b.0 = ap (λ (z : RawWire). z.scope) b.2 in
        omega (arith, order, p, q);
  }

  -- the element of that number is fine
  fine_element : HaveUnits w → (n : Net) (k : IsNumbered m raw n) (x : ℕ) → x < length n.elements → (y : Owned) × (element n x ≡ net_element (made_of w m raw o j) y) × IsFine y.point
  fine_element good n k x l =
      let y = element_at (made_of w m raw o j) n once (net_made n k) x l in
      (y.0, y.2, unfolded_fine w good (made_of w m raw o j) (parts_made w m raw o j) y.0 (in_slice (made_of w m raw o j).elements x y.0 y.1))

  pub plain_made : HaveUnits w → (n : Net) → IsNumbered m raw n → ArePlain n
  plain_made good n k = record { each = λ x l. let y = fine_element good n k x l in ap (λ (z : NetElement). is_plain z.value_type) y.1 ∙ y.2.plain }

  pub units_made : HaveUnits w → (n : Net) → IsNumbered m raw n → AreUnits n
  units_made good n k = record {
    utf8 = λ x l. let y = fine_element good n k x l in subst (λ (z : NetElement). IsUtf8 z.unit) (sym y.1) y.2.text.0;
    short = λ x l. let y = fine_element good n k x l in subst (λ (z : NetElement). length z.unit ≤ LONGEST_UNIT) (sym y.1) y.2.text.1;
    real = λ x l e. let y = fine_element good n k x l in ap (λ (z : NetElement). z.unit) y.1 ∙ y.2.real (sym (ap (λ (z : NetElement). is_real z.value_type) y.1) ∙ e);
  }

  pub preorder_made : (n : Net) → IsNumbered m raw n → IsPreorder n
  preorder_made n k = preorder w (made_of w m raw o j) n (parts_made w m raw o j) once (net_made n k) o.found.instances refl placed.parents o.fine

  pub limits_made : NamesApart w → (n : Net) → IsNumbered m raw n → IsWithinLimits n
  limits_made names n k =
      let i = indexed_made names n k in
      record {
        instances = i.instances;
        elements = i.elements;
        wires = i.wires;
        steps = not_deep w (made_of w m raw o j) n (parts_made w m raw o j) once (net_made n k) o.found.instances refl placed.parents o.fine;
      }

  pub paths_made : NamesApart w → list_all formed_file w.files ≡ true → (n : Net) → IsNumbered m raw n → ArePaths n
  paths_made names formed n k = are_paths w names (λ c i x e. item_identifier w formed c i x e) o.fine (made_of w m raw o j) n (parts_made w m raw o j) once (net_made n k)

  formed_made : NamesApart w → list_all formed_file w.files ≡ true → HaveUnits w → (n : Net) → IsNumbered m raw n → IsWellFormed n
  formed_made names formed good n k =
      let i = indexed_made names n k in
      record {
        numbers = i.numbers;
        preorder = preorder_made n k;
        windows = i.windows;
        by_scope = by_scope_made n k;
        near = near_made names n k;
        composite = composite_made names n k;
        plain = plain_made good n k;
        units = units_made good n k;
        limits = limits_made names n k;
        kinds = kinds_made names n k;
        paths = paths_made names formed n k;
      }

  pub all_made : NamesApart w → list_all formed_file w.files ≡ true → HaveUnits w → (n : Net) → IsNumbered m raw n → IsNetOfModel w n
  all_made names formed good n k = record {
    expansion = made_of w m raw o j;
    expanded = expanded_made;
    unfolded = unfolded_made names;
    net = net_made n k;
    indexed = indexed_made names n k;
    formed = formed_made names formed good n k;
  }
