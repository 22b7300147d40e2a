-- Wires between numbers, and the wires of names for which they stand.
use Rattle.std.proofs.Common.{◌≡◌, ℕ, false, List, [], ◌∷◌, map, Option, Some, None, slice_get, refl, sym, ap, ◌∙◌, subst, inl, inr}
use Rattle.std.specs.Prelude.{option_map, option_and_then}
use Rattle.cdl_connect.specs.declared.net.RawWire.{RawWire}
use Rattle.cdl_network.specs.Lists.{In, number}
use Rattle.cdl_network.proofs.Inside.{in_slice}
use Rattle.cdl_network.proofs.Numbers.{number_place}
use Rattle.cdl_network.proofs.Renaming.{in_map}
use Rattle.cdl_params.specs.Kept.{Model}
use Rattle.cdl_paths.specs.declared.path.Step.{Step}
use Rattle.cdl_walk.specs.declared.walked.Element.{Element}
use Rattle.cdl_walk.specs.declared.walked.Instance.{Instance}
use Rattle.cdl_walk.specs.Events.{same_steps}
use Rattle.cdl_walk.specs.Instances.{seen_instance, seen_element}
use Rattle.cdl_model.specs.Apart.{AreApart, AreWires}
use Rattle.cdl_model.specs.Names.{ElementName}
use Rattle.cdl_model.specs.NetOf.{net_wire}
use Rattle.cdl_model.specs.Networks.{paths, names, content_at, is_elementary, same_name}
use Rattle.cdl_model.specs.Parts.{Unfolding}
use Rattle.cdl_model.proofs.Places.{content_there}
use Rattle.cdl_model.proofs.Tests.{steps_tell, names_tell}
use Rattle.cdl_statements.specs.Directory.{Directory, NamedWire, directory, name_in, path_in, wire, wire_at}
use Rattle.cdl_statements.specs.Judges.{AreAllWires}
use Rattle.cdl_statements.specs.Stations.{InModel}
use Rattle.cdl_expand.proofs.Scoped.{StandsIn, scoped, wire_of}
use Rattle.cdl_expand.proofs.Walking.{to_keys}

module _ {A : Type 0} where
  heads : (x y : A) (xs ys : List A) → x ∷ xs ≡ y ∷ ys → x ≡ y
  heads x y xs ys e = cc

  tails : (x y : A) (xs ys : List A) → x ∷ xs ≡ y ∷ ys → xs ≡ ys
  tails x y xs ys e = cc

  some_is : (x y : A) → Some x ≡ Some y → x ≡ y
  some_is x y e = cc

  no_end : (x : A) (xs : List A) → [] ≡ x ∷ xs → ⊥
  no_end x xs e = cc

  no_start : (x : A) (xs : List A) → x ∷ xs ≡ [] → ⊥
  no_start x xs e = cc

-- ---- one wire

no_wire : (v : NamedWire) → None ≡ Some v → ⊥
no_wire v e = cc

wire_parts : (o : Option (List Step)) (l r : Option ElementName) (v : NamedWire) → option_and_then (λ p. option_and_then (λ y. option_map (wire p y) r) l) o ≡ Some v
    → (o ≡ Some v.scope) × (l ≡ Some v.left) × (r ≡ Some v.right)
wire_parts None l r v e = absurd (no_wire v e)
wire_parts (Some p) None r v e = absurd (no_wire v e)
wire_parts (Some p) (Some y) None v e = absurd (no_wire v e)
wire_parts (Some p) (Some y) (Some z) v e =
    let q : wire p y z ≡ v = some_is (wire p y z) v e in
    (ap (λ (u : NamedWire). Some u.scope) q, ap (λ (u : NamedWire). Some u.left) q, ap (λ (u : NamedWire). Some u.right) q)

-- a wire between numbers stands for this one
abbrev pub StandsFor : Directory → RawWire → NamedWire → Type 0
StandsFor d x v = wire_at d x ≡ Some v

pub places_of : (d : Directory) (x : RawWire) (v : NamedWire) → StandsFor d x v → (slice_get d.paths x.scope ≡ Some v.scope) × (slice_get d.names x.left ≡ Some v.left) × (slice_get d.names x.right ≡ Some v.right)
places_of d x v e = wire_parts (slice_get d.paths x.scope) (slice_get d.names x.left) (slice_get d.names x.right) v e

-- each wire has one that stands for it
pub some_number : (d : Directory) (xs : List RawWire) (ws : List NamedWire) → map (wire_at d) xs ≡ map Some ws → (v : NamedWire) → In v ws → (x : RawWire) × StandsFor d x v
some_number d [] [] q v i = absurd i
some_number d [] (u ∷ ws) q v i = absurd (no_end (Some u) (map Some ws) q)
some_number d (x ∷ xs) [] q v i = absurd i
some_number d (x ∷ xs) (u ∷ ws) q v (inl e) = (x, heads (wire_at d x) (Some u) (map (wire_at d) xs) (map Some ws) q ∙ ap Some (sym e))
some_number d (x ∷ xs) (u ∷ ws) q v (inr i) = some_number d xs ws (tails (wire_at d x) (Some u) (map (wire_at d) xs) (map Some ws) q) v i

-- ---- names in lists of numbers

pub paths_are : (xs : List Instance) → map path_in xs ≡ paths (map seen_instance xs)
paths_are [] = refl
paths_are (x ∷ xs) = ap (λ (l : List (List Step)). x.path.steps ∷ l) (paths_are xs)

pub names_are : (xs : List Instance) (es : List Element) → map (name_in xs) es ≡ names (map (seen_element xs) es)
names_are xs [] = refl
names_are xs (e ∷ es) = ap (λ (l : List ElementName). name_in xs e ∷ l) (names_are xs es)

abbrev raw : ℕ → ℕ → ℕ → RawWire
raw s l r = record { scope = s; left = l; right = r }

-- the lists have the instances and the elements of an unfolding, of which each stands once
module _ (xs : List Instance) (es : List Element) (u : Unfolding) (a : AreApart u) (i : u.instances ≡ map seen_instance xs) (o : u.elements ≡ map (seen_element xs) es) where
  the_paths : map path_in xs ≡ paths u.instances
  the_paths = paths_are xs ∙ ap paths (sym i)

  the_names : map (name_in xs) es ≡ names u.elements
  the_names = names_are xs es ∙ ap names (sym o)

  pub numbered_wire : (x : RawWire) (v : NamedWire) → StandsFor (directory xs es) x v → x ≡ net_wire u v
  numbered_wire x v e =
      let p = places_of (directory xs es) x v e in
      let s : number same_steps (paths u.instances) v.scope ≡ x.scope = number_place same_steps (paths u.instances) x.scope v.scope steps_tell a.instances (subst (λ l. slice_get l x.scope ≡ Some v.scope) the_paths p.0) in
      let l : number same_name (names u.elements) v.left ≡ x.left = number_place same_name (names u.elements) x.left v.left names_tell a.elements (subst (λ l. slice_get l x.left ≡ Some v.left) the_names p.1) in
      let r : number same_name (names u.elements) v.right ≡ x.right = number_place same_name (names u.elements) x.right v.right names_tell a.elements (subst (λ l. slice_get l x.right ≡ Some v.right) the_names p.2) in
      ap (λ n. raw n x.left x.right) (sym s) ∙ ap (λ n. raw (number same_steps (paths u.instances) v.scope) n x.right) (sym l)
      ∙ ap (λ n. raw (number same_steps (paths u.instances) v.scope) (number same_name (names u.elements) v.left) n) (sym r)

  pub numbered_wires : (rs : List RawWire) (ws : List NamedWire) → map (wire_at (directory xs es)) rs ≡ map Some ws → rs ≡ map (net_wire u) ws
  numbered_wires [] [] q = refl
  numbered_wires [] (v ∷ ws) q = absurd (no_end (Some v) (map Some ws) q)
  numbered_wires (x ∷ rs) [] q = absurd (no_start (wire_at (directory xs es) x) (map (wire_at (directory xs es)) rs) q)
  numbered_wires (x ∷ rs) (v ∷ ws) q =
      ap (λ (z : RawWire). z ∷ rs) (numbered_wire x v (heads (wire_at (directory xs es) x) (Some v) (map (wire_at (directory xs es)) rs) (map Some ws) q))
      ∙ ap (λ (l : List RawWire). net_wire u v ∷ l) (numbered_wires rs ws (tails (wire_at (directory xs es) x) (Some v) (map (wire_at (directory xs es)) rs) (map Some ws) q))

  block_there : (n : ℕ) (v : NamedWire) → StandsIn xs n v → is_elementary (content_at u.instances v.scope) ≡ false
  block_there n v s =
      let there : In (seen_instance s.instance) u.instances = subst (λ l. In (seen_instance s.instance) l) (sym i) (in_map seen_instance s.instance xs (in_slice xs n s.instance s.at)) in
      ap (λ p. is_elementary (content_at u.instances p)) s.joins.scope
      ∙ ap is_elementary (content_there u.instances (seen_instance s.instance) a.instances there)
      ∙ ap (λ c. is_elementary (Some c)) s.block

  pub wires_stand : (w : Model) (rs : List RawWire) (ws : List NamedWire) → u.wires ≡ ws → AreAllWires (InModel w xs) ws → map (wire_at (directory xs es)) rs ≡ map Some ws → AreWires u
  wires_stand w rs ws e all q = record {
    scope = λ v j. let x = number_of v j in subst (λ l. In v.scope l) the_paths (in_slice (map path_in xs) x.0.scope v.scope (places_of (directory xs es) x.0 v x.1).0);
    composite = λ v j.
        let b = wire_of all.events v (to_keys v _ (subst (λ l. In v l) (e ∙ all.are) j)) in
        let s = scoped w xs b.key b.event v (all.lists.only b.key b.event b.there) b.brought in
        block_there s.0 v s.3;
    left = λ v j. let x = number_of v j in subst (λ l. In v.left l) the_names (in_slice (map (name_in xs) es) x.0.left v.left (places_of (directory xs es) x.0 v x.1).1);
    right = λ v j. let x = number_of v j in subst (λ l. In v.right l) the_names (in_slice (map (name_in xs) es) x.0.right v.right (places_of (directory xs es) x.0 v x.1).2);
  }
    where
      number_of : (v : NamedWire) → In v u.wires → (x : RawWire) × StandsFor (directory xs es) x v
      number_of v j = some_number (directory xs es) rs ws q v (subst (λ l. In v l) e j)
