-- The laws of networks at a model and its net.
use Rattle.std.proofs.Common.{◌≡◌, Bool, List, [], ◌∷◌, Option, Some, None, refl, sym, ap, ◌∙◌, inl, inr}
use Rattle.std.specs.Prelude.{◌&&◌, map, option_map}
use Rattle.std.proofs.lemmas.Bool.{and_parts}
use Rattle.cdl_source.proofs.Cases.{by_bool}
use Rattle.cdl_connect.specs.declared.net.Net.{Net}
use Rattle.cdl_connect.specs.declared.net.NetElement.{NetElement}
use Rattle.cdl_connect.specs.Nets.{network_of, element}
use Rattle.cdl_connect.specs.WellFormed.{path_in, path_of}
use Rattle.cdl_kinds.specs.Meanings.{meaning}
use Rattle.cdl_kinds.specs.Table.{row}
use Rattle.cdl_values.specs.History.{History}
use Rattle.std.proofs.Common.{ℤ, true}
use Rattle.cdl_network.specs.Closed.{Closed, Shaped}
use Rattle.cdl_network.specs.Dependence.{inputs_of}
use Rattle.cdl_network.specs.Lists.{In}
use Rattle.cdl_network.specs.Network.{Network}
use Rattle.cdl_network.specs.Planned.{DirectOnly, SameWhere}
use Rattle.cdl_network.specs.Renamed.{Renamed}
use Rattle.cdl_network.specs.Rules.{is_inner, is_sink, is_some_same, is_source}
use Rattle.cdl_network.proofs.Inside.{kept_true}
use Rattle.cdl_network.proofs.Rules.{own_same}
use Rattle.cdl_params.specs.Kept.{Model}
use Rattle.cdl_paths.specs.declared.path.Step.{Step}
use Rattle.cdl_stations.proofs.Unique.{lists_same}
use Rattle.cdl_walk.specs.declared.walked.Content.{Content}
use Rattle.cdl_walk.specs.declared.walked.Content.TheVariants.{Block, Elementary}
use Rattle.cdl_walk.specs.Events.{same_steps}
use Rattle.cdl_walk.specs.Stations.{the_root}
use Rattle.cdl_walk.specs.Texts.{path_text}
use Rattle.cdl_walk.specs.Instances.{IsThing, instances_in, elements_in}
use Rattle.cdl_model.specs.Names.{ElementName}
use Rattle.cdl_model.specs.Parts.{Unfolding, AreParts, by_instance}
use Rattle.cdl_model.specs.Networks.{network, paths, names, content_at, point_at, meaning_of, is_direct, is_input}
use Rattle.cdl_model.specs.Apart.{AreApart, AreWires, IsUnfolded}
use Rattle.cdl_model.specs.NetOf.{NetOf, instance_number, element_number, name_text}
use Rattle.cdl_model.proofs.Tests.{steps_yes, steps_tell, names_tell}
use Rattle.cdl_model.proofs.Rows.{late_alone}
use Rattle.cdl_model.proofs.Listed.{parts_apart}
use Rattle.cdl_model.proofs.Netting.{net_renamed, at_instance, at_element, by_path, by_name}

-- ---- one unfolding

things_same : (w : Model) (u v : Unfolding) (a : AreParts w u) (b : AreParts w v) → a.things ≡ b.things
things_same w u v a b = lists_same (IsThing w [] (the_root w)) a.things b.things a.lists b.lists

pub instances_same : (w : Model) (u v : Unfolding) → AreParts w u → AreParts w v → u.instances ≡ v.instances
instances_same w u v a b = a.instances ∙ ap instances_in (things_same w u v a b) ∙ sym b.instances

pub elements_same : (w : Model) (u v : Unfolding) → AreParts w u → AreParts w v → u.elements ≡ v.elements
elements_same w u v a b = a.elements ∙ ap (λ ts. by_instance (instances_in ts) (elements_in ts)) (things_same w u v a b) ∙ sym b.elements

-- ---- a network

pub apart_of : (w : Model) (u : Unfolding) → IsUnfolded w u → AreApart u
apart_of w u d = parts_apart w u d.names d.parts

pub closed_by : (u : Unfolding) → AreApart u → AreWires u → Closed (network u)
closed_by u a v = record {
  owner = λ x i. a.owners x i;
  parent = λ p q i e. a.parents p q i e;
  scope = λ w i. v.scope w i;
  left = λ w i. v.left w i;
  right = λ w i. v.right w i;
}

pub shaped_by : (u : Unfolding) → AreApart u → AreWires u → Shaped (network u)
shaped_by u a v = record { instances = steps_tell; elements = names_tell; apart = a.elements; composite = λ w i. v.composite w i }

pub model_closed : (w : Model) (u : Unfolding) → IsUnfolded w u → Closed (network u)
model_closed w u d = closed_by u (apart_of w u d) d.wires

pub model_shaped : (w : Model) (u : Unfolding) → IsUnfolded w u → Shaped (network u)
model_shaped w u d = shaped_by u (apart_of w u d) d.wires

-- words that are the same at all direct inputs are the same where all are direct
same_all : {E : Type 0} (f : E → Bool) (es : List E) (xs ys : List ℤ) → ((x : E) → In x es → f x ≡ true) → SameWhere (map f es) xs ys → xs ≡ ys
same_all f [] [] [] g h = refl
same_all f [] [] (y ∷ ys) g h = absurd h
same_all f [] (x ∷ xs) ys g h = absurd h
same_all f (e ∷ es) [] ys g h = absurd h
same_all f (e ∷ es) (x ∷ xs) [] g h = absurd h
same_all f (e ∷ es) (x ∷ xs) (y ∷ ys) g h =
    let one : x ≡ y = h.0 (g e (inl refl)) in
    let more : xs ≡ ys = same_all f es xs ys (λ z i. g z (inr i)) h.1 in
    ap (λ z. z ∷ xs) one ∙ ap (λ (zs : List ℤ). y ∷ zs) more

direct_meaning : (o : Option Content) (h : History) (now : ℤ) (xs ys : List ℤ) → (is_direct o ≡ true → xs ≡ ys) → meaning_of o h now xs ≡ meaning_of o h now ys
direct_meaning None h now xs ys f = refl
direct_meaning (Some (Block c)) h now xs ys f = refl
direct_meaning (Some (Elementary k v)) h now xs ys f = by_bool (row k).direct (λ d. ap (meaning k v h now) (f d)) (λ d. late_alone k v h now xs ys d)

input_path : (u : Unfolding) (p : List Step) (x : ElementName) → In x (inputs_of (network u) p) → x.path ≡ p
input_path u p x i =
    let t = kept_true (λ (y : ElementName). same_steps y.path p && is_input (point_at u.elements y)) x (names u.elements) i in
    steps_yes x.path p (and_parts (same_steps x.path p) (is_input (point_at u.elements x)) t).0

pub model_direct : (u : Unfolding) → DirectOnly (network u)
model_direct u = record {
  same = λ p h now xs ys m e s. direct_meaning (content_at u.instances p) h now xs ys
      (λ d. same_all (λ (x : ElementName). is_direct (content_at u.instances x.path)) (inputs_of (network u) p) xs ys
      (λ x i. ap (λ q. is_direct (content_at u.instances q)) (input_path u p x i) ∙ d) s);
}

-- ---- the net

pub unfolded_renamed : (w : Model) (u : Unfolding) (n : Net) → IsUnfolded w u → NetOf u n → Renamed (instance_number u.instances) (element_number u.elements) (network u) (network_of n)
unfolded_renamed w u n d r = net_renamed u n (apart_of w u d) r

pub path_is : (w : Model) (u : Unfolding) (n : Net) (p : List Step) → IsUnfolded w u → NetOf u n → In p (paths u.instances) → path_of n (instance_number u.instances p) ≡ path_text p
path_is w u n p d r i = by_path u n (apart_of w u d) r (λ q. path_of n (instance_number u.instances q) ≡ path_text q) (λ s j. ap path_in (at_instance u n (apart_of w u d) r s j)) p i

pub name_is : (w : Model) (u : Unfolding) (n : Net) (x : ElementName) → IsUnfolded w u → NetOf u n → In x (names u.elements) → (element n (element_number u.elements x)).name ≡ name_text x
name_is w u n x d r i = by_name u n (apart_of w u d) r (λ y. (element n (element_number u.elements y)).name ≡ name_text y) (λ y j. ap (λ (z : NetElement). z.name) (at_element u n (apart_of w u d) r y j)) x i

-- sources and sinks under other names
some_same : {I J : Type 0} (a : I → J) (f : I → I → Bool) (g : J → J → Bool) (s : I) (o : Option I) → ((p : I) → o ≡ Some p → g (a p) (a s) ≡ f p s) → is_some_same g (a s) (option_map a o) ≡ is_some_same f s o
some_same a f g s None h = refl
some_same a f g s (Some p) h = h p refl

inner_same : {I E J F : Type 0} (a : I → J) (b : E → F) (m : Network I E) (n : Network J F) (s : I) (x : E) → Closed m → Renamed a b m n → In s m.instances → In x m.elements → is_inner n (a s) (b x) ≡ is_inner m s x
inner_same a b m n s x c r i e =
    let o = c.owner x e in
    rw (r.owner x e, r.parent (m.owner x) o) (some_same a m.same_instance n.same_instance s (m.parent (m.owner x)) (λ p q. r.same_instance p s (c.parent (m.owner x) p o q) i))

pub source_same : {I E J F : Type 0} (a : I → J) (b : E → F) (m : Network I E) (n : Network J F) (s : I) (x : E) → Closed m → Renamed a b m n → In s m.instances → In x m.elements → is_source n (a s) (b x) ≡ is_source m s x
source_same a b m n s x c r i e =
    let p = own_same a b m n s x c r i e in
    let q = inner_same a b m n s x c r i e in
    rw (r.input x e, p, q) refl

pub sink_same : {I E J F : Type 0} (a : I → J) (b : E → F) (m : Network I E) (n : Network J F) (s : I) (x : E) → Closed m → Renamed a b m n → In s m.instances → In x m.elements → is_sink n (a s) (b x) ≡ is_sink m s x
sink_same a b m n s x c r i e =
    let p = own_same a b m n s x c r i e in
    let q = inner_same a b m n s x c r i e in
    rw (r.input x e, p, q) refl
