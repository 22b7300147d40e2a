-- A network that is well formed and planned under some names is so under others.
use Rattle.std.proofs.Common.{ℕ, ◌≡◌, ◌==◌, refl, sym, ap, ◌∙◌, subst, inl, inr, List, [], ◌∷◌, map}
use Rattle.cdl_network.specs.Closed.{Closed, Shaped}
use Rattle.cdl_network.specs.Dependence.{From, HasOrigin, Origin, Out, Row, inputs_of}
use Rattle.cdl_network.specs.Lists.{Apart, In, Tells}
use Rattle.cdl_network.specs.Network.{Network, Wire}
use Rattle.cdl_network.specs.Planned.{Planned, SameWhere}
use Rattle.cdl_network.specs.Renamed.{Renamed, rename_origin, rename_wire}
use Rattle.cdl_network.proofs.Inside.{inputs_inside, origin_inside, reads_inside}
use Rattle.std.proofs.lemmas.Bool.{eqb-true, eq-eqb}
use Rattle.cdl_network.proofs.Renaming.{inputs_same, of_map, back_in, of_option_map, there, origin_there, origin_back}
use Rattle.cdl_network.proofs.Looping.{walk_there}

same_origin : {I E J F : Type 0} (a : I → J) (b : E → F) (m : Network I E) (n : Network J F) (x : E) (c d : Origin I E) → Closed m → Renamed a b m n → HasOrigin m x c → HasOrigin m x d → rename_origin a b c ≡ rename_origin a b d → c ≡ d
same_origin a b m n x (Row k) (Row l) z r o p e = cc
same_origin a b m n x (Row k) (From t) z r o p e = absurd (cc)
same_origin a b m n x (Row k) (Out j l) z r o p e = absurd (cc)
same_origin a b m n x (From s) (Row l) z r o p e = absurd (cc)
same_origin a b m n x (From s) (From t) z r o p e =
    let h : b s ≡ b t = cc in
    ap From (r.apart_elements s t (reads_inside m x (From s) s z o refl) (reads_inside m x (From t) t z p refl) h)
same_origin a b m n x (From s) (Out j l) z r o p e = absurd (cc)
same_origin a b m n x (Out i k) (Row l) z r o p e = absurd (cc)
same_origin a b m n x (Out i k) (From t) z r o p e = absurd (cc)
same_origin a b m n x (Out i k) (Out j l) z r o p e =
    let h : a i ≡ a j = cc in
    let g : k ≡ l = cc in
    let q : i ≡ j = r.apart_instances i j o.0 p.0 h in
    ap (λ u. Out u k) q ∙ ap (λ u. Out j u) g

map_direct : {I E J F : Type 0} (a : I → J) (b : E → F) (m : Network I E) (n : Network J F) (xs : List E) → Renamed a b m n → ((x : E) → In x xs → In x m.elements) → map n.direct (map b xs) ≡ map m.direct xs
map_direct a b m n [] r f = refl
map_direct a b m n (x ∷ xs) r f =
    let h = r.direct x (f x (inl refl)) in
    let t = map_direct a b m n xs r (λ y i. f y (inr i)) in
    rw (h, t) refl

pub planned_back : {I E J F : Type 0} (a : I → J) (b : E → F) (m : Network I E) (n : Network J F) (top : ℕ) → Closed m → Renamed a b m n → Planned n top → Planned m top
planned_back a b m n top c r p = record {
  each = λ x i.
      let o = p.each (b x) (there b m.elements n.elements x r.elements i) in
      let q = origin_back a b m n (b x) o.0 c r o.1 in
      let e = r.apart_elements q.0 x (origin_inside m q.0 q.1 c q.4) i (sym q.2) in
      (q.1, subst (λ y. HasOrigin m y q.1) e q.4);
  only = λ x o q h g. same_origin a b m n x o q c r h g (p.only (b x) (rename_origin a b o) (rename_origin a b q) (origin_there a b m n x o c r h) (origin_there a b m n x q c r g));
  direct = record {
    same = λ i h now xs ys z e f.
        let flags : map n.direct (inputs_of n (a i)) ≡ map m.direct (inputs_of m i) = ap (map n.direct) (inputs_same a b m n i c r z) ∙ map_direct a b m n (inputs_of m i) r (λ x j. inputs_inside m i x j) in
        let g = p.direct.same (a i) h now xs ys (there a m.instances n.instances i r.instances z) (r.elementary i z ∙ e) (subst (λ l. SameWhere l xs ys) (sym flags) f) in
        sym (ap (λ y. y h now xs) (r.meaning i z e)) ∙ g ∙ ap (λ y. y h now ys) (r.meaning i z e);
  };
  short = λ x y w. p.short (b x) (b y) (walk_there a b m n x y top c r w);
}

-- what is named is there, under the other names too
pub closed_there : {I E J F : Type 0} (a : I → J) (b : E → F) (m : Network I E) (n : Network J F) → Closed m → Renamed a b m n → Closed n
closed_there {I} {E} {J} {F} a b m n c r = record {
  owner = λ y i.
      let p = back_in b m.elements n.elements y r.elements i in
      subst (λ j. In j n.instances) (sym (ap n.owner p.2 ∙ r.owner p.0 p.1)) (there a m.instances n.instances (m.owner p.0) r.instances (c.owner p.0 p.1));
  parent = λ j q i e.
      let p = back_in a m.instances n.instances j r.instances i in
      let o = of_option_map a (m.parent p.0) q (sym (r.parent p.0 p.1) ∙ ap n.parent (sym p.2) ∙ e) in
      subst (λ z. In z n.instances) (sym o.2) (there a m.instances n.instances o.0 r.instances (c.parent p.0 o.0 p.1 o.1));
  scope = λ w i.
      let p = back_in (rename_wire a b) m.wires n.wires w r.wires i in
      subst (λ z. In z n.instances) (sym (ap (λ (u : Wire J F). u.scope) p.2)) (there a m.instances n.instances p.0.scope r.instances (c.scope p.0 p.1));
  left = λ w i.
      let p = back_in (rename_wire a b) m.wires n.wires w r.wires i in
      subst (λ z. In z n.elements) (sym (ap (λ (u : Wire J F). u.left) p.2)) (there b m.elements n.elements p.0.left r.elements (c.left p.0 p.1));
  right = λ w i.
      let p = back_in (rename_wire a b) m.wires n.wires w r.wires i in
      subst (λ z. In z n.elements) (sym (ap (λ (u : Wire J F). u.right) p.2)) (there b m.elements n.elements p.0.right r.elements (c.right p.0 p.1));
}

pub shaped_there : {I E J F : Type 0} (a : I → J) (b : E → F) (m : Network I E) (n : Network J F) → Closed m → Shaped m → Renamed a b m n → Tells n.same_instance → Tells n.same_element → Shaped n
shaped_there {I} {E} {J} {F} a b m n c z r t u = record {
  instances = t;
  elements = u;
  apart = subst (λ l. Apart l) (sym r.elements) (apart_map b m.elements (λ x y i j e. r.apart_elements x y i j e) z.apart);
  composite = λ w i.
      let p = back_in (rename_wire a b) m.wires n.wires w r.wires i in
      ap (λ (v : Wire J F). n.elementary v.scope) p.2 ∙ r.elementary p.0.scope (c.scope p.0 p.1) ∙ z.composite p.0 p.1;
}
  where
    apart_map : {A B : Type 0} (h : A → B) (xs : List A) → ((x y : A) → In x xs → In y xs → h x ≡ h y → x ≡ y) → Apart xs → Apart (map h xs)
    apart_map h [] f s = tt
    apart_map h (x ∷ xs) f s = (
      λ i. let p = of_map h (h x) xs i in s.0 (subst (λ v. In v xs) (sym (f x p.0 (inl refl) (inr p.1) p.2)) p.1),
      apart_map h xs (λ v w i j e. f v w (inr i) (inr j) e) s.1,
    )

pub numbers_tell : Tells (λ (i j : ℕ). i == j)
numbers_tell = record { yes = λ x y h. eqb-true x y h; self = λ x. eq-eqb x x refl }
