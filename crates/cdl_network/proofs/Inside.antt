-- What has an origin, and what an origin reads, is an element.
use Rattle.std.proofs.Common.{ℕ, zero, suc, ◌≡◌, ◌⊎◌, ◌&&◌, sym, ap, ◌∙◌, subst, Bool, true, false, cond, not, inl, inr, List, [], ◌∷◌, filter, Some, slice_get}
use Rattle.cdl_source.proofs.Cases.{by_bool}
use Rattle.std.proofs.lemmas.Bool.{and_parts}
use Rattle.cdl_network.specs.Closed.{Closed}
use Rattle.cdl_network.specs.Dependence.{From, HasOrigin, Origin, Out, Reads, Row, direct_of, inputs_of, is_of, is_root_input, outputs_of}
use Rattle.cdl_network.specs.Lists.{In}
use Rattle.cdl_network.specs.Network.{Network, Wire}
use Rattle.cdl_network.specs.Rules.{goes, sink_of, source_of}

pub in_slice : {A : Type 0} (xs : List A) (k : ℕ) (x : A) → slice_get xs k ≡ Some x → In x xs
in_slice [] k x e = absurd (cc)
in_slice (y ∷ ys) zero x e = inl (cc)
in_slice (y ∷ ys) (suc k) x e = inr (in_slice ys k x e)

in_kept : {A : Type 0} (t : Bool) (x y : A) (xs ys : List A) → ((z : A) → In z xs → In z ys) → In x (cond t (y ∷ xs) xs) → In x (y ∷ ys)
in_kept true x y xs ys h (inl e) = inl e
in_kept true x y xs ys h (inr i) = inr (h x i)
in_kept false x y xs ys h i = inr (h x i)

pub in_filter : {A : Type 0} (f : A → Bool) (x : A) (xs : List A) → In x (filter f xs) → In x xs
in_filter f x [] i = i
in_filter f x (y ∷ ys) i = in_kept (f y) x y (filter f ys) ys (λ z j. in_filter f z ys j) i

pub sink_inside : {I E : Type 0} (m : Network I E) (w : Wire I E) → Closed m → In w m.wires → In (sink_of m w) m.elements
sink_inside m w c i = elim (goes m w.scope w.left w.right) as (λ t. In (cond t w.right w.left) m.elements) [ true ↦ c.right w i | false ↦ c.left w i ]

pub source_inside : {I E : Type 0} (m : Network I E) (w : Wire I E) → Closed m → In w m.wires → In (source_of m w) m.elements
source_inside m w c i = elim (goes m w.scope w.left w.right) as (λ t. In (cond t w.left w.right) m.elements) [ true ↦ c.left w i | false ↦ c.right w i ]

pub inputs_inside : {I E : Type 0} (m : Network I E) (i : I) (x : E) → In x (inputs_of m i) → In x m.elements
inputs_inside m i x h = in_filter (λ y. is_of m i y && m.input y) x m.elements h

pub direct_inside : {I E : Type 0} (m : Network I E) (i : I) (x : E) → In x (direct_of m i) → In x m.elements
direct_inside m i x h = in_filter (λ y. is_of m i y && (m.input y && m.direct y)) x m.elements h

pub origin_inside : {I E : Type 0} (m : Network I E) (x : E) (c : Origin I E) → Closed m → HasOrigin m x c → In x m.elements
origin_inside m x (Row k) c o = in_filter (is_root_input m) x m.elements (in_slice _ k x o)
origin_inside m x (From s) c o = subst (λ y. In y m.elements) o.3 (sink_inside m o.0 c o.1)
origin_inside m x (Out i k) c o = in_filter (λ y. is_of m i y && not (m.input y)) x m.elements (in_slice (outputs_of m i) k x o.2)

pub reads_inside : {I E : Type 0} (m : Network I E) (x : E) (d : Origin I E) (s : E) → Closed m → HasOrigin m x d → Reads m d s → In s m.elements
reads_inside m x (Row k) s c o r = absurd r
reads_inside m x (From t) s c o r = subst (λ y. In y m.elements) (o.2 ∙ sym r) (source_inside m o.0 c o.1)
reads_inside m x (Out i k) s c o r = direct_inside m i s r

pub kept_in : {A : Type 0} (f : A → Bool) (x : A) (xs : List A) → In x xs → f x ≡ true → In x (filter f xs)
kept_in f x [] i h = i
kept_in f x (y ∷ ys) (inl e) h =
    let t : f y ≡ true = ap f (sym e) ∙ h in
    subst (λ b. In x (cond b (y ∷ filter f ys) (filter f ys))) (sym t) (inl e)
kept_in f x (y ∷ ys) (inr i) h =
    let r = kept_in f x ys i h in
    by_bool (f y)
    (λ t. subst (λ b. In x (cond b (y ∷ filter f ys) (filter f ys))) (sym t) (inr r))
    (λ t. subst (λ b. In x (cond b (y ∷ filter f ys) (filter f ys))) (sym t) r)

pub kept_true : {A : Type 0} (f : A → Bool) (x : A) (xs : List A) → In x (filter f xs) → f x ≡ true
kept_true f x [] i = absurd i
kept_true f x (y ∷ ys) i = by_bool (f y)
    (λ t. at t (subst (λ b. In x (cond b (y ∷ filter f ys) (filter f ys))) t i) (λ j. kept_true f x ys j))
    (λ t. kept_true f x ys (subst (λ b. In x (cond b (y ∷ filter f ys) (filter f ys))) t i))
  where
    at : f y ≡ true → (x ≡ y) ⊎ In x (filter f ys) → (In x (filter f ys) → f x ≡ true) → f x ≡ true
    at t (inl e) g = ap f e ∙ t
    at t (inr j) g = g j

-- an input that is direct is among the direct ones
pub picked : {I E : Type 0} (n : Network I E) (i : I) (x : E) → In x (inputs_of n i) → n.direct x ≡ true → In x (direct_of n i)
picked n i x h d =
    let t = kept_true (λ y. is_of n i y && n.input y) x n.elements h in
    let p = and_parts (is_of n i x) (n.input x) t in
    let both : (is_of n i x && (n.input x && n.direct x)) ≡ true = ap (λ b. b && (n.input x && n.direct x)) p.0 ∙ ap (λ b. b && n.direct x) p.1 ∙ d in
    kept_in (λ y. is_of n i y && (n.input y && n.direct y)) x n.elements (inputs_inside n i x h) both
