-- Loops, and the first broken rule, under other names.
use Rattle.std.proofs.Common.{ℕ, zero, suc, ◌≡◌, refl, sym, ap, ◌∙◌, subst, Option, Some, None}
use Rattle.std.specs.Prelude.{option_map}
use Rattle.cdl_network.specs.Closed.{Closed}
use Rattle.cdl_network.specs.Dependence.{Determines, FirstLoop, From, HasLoop, HasOrigin, OnLoop, Origin, Out, Reads, Row, Walk, direct_of}
use Rattle.cdl_network.specs.FirstBroken.{AtElement, AtInstance, AtWire, FirstBroken, Spot}
use Rattle.cdl_network.specs.Lists.{In}
use Rattle.cdl_network.specs.Network.{Network}
use Rattle.cdl_network.specs.Renamed.{Renamed, rename_origin, rename_spot, rename_wire}
use Rattle.cdl_network.specs.Rules.{first_element, first_wire}
use Rattle.cdl_network.proofs.Rules.{first_wire_same, first_element_same, rename_found}
use Rattle.cdl_network.proofs.Inside.{in_slice, origin_inside, reads_inside}
use Rattle.cdl_network.proofs.Renaming.{direct_same, there, back_in, origin_there, origin_back, slice_map, of_slice_map, of_option_map}

pub reads_there : {I E J F : Type 0} (a : I → J) (b : E → F) (m : Network I E) (n : Network J F) (x : E) (c : Origin I E) (s : E) → Closed m → Renamed a b m n → HasOrigin m x c → Reads m c s → Reads n (rename_origin a b c) (b s)
reads_there a b m n x (Row k) s c r o q = q
reads_there a b m n x (From t) s c r o q = ap b q
reads_there a b m n x (Out i k) s c r o q = there b (direct_of m i) (direct_of n (a i)) s (direct_same a b m n i c r o.0) q

pub reads_back : {I E J F : Type 0} (a : I → J) (b : E → F) (m : Network I E) (n : Network J F) (x : E) (c : Origin I E) (z : F) → Closed m → Renamed a b m n → HasOrigin m x c → Reads n (rename_origin a b c) z → (s : E) × Reads m c s × (z ≡ b s)
reads_back a b m n x (Row k) z c r o q = absurd q
reads_back a b m n x (From t) z c r o q = (t, refl, q)
reads_back a b m n x (Out i k) z c r o q = back_in b (direct_of m i) (direct_of n (a i)) z (direct_same a b m n i c r o.0) q

pub determines_there : {I E J F : Type 0} (a : I → J) (b : E → F) (m : Network I E) (n : Network J F) (s x : E) → Closed m → Renamed a b m n → Determines m s x → Determines n (b s) (b x)
determines_there a b m n s x c r d = (rename_origin a b d.0, origin_there a b m n x d.0 c r d.1, reads_there a b m n x d.0 s c r d.1 d.2)

pub determines_back : {I E J F : Type 0} (a : I → J) (b : E → F) (m : Network I E) (n : Network J F) (z y : F) → Closed m → Renamed a b m n → Determines n z y → (s x : E) × (z ≡ b s) × (y ≡ b x) × In s m.elements × In x m.elements × Determines m s x
determines_back a b m n z y c r d =
    let p = origin_back a b m n y d.0 c r d.1 in
    let q = reads_back a b m n p.0 p.1 z c r p.4 (subst (λ o. Reads n o z) p.3 d.2) in
    (q.0, p.0, q.2, p.2, reads_inside m p.0 p.1 q.0 c p.4 q.1, origin_inside m p.0 p.1 c p.4, (p.1, p.4, q.1))

pub walk_there : {I E J F : Type 0} (a : I → J) (b : E → F) (m : Network I E) (n : Network J F) (x y : E) (k : ℕ) → Closed m → Renamed a b m n → Walk m x y k → Walk n (b x) (b y) k
walk_there a b m n x y zero c r w = ap b w
walk_there a b m n x y (suc k) c r w = (b w.0, walk_there a b m n x w.0 k c r w.1, determines_there a b m n w.0 y c r w.2)

walk_back : {I E J F : Type 0} (a : I → J) (b : E → F) (m : Network I E) (n : Network J F) (x : E) (z : F) (k : ℕ) → Closed m → Renamed a b m n → In x m.elements → Walk n (b x) z k → (y : E) × In y m.elements × (z ≡ b y) × Walk m x y k
walk_back a b m n x z zero c r i w = (x, i, sym w, refl)
walk_back a b m n x z (suc k) c r i w =
    let p = walk_back a b m n x w.0 k c r i w.1 in
    let q = determines_back a b m n w.0 z c r w.2 in
    let e : q.0 ≡ p.0 = r.apart_elements q.0 p.0 q.4 p.1 (sym q.2 ∙ p.2) in
    (q.1, q.5, q.3, (p.0, p.3, subst (λ s. Determines m s q.1) e q.6))

pub loop_there : {I E J F : Type 0} (a : I → J) (b : E → F) (m : Network I E) (n : Network J F) (x : E) → Closed m → Renamed a b m n → OnLoop m x → OnLoop n (b x)
loop_there a b m n x c r l = (l.0, walk_there a b m n x x (suc l.0) c r l.1)

pub loop_back : {I E J F : Type 0} (a : I → J) (b : E → F) (m : Network I E) (n : Network J F) (x : E) → Closed m → Renamed a b m n → In x m.elements → OnLoop n (b x) → OnLoop m x
loop_back a b m n x c r i l =
    let p = walk_back a b m n x (b x) (suc l.0) c r i l.1 in
    let e : p.0 ≡ x = r.apart_elements p.0 x p.1 i (sym p.2) in
    (l.0, subst (λ y. Walk m x y (suc l.0)) e p.3)

pub has_loop_there : {I E J F : Type 0} (a : I → J) (b : E → F) (m : Network I E) (n : Network J F) (i : I) → Closed m → Renamed a b m n → HasLoop m i → HasLoop n (a i)
has_loop_there a b m n i c r h = (b h.0, there b m.elements n.elements h.0 r.elements h.1, r.owner h.0 h.1 ∙ ap a h.2, loop_there a b m n h.0 c r h.3)

pub has_loop_back : {I E J F : Type 0} (a : I → J) (b : E → F) (m : Network I E) (n : Network J F) (i : I) → Closed m → Renamed a b m n → In i m.instances → HasLoop n (a i) → HasLoop m i
has_loop_back a b m n i c r z h =
    let p = back_in b m.elements n.elements h.0 r.elements h.1 in
    let e : m.owner p.0 ≡ i = r.apart_instances (m.owner p.0) i (c.owner p.0 p.1) z (sym (r.owner p.0 p.1) ∙ ap n.owner (sym p.2) ∙ h.2) in
    (p.0, p.1, e, loop_back a b m n p.0 c r p.1 (subst (λ y. OnLoop n y) p.2 h.3))

pub first_loop_there : {I E J F : Type 0} (a : I → J) (b : E → F) (m : Network I E) (n : Network J F) (i : I) → Closed m → Renamed a b m n → FirstLoop m i → FirstLoop n (a i)
first_loop_there a b m n i c r f = (
  f.0,
  slice_map a m.instances n.instances f.0 i r.instances f.1,
  has_loop_there a b m n i c r f.2,
  λ j l lt e h. let p = of_slice_map a m.instances n.instances j l r.instances e in
      f.3 j p.0 lt p.1 (has_loop_back a b m n p.0 c r (in_slice m.instances j p.0 p.1) (subst (λ y. HasLoop n y) p.2 h)),
)

pub first_loop_back : {I E J F : Type 0} (a : I → J) (b : E → F) (m : Network I E) (n : Network J F) (z : J) → Closed m → Renamed a b m n → FirstLoop n z → (i : I) × (z ≡ a i) × FirstLoop m i
first_loop_back a b m n z c r f =
    let p = of_slice_map a m.instances n.instances f.0 z r.instances f.1 in (
      p.0,
      p.2,
      (
        f.0,
        p.1,
        has_loop_back a b m n p.0 c r (in_slice m.instances f.0 p.0 p.1) (subst (λ y. HasLoop n y) p.2 f.2),
        λ j l lt e h. f.3 j (a l) lt (slice_map a m.instances n.instances j l r.instances e) (has_loop_there a b m n l c r h),
      ),
    )

-- the first broken rule
none_there : {A B : Type 0} (h : A → B) (o : Option A) (p : Option B) → p ≡ option_map h o → o ≡ None → p ≡ None
none_there h o p e f = e ∙ ap (option_map h) f

none_back : {A B : Type 0} (h : A → B) (o : Option A) (p : Option B) → p ≡ option_map h o → p ≡ None → o ≡ None
none_back h None p e f = refl
none_back h (Some x) p e f = absurd (cc)

pub broken_there : {I E J F : Type 0} (a : I → J) (b : E → F) (m : Network I E) (n : Network J F) (p : Spot I E) → Closed m → Renamed a b m n → FirstBroken m p → FirstBroken n (rename_spot a b p)
broken_there a b m n (AtWire w k) c r f = first_wire_same a b m n c r ∙ ap (option_map (rename_found (rename_wire a b))) f
broken_there a b m n (AtElement x k) c r f = (
  none_there (rename_found (rename_wire a b)) (first_wire m) (first_wire n) (first_wire_same a b m n c r) f.0,
  first_element_same a b m n c r ∙ ap (option_map (rename_found b)) f.1,
)
broken_there a b m n (AtInstance i) c r f = (
  none_there (rename_found (rename_wire a b)) (first_wire m) (first_wire n) (first_wire_same a b m n c r) f.0,
  none_there (rename_found b) (first_element m) (first_element n) (first_element_same a b m n c r) f.1,
  first_loop_there a b m n i c r f.2,
)

pub broken_back : {I E J F : Type 0} (a : I → J) (b : E → F) (m : Network I E) (n : Network J F) (q : Spot J F) → Closed m → Renamed a b m n → FirstBroken n q → (p : Spot I E) × (q ≡ rename_spot a b p) × FirstBroken m p
broken_back a b m n (AtWire w k) c r f =
    let p = of_option_map (rename_found (rename_wire a b)) (first_wire m) (w, k) (sym (first_wire_same a b m n c r) ∙ f) in
    (AtWire p.0.0 p.0.1, ap (λ z. AtWire z.0 z.1) p.2, p.1)
broken_back a b m n (AtElement x k) c r f =
    let p = of_option_map (rename_found b) (first_element m) (x, k) (sym (first_element_same a b m n c r) ∙ f.1) in (
      AtElement p.0.0 p.0.1,
      ap (λ z. AtElement z.0 z.1) p.2,
      (none_back (rename_found (rename_wire a b)) (first_wire m) (first_wire n) (first_wire_same a b m n c r) f.0, p.1),
    )
broken_back a b m n (AtInstance i) c r f =
    let p = first_loop_back a b m n i c r f.2 in (
      AtInstance p.0,
      ap AtInstance p.1,
      (
        none_back (rename_found (rename_wire a b)) (first_wire m) (first_wire n) (first_wire_same a b m n c r) f.0,
        none_back (rename_found b) (first_element m) (first_element n) (first_element_same a b m n c r) f.1,
        p.2,
      ),
    )
