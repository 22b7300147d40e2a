-- The rules under other names.
use Rattle.std.proofs.Common.{ℕ, ◌+◌, ◌≡◌, refl, ap, ◌∙◌, length, filter, Bool, true, false, cond, inl, inr, List, [], ◌∷◌, map, Option, Some, None}
use Rattle.std.specs.Prelude.{option_map, sum}
use Rattle.std.proofs.lemmas.List.{length-map}
use Rattle.cdl_network.specs.Closed.{Closed}
use Rattle.cdl_network.specs.Lists.{In, count, first_of, found, has_some}
use Rattle.cdl_network.specs.Network.{Network, Wire}
use Rattle.cdl_network.specs.Renamed.{Renamed, rename_wire}
use Rattle.cdl_network.specs.Rules.{arrivals, element_fault, fault_by, first_element, first_wire, goes, is_inner, is_own, is_sink, is_some_same, is_source, is_wanted, sink_of, source_of, wire_fault, word_count}
use Rattle.cdl_network.proofs.Inside.{sink_inside}

some_same : {I J : Type 0} (a : I → J) (f : I → I → Bool) (g : J → J → Bool) (s : I) (o : Option I) → ((p : I) → o ≡ Some p → g (a p) (a s) ≡ f p s) → is_some_same g (a s) (option_map a o) ≡ is_some_same f s o
some_same a f g s None h = refl
some_same a f g s (Some p) h = h p refl

pub some_map : {I J : Type 0} (a : I → J) (o : Option I) → has_some (option_map a o) ≡ has_some o
some_map a None = refl
some_map a (Some p) = refl

pub own_same : {I E J F : Type 0} (a : I → J) (b : E → F) (m : Network I E) (n : Network J F) (s : I) (x : E) → Closed m → Renamed a b m n → In s m.instances → In x m.elements → is_own n (a s) (b x) ≡ is_own m s x
own_same a b m n s x c r i e = ap (λ o. n.same_instance o (a s)) (r.owner x e) ∙ r.same_instance (m.owner x) s (c.owner x e) i

inner_same : {I E J F : Type 0} (a : I → J) (b : E → F) (m : Network I E) (n : Network J F) (s : I) (x : E) → Closed m → Renamed a b m n → In s m.instances → In x m.elements → is_inner n (a s) (b x) ≡ is_inner m s x
inner_same a b m n s x c r i e =
    let o = c.owner x e in
    rw (r.owner x e, r.parent (m.owner x) o) (some_same a m.same_instance n.same_instance s (m.parent (m.owner x)) (λ p q. r.same_instance p s (c.parent (m.owner x) p o q) i))

source_same : {I E J F : Type 0} (a : I → J) (b : E → F) (m : Network I E) (n : Network J F) (s : I) (x : E) → Closed m → Renamed a b m n → In s m.instances → In x m.elements → is_source n (a s) (b x) ≡ is_source m s x
source_same a b m n s x c r i e =
    let p = own_same a b m n s x c r i e in
    let q = inner_same a b m n s x c r i e in
    rw (r.input x e, p, q) refl

sink_same : {I E J F : Type 0} (a : I → J) (b : E → F) (m : Network I E) (n : Network J F) (s : I) (x : E) → Closed m → Renamed a b m n → In s m.instances → In x m.elements → is_sink n (a s) (b x) ≡ is_sink m s x
sink_same a b m n s x c r i e =
    let p = own_same a b m n s x c r i e in
    let q = inner_same a b m n s x c r i e in
    rw (r.input x e, p, q) refl

goes_same : {I E J F : Type 0} (a : I → J) (b : E → F) (m : Network I E) (n : Network J F) (s : I) (x y : E) → Closed m → Renamed a b m n → In s m.instances → In x m.elements → In y m.elements → goes n (a s) (b x) (b y) ≡ goes m s x y
goes_same a b m n s x y c r i e f =
    let p = source_same a b m n s x c r i e in
    let q = sink_same a b m n s y c r i f in
    rw (p, q) refl

cond_map : {E F : Type 0} (b : E → F) (t : Bool) (x y : E) → cond t (b x) (b y) ≡ b (cond t x y)
cond_map b true x y = refl
cond_map b false x y = refl

pub source_renamed : {I E J F : Type 0} (a : I → J) (b : E → F) (m : Network I E) (n : Network J F) (w : Wire I E) → Closed m → Renamed a b m n → In w m.wires → source_of n (rename_wire a b w) ≡ b (source_of m w)
source_renamed a b m n w c r i =
    let p = goes_same a b m n w.scope w.left w.right c r (c.scope w i) (c.left w i) (c.right w i) in
    rw p (cond_map b (goes m w.scope w.left w.right) w.left w.right)

pub sink_renamed : {I E J F : Type 0} (a : I → J) (b : E → F) (m : Network I E) (n : Network J F) (w : Wire I E) → Closed m → Renamed a b m n → In w m.wires → sink_of n (rename_wire a b w) ≡ b (sink_of m w)
sink_renamed a b m n w c r i =
    let p = goes_same a b m n w.scope w.left w.right c r (c.scope w i) (c.left w i) (c.right w i) in
    rw p (cond_map b (goes m w.scope w.left w.right) w.right w.left)

pub wire_same : {I E J F : Type 0} (a : I → J) (b : E → F) (m : Network I E) (n : Network J F) (w : Wire I E) → Closed m → Renamed a b m n → In w m.wires → wire_fault n (rename_wire a b w) ≡ wire_fault m w
wire_same a b m n w c r i =
    let p = goes_same a b m n w.scope w.left w.right c r (c.scope w i) (c.left w i) (c.right w i) in
    let q = goes_same a b m n w.scope w.right w.left c r (c.scope w i) (c.right w i) (c.left w i) in
    rw (p, q, r.value_type w.left (c.left w i), r.value_type w.right (c.right w i), r.unit w.left (c.left w i), r.unit w.right (c.right w i)) refl

abbrev pub rename_found : {A B F : Type 0} → (A → B) → A × F → B × F
rename_found h p = (h p.0, p.1)

found_map : {A B F : Type 0} (h : A → B) (x : A) (o : Option F) (l : Option (A × F)) → found (h x) o (option_map (rename_found h) l) ≡ option_map (rename_found h) (found x o l)
found_map h x None l = refl
found_map h x (Some r) l = refl

pub first_map : {A B F : Type 0} (h : A → B) (f : A → Option F) (g : B → Option F) (xs : List A) → ((x : A) → In x xs → g (h x) ≡ f x) → first_of g (map h xs) ≡ option_map (rename_found h) (first_of f xs)
first_map h f g [] e = refl
first_map h f g (x ∷ xs) e =
    let p = e x (inl refl) in
    let q = first_map h f g xs (λ y i. e y (inr i)) in
    rw (p, q) (found_map h x (f x) (first_of f xs))

pub count_map : {A B : Type 0} (h : A → B) (f : A → Bool) (g : B → Bool) (xs : List A) → ((x : A) → In x xs → g (h x) ≡ f x) → count g (map h xs) ≡ count f xs
count_map h f g [] e = refl
count_map h f g (x ∷ xs) e =
    let p = e x (inl refl) in
    let q = count_map h f g xs (λ y i. e y (inr i)) in
    rw (p, q) refl

pub arrivals_same : {I E J F : Type 0} (a : I → J) (b : E → F) (m : Network I E) (n : Network J F) (x : E) → Closed m → Renamed a b m n → In x m.elements → arrivals n (b x) ≡ arrivals m x
arrivals_same a b m n x c r i =
    ap (count (λ w. n.same_element (sink_of n w) (b x))) r.wires
    ∙ count_map (rename_wire a b) (λ w. m.same_element (sink_of m w) x) (λ w. n.same_element (sink_of n w) (b x)) m.wires
    (λ w j. ap (λ y. n.same_element y (b x)) (sink_renamed a b m n w c r j) ∙ r.same_element (sink_of m w) x (sink_inside m w c j) i)

pub wanted_same : {I E J F : Type 0} (a : I → J) (b : E → F) (m : Network I E) (n : Network J F) (x : E) → Closed m → Renamed a b m n → In x m.elements → is_wanted n (b x) ≡ is_wanted m x
wanted_same a b m n x c r i =
    let o = c.owner x i in
    rw (r.input x i, r.owner x i, r.parent (m.owner x) o, r.elementary (m.owner x) o, some_map a (m.parent (m.owner x))) refl

pub element_same : {I E J F : Type 0} (a : I → J) (b : E → F) (m : Network I E) (n : Network J F) (x : E) → Closed m → Renamed a b m n → In x m.elements → element_fault n (b x) ≡ element_fault m x
element_same a b m n x c r i =
    let p = wanted_same a b m n x c r i in
    let q = arrivals_same a b m n x c r i in
    ap (λ t. fault_by t (arrivals n (b x))) p ∙ ap (fault_by (is_wanted m x)) q

-- the first broken rules
pub first_wire_same : {I E J F : Type 0} (a : I → J) (b : E → F) (m : Network I E) (n : Network J F) → Closed m → Renamed a b m n → first_wire n ≡ option_map (rename_found (rename_wire a b)) (first_wire m)
first_wire_same a b m n c r = ap (first_of (wire_fault n)) r.wires ∙ first_map (rename_wire a b) (wire_fault m) (wire_fault n) m.wires (λ w i. wire_same a b m n w c r i)

pub first_element_same : {I E J F : Type 0} (a : I → J) (b : E → F) (m : Network I E) (n : Network J F) → Closed m → Renamed a b m n → first_element n ≡ option_map (rename_found b) (first_element m)
first_element_same a b m n c r = ap (first_of (element_fault n)) r.elements ∙ first_map b (element_fault m) (element_fault n) m.elements (λ x i. element_same a b m n x c r i)

-- the number of words
kept_map : {I J : Type 0} (a : I → J) (f : I → Bool) (g : J → Bool) (s : I → ℕ) (u : J → ℕ) (xs : List I) → ((i : I) → In i xs → g (a i) ≡ f i) → ((i : I) → In i xs → f i ≡ true → u (a i) ≡ s i) → map u (filter g (map a xs)) ≡ map s (filter f xs)
kept_map a f g s u [] e h = refl
kept_map a f g s u (x ∷ xs) e h =
    let p = e x (inl refl) in
    let q = kept_map a f g s u xs (λ i m. e i (inr m)) (λ i m t. h i (inr m) t) in
    ap (λ b. map u (cond b (a x ∷ filter g (map a xs)) (filter g (map a xs)))) p ∙ at (f x) refl q
  where
    at : (b : Bool) → f x ≡ b → map u (filter g (map a xs)) ≡ map s (filter f xs) → map u (cond b (a x ∷ filter g (map a xs)) (filter g (map a xs))) ≡ map s (cond b (x ∷ filter f xs) (filter f xs))
    at true t q = ap (λ y. y ∷ map u (filter g (map a xs))) (h x (inl refl) t) ∙ ap (λ l. s x ∷ l) q
    at false t q = q

pub words_same : {I E J F : Type 0} (a : I → J) (b : E → F) (m : Network I E) (n : Network J F) → Renamed a b m n → word_count n ≡ word_count m
words_same a b m n r =
    let e : length n.elements ≡ length m.elements = ap length r.elements ∙ length-map m.elements b in
    let w : sum (map n.state_words (filter n.elementary n.instances)) ≡ sum (map m.state_words (filter m.elementary m.instances)) =
    ap (λ l. sum (map n.state_words (filter n.elementary l))) r.instances
    ∙ ap sum (kept_map a m.elementary n.elementary m.state_words n.state_words m.instances r.elementary r.state_words) in
    ap (λ k. k + sum (map n.state_words (filter n.elementary n.instances))) e ∙ ap (λ k. length m.elements + k) w
