-- Solutions and loops under other names.
use Rattle.std.proofs.Common.{ℕ, ℤ, ◌≡◌, ◌&&◌, refl, sym, ap, ◌∙◌, subst, Bool, true, false, cond, not, inl, inr, List, [], ◌∷◌, map, filter, Option, Some, None, slice_get}
use Rattle.std.specs.Prelude.{option_map}
use Rattle.std.proofs.lemmas.Option.{slice_get-map}
use Rattle.cdl_network.specs.Closed.{Closed}
use Rattle.cdl_network.specs.Dependence.{From, HasOrigin, Origin, Out, Row, direct_of, inputs_of, is_of, is_root_input, outputs_of, root_inputs}
use Rattle.cdl_network.specs.Lists.{In, first_that}
use Rattle.cdl_network.specs.Network.{Network}
use Rattle.cdl_network.specs.Renamed.{Renamed, back, past_back, rename_origin, rename_wire}
use Rattle.cdl_network.specs.Rules.{sink_of, source_of}
use Rattle.cdl_network.specs.Ticks.{Goes, Meets, Seen, Solves, Tick, Valuation, answer, both, fault_of, first_fault, given, history, is_faulty, lacks, or_later, rule, seen, values, word_of, words}
use Rattle.cdl_network.proofs.Rules.{own_same, some_map, source_renamed, sink_renamed}
use Rattle.cdl_network.proofs.Solving.{and_same}

-- lists
pub in_map : {A B : Type 0} (h : A → B) (x : A) (xs : List A) → In x xs → In (h x) (map h xs)
in_map h x [] i = absurd i
in_map h x (y ∷ ys) (inl e) = inl (ap h e)
in_map h x (y ∷ ys) (inr i) = inr (in_map h x ys i)

pub of_map : {A B : Type 0} (h : A → B) (y : B) (xs : List A) → In y (map h xs) → (x : A) × In x xs × (y ≡ h x)
of_map h y [] i = absurd i
of_map h y (x ∷ xs) (inl e) = (x, inl refl, e)
of_map h y (x ∷ xs) (inr i) = let p = of_map h y xs i in (p.0, inr p.1, p.2)

pub of_option_map : {A B : Type 0} (h : A → B) (o : Option A) (y : B) → option_map h o ≡ Some y → (x : A) × (o ≡ Some x) × (y ≡ h x)
of_option_map h None y e = absurd (cc)
of_option_map h (Some x) y e = (x, refl, cc)

keep_cons : {A B : Type 0} (h : A → B) (t : Bool) (x : A) (ys : List A) → cond t (h x ∷ map h ys) (map h ys) ≡ map h (cond t (x ∷ ys) ys)
keep_cons h true x ys = refl
keep_cons h false x ys = refl

pub filter_map : {A B : Type 0} (h : A → B) (f : A → Bool) (g : B → Bool) (xs : List A) → ((x : A) → In x xs → g (h x) ≡ f x) → filter g (map h xs) ≡ map h (filter f xs)
filter_map h f g [] e = refl
filter_map h f g (x ∷ xs) e =
    let p = e x (inl refl) in
    let q = filter_map h f g xs (λ y i. e y (inr i)) in
    rw (p, q) (keep_cons h (f x) x (filter f xs))

pub slice_map : {A B : Type 0} (h : A → B) (xs : List A) (ys : List B) (k : ℕ) (x : A) → ys ≡ map h xs → slice_get xs k ≡ Some x → slice_get ys k ≡ Some (h x)
slice_map h xs ys k x e f = ap (λ l. slice_get l k) e ∙ slice_get-map h xs k ∙ ap (option_map h) f

pub of_slice_map : {A B : Type 0} (h : A → B) (xs : List A) (ys : List B) (k : ℕ) (y : B) → ys ≡ map h xs → slice_get ys k ≡ Some y → (x : A) × (slice_get xs k ≡ Some x) × (y ≡ h x)
of_slice_map h xs ys k y e f = of_option_map h (slice_get xs k) y (sym (slice_get-map h xs k) ∙ ap (λ l. slice_get l k) (sym e) ∙ f)

-- the elements of an instance
pub inputs_same : {I E J F : Type 0} (a : I → J) (b : E → F) (m : Network I E) (n : Network J F) (i : I) → Closed m → Renamed a b m n → In i m.instances → inputs_of n (a i) ≡ map b (inputs_of m i)
inputs_same a b m n i c r z = ap (filter (λ y. is_of n (a i) y && n.input y)) r.elements ∙ filter_map b (λ x. is_of m i x && m.input x) (λ y. is_of n (a i) y && n.input y) m.elements
    (λ x e. let p = own_same a b m n i x c r z e in rw (p, r.input x e) refl)

pub direct_same : {I E J F : Type 0} (a : I → J) (b : E → F) (m : Network I E) (n : Network J F) (i : I) → Closed m → Renamed a b m n → In i m.instances → direct_of n (a i) ≡ map b (direct_of m i)
direct_same a b m n i c r z = ap (filter (λ y. is_of n (a i) y && (n.input y && n.direct y))) r.elements ∙ filter_map b (λ x. is_of m i x && (m.input x && m.direct x)) (λ y. is_of n (a i) y && (n.input y && n.direct y)) m.elements
    (λ x e. let p = own_same a b m n i x c r z e in rw (p, r.input x e, r.direct x e) refl)

pub outputs_same : {I E J F : Type 0} (a : I → J) (b : E → F) (m : Network I E) (n : Network J F) (i : I) → Closed m → Renamed a b m n → In i m.instances → outputs_of n (a i) ≡ map b (outputs_of m i)
outputs_same a b m n i c r z = ap (filter (λ y. is_of n (a i) y && not (n.input y))) r.elements ∙ filter_map b (λ x. is_of m i x && not (m.input x)) (λ y. is_of n (a i) y && not (n.input y)) m.elements
    (λ x e. let p = own_same a b m n i x c r z e in rw (p, r.input x e) refl)

-- origins
root_same : {I E J F : Type 0} (a : I → J) (b : E → F) (m : Network I E) (n : Network J F) (x : E) → Closed m → Renamed a b m n → In x m.elements → is_root_input n (b x) ≡ is_root_input m x
root_same a b m n x c r i =
    let o = c.owner x i in
    rw (r.input x i, r.owner x i, r.parent (m.owner x) o, some_map a (m.parent (m.owner x))) refl

pub roots_same : {I E J F : Type 0} (a : I → J) (b : E → F) (m : Network I E) (n : Network J F) → Closed m → Renamed a b m n → root_inputs n ≡ map b (root_inputs m)
roots_same a b m n c r = ap (filter (is_root_input n)) r.elements ∙ filter_map b (is_root_input m) (is_root_input n) m.elements (λ x i. root_same a b m n x c r i)

pub there : {A B : Type 0} (h : A → B) (xs : List A) (ys : List B) (x : A) → ys ≡ map h xs → In x xs → In (h x) ys
there h xs ys x e i = subst (λ l. In (h x) l) (sym e) (in_map h x xs i)

pub back_in : {A B : Type 0} (h : A → B) (xs : List A) (ys : List B) (y : B) → ys ≡ map h xs → In y ys → (x : A) × In x xs × (y ≡ h x)
back_in h xs ys y e i = of_map h y xs (subst (λ l. In y l) e i)

pub origin_there : {I E J F : Type 0} (a : I → J) (b : E → F) (m : Network I E) (n : Network J F) (x : E) (c : Origin I E) → Closed m → Renamed a b m n → HasOrigin m x c → HasOrigin n (b x) (rename_origin a b c)
origin_there a b m n x (Row k) c r o = slice_map b (root_inputs m) (root_inputs n) k x (roots_same a b m n c r) o
origin_there a b m n x (From s) c r o = (
  rename_wire a b o.0,
  there (rename_wire a b) m.wires n.wires o.0 r.wires o.1,
  source_renamed a b m n o.0 c r o.1 ∙ ap b o.2,
  sink_renamed a b m n o.0 c r o.1 ∙ ap b o.3,
)
origin_there a b m n x (Out i k) c r o =
    (there a m.instances n.instances i r.instances o.0, r.elementary i o.0 ∙ o.1, slice_map b (outputs_of m i) (outputs_of n (a i)) k x (outputs_same a b m n i c r o.0) o.2)

pub origin_back : {I E J F : Type 0} (a : I → J) (b : E → F) (m : Network I E) (n : Network J F) (y : F) (d : Origin J F) → Closed m → Renamed a b m n → HasOrigin n y d → (x : E) × (c : Origin I E) × (y ≡ b x) × (d ≡ rename_origin a b c) × HasOrigin m x c
origin_back a b m n y (Row k) c r o =
    let p = of_slice_map b (root_inputs m) (root_inputs n) k y (roots_same a b m n c r) o in
    (p.0, Row k, p.2, refl, p.1)
origin_back a b m n y (From s) c r o =
    let p = back_in (rename_wire a b) m.wires n.wires o.0 r.wires o.1 in
    let e : s ≡ b (source_of m p.0) = sym o.2 ∙ ap (source_of n) p.2 ∙ source_renamed a b m n p.0 c r p.1 in
    let f : y ≡ b (sink_of m p.0) = sym o.3 ∙ ap (sink_of n) p.2 ∙ sink_renamed a b m n p.0 c r p.1 in
    (sink_of m p.0, From (source_of m p.0), f, ap From e, (p.0, p.1, refl, refl))
origin_back a b m n y (Out j k) c r o =
    let p = back_in a m.instances n.instances j r.instances o.0 in
    let e : m.elementary p.0 ≡ true = sym (r.elementary p.0 p.1) ∙ ap n.elementary (sym p.2) ∙ o.1 in
    let q = of_slice_map b (outputs_of m p.0) (outputs_of n j) k y (ap (outputs_of n) p.2 ∙ outputs_same a b m n p.0 c r p.1) o.2 in
    (q.0, Out p.0 k, q.2, ap (λ i. Out i k) p.2, (p.1, e, q.1))

-- one tick
values_back : {E F : Type 0} (b : E → F) (v : Valuation F) (xs : List E) → values v (map b xs) ≡ values (back b v) xs
values_back b v [] = refl
values_back b v (x ∷ xs) = ap (both (v (b x))) (values_back b v xs)

words_back : {E F : Type 0} (b : E → F) (v : Valuation F) (xs : List E) → map (λ x. word_of (v x)) (map b xs) ≡ map (λ x. word_of (v (b x))) xs
words_back b v [] = refl
words_back b v (x ∷ xs) = ap (λ l. word_of (v (b x)) ∷ l) (words_back b v xs)

history_back : {I E J F : Type 0} (b : E → F) (m : Network I E) (n : Network J F) (i : I) (j : J) (past : List (Seen F)) → inputs_of n j ≡ map b (inputs_of m i) → history n past j ≡ history m (past_back b past) i
history_back b m n i j [] e = refl
history_back b m n i j (p ∷ ps) e =
    let w : map (λ x. word_of (p.value x)) (inputs_of n j) ≡ map (λ x. word_of (p.value (b x))) (inputs_of m i) = ap (map (λ x. word_of (p.value x))) e ∙ words_back b p.value (inputs_of m i) in
    let t = history_back b m n i j ps e in
    rw (w, t) refl

answer_back : {I E J F : Type 0} (a : I → J) (b : E → F) (m : Network I E) (n : Network J F) (past : List (Seen F)) (now : ℤ) (v : Valuation F) (i : I) → Closed m → Renamed a b m n → In i m.instances → m.elementary i ≡ true → answer n past now v (a i) ≡ answer m (past_back b past) now (back b v) i
answer_back a b m n past now v i c r z e =
    let p = r.meaning i z e in
    let q = history_back b m n i (a i) past (inputs_same a b m n i c r z) in
    let u : values v (direct_of n (a i)) ≡ values (back b v) (direct_of m i) = ap (values v) (direct_same a b m n i c r z) ∙ values_back b v (direct_of m i) in
    let w : words v (inputs_of n (a i)) ≡ words (back b v) (inputs_of m i) = ap (words v) (inputs_same a b m n i c r z) ∙ words_back b v (inputs_of m i) in
    rw (p, q, u, w) refl

pub rule_back : {I E J F : Type 0} (a : I → J) (b : E → F) (m : Network I E) (n : Network J F) (past : List (Seen F)) (t : Tick) (v : Valuation F) (x : E) (c : Origin I E) → Closed m → Renamed a b m n → HasOrigin m x c → rule n past t v (rename_origin a b c) ≡ rule m (past_back b past) t (back b v) c
rule_back a b m n past t v x (Row k) z r o = refl
rule_back a b m n past t v x (From s) z r o = refl
rule_back a b m n past t v x (Out i k) z r o = ap (given k) (answer_back a b m n past t.time v i z r o.0 o.1)

pub meets_back : {I E J F : Type 0} (a : I → J) (b : E → F) (m : Network I E) (n : Network J F) (past : List (Seen F)) (t : Tick) (v : Valuation F) → Closed m → Renamed a b m n → Meets n past t v → Meets m (past_back b past) t (back b v)
meets_back a b m n past t v k r f x c o = f (b x) (rename_origin a b c) (origin_there a b m n x c k r o) ∙ rule_back a b m n past t v x c k r o

pub meets_there : {I E J F : Type 0} (a : I → J) (b : E → F) (m : Network I E) (n : Network J F) (past : List (Seen F)) (t : Tick) (v : Valuation F) → Closed m → Renamed a b m n → Meets m (past_back b past) t (back b v) → Meets n past t v
meets_there a b m n past t v k r f y d o =
    let p = origin_back a b m n y d k r o in
    ap v p.2 ∙ f p.0 p.1 p.4 ∙ sym (rule_back a b m n past t v p.0 p.1 k r p.4) ∙ ap (rule n past t v) (sym p.3)

-- the first fault
first_that_map : {A B : Type 0} (h : A → B) (f : A → Bool) (g : B → Bool) (xs : List A) → ((x : A) → In x xs → g (h x) ≡ f x) → first_that g (map h xs) ≡ option_map h (first_that f xs)
first_that_map h f g [] e = refl
first_that_map h f g (x ∷ xs) e =
    let p = e x (inl refl) in
    let q = first_that_map h f g xs (λ y i. e y (inr i)) in
    rw (p, q) (cond_some h (f x) x (first_that f xs))
  where
    cond_some : {A B : Type 0} (h : A → B) (t : Bool) (x : A) (o : Option A) → cond t (Some (h x)) (option_map h o) ≡ option_map h (cond t (Some x) o)
    cond_some h true x o = refl
    cond_some h false x o = refl

faulty_back : {I E J F : Type 0} (a : I → J) (b : E → F) (m : Network I E) (n : Network J F) (past : List (Seen F)) (t : Tick) (v : Valuation F) (i : I) → Closed m → Renamed a b m n → In i m.instances → is_faulty n past t v (a i) ≡ is_faulty m (past_back b past) t (back b v) i
faulty_back a b m n past t v i c r z =
    ap (λ y. y && lacks (values v (direct_of n (a i))) (n.meaning (a i) (history n past (a i)) t.time (words v (inputs_of n (a i))))) (r.elementary i z)
    ∙ and_same (m.elementary i) _ _ (λ e.
    let p = r.meaning i z e in
    let q = history_back b m n i (a i) past (inputs_same a b m n i c r z) in
    let u : values v (direct_of n (a i)) ≡ values (back b v) (direct_of m i) = ap (values v) (direct_same a b m n i c r z) ∙ values_back b v (direct_of m i) in
    let w : words v (inputs_of n (a i)) ≡ words (back b v) (inputs_of m i) = ap (words v) (inputs_same a b m n i c r z) ∙ words_back b v (inputs_of m i) in
    rw (p, q, u, w) refl)

pub first_fault_back : {I E J F : Type 0} (a : I → J) (b : E → F) (m : Network I E) (n : Network J F) (past : List (Seen F)) (t : Tick) (v : Valuation F) → Closed m → Renamed a b m n → first_fault n past t v ≡ option_map a (first_fault m (past_back b past) t (back b v))
first_fault_back a b m n past t v c r =
    ap (first_that (is_faulty n past t v)) r.instances
    ∙ first_that_map a (is_faulty m (past_back b past) t (back b v)) (is_faulty n past t v) m.instances (λ i z. faulty_back a b m n past t v i c r z)

-- many ticks
goes_back : {I J E F : Type 0} (a : I → J) (b : E → F) (o : Option I) (p : Option J) (vs : List (Valuation F)) (A B : Type 0) → p ≡ option_map a o → Goes p vs A → (A → B) → Goes o (map (back b) vs) B
goes_back a b None None vs A B e g f = f g
goes_back a b None (Some j) vs A B e g f = absurd (cc)
goes_back a b (Some i) None vs A B e g f = absurd (cc)
goes_back a b (Some i) (Some j) vs A B e g f = ap (map (back b)) g

no_map : {A B : Type 0} (h : A → B) (xs : List A) → map h xs ≡ [] → xs ≡ []
no_map h [] e = refl
no_map h (x ∷ xs) e = absurd (cc)

goes_there : {I J E F : Type 0} (a : I → J) (b : E → F) (o : Option I) (p : Option J) (vs : List (Valuation F)) (A B : Type 0) → p ≡ option_map a o → Goes o (map (back b) vs) B → (B → A) → Goes p vs A
goes_there a b None None vs A B e g f = f g
goes_there a b None (Some j) vs A B e g f = absurd (cc)
goes_there a b (Some i) None vs A B e g f = absurd (cc)
goes_there a b (Some i) (Some j) vs A B e g f = no_map (back b) vs g

pub solves_back : {I E J F : Type 0} (a : I → J) (b : E → F) (m : Network I E) (n : Network J F) (ts : List Tick) (past : List (Seen F)) (vs : List (Valuation F)) → Closed m → Renamed a b m n → Solves n past ts vs → Solves m (past_back b past) ts (map (back b) vs)
solves_back a b m n [] past [] c r f = tt
solves_back a b m n [] past (v ∷ vs) c r f = f
solves_back a b m n (t ∷ ts) past [] c r f = f
solves_back a b m n (t ∷ ts) past (v ∷ vs) c r f = (
  meets_back a b m n past t v c r f.0,
  goes_back a b (first_fault m (past_back b past) t (back b v)) (first_fault n past t v) vs _ _ (first_fault_back a b m n past t v c r) f.1
      (λ g. solves_back a b m n ts (seen t v ∷ past) vs c r g),
)

pub solves_there : {I E J F : Type 0} (a : I → J) (b : E → F) (m : Network I E) (n : Network J F) (ts : List Tick) (past : List (Seen F)) (vs : List (Valuation F)) → Closed m → Renamed a b m n → Solves m (past_back b past) ts (map (back b) vs) → Solves n past ts vs
solves_there a b m n [] past [] c r f = tt
solves_there a b m n [] past (v ∷ vs) c r f = f
solves_there a b m n (t ∷ ts) past [] c r f = f
solves_there a b m n (t ∷ ts) past (v ∷ vs) c r f = (
  meets_there a b m n past t v c r f.0,
  goes_there a b (first_fault m (past_back b past) t (back b v)) (first_fault n past t v) vs _ _ (first_fault_back a b m n past t v c r) f.1
      (λ g. solves_there a b m n ts (seen t v ∷ past) vs c r g),
)

abbrev pub rename_fault : {I J : Type 0} → (I → J) → ℤ × I → ℤ × J
rename_fault a p = (p.0, a p.1)

later_map : {I J : Type 0} (a : I → J) (time : ℤ) (o : Option I) (l : Option (ℤ × I)) → or_later time (option_map a o) (option_map (rename_fault a) l) ≡ option_map (rename_fault a) (or_later time o l)
later_map a time None l = refl
later_map a time (Some i) l = refl

pub fault_back : {I E J F : Type 0} (a : I → J) (b : E → F) (m : Network I E) (n : Network J F) (ts : List Tick) (past : List (Seen F)) (vs : List (Valuation F)) → Closed m → Renamed a b m n → fault_of n past ts vs ≡ option_map (rename_fault a) (fault_of m (past_back b past) ts (map (back b) vs))
fault_back a b m n [] past vs c r = refl
fault_back a b m n (t ∷ ts) past [] c r = refl
fault_back a b m n (t ∷ ts) past (v ∷ vs) c r =
    let p = first_fault_back a b m n past t v c r in
    let q : fault_of n (seen t v ∷ past) ts vs ≡ option_map (rename_fault a) (fault_of m (seen t (back b v) ∷ past_back b past) ts (map (back b) vs)) = fault_back a b m n ts (seen t v ∷ past) vs c r in
    rw (p, q) (later_map a t.time (first_fault m (past_back b past) t (back b v)) (fault_of m (seen t (back b v) ∷ past_back b past) ts (map (back b) vs)))
