-- There is one solution.
use Rattle.std.proofs.Common.{ℕ, ℤ, pos, zero, suc, ◌<◌, ◌≤◌, ◌≡◌, ◌⊎◌, ◌&&◌, refl, sym, ap, ◌∙◌, arith, Bool, true, false, cond, inl, inr, List, [], ◌∷◌, ◌++◌, map, length, Option, Some, None, slice_get}
use Rattle.std.proofs.lemmas.Bool.{false≢true}
use Rattle.std.proofs.lemmas.Option.{slice_get_within, slice_get-get_or}
use Rattle.cdl_network.specs.Closed.{Closed}
use Rattle.cdl_network.specs.Dependence.{From, HasOrigin, Origin, Out, Reads, Row, Walk, direct_of, inputs_of, outputs_of, root_inputs}
use Rattle.cdl_network.specs.Lists.{In, first_that, has_some}
use Rattle.cdl_network.specs.Network.{Network}
use Rattle.cdl_network.specs.Planned.{Agree, AgreeAll, AllFit, DirectOnly, Fits, HasMeanings, IsPast, Origins, Planned, SamePast, SameWhere}
use Rattle.cdl_network.specs.Ticks.{Goes, Meets, Runs, Seen, Solves, Tick, Valuation, after, answer, both, fault_of, first_fault, given, history, is_faulty, lacks, or_later, rule, seen, strict, values, word_of, words}
use Rattle.cdl_network.proofs.Inside.{picked, inputs_inside, direct_inside, origin_inside, reads_inside}

pub same_values : {E : Type 0} (v w : Valuation E) (xs : List E) → ((x : E) → In x xs → v x ≡ w x) → values v xs ≡ values w xs
same_values v w [] f = refl
same_values v w (x ∷ xs) f =
    let h = f x (inl refl) in
    let t = same_values v w xs (λ s m. f s (inr m)) in
    rw (h, t) refl

pub same_words : {E : Type 0} (v w : Valuation E) (xs : List E) → ((x : E) → In x xs → v x ≡ w x) → map (λ x. word_of (v x)) xs ≡ map (λ x. word_of (w x)) xs
same_words v w [] f = refl
same_words v w (x ∷ xs) f =
    let h = f x (inl refl) in
    let t = same_words v w xs (λ s m. f s (inr m)) in
    rw (h, t) refl

pub same_history : {I E : Type 0} (n : Network I E) (ps qs : List (Seen E)) (i : I) → ((s : E) → In s (inputs_of n i) → In s n.elements) → SamePast n ps qs → history n ps i ≡ history n qs i
same_history n [] [] i f h = refl
same_history n [] (q ∷ qs) i f h = absurd h
same_history n (p ∷ ps) [] i f h = absurd h
same_history n (p ∷ ps) (q ∷ qs) i f h =
    let a : p.time ≡ q.time = h.0 in
    let b = same_words p.value q.value (inputs_of n i) (λ s m. h.1 s (f s m)) in
    let t = same_history n ps qs i f h.2 in
    rw (a, b, t) refl

direct_words : {I E : Type 0} (n : Network I E) (v w : Valuation E) (xs : List E) → ((x : E) → In x xs → n.direct x ≡ true → v x ≡ w x) → SameWhere (map n.direct xs) (words v xs) (words w xs)
direct_words n v w [] f = tt
direct_words n v w (x ∷ xs) f = (λ d. ap word_of (f x (inl refl) d), direct_words n v w xs (λ y i d. f y (inr i) d))

pub same_answer : {I E : Type 0} (n : Network I E) (ps qs : List (Seen E)) (now : ℤ) (v w : Valuation E) (i : I) → DirectOnly n → SamePast n ps qs → In i n.instances → n.elementary i ≡ true → ((s : E) → In s (direct_of n i) → v s ≡ w s) → answer n ps now v i ≡ answer n qs now w i
same_answer n ps qs now v w i d h m e f =
    let a = same_history n ps qs i (λ s z. inputs_inside n i s z) h in
    let b = same_values v w (direct_of n i) f in
    let g : n.meaning i (history n qs i) now (words v (inputs_of n i)) ≡ n.meaning i (history n qs i) now (words w (inputs_of n i)) =
    d.same i (history n qs i) now _ _ m e (direct_words n v w (inputs_of n i) (λ s z k. f s (picked n i s z k))) in
    rw (a, b) (ap (strict (values w (direct_of n i))) g)

-- valuations that agree on what an origin reads agree on what it gives
pub same_rule : {I E : Type 0} (n : Network I E) (ps qs : List (Seen E)) (t : Tick) (v w : Valuation E) (x : E) (o : Origin I E) → DirectOnly n → SamePast n ps qs → HasOrigin n x o → ((s : E) → Reads n o s → v s ≡ w s) → rule n ps t v o ≡ rule n qs t w o
same_rule n ps qs t v w x (Row k) d h o f = refl
same_rule n ps qs t v w x (From s) d h o f = f s refl
same_rule n ps qs t v w x (Out i k) d h o f = ap (given k) (same_answer n ps qs t.time v w i d h o.0 o.1 f)

-- one tick: at most one valuation
agree_below : {I E : Type 0} (n : Network I E) (top : ℕ) (ps qs : List (Seen E)) (t : Tick) (v w : Valuation E) → Closed n → Planned n top → SamePast n ps qs → Meets n ps t v → Meets n qs t w → (k : ℕ) (x : E) → ((y : E) → Walk n y x k → ⊥) → In x n.elements → v x ≡ w x
agree_below n top ps qs t v w c p h f g zero x l m = absurd (l x refl)
agree_below n top ps qs t v w c p h f g (suc k) x l m =
    let o = p.each x m in
    f x o.0 o.1
    ∙ same_rule n ps qs t v w x o.0 p.direct h o.1 (λ s r.
    agree_below n top ps qs t v w c p h f g k s (λ y u. l y (s, u, (o.0, o.1, r))) (reads_inside n x o.0 s c o.1 r))
    ∙ sym (g x o.0 o.1)

pub one_valuation : {I E : Type 0} (n : Network I E) (top : ℕ) (ps qs : List (Seen E)) (t : Tick) (v w : Valuation E) → Closed n → Planned n top → SamePast n ps qs → Meets n ps t v → Meets n qs t w → Agree n v w
one_valuation n top ps qs t v w c p h f g x m = agree_below n top ps qs t v w c p h f g top x (λ y u. p.short y x u) m

-- one tick: a valuation, by computing all elements as often as the order is long
unfoldable pub settle : {I E : Type 0} → Network I E → (E → Origin I E) → List (Seen E) → Tick → ℕ → Valuation E
settle n origin past t zero x = None
settle n origin past t (suc k) x = rule n past t (settle n origin past t k) (origin x)

pub same_past : {I E : Type 0} (n : Network I E) (ps : List (Seen E)) → SamePast n ps ps
same_past n [] = tt
same_past n (p ∷ ps) = (refl, λ x m. refl, same_past n ps)

settled : {I E : Type 0} (n : Network I E) (origin : E → Origin I E) (top : ℕ) (past : List (Seen E)) (t : Tick) → Closed n → Planned n top → Origins n origin → (k : ℕ) (x : E) → ((y : E) → Walk n y x k → ⊥) → In x n.elements → settle n origin past t k x ≡ settle n origin past t (suc k) x
unfolding settle
settled n origin top past t c p g zero x l m = absurd (l x refl)
settled n origin top past t c p g (suc k) x l m =
    let o = g x m in
    same_rule n past past t (settle n origin past t k) (settle n origin past t (suc k)) x (origin x) p.direct (same_past n past) o (λ s r.
    settled n origin top past t c p g k s (λ y u. l y (s, u, (origin x, o, r))) (reads_inside n x (origin x) s c o r))

-- what computes each element from its origin meets the equations
pub meets_by : {I E : Type 0} (n : Network I E) (origin : E → Origin I E) (top : ℕ) (past : List (Seen E)) (t : Tick) (v : Valuation E) → Closed n → Planned n top → Origins n origin → ((x : E) → In x n.elements → v x ≡ rule n past t v (origin x)) → Meets n past t v
meets_by n origin top past t v c p g f x o h =
    let m = origin_inside n x o c h in
    f x m ∙ ap (rule n past t v) (p.only x (origin x) o (g x m) h)

pub settle_meets : {I E : Type 0} (n : Network I E) (origin : E → Origin I E) (top : ℕ) (past : List (Seen E)) (t : Tick) → Closed n → Planned n top → Origins n origin → Meets n past t (settle n origin past t top)
unfolding settle
settle_meets n origin top past t c p g = meets_by n origin top past t (settle n origin past t top) c p g (λ x m. settled n origin top past t c p g top x (λ y u. p.short y x u) m)

-- many ticks
keep : {I E : Type 0} (o : Option I) (P : List (Valuation E) → Type 0) (vs : List (Valuation E)) → P vs → (us : List (Valuation E)) × Goes o us (P us)
keep None P vs s = (vs, s)
keep (Some i) P vs s = ([], refl)

pub solution : {I E : Type 0} (n : Network I E) (origin : E → Origin I E) (top : ℕ) (ts : List Tick) (past : List (Seen E)) → Closed n → Planned n top → Origins n origin → (vs : List (Valuation E)) × Solves n past ts vs
solution n origin top [] past c p g = ([], tt)
solution {I} {E} n origin top (t ∷ ts) past c p g =
    let v : Valuation E = settle n origin past t top in
    let later = solution n origin top ts (seen t v ∷ past) c p g in
    let all = keep (first_fault n past t v) (λ (us : List (Valuation E)). Solves n (seen t v ∷ past) ts us) later.0 later.1 in
    (v ∷ all.0, (settle_meets n origin top past t c p g, all.1))

same_first : {A : Type 0} (f g : A → Bool) (xs : List A) → ((x : A) → In x xs → f x ≡ g x) → first_that f xs ≡ first_that g xs
same_first f g [] h = refl
same_first f g (x ∷ xs) h =
    let a = h x (inl refl) in
    let t = same_first f g xs (λ s m. h s (inr m)) in
    rw (a, t) refl

pub and_same : (b c d : Bool) → (b ≡ true → c ≡ d) → (b && c) ≡ (b && d)
and_same true c d h = h refl
and_same false c d h = refl

same_faulty : {I E : Type 0} (n : Network I E) (ps qs : List (Seen E)) (t : Tick) (v w : Valuation E) → Closed n → SamePast n ps qs → Agree n v w → (i : I) → In i n.instances → is_faulty n ps t v i ≡ is_faulty n qs t w i
same_faulty n ps qs t v w c h f i m = and_same (n.elementary i) _ _ (λ e.
    let a = same_history n ps qs i (λ s z. inputs_inside n i s z) h in
    let b = same_values v w (direct_of n i) (λ s z. f s (direct_inside n i s z)) in
    let g = same_words v w (inputs_of n i) (λ s z. f s (inputs_inside n i s z)) in
    rw (a, b, g) refl)

pub same_fault : {I E : Type 0} (n : Network I E) (ps qs : List (Seen E)) (t : Tick) (v w : Valuation E) → Closed n → SamePast n ps qs → Agree n v w → first_fault n ps t v ≡ first_fault n qs t w
same_fault n ps qs t v w c h f = same_first (is_faulty n ps t v) (is_faulty n qs t w) n.instances (same_faulty n ps qs t v w c h f)

both_go : {I E : Type 0} (n : Network I E) (o p : Option I) (vs ws : List (Valuation E)) (A B : Type 0) → o ≡ p → Goes o vs A → Goes p ws B → (A → B → AgreeAll n vs ws) → AgreeAll n vs ws
both_go n None None vs ws A B e a b f = f a b
both_go n None (Some j) vs ws A B e a b f = absurd (cc)
both_go n (Some i) None vs ws A B e a b f = absurd (cc)
both_go n (Some i) (Some j) vs ws A B e a b f = rw (a, b) tt

-- at most one list
pub one_list : {I E : Type 0} (n : Network I E) (top : ℕ) (ts : List Tick) (ps qs : List (Seen E)) (vs ws : List (Valuation E)) → Closed n → Planned n top → SamePast n ps qs → Solves n ps ts vs → Solves n qs ts ws → AgreeAll n vs ws
one_list n top [] ps qs [] [] c p h f g = tt
one_list n top [] ps qs [] (w ∷ ws) c p h f g = absurd g
one_list n top [] ps qs (v ∷ vs) ws c p h f g = absurd f
one_list n top (t ∷ ts) ps qs [] ws c p h f g = absurd f
one_list n top (t ∷ ts) ps qs (v ∷ vs) [] c p h f g = absurd g
one_list n top (t ∷ ts) ps qs (v ∷ vs) (w ∷ ws) c p h f g =
    let a = one_valuation n top ps qs t v w c p h f.0 g.0 in (
      a,
      both_go n (first_fault n ps t v) (first_fault n qs t w) vs ws _ _ (same_fault n ps qs t v w c h a) f.1 g.1
          (λ x y. one_list n top ts (seen t v ∷ ps) (seen t w ∷ qs) vs ws c p (refl, a, h) x y),
    )

-- lists that agree have one fault
pub one_fault : {I E : Type 0} (n : Network I E) (ts : List Tick) (ps qs : List (Seen E)) (vs ws : List (Valuation E)) → Closed n → SamePast n ps qs → AgreeAll n vs ws → fault_of n ps ts vs ≡ fault_of n qs ts ws
one_fault n [] ps qs vs ws c h f = refl
one_fault n (t ∷ ts) ps qs [] [] c h f = refl
one_fault n (t ∷ ts) ps qs [] (w ∷ ws) c h f = absurd f
one_fault n (t ∷ ts) ps qs (v ∷ vs) [] c h f = absurd f
one_fault n (t ∷ ts) ps qs (v ∷ vs) (w ∷ ws) c h f =
    let a = same_fault n ps qs t v w c h f.0 in
    let b = one_fault n ts (seen t v ∷ ps) (seen t w ∷ qs) vs ws c (refl, f.0, h) f.1 in
    rw (a, b) refl

-- one tick more
no_later : {I : Type 0} (time : ℤ) (o : Option I) (l : Option (ℤ × I)) → or_later time o l ≡ None → (o ≡ None) × (l ≡ None)
no_later time None l e = (refl, e)
no_later time (Some i) l e = absurd (cc)

goes_end : {I : Type 0} (E : Type 0) (o : Option I) → Goes {E = E} o [] (Unit {0})
goes_end E None = tt
goes_end E (Some i) = refl

goes_step : {I E : Type 0} (o : Option I) (vs ws : List (Valuation E)) (A B : Type 0) → o ≡ None → Goes o vs A → (A → B) → Goes o ws B
goes_step None vs ws A B e g f = f g
goes_step (Some i) vs ws A B e g f = absurd (cc)

goes_none : {I E : Type 0} (o : Option I) (vs : List (Valuation E)) (A : Type 0) → o ≡ None → Goes o vs A → A
goes_none None vs A e g = g
goes_none (Some i) vs A e g = absurd (cc)

pub solves_more : {I E : Type 0} (n : Network I E) (ts : List Tick) (past : List (Seen E)) (vs : List (Valuation E)) (t : Tick) (v : Valuation E) → Solves n past ts vs → fault_of n past ts vs ≡ None → Meets n (after past ts vs) t v → Solves n past (ts ++ t ∷ []) (vs ++ v ∷ [])
solves_more {I} {E} n [] past [] t v f z m = (m, goes_end E (first_fault n past t v))
solves_more n [] past (u ∷ us) t v f z m = absurd f
solves_more n (s ∷ ts) past [] t v f z m = absurd f
solves_more n (s ∷ ts) past (u ∷ us) t v f z m =
    let q = no_later s.time (first_fault n past s u) _ z in
    (f.0, goes_step (first_fault n past s u) us (us ++ v ∷ []) _ _ q.0 f.1 (λ g. solves_more n ts (seen s u ∷ past) us t v g q.1 m))

pub fault_more : {I E : Type 0} (n : Network I E) (ts : List Tick) (past : List (Seen E)) (vs : List (Valuation E)) (t : Tick) (v : Valuation E) → Solves n past ts vs → fault_of n past ts vs ≡ None → fault_of n past (ts ++ t ∷ []) (vs ++ v ∷ []) ≡ or_later t.time (first_fault n (after past ts vs) t v) None
fault_more n [] past [] t v f z = refl
fault_more n [] past (u ∷ us) t v f z = absurd f
fault_more n (s ∷ ts) past [] t v f z = absurd f
fault_more n (s ∷ ts) past (u ∷ us) t v f z =
    let q = no_later s.time (first_fault n past s u) _ z in
    let g = goes_none (first_fault n past s u) us _ q.0 f.1 in
    ap (λ o. or_later s.time o (fault_of n (seen s u ∷ past) (ts ++ t ∷ []) (us ++ v ∷ []))) q.0
    ∙ fault_more n ts (seen s u ∷ past) us t v g q.1

-- the tick is then the latest that is over
pub after_more : {I E : Type 0} (n : Network I E) (ts : List Tick) (past : List (Seen E)) (vs : List (Valuation E)) (t : Tick) (v : Valuation E) → Solves n past ts vs → fault_of n past ts vs ≡ None → after past (ts ++ t ∷ []) (vs ++ v ∷ []) ≡ seen t v ∷ after past ts vs
after_more n [] past [] t v f z = refl
after_more n [] past (u ∷ us) t v f z = absurd f
after_more n (s ∷ ts) past [] t v f z = absurd f
after_more n (s ∷ ts) past (u ∷ us) t v f z =
    let q = no_later s.time (first_fault n past s u) _ z in
    after_more n ts (seen s u ∷ past) us t v (goes_none (first_fault n past s u) us _ q.0 f.1) q.1

pub runs_on : {I E : Type 0} (n : Network I E) (ts : List Tick) (vs : List (Valuation E)) (t : Tick) (v : Valuation E) → Runs n ts vs → Meets n (after [] ts vs) t v → first_fault n (after [] ts vs) t v ≡ None → Runs n (ts ++ t ∷ []) (vs ++ v ∷ [])
runs_on n ts vs t v r m z = (solves_more n ts [] vs t v r.0 r.1 m, fault_more n ts [] vs t v r.0 r.1 ∙ ap (λ o. or_later t.time o None) z)

-- a fault at this tick is that of every solution
pub runs_off : {I E : Type 0} (n : Network I E) (top : ℕ) (ts : List Tick) (vs : List (Valuation E)) (t : Tick) (v : Valuation E) (i : I) → Closed n → Planned n top → Runs n ts vs → Meets n (after [] ts vs) t v → first_fault n (after [] ts vs) t v ≡ Some i → (ws : List (Valuation E)) → Solves n [] (ts ++ t ∷ []) ws → fault_of n [] (ts ++ t ∷ []) ws ≡ Some (t.time, i)
runs_off n top ts vs t v i c p r m z ws f =
    let g = solves_more n ts [] vs t v r.0 r.1 m in
    let a = one_list n top (ts ++ t ∷ []) [] [] ws (vs ++ v ∷ []) c p tt f g in
    one_fault n (ts ++ t ∷ []) [] [] ws (vs ++ v ∷ []) c tt a ∙ fault_more n ts [] vs t v r.0 r.1 ∙ ap (λ o. or_later t.time o None) z

-- at a tick without a fault each element has a value
values_some : {E : Type 0} (v : Valuation E) (xs : List E) → ((x : E) → In x xs → has_some (v x) ≡ true) → (ws : List ℤ) × (values v xs ≡ Some ws)
values_some v [] f = ([], refl)
values_some v (x ∷ xs) f =
    let r = values_some v xs (λ y i. f y (inr i)) in
    let h = is_some (v x) (f x (inl refl)) in
    (h.0 ∷ r.0, ap (λ o. both o (values v xs)) h.1 ∙ ap (both (Some h.0)) r.1)
  where
    is_some : (o : Option ℤ) → has_some o ≡ true → (w : ℤ) × (o ≡ Some w)
    is_some None e = absurd (false≢true e)
    is_some (Some w) e = (w, refl)

first_none_at : {A : Type 0} (f : A → Bool) (x y : A) (l : Option A) (t : Bool) (P : Type 0) → f y ≡ t → cond t (Some y) l ≡ None → (x ≡ y) ⊎ P → (l ≡ None → P → f x ≡ false) → f x ≡ false
first_none_at f x y l true P h e i g = absurd (cc)
first_none_at f x y l false P h e (inl q) g = ap f q ∙ h
first_none_at f x y l false P h e (inr j) g = g e j

first_none : {A : Type 0} (f : A → Bool) (x : A) (xs : List A) → first_that f xs ≡ None → In x xs → f x ≡ false
first_none f x [] e i = absurd i
first_none f x (y ∷ ys) e i = first_none_at f x y (first_that f ys) (f y) (In x ys) refl e i (λ z j. first_none f x ys z j)

some_slice : (xs : List ℤ) (k : ℕ) → k < length xs → has_some (slice_get xs k) ≡ true
some_slice xs k h = ap has_some (slice_get-get_or xs k (pos 0) h)

out_value : (k l : ℕ) (o r : Option (List ℤ)) (ws : List ℤ) → o ≡ Some ws → lacks o r ≡ false → k < l → ((os : List ℤ) → r ≡ Some os → l ≤ length os) → has_some (given k (strict o r)) ≡ true
out_value k l None r ws e h lt f = absurd (cc)
out_value k l (Some us) None ws e h lt f = absurd (false≢true (sym h))
out_value k l (Some us) (Some os) ws e h lt f = some_slice os k (let b = f os refl in omega arith)

calm_at : {I E : Type 0} (n : Network I E) (past : List (Seen E)) (t : Tick) (v : Valuation E) (x : E) (o : Origin I E) → Fits n t → first_fault n past t v ≡ None → HasOrigin n x o → ((s : E) → Reads n o s → has_some (v s) ≡ true) → has_some (rule n past t v o) ≡ true
calm_at n past t v x (Row j) w z h lower =
    let a = slice_get_within (root_inputs n) j x h in
    let b = w.row in
    some_slice t.row j (omega arith)
calm_at n past t v x (From s) w z h lower = lower s refl
calm_at n past t v x (Out i j) w z h lower =
    let a = slice_get_within (outputs_of n i) j x h.2 in
    let vals = values_some v (direct_of n i) lower in
    let calm : is_faulty n past t v i ≡ false = first_none (is_faulty n past t v) i n.instances z h.0 in
    let m : Option (List ℤ) = n.meaning i (history n past i) t.time (words v (inputs_of n i)) in
    let fine : lacks (values v (direct_of n i)) m ≡ false = sym (ap (λ y. y && lacks (values v (direct_of n i)) m) h.1) ∙ calm in
    out_value j (length (outputs_of n i)) (values v (direct_of n i)) m vals.0 vals.1 fine a (λ os e. w.answers i (history n past i) t.time (words v (inputs_of n i)) os e)

calm_below : {I E : Type 0} (n : Network I E) (top : ℕ) (past : List (Seen E)) (t : Tick) (v : Valuation E) → Closed n → Planned n top → Fits n t → Meets n past t v → first_fault n past t v ≡ None → (k : ℕ) (x : E) → ((y : E) → Walk n y x k → ⊥) → In x n.elements → has_some (v x) ≡ true
calm_below n top past t v c p w f z zero x l m = absurd (l x refl)
calm_below n top past t v c p w f z (suc k) x l m =
    let o = p.each x m in
    ap has_some (f x o.0 o.1) ∙ calm_at n past t v x o.0 w z o.1 (λ s r.
    calm_below n top past t v c p w f z k s (λ y u. l y (s, u, (o.0, o.1, r))) (reads_inside n x o.0 s c o.1 r))

pub calm : {I E : Type 0} (n : Network I E) (top : ℕ) (past : List (Seen E)) (t : Tick) (v : Valuation E) → Closed n → Planned n top → Fits n t → Meets n past t v → first_fault n past t v ≡ None → (x : E) → In x n.elements → has_some (v x) ≡ true
calm n top past t v c p w f z x m = calm_below n top past t v c p w f z top x (λ y u. p.short y x u) m

-- a run without a fault leaves a past without one
pub past_of : {I E : Type 0} (n : Network I E) (ts : List Tick) (past : List (Seen E)) (vs : List (Valuation E)) → AllFit n ts → IsPast n past → Solves n past ts vs → fault_of n past ts vs ≡ None → IsPast n (after past ts vs)
past_of n [] past vs a h f z = h
past_of n (t ∷ ts) past [] a h f z = absurd f
past_of n (t ∷ ts) past (v ∷ vs) a h f z =
    let q = no_later t.time (first_fault n past t v) _ z in
    past_of n ts (seen t v ∷ past) vs a.1 (t, refl, a.0, f.0, q.0, h) (goes_none (first_fault n past t v) vs _ q.0 f.1) q.1

fine_meaning : (o r : Option (List ℤ)) (ws : List ℤ) → o ≡ Some ws → lacks o r ≡ false → has_some r ≡ true
fine_meaning None r ws e h = absurd (cc)
fine_meaning (Some us) None ws e h = absurd (false≢true (sym h))
fine_meaning (Some us) (Some os) ws e h = refl

-- and there each history has meanings
pub has_meanings : {I E : Type 0} (n : Network I E) (top : ℕ) (past : List (Seen E)) (i : I) → Closed n → Planned n top → IsPast n past → In i n.instances → n.elementary i ≡ true → HasMeanings (n.meaning i) (history n past i)
has_meanings n top [] i c p h m e = tt
has_meanings n top (s ∷ ps) i c p h m e =
    let v = s.value in
    let t = h.0 in
    let w : Option (List ℤ) = n.meaning i (history n ps i) t.time (words v (inputs_of n i)) in
    let vals = values_some v (direct_of n i) (λ x r. calm n top ps t v c p h.2 h.3 h.4 x (direct_inside n i x r)) in
    let calm_i : is_faulty n ps t v i ≡ false = first_none (is_faulty n ps t v) i n.instances h.4 m in
    let fine : lacks (values v (direct_of n i)) w ≡ false = sym (ap (λ y. y && lacks (values v (direct_of n i)) w) e) ∙ calm_i in (
      ap (λ y. has_some (n.meaning i (history n ps i) y (words v (inputs_of n i)))) (sym h.1) ∙ fine_meaning (values v (direct_of n i)) w vals.0 vals.1 fine,
      has_meanings n top ps i c p h.5 m e,
    )
