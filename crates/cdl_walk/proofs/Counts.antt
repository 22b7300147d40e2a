-- The machine counts the instances and elements, and keeps what events bring.
use Rattle.std.proofs.Common.{◌≡◌, ◌<◌, ◌≤◌, ℕ, suc, ◌+◌, List, [], ◌∷◌, length, map, refl, sym, ap, ◌∙◌, subst, arith, length-append, Result, Ok, Err, Bool, true, false, cond}
use Rattle.std.specs.Prelude.{nat_lt, nat_le}
use Rattle.std.proofs.lemmas.Bool.Decides.{nat_tests}
use Rattle.cdl_source.specs.declared.limits.TheConstants.{MOST_ELEMENTS, MOST_INSTANCES}
use Rattle.cdl_source.specs.declared.rules.TheConstants.{TOO_MANY_OR_TOO_DEEP}
use Rattle.cdl_stations.specs.Keys.{Key}
use Rattle.cdl_stations.specs.Runs.{on_ok, goes, Went, StopsAt}
use Rattle.cdl_stations.specs.FirstBroken.{Agrees}
use Rattle.cdl_stations.proofs.FromRuns.{none_of_went, first_of_stops}
use Rattle.cdl_paths.specs.declared.path.Step.{Step}
use Rattle.cdl_params.specs.Kept.{Model}
use Rattle.cdl_classes.specs.declared.found.ClassId.{ClassId}
use Rattle.cdl_walk.specs.Places.{Here, start}
use Rattle.cdl_walk.specs.Stations.{InBlock, InModel, the_root}
use Rattle.cdl_walk.specs.declared.walked.Content.{Content}
use Rattle.cdl_walk.specs.declared.walked.Content.TheVariants as content
use Rattle.cdl_walk.specs.declared.walked.Point.{Point}
use Rattle.cdl_walk.specs.declared.walked.Walked.{Walked}
use Rattle.cdl_walk.specs.declared.walked.WalkFault.{WalkFault}
use Rattle.cdl_walk.specs.declared.walked.WalkFault.TheVariants as walk
use Rattle.cdl_walk.specs.Elements.{owned}
use Rattle.cdl_walk.specs.Events.{Event, Fails, Skips, Opens, Begins, Stands, Adds, nothing, owner_of, instance_of, with_instance, with_elements, has_room, has_room_for, step, instances_in, elements_in, instances_of, elements_of, Bad}
use Rattle.cdl_walk.specs.Faults.{Fault, seen}
use Rattle.cdl_walk.specs.inner.Numbers.{IsDeeper}
use Rattle.cdl_walk.specs.Judges.{Judges}

ok_case : (b : Bool) (k n : Walked) (f : Fault) → cond b (Ok k) (Err f) ≡ Ok n → k ≡ n
ok_case true k n f h = cc
ok_case false k n f h = cc

err_case : (b : Bool) (k : Walked) (f g : Fault) → cond b (Ok k) (Err f) ≡ Err g → (b ≡ false) × (g ≡ f)
err_case true k f g h = cc
err_case false k f g h = (refl, cc)

err_chosen : (b : Bool) (k : Walked) (f g : Fault) → b ≡ false → g ≡ f → cond b (Ok k) (Err f) ≡ Err g
err_chosen b k f g e h = rw (e, h) refl

no_room : (a b : ℕ) → nat_lt a b ≡ false → b < a + 1
no_room a b h = grind (arith, nat_tests, h)

is_no_room : (a b : ℕ) → b < a + 1 → nat_lt a b ≡ false
is_no_room a b h = grind (arith, nat_tests, h)

too_many : (a b : ℕ) → nat_le a b ≡ false → b < a
too_many a b h = grind (arith, nat_tests, h)

are_too_many : (a b : ℕ) → b < a → nat_le a b ≡ false
are_too_many a b h = grind (arith, nat_tests, h)

-- ---- what a state has of what events brought

pub record Has (m : Walked) (i e : ℕ) : Type 0 where
  pub instances : length m.instances ≡ i
  pub elements : length m.elements ≡ e

length_owned : (i : ℕ) (ps : List Point) → length (map (owned i) ps) ≡ length ps
length_owned i [] = refl
length_owned i (p ∷ ps) = ap suc (length_owned i ps)

has_nothing_more : (m : Walked) (i e : ℕ) → Has m i e → Has m (i + 0) (e + 0)
has_nothing_more m i e h = record { instances = omega (arith, h.instances); elements = omega (arith, h.elements) }

has_instance : (m : Walked) (p : List Step) (c : Content) (i e : ℕ) → Has m i e → Has (with_instance m p c) (i + 1) (e + 0)
has_instance m p c i e h = record {
  instances = length-append m.instances (instance_of m.instances p c ∷ []) ∙ ap (λ n. n + 1) h.instances;
  elements = omega (arith, h.elements);
}

has_elements : (m : Walked) (n : ℕ) (points : List Point) (i e : ℕ) → Has m i e → Has (with_elements m n points) (i + 0) (e + length points)
has_elements m n points i e h = record {
  instances = omega (arith, h.instances);
  elements = length-append m.elements (map (owned n) points) ∙ ap (λ k. k + length (map (owned n) points)) h.elements ∙ ap (λ k. e + k) (length_owned n points);
}

has_both : (m : Walked) (n : ℕ) (p : List Step) (c : Content) (points : List Point) (i e : ℕ) → Has m i e → Has (with_elements (with_instance m p c) n points) (i + 1) (e + length points)
has_both m n p c points i e h = record {
  instances = length-append m.instances (instance_of m.instances p c ∷ []) ∙ ap (λ k. k + 1) h.instances;
  elements = length-append m.elements (map (owned n) points) ∙ ap (λ k. k + length (map (owned n) points)) h.elements ∙ ap (λ k. e + k) (length_owned n points);
}

moved : (m n : Walked) (i e : ℕ) → m ≡ n → Has m i e → Has n i e
moved m n i e q h = subst (λ (w : Walked). Has w i e) q h

-- a step that goes adds what the event brings
one_more : (m n : Walked) (x : Event) (i e : ℕ) → Has m i e → step m x ≡ Ok n → Has n (i + instances_in x) (e + elements_in x)
one_more m n (Fails p r) i e h g = cc
one_more m n Skips i e h g = let same : m ≡ n = cc in moved m n _ _ same (has_nothing_more m i e h)
one_more m n (Opens p c) i e h g = moved (with_instance m p (content.Block c)) n _ _ (ok_case (has_room m) _ n _ g) (has_instance m p (content.Block c) i e h)
one_more m n (Begins p) i e h g = moved m n _ _ (ok_case (has_room m) m n _ g) (has_nothing_more m i e h)
one_more m n (Stands p k v points) i e h g = moved (with_elements (with_instance m p (content.Elementary k v)) (length m.instances) points) n _ _ (ok_case (has_room_for m points) _ n _ g)
    (has_both m (length m.instances) p (content.Elementary k v) points i e h)
one_more m n (Adds p d points) i e h g = moved (with_elements m (owner_of m.instances d) points) n _ _ (ok_case (has_room_for m points) _ n _ g) (has_elements m (owner_of m.instances d) points i e h)

abbrev HasAll : Walked → ℕ → ℕ → List (Key × Event) → Type 0
HasAll n i e xs = Has n (i + instances_of xs) (e + elements_of xs)

put_together : (n : Walked) (x : Event) (xs : List (Key × Event)) (i e : ℕ) → HasAll n (i + instances_in x) (e + elements_in x) xs → Has n (i + (instances_in x + instances_of xs)) (e + (elements_in x + elements_of xs))
put_together n x xs i e h = record { instances = omega (arith, h.instances); elements = omega (arith, h.elements) }

more_steps : (m n : Walked) (x : Key × Event) (xs : List (Key × Event)) (i e : ℕ) (r : Result Walked Fault) → Has m i e → step m x.1 ≡ r
    → ((k : Walked) (j f : ℕ) → Has k j f → goes step k xs ≡ Ok n → HasAll n j f xs) → on_ok r (λ k. goes step k xs) ≡ Ok n → HasAll n i e (x ∷ xs)
more_steps m n x xs i e (Ok k) h g f q = put_together n x.1 xs i e (f k _ _ (one_more m k x.1 i e h g) q)
more_steps m n x xs i e (Err y) h g f q = cc

many_steps : (m n : Walked) (xs : List (Key × Event)) (i e : ℕ) → Has m i e → goes step m xs ≡ Ok n → HasAll n i e xs
many_steps m n [] i e h g = let same : m ≡ n = cc in moved m n _ _ same (has_nothing_more m i e h)
many_steps m n (x ∷ xs) i e h g = more_steps m n x xs i e (step m x.1) h refl (λ k j f a b. many_steps k n xs j f a b) g

has_none : Has nothing 0 0
has_none = record { instances = refl; elements = refl }

brought : (n : Walked) (xs : List (Key × Event)) → goes step nothing xs ≡ Ok n → HasAll n 0 0 xs
brought n xs g = many_steps nothing n xs 0 0 has_none g

-- ---- what is bad

step_bad : (xs : List (Key × Event)) (m : Walked) (x : Event) (f : Fault) → length m.instances ≡ instances_of xs → length m.elements ≡ elements_of xs → step m x ≡ Err f → Bad xs x f
step_bad xs m (Fails p r) f i e h = cc
step_bad xs m Skips f i e h = cc
step_bad xs m (Opens p c) f i e h = let both = err_case (has_room m) _ (p, TOO_MANY_OR_TOO_DEEP) f h in (both.1, subst (λ n. MOST_INSTANCES < n + 1) i (no_room (length m.instances) MOST_INSTANCES both.0))
step_bad xs m (Begins p) f i e h = let both = err_case (has_room m) _ (p, TOO_MANY_OR_TOO_DEEP) f h in (both.1, subst (λ n. MOST_INSTANCES < n + 1) i (no_room (length m.instances) MOST_INSTANCES both.0))
step_bad xs m (Stands p k v points) f i e h = let both = err_case (has_room_for m points) _ (p, TOO_MANY_OR_TOO_DEEP) f h in
    (both.1, subst (λ n. MOST_ELEMENTS < n + length points) e (too_many (length m.elements + length points) MOST_ELEMENTS both.0))
step_bad xs m (Adds p d points) f i e h = let both = err_case (has_room_for m points) _ (p, TOO_MANY_OR_TOO_DEEP) f h in
    (both.1, subst (λ n. MOST_ELEMENTS < n + length points) e (too_many (length m.elements + length points) MOST_ELEMENTS both.0))

step_fails : (xs : List (Key × Event)) (m : Walked) (x : Event) (f : Fault) → length m.instances ≡ instances_of xs → length m.elements ≡ elements_of xs → Bad xs x f → step m x ≡ Err f
step_fails xs m (Fails p r) f i e h = ap Err (sym h)
step_fails xs m Skips f i e h = absurd h
step_fails xs m (Opens p c) f i e h = err_chosen (has_room m) _ (p, TOO_MANY_OR_TOO_DEEP) f (is_no_room (length m.instances) MOST_INSTANCES (subst (λ n. MOST_INSTANCES < n + 1) (sym i) h.1)) h.0
step_fails xs m (Begins p) f i e h = err_chosen (has_room m) _ (p, TOO_MANY_OR_TOO_DEEP) f (is_no_room (length m.instances) MOST_INSTANCES (subst (λ n. MOST_INSTANCES < n + 1) (sym i) h.1)) h.0
step_fails xs m (Stands p k v points) f i e h = err_chosen (has_room_for m points) _ (p, TOO_MANY_OR_TOO_DEEP) f
    (are_too_many (length m.elements + length points) MOST_ELEMENTS (subst (λ n. MOST_ELEMENTS < n + length points) (sym e) h.1)) h.0
step_fails xs m (Adds p d points) f i e h = err_chosen (has_room_for m points) _ (p, TOO_MANY_OR_TOO_DEEP) f
    (are_too_many (length m.elements + length points) MOST_ELEMENTS (subst (λ n. MOST_ELEMENTS < n + length points) (sym e) h.1)) h.0

instances_counted : (n : Walked) (xs : List (Key × Event)) → goes step nothing xs ≡ Ok n → length n.instances ≡ instances_of xs
instances_counted n xs g = let all = brought n xs g in all.instances ∙ omega arith

elements_counted : (n : Walked) (xs : List (Key × Event)) → goes step nothing xs ≡ Ok n → length n.elements ≡ elements_of xs
elements_counted n xs g = let all = brought n xs g in all.elements ∙ omega arith

pub agrees : Agrees step nothing Bad
agrees = record {
  bad = λ xs m x f g h. step_bad xs m x f (instances_counted m xs g) (elements_counted m xs g) h;
  fails = λ xs m x f g h. step_fails xs m x f (instances_counted m xs g) (elements_counted m xs g) h;
}

pub judges_fault : (S : Key → Event → Type 0) (f : WalkFault) → StopsAt step S nothing (seen f) → Judges S (Err f)
judges_fault S walk.OutOfMemory h = tt
judges_fault S (walk.Rule r p) h = first_of_stops step nothing Bad S (p.steps, r) agrees h

pub judges_found : (S : Key → Event → Type 0) (w : Walked) → Went step S nothing w → Judges S (Ok w)
judges_found S w v = none_of_went step nothing Bad S w agrees v

-- a walk from the root
abbrev the_class : ℕ → ClassId
the_class n = record { index = n }

root_is : (w : Model) (c : ClassId) → c.index ≡ w.root → c ≡ the_root w
root_is w c e = ap (λ (n : ℕ). the_class n) e

pub root_went : (w : Model) (h : Here) (c : ClassId) (m n : Walked) → h ≡ start → c.index ≡ w.root → m ≡ nothing → Went step (InBlock w h c) m n → Went step (InModel w) nothing n
root_went w h c m n e r q v =
    subst (λ (z : Walked). Went step (InBlock w start (the_root w)) z n) q
    (subst (λ (z : ClassId). Went step (InBlock w start z) m n) (root_is w c r)
    (subst (λ (z : Here). Went step (InBlock w z c) m n) e v))

pub root_found : (w : Model) (h : Here) (c : ClassId) (m n : Walked) → h ≡ start → c.index ≡ w.root → m ≡ nothing → Went step (InBlock w h c) m n → Judges (InModel w) (Ok n)
root_found w h c m n e r q v = judges_found (InModel w) n (root_went w h c m n e r q v)

pub root_fault : (w : Model) (h : Here) (c : ClassId) (m : Walked) (f : WalkFault) → h ≡ start → c.index ≡ w.root → m ≡ nothing → StopsAt step (InBlock w h c) m (seen f) → Judges (InModel w) (Err f)
root_fault w h c m f e r q v = judges_fault (InModel w) f
    (subst (λ (z : Walked). StopsAt step (InBlock w start (the_root w)) z (seen f)) q
    (subst (λ (z : ClassId). StopsAt step (InBlock w start z) m (seen f)) (root_is w c r)
    (subst (λ (z : Here). StopsAt step (InBlock w z c) m (seen f)) e v)))

-- ---- what is found is not too much

ok_test : (b : Bool) (k n : Walked) (f : Fault) → cond b (Ok k) (Err f) ≡ Ok n → b ≡ true
ok_test true k n f h = refl
ok_test false k n f h = cc

fitting : (a b : ℕ) → nat_le a b ≡ true → a ≤ b
fitting a b h = grind (arith, nat_tests, h)

-- an event that brings elements, of which there are not too many
fits_more : (m n : Walked) (x : Event) (points : List Point) → elements_in x ≡ length points → has_room_for m points ≡ true → step m x ≡ Ok n → length n.elements ≤ MOST_ELEMENTS
fits_more m n x points c f g =
    let all = one_more m n x (length m.instances) (length m.elements) (record { instances = refl; elements = refl }) g in
    let long : length n.elements ≡ length m.elements + elements_in x = all.elements in
    let room : length m.elements + length points ≤ MOST_ELEMENTS = fitting (length m.elements + length points) MOST_ELEMENTS f in
    omega (arith, long, room, c)

same_few : (m n : Walked) → m ≡ n → length m.elements ≤ MOST_ELEMENTS → length n.elements ≤ MOST_ELEMENTS
same_few m n e h = subst (λ (w : Walked). length w.elements ≤ MOST_ELEMENTS) e h

step_few : (m n : Walked) (x : Event) → length m.elements ≤ MOST_ELEMENTS → step m x ≡ Ok n → length n.elements ≤ MOST_ELEMENTS
step_few m n (Fails p r) h g = cc
step_few m n Skips h g = let same : m ≡ n = cc in same_few m n same h
step_few m n (Opens p c) h g = same_few (with_instance m p (content.Block c)) n (ok_case (has_room m) _ n _ g) h
step_few m n (Begins p) h g = same_few m n (ok_case (has_room m) m n _ g) h
step_few m n (Stands p k v points) h g = fits_more m n (Stands p k v points) points refl (ok_test (has_room_for m points) _ n _ g) g
step_few m n (Adds p d points) h g = fits_more m n (Adds p d points) points refl (ok_test (has_room_for m points) _ n _ g) g

more_few : (m n : Walked) (x : Key × Event) (xs : List (Key × Event)) (r : Result Walked Fault) → length m.elements ≤ MOST_ELEMENTS → step m x.1 ≡ r
    → ((k : Walked) → length k.elements ≤ MOST_ELEMENTS → goes step k xs ≡ Ok n → length n.elements ≤ MOST_ELEMENTS) → on_ok r (λ k. goes step k xs) ≡ Ok n → length n.elements ≤ MOST_ELEMENTS
more_few m n x xs (Ok k) h g f q = f k (step_few m k x.1 h g) q
more_few m n x xs (Err y) h g f q = cc

goes_few : (m n : Walked) (xs : List (Key × Event)) → length m.elements ≤ MOST_ELEMENTS → goes step m xs ≡ Ok n → length n.elements ≤ MOST_ELEMENTS
goes_few m n [] h g = let same : m ≡ n = cc in same_few m n same h
goes_few m n (x ∷ xs) h g = more_few m n x xs (step m x.1) h refl (λ k a b. goes_few k n xs a b) g

no_instances : (m : Walked) → m ≡ nothing → length m.instances ≤ MOST_INSTANCES
no_instances m e = subst (λ (w : Walked). length w.instances ≤ MOST_INSTANCES) (sym e) (omega arith)

pub root_few : (w : Model) (h : Here) (c : ClassId) (d : ℕ) (m n : Walked) → h ≡ start → c.index ≡ w.root → m ≡ nothing → Went step (InBlock w h c) m n → IsDeeper d m.instances n.instances
    → (length n.instances ≤ MOST_INSTANCES) × (length n.elements ≤ MOST_ELEMENTS)
root_few w h c d m n e r q v deep = let went = root_went w h c m n e r q v in (deep.few (no_instances m q), goes_few nothing n went.entries (omega arith) went.goes)
