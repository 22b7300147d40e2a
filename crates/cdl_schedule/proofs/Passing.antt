-- The steps of a tick: each vertex adds its own.
use Rattle.std.proofs.Common.{ℕ, zero, suc, ◌+◌, ◌-◌, ◌<◌, ◌≤◌, ◌≡◌, ◌⊎◌, refl, sym, ap, ◌∙◌, subst, arith, Bool, true, false, cond, inl, inr, List, [], ◌∷◌, ◌++◌, filter, length, get_or, Option, Some, None, slice_get}
use Rattle.cdl_source.proofs.Cases.{by_lt, by_bool}
use Rattle.std.proofs.lemmas.Bool.{false≢true, lt-ltb, le-ltb}
use Rattle.std.proofs.lemmas.Option.{slice_get_within}
use Rattle.cdl_search.specs.Order.{IsOrder}
use Rattle.cdl_network.specs.Dependence.{Origin, Row, From, Out, HasOrigin, outputs_of, is_root_input, root_inputs}
use Rattle.cdl_network.specs.Lists.{numbers}
use Rattle.cdl_network.proofs.Checking.{has_origin, one_origin, slice_in}
use Rattle.cdl_network.proofs.Inside.{in_slice}
use Rattle.cdl_connect.proofs.Networks.{in_all, net_closed, net_shaped, none_first}
use Rattle.cdl_connect.specs.declared.net.Net.{Net}
use Rattle.cdl_connect.specs.Faults.{IsChecked}
use Rattle.cdl_connect.specs.Nets.{network_of}
use Rattle.cdl_schedule.specs.declared.steps.Step.{Step}
use Rattle.cdl_schedule.specs.declared.steps.Step.TheVariants.{Input, Copy, Emit}
use Rattle.cdl_schedule.specs.Passes.{IsPass, IsStep, Reads, Writes}
use Rattle.cdl_schedule.specs.inner.Passed.{Done, Passed, copy_step, input_steps, inputs_below, step_by, step_of, vertex_at, with_step}
use Rattle.cdl_schedule.specs.inner.Rows.{AreSources, Precedes, cause_of, vertex_count, vertex_of}
use Rattle.cdl_schedule.proofs.Causes.{cause_is}
use Rattle.cdl_schedule.proofs.Loops.{direct_are, has_inside, reads_are, some_at}

-- places
old_slice : {A : Type 0} (xs : List A) (z : A) (j : ℕ) (o : A) → slice_get xs j ≡ Some o → slice_get (xs ++ z ∷ []) j ≡ Some o
old_slice [] z j o e = absurd (cc)
old_slice (x ∷ xs) z zero o e = e
old_slice (x ∷ xs) z (suc j) o e = old_slice xs z j o e

new_slice : {A : Type 0} (xs : List A) (z : A) → slice_get (xs ++ z ∷ []) (length xs) ≡ Some z
new_slice [] z = refl
new_slice (x ∷ xs) z = new_slice xs z

split_slice : {A : Type 0} (xs : List A) (z : A) (j : ℕ) (o : A) → slice_get (xs ++ z ∷ []) j ≡ Some o → (slice_get xs j ≡ Some o) ⊎ ((j ≡ length xs) × (z ≡ o))
split_slice [] z zero o e = inr (refl, cc)
split_slice [] z (suc j) o e = absurd (cc)
split_slice (x ∷ xs) z zero o e = inl e
split_slice (x ∷ xs) z (suc j) o e = later (split_slice xs z j o e)
  where
    later : (slice_get xs j ≡ Some o) ⊎ ((j ≡ length xs) × (z ≡ o)) → (slice_get xs j ≡ Some o) ⊎ ((suc j ≡ suc (length xs)) × (z ≡ o))
    later (inl q) = inl q
    later (inr q) = inr (ap suc q.0, q.1)

-- the inputs of the root
input_at : (xs : List ℕ) (k j : ℕ) (o : Step) → slice_get (input_steps k xs) j ≡ Some o → (x : ℕ) × (slice_get xs j ≡ Some x) × (o ≡ Input (k + j) x)
input_at [] k j o e = absurd (cc)
input_at (x ∷ xs) k zero o e = let q : k + 0 ≡ k = omega arith in let s : Input k x ≡ o = cc in (x, refl, sym s ∙ ap (λ m. Input m x) (sym q))
input_at (x ∷ xs) k (suc j) o e = let r = input_at xs (suc k) j o e in let q : suc k + j ≡ k + suc j = omega arith in (r.0, r.1, r.2 ∙ ap (λ m. Input m r.0) q)

input_has : (xs : List ℕ) (k j x : ℕ) → slice_get xs j ≡ Some x → slice_get (input_steps k xs) j ≡ Some (Input (k + j) x)
input_has [] k j x e = absurd (cc)
input_has (y ∷ xs) k zero x e = let q : k + 0 ≡ k = omega arith in let s : y ≡ x = cc in ap (λ m. Some (Input m y)) (sym q) ∙ ap (λ z. Some (Input (k + 0) z)) s
input_has (y ∷ xs) k (suc j) x e = let q : suc k + j ≡ k + suc j = omega arith in input_has xs (suc k) j x e ∙ ap (λ m. Some (Input m x)) q

input_after : (xs : List ℕ) (k z : ℕ) → input_steps k (xs ++ z ∷ []) ≡ input_steps k xs ++ Input (k + length xs) z ∷ []
input_after [] k z = let q : k ≡ k + 0 = omega arith in ap (λ m. Input m z ∷ []) q
input_after (x ∷ xs) k z = let q : suc k + length xs ≡ k + suc (length xs) = omega arith in ap (λ l. Input k x ∷ l) (input_after xs (suc k) z ∙ ap (λ m. input_steps (suc k) xs ++ Input m z ∷ []) q)

input_length : (xs : List ℕ) (k : ℕ) → length (input_steps k xs) ≡ length xs
input_length [] k = refl
input_length (x ∷ xs) k = ap suc (input_length xs (suc k))

pub numbers_after : (a t : ℕ) → numbers a (suc t) ≡ numbers a t ++ (a + t) ∷ []
numbers_after a zero = let q : a ≡ a + 0 = omega arith in ap (λ z. z ∷ []) q
numbers_after a (suc t) = let q : suc a + t ≡ a + suc t = omega arith in ap (λ l. a ∷ l) (numbers_after (suc a) t ∙ ap (λ z. numbers (suc a) t ++ z ∷ []) q)

pub filter_after : (f : ℕ → Bool) (xs : List ℕ) (z : ℕ) → filter f (xs ++ z ∷ []) ≡ cond (f z) (filter f xs ++ z ∷ []) (filter f xs)
filter_after f [] z = refl
filter_after f (x ∷ xs) z = cases (f x) (f z) (filter f xs) ∙ ap (λ l. cond (f x) (x ∷ l) l) (filter_after f xs z) ∙ ends (f x) (f z) (filter f xs)
  where
    cases : (a b : Bool) (l : List ℕ) → cond a (x ∷ filter f (xs ++ z ∷ [])) (filter f (xs ++ z ∷ [])) ≡ cond a (x ∷ filter f (xs ++ z ∷ [])) (filter f (xs ++ z ∷ []))
    cases a b l = refl

    ends : (a b : Bool) (l : List ℕ) → cond a (x ∷ cond b (l ++ z ∷ []) l) (cond b (l ++ z ∷ []) l) ≡ cond b (cond a (x ∷ l) l ++ z ∷ []) (cond a (x ∷ l) l)
    ends true true l = refl
    ends true false l = refl
    ends false true l = refl
    ends false false l = refl

below_next : (n : Net) (t : ℕ) → inputs_below n (t + 1) ≡ cond (is_root_input (network_of n) t) (inputs_below n t ++ t ∷ []) (inputs_below n t)
below_next n t =
    let q : t + 1 ≡ suc t = omega arith in
    let z : 0 + t ≡ t = omega arith in
    ap (λ m. inputs_below n m) q ∙ ap (filter (is_root_input (network_of n))) (numbers_after 0 t ∙ ap (λ y. numbers 0 t ++ y ∷ []) z) ∙ filter_after (is_root_input (network_of n)) (numbers 0 t) t

pub inputs_skip : (n : Net) (t : ℕ) (steps : List Step) → steps ≡ input_steps 0 (inputs_below n t) → is_root_input (network_of n) t ≡ false → steps ≡ input_steps 0 (inputs_below n (t + 1))
inputs_skip n t steps e h = e ∙ ap (input_steps 0) (sym (below_next n t ∙ ap (λ b. cond b (inputs_below n t ++ t ∷ []) (inputs_below n t)) h))

pub inputs_add : (n : Net) (t place : ℕ) (steps steps2 : List Step) → steps ≡ input_steps 0 (inputs_below n t) → is_root_input (network_of n) t ≡ true → place ≡ length steps → steps2 ≡ steps ++ Input place t ∷ [] → steps2 ≡ input_steps 0 (inputs_below n (t + 1))
inputs_add n t place steps steps2 e h p q =
    let l : place ≡ 0 + length (inputs_below n t) = let r = ap length e ∙ input_length (inputs_below n t) 0 in omega (arith, p, r) in
    q ∙ ap (λ l. l ++ Input place t ∷ []) e ∙ ap (λ m. input_steps 0 (inputs_below n t) ++ Input m t ∷ []) l ∙ sym (input_after (inputs_below n t) 0 t)
    ∙ ap (input_steps 0) (sym (below_next n t ∙ ap (λ b. cond b (inputs_below n t ++ t ∷ []) (inputs_below n t)) h))

-- before any vertex
pub passed_start : (n : Net) (order : List ℕ) (steps : List Step) → steps ≡ input_steps 0 (root_inputs (network_of n)) → Passed n order 0 steps
passed_start n order steps e = subst (λ l. Passed n order 0 l) (sym e) (record {
  named = λ j o s. let r = input_at (root_inputs (network_of n)) 0 j o s in let q : 0 + j ≡ j = omega arith in
      subst (λ p. IsStep n p) (sym (r.2 ∙ ap (λ m. Input m r.0) q)) r.1;
  from = λ j v o s a. let r = input_at (root_inputs (network_of n)) 0 j o s in absurd (no_vertex v (0 + j) r.0 o r.2 a);
  rows = λ x k h. (k, let q : 0 + k ≡ k = omega arith in input_has (root_inputs (network_of n)) 0 k x h ∙ ap (λ m. Some (Input m x)) q);
  done = λ p h. absurd (omega (arith, h));
  after = λ j x o s r. let i = input_at (root_inputs (network_of n)) 0 j o s in absurd (subst (λ p. Reads n p x) i.2 r);
  alone = λ i j o h s u. let a = input_at (root_inputs (network_of n)) 0 i o s in let b = input_at (root_inputs (network_of n)) 0 j o u in absurd (apart i j a.0 b.0 o h a.2 b.2);
})
  where
    no_vertex : (v m x : ℕ) (o : Step) → o ≡ Input m x → vertex_at (length n.elements) o ≡ Some v → ⊥
    no_vertex v m x o e a = let q : None ≡ Some v = sym (ap (vertex_at (length n.elements)) e) ∙ a in absurd (cc)

    apart : (i j x y : ℕ) (o : Step) → i < j → o ≡ Input (0 + i) x → o ≡ Input (0 + j) y → ⊥
    apart i j x y o h a b = let q : Input (0 + i) x ≡ Input (0 + j) y = sym a ∙ b in let r : 0 + i ≡ 0 + j = cc in omega (arith, h, r)

-- what is known of the step of a vertex
pub record Fact (n : Net) (v : ℕ) (o : Step) : Type 0 where
  pub named : IsStep n o
  pub at : vertex_at (length n.elements) o ≡ Some v
  pub reads : (e : ℕ) → Reads n o e → (e < length n.elements) × Precedes n e v
  pub element : (c : Origin ℕ ℕ) → HasOrigin (network_of n) v c → step_by v c ≡ o
  pub instance : (i : ℕ) → v ≡ length n.elements + i → (network_of n).elementary i ≡ true → Emit i ≡ o

done_longer : (n : Net) (steps : List Step) (o : Step) (v : ℕ) → Done n steps v → Done n (steps ++ o ∷ []) v
done_longer n steps o v d = record {
  element = λ c h. let r = d.element c h in (r.0, old_slice steps o r.0 (step_by v c) r.1);
  instance = λ i e h. let r = d.instance i e h in (r.0, old_slice steps o r.0 (Emit i) r.1);
}

pub only_origin : (n : Net) (x : ℕ) (c d : Origin ℕ ℕ) → IsChecked n → HasOrigin (network_of n) x c → HasOrigin (network_of n) x d → c ≡ d
only_origin n x c d f g h =
    let r = none_first n f.unbroken in
    one_origin (network_of n) x c d (net_shaped n f.indexed) r.0 r.1 (in_all (length n.elements) x (has_inside n x c f g)) g h

pub some_origin : (n : Net) (x : ℕ) → IsChecked n → x < length n.elements → (c : Origin ℕ ℕ) × HasOrigin (network_of n) x c
some_origin n x f h =
    let r = none_first n f.unbroken in
    has_origin (network_of n) x (net_closed n f.indexed) (net_shaped n f.indexed) r.1 (in_all (length n.elements) x h)

writes_by : (n : Net) (x : ℕ) (c : Origin ℕ ℕ) → HasOrigin (network_of n) x c → Writes n (step_by x c) x
writes_by n x (Row k) h = refl
writes_by n x (From s) h = refl
writes_by n x (Out i k) h = in_slice (outputs_of (network_of n) i) k x h.2

-- one step more
passed_add : (n : Net) (order : List ℕ) (t : ℕ) (steps : List Step) (o : Step) → IsChecked n → IsOrder (Precedes n) (vertex_count n) order → Passed n order t steps → t < length order → Fact n (get_or order t 0) o → Passed n order (t + 1) (steps ++ o ∷ [])
passed_add n order t steps o f r p h a = record {
  named = λ j q s. named j q (split_slice steps o j q s);
  from = λ j v q s u. from j v q (split_slice steps o j q s) u;
  rows = λ x k g. let i = p.rows x k g in (i.0, old_slice steps o i.0 (Input k x) i.1);
  done = λ i g. by_lt i t (λ l. done_longer n steps o (get_or order i 0) (p.done i l)) (λ l. let e : t ≡ i = omega arith in subst (λ m. Done n (steps ++ o ∷ []) (get_or order m 0)) e here);
  after = λ j e q s u. after j e q (split_slice steps o j q s) u;
  alone = λ i j q l s u. alone i j q l (split_slice steps o i q s) (split_slice steps o j q u);
}
  where
    v : ℕ
    v = get_or order t 0

    named : (j : ℕ) (q : Step) → (slice_get steps j ≡ Some q) ⊎ ((j ≡ length steps) × (o ≡ q)) → IsStep n q
    named j q (inl s) = p.named j q s
    named j q (inr s) = subst (λ z. IsStep n z) s.1 a.named

    from : (j w : ℕ) (q : Step) → (slice_get steps j ≡ Some q) ⊎ ((j ≡ length steps) × (o ≡ q)) → vertex_at (length n.elements) q ≡ Some w → (i : ℕ) × (i < t + 1) × (get_or order i 0 ≡ w)
    from j w q (inl s) u = let i = p.from j w q s u in let l = i.1 in (i.0, omega (arith, l), i.2)
    from j w q (inr s) u =
        let e : Some (get_or order t 0) ≡ Some w = sym a.at ∙ ap (vertex_at (length n.elements)) s.1 ∙ u in
        (t, omega arith, cc)

    here : Done n (steps ++ o ∷ []) (get_or order t 0)
    here = record {
      element = λ c g. (length steps, new_slice steps o ∙ ap Some (sym (a.element c g)));
      instance = λ i e g. (length steps, new_slice steps o ∙ ap Some (sym (a.instance i e g)));
    }

    after : (j e : ℕ) (q : Step) → (slice_get steps j ≡ Some q) ⊎ ((j ≡ length steps) × (o ≡ q)) → Reads n q e → (i : ℕ) × (z : Step) × (i < j) × (slice_get (steps ++ o ∷ []) i ≡ Some z) × Writes n z e
    after j e q (inl s) u = let i = p.after j e q s u in (i.0, i.1, i.2, old_slice steps o i.0 i.1 i.3, i.4)
    after j e q (inr s) u =
        let d = a.reads e (subst (λ z. Reads n z e) (sym s.1) u) in
        let b = r.behind t e h d.1 in
        let c = some_origin n e f d.0 in
        let w = (p.done b.0 b.1).element c.0 (subst (λ z. HasOrigin (network_of n) z c.0) (sym b.2) c.1) in
        let g : slice_get steps w.0 ≡ Some (step_by e c.0) = w.1 ∙ ap (λ z. Some (step_by z c.0)) b.2 in
        let l = slice_get_within steps w.0 (step_by e c.0) g in
        let k = s.0 in
        (w.0, step_by e c.0, omega (arith, l, k), old_slice steps o w.0 (step_by e c.0) g, writes_by n e c.0 c.1)

    alone : (i j : ℕ) (q : Step) → i < j → (slice_get steps i ≡ Some q) ⊎ ((i ≡ length steps) × (o ≡ q)) → (slice_get steps j ≡ Some q) ⊎ ((j ≡ length steps) × (o ≡ q)) → ⊥
    alone i j q l (inl s) (inl u) = p.alone i j q l s u
    alone i j q l (inl s) (inr u) =
        let b = p.from i (get_or order t 0) q s (sym (ap (vertex_at (length n.elements)) u.1) ∙ a.at) in
        r.once b.0 t b.1 h b.2
    alone i j q l (inr s) (inl u) = let m = slice_get_within steps j q u in let k = s.0 in omega (arith, l, m, k)
    alone i j q l (inr s) (inr u) = let k = s.0 in let m = u.0 in omega (arith, l, k, m)

passed_skip : (n : Net) (order : List ℕ) (t : ℕ) (steps : List Step) → Passed n order t steps → Done n steps (get_or order t 0) → Passed n order (t + 1) steps
passed_skip n order t steps p d = record {
  named = p.named;
  from = λ j v o s u. let i = p.from j v o s u in let l = i.1 in (i.0, omega (arith, l), i.2);
  rows = p.rows;
  done = λ i g. by_lt i t (λ l. p.done i l) (λ l. let e : t ≡ i = omega arith in subst (λ m. Done n steps (get_or order m 0)) e d);
  after = p.after;
  alone = p.alone;
}

-- the step of an element, by its origin
abbrev element_step : ℕ → Origin ℕ ℕ → Option Step
element_step x (Row k) = None
element_step x (From s) = Some (Copy s x)
element_step x (Out i k) = None

step_is : (n : Net) (sources : List ℕ) (x : ℕ) → IsChecked n → AreSources n (length n.wires) sources → x < length n.elements → (c : Origin ℕ ℕ) × HasOrigin (network_of n) x c × (step_of n sources x ≡ element_step x c)
step_is n sources x f a h =
    let c = cause_is n sources x f a h in
    let first : step_of n sources x ≡ copy_step (length n.elements) x (cause_of n sources x) = ap (λ b. cond b (copy_step (length n.elements) x (cause_of n sources x)) (cond ((network_of n).elementary (x - length n.elements)) (Some (Emit (x - length n.elements))) None)) (lt-ltb x (length n.elements) h) in
    (c.0, c.1, first ∙ ap (copy_step (length n.elements) x) (sym c.2) ∙ by_origin c.0 c.1)
  where
    by_origin : (c : Origin ℕ ℕ) → HasOrigin (network_of n) x c → copy_step (length n.elements) x (vertex_of (length n.elements) c) ≡ element_step x c
    by_origin (Row k) g = refl
    by_origin (From s) g = let l = reads_are n x (From s) s f g refl in ap (λ b. cond {A = Option Step} b (Some (Copy s x)) None) (lt-ltb s (length n.elements) l)
    by_origin (Out i k) g = ap (λ b. cond {A = Option Step} b (Some (Copy (length n.elements + i) x)) None) (le-ltb (length n.elements + i) (length n.elements) (omega arith))

copy_fact : (n : Net) (x s : ℕ) → IsChecked n → HasOrigin (network_of n) x (From s) → Fact n x (Copy s x)
copy_fact n x s f g = record {
  named = g;
  at = refl;
  reads = λ e r. subst (λ z. (z < length n.elements) × Precedes n z x) (sym r) (reads_are n x (From s) s f g refl, inl (From s, g, refl));
  element = λ c h. ap (step_by x) (only_origin n x c (From s) f h g);
  instance = λ i e h. let l = has_inside n x (From s) f g in absurd (omega (arith, e, l));
}

emit_fact : (n : Net) (i v : ℕ) → IsChecked n → v ≡ length n.elements + i → (network_of n).elementary i ≡ true → Fact n v (Emit i)
emit_fact n i v f e h = record {
  named = (some_at n i h, h);
  at = ap Some (sym e);
  reads = λ x r. (direct_are n i x r, inr (i, e, h, r));
  element = λ c g. let l = has_inside n v c f g in absurd (omega (arith, e, l));
  instance = λ j q g. let k : j ≡ i = omega arith in ap Emit k;
}

-- the vertices without a step
row_done : (n : Net) (order : List ℕ) (t x k : ℕ) (steps : List Step) → IsChecked n → Passed n order t steps → HasOrigin (network_of n) x (Row k) → Done n steps x
row_done n order t x k steps f p g = record {
  element = λ c h. let r = p.rows x k g in (r.0, r.1 ∙ ap (λ z. Some (step_by x z)) (only_origin n x (Row k) c f g h));
  instance = λ i e h. let l = has_inside n x (Row k) f g in absurd (omega (arith, e, l));
}

out_done : (n : Net) (order : List ℕ) (t i k : ℕ) (steps : List Step) → IsChecked n → IsOrder (Precedes n) (vertex_count n) order → Passed n order t steps → t < length order → HasOrigin (network_of n) (get_or order t 0) (Out i k) → Done n steps (get_or order t 0)
out_done n order t i k steps f r p h g =
    let b = r.behind t (length n.elements + i) h (inl (Out i k, g, refl)) in
    let w = (p.done b.0 b.1).instance i b.2 g.1 in
    record {
      element = λ c u. (w.0, w.1 ∙ ap (λ z. Some (step_by (get_or order t 0) z)) (only_origin n (get_or order t 0) (Out i k) c f g u));
      instance = λ j e u. let l = has_inside n (get_or order t 0) (Out i k) f g in absurd (omega (arith, e, l));
    }

composite_done : (n : Net) (v : ℕ) (steps : List Step) → IsChecked n → length n.elements ≤ v → (network_of n).elementary (v - length n.elements) ≡ false → Done n steps v
composite_done n v steps f l e = record {
  element = λ c g. let m = has_inside n v c f g in absurd (omega (arith, l, m));
  instance = λ i q h. let k : i ≡ v - length n.elements = omega arith in absurd (false≢true (sym e ∙ ap (network_of n).elementary (sym k) ∙ h));
}

-- the next vertex
pub passed_next : (n : Net) (sources order : List ℕ) (t v : ℕ) (steps steps2 : List Step) → IsChecked n → AreSources n (length n.wires) sources → IsOrder (Precedes n) (vertex_count n) order → Passed n order t steps → t < length order → get_or order t 0 ≡ v → steps2 ≡ with_step steps (step_of n sources v) → Passed n order (t + 1) steps2
passed_next n sources order t v steps steps2 f a r p h w e =
    subst (λ l. Passed n order (t + 1) l) (ap (λ z. with_step steps (step_of n sources z)) w ∙ sym e)
    (by_lt (get_or order t 0) (length n.elements) (λ l. let s = step_is n sources (get_or order t 0) f a l in element s.0 s.1 s.2) (λ l. by_bool ((network_of n).elementary (get_or order t 0 - length n.elements)) (λ b. block l b) (λ b. part l b)))
  where
    element : (c : Origin ℕ ℕ) → HasOrigin (network_of n) (get_or order t 0) c → step_of n sources (get_or order t 0) ≡ element_step (get_or order t 0) c → Passed n order (t + 1) (with_step steps (step_of n sources (get_or order t 0)))
    element (Row k) g q = subst (λ o. Passed n order (t + 1) (with_step steps o)) (sym q) (passed_skip n order t steps p (row_done n order t (get_or order t 0) k steps f p g))
    element (From s) g q = subst (λ o. Passed n order (t + 1) (with_step steps o)) (sym q) (passed_add n order t steps (Copy s (get_or order t 0)) f r p h (copy_fact n (get_or order t 0) s f g))
    element (Out i k) g q = subst (λ o. Passed n order (t + 1) (with_step steps o)) (sym q) (passed_skip n order t steps p (out_done n order t i k steps f r p h g))

    late : length n.elements ≤ get_or order t 0 → step_of n sources (get_or order t 0) ≡ cond ((network_of n).elementary (get_or order t 0 - length n.elements)) (Some (Emit (get_or order t 0 - length n.elements))) None
    late l = ap (λ b. cond b (copy_step (length n.elements) (get_or order t 0) (cause_of n sources (get_or order t 0))) (cond ((network_of n).elementary (get_or order t 0 - length n.elements)) (Some (Emit (get_or order t 0 - length n.elements))) None)) (le-ltb (get_or order t 0) (length n.elements) l)

    block : length n.elements ≤ get_or order t 0 → (network_of n).elementary (get_or order t 0 - length n.elements) ≡ true → Passed n order (t + 1) (with_step steps (step_of n sources (get_or order t 0)))
    block l b =
        let q = late l ∙ ap (λ z. cond {A = Option Step} z (Some (Emit (get_or order t 0 - length n.elements))) None) b in
        subst (λ o. Passed n order (t + 1) (with_step steps o)) (sym q) (passed_add n order t steps (Emit (get_or order t 0 - length n.elements)) f r p h (emit_fact n (get_or order t 0 - length n.elements) (get_or order t 0) f (omega (arith, l)) b))

    part : length n.elements ≤ get_or order t 0 → (network_of n).elementary (get_or order t 0 - length n.elements) ≡ false → Passed n order (t + 1) (with_step steps (step_of n sources (get_or order t 0)))
    part l b =
        let q = late l ∙ ap (λ z. cond {A = Option Step} z (Some (Emit (get_or order t 0 - length n.elements))) None) b in
        subst (λ o. Passed n order (t + 1) (with_step steps o)) (sym q) (passed_skip n order t steps p (composite_done n (get_or order t 0) steps f l b))

-- all vertices
pub step_origin : (n : Net) (o : Step) (e : ℕ) → IsStep n o → Writes n o e → (c : Origin ℕ ℕ) × HasOrigin (network_of n) e c × (step_by e c ≡ o)
step_origin n (Input k x) e s w = (Row k, subst (λ z. HasOrigin (network_of n) z (Row k)) (sym w) s, ap (λ z. Input k z) w)
step_origin n (Copy u x) e s w = (From u, subst (λ z. HasOrigin (network_of n) z (From u)) (sym w) s, ap (λ z. Copy u z) w)
step_origin n (Emit i) e s w = let k = slice_in e (outputs_of (network_of n) i) w in (Out i k.0, (in_all (length n.instances) i s.0, s.1, k.1), refl)

pub pass_of : (n : Net) (order : List ℕ) (steps : List Step) → IsChecked n → IsOrder (Precedes n) (vertex_count n) order → Passed n order (length order) steps → IsPass n steps
pass_of n order steps f r p = record {
  named = p.named;
  each = λ e h.
      let c = some_origin n e f h in
      let b = r.each e (omega (arith, h)) in
      let w = (p.done b.0 b.1).element c.0 (subst (λ z. HasOrigin (network_of n) z c.0) (sym b.2) c.1) in
      (w.0, step_by e c.0, w.1 ∙ ap (λ z. Some (step_by z c.0)) b.2, writes_by n e c.0 c.1);
  once = λ i j e o q l s u w x.
      let a = step_origin n o e (p.named i o s) w in
      let b = step_origin n q e (p.named j q u) x in
      let c : o ≡ q = sym a.2 ∙ ap (step_by e) (only_origin n e a.0 b.0 f a.1 b.1) ∙ b.2 in
      p.alone i j q l (s ∙ ap Some c) u;
  after = p.after;
  all = λ i h.
      let l = some_at n i h in
      let b = r.each (length n.elements + i) (omega (arith, l)) in
      (p.done b.0 b.1).instance i b.2 h;
  alone = p.alone;
}

-- places of the row
filter_few : (f : ℕ → Bool) (xs : List ℕ) → length (filter f xs) ≤ length xs
filter_few f [] = omega arith
filter_few f (x ∷ xs) = let r = filter_few f xs in by_bool (f x)
    (λ e. let q : filter f (x ∷ xs) ≡ x ∷ filter f xs = ap (λ b. cond b (x ∷ filter f xs) (filter f xs)) e in let l : length (filter f (x ∷ xs)) ≡ suc (length (filter f xs)) = ap length q in omega (arith, r, l))
    (λ e. let q : filter f (x ∷ xs) ≡ filter f xs = ap (λ b. cond b (x ∷ filter f xs) (filter f xs)) e in let l : length (filter f (x ∷ xs)) ≡ length (filter f xs) = ap length q in omega (arith, r, l))

pub numbers_length : (a n : ℕ) → length (numbers a n) ≡ n
numbers_length a zero = refl
numbers_length a (suc n) = ap suc (numbers_length (suc a) n)

pub inputs_few : (n : Net) (t : ℕ) (steps : List Step) → steps ≡ input_steps 0 (inputs_below n t) → length steps ≤ t
inputs_few n t steps e =
    let a = ap length e ∙ input_length (inputs_below n t) 0 in
    let b = filter_few (is_root_input (network_of n)) (numbers 0 t) in
    let c = numbers_length 0 t in
    omega (arith, a, b, c)

pub inputs_start : (n : Net) (order : List ℕ) (steps : List Step) → steps ≡ input_steps 0 (inputs_below n (length n.elements)) → Passed n order 0 steps
inputs_start n order steps e = passed_start n order steps e
