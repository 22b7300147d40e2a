-- A tick emits each elementary instance once.
use Rattle.std.proofs.Common.{ℕ, zero, suc, ◌<◌, ◌≤◌, ◌≡◌, ◌⊎◌, ◌==◌, inl, inr, refl, sym, ap, ◌∙◌, subst, arith, true, false, cond, List, [], ◌∷◌, length, Some, slice_get}
use Rattle.cdl_source.proofs.Cases.{by_lt, by_bool}
use Rattle.std.proofs.lemmas.Bool.{eqb-true, eqb-false}
use Rattle.std.proofs.lemmas.Option.{slice_get_within}
use Rattle.cdl_values.specs.declared.value.ValueType.{ValueType}
use Rattle.cdl_network.specs.Lists.{Apart, In, numbers}
use Rattle.cdl_network.proofs.Places.{in_numbers}
use Rattle.cdl_connect.specs.declared.net.Net.{Net}
use Rattle.cdl_connect.specs.Nets.{network_of}
use Rattle.cdl_connect.proofs.Networks.{apart_numbers}
use Rattle.cdl_pass.specs.declared.net.Action.{Action}
use Rattle.cdl_pass.specs.declared.net.Node.{Node}
use Rattle.cdl_pass.specs.Net.{Blocks}
use Rattle.cdl_pass.specs.Tick.{spent_in}
use Rattle.cdl_schedule.specs.declared.steps.Step.{Step}
use Rattle.cdl_schedule.specs.declared.steps.Step.TheVariants.{Input, Copy, Emit}
use Rattle.cdl_schedule.specs.Passes.{IsStep}
use Rattle.cdl_schedule.proofs.Passing.{numbers_length}
use Rattle.cdl_run.specs.Words.{elementary_below}
use Rattle.cdl_run.specs.inner.Laid.{action_of, rank}
use Rattle.cdl_run.specs.inner.Setting.{IsSet}
use Rattle.cdl_run.proofs.Laying.{numbers_in, planned, step_at}
use Rattle.cdl_run.proofs.Ranks.{rank_at, rank_rises}

-- a list of numbers of which none stands twice is no longer than one that has all of them
without : ℕ → List ℕ → List ℕ
without x [] = []
without x (y ∷ ys) = cond (x == y) ys (y ∷ without x ys)

without_length : (x : ℕ) (ys : List ℕ) → In x ys → suc (length (without x ys)) ≡ length ys
unfolding without
without_length x [] i = absurd i
without_length x (y ∷ ys) i = by_bool (x == y)
    (λ h. ap (λ b. suc (length (cond b ys (y ∷ without x ys)))) h)
    (λ h. ap (λ b. suc (length (cond b ys (y ∷ without x ys)))) h ∙ ap suc (rest h i (λ j. without_length x ys j)))
  where
    rest : (x == y) ≡ false → (x ≡ y) ⊎ In x ys → (In x ys → suc (length (without x ys)) ≡ length ys) → suc (length (without x ys)) ≡ length ys
    rest h (inl e) f = absurd (eqb-false x y h e)
    rest h (inr j) f = f j

without_in : (x z : ℕ) (ys : List ℕ) → (z ≡ x → ⊥) → In z ys → In z (without x ys)
unfolding without
without_in x z [] d i = i
without_in x z (y ∷ ys) d (inl e) = by_bool (x == y)
    (λ h. absurd (d (e ∙ sym (eqb-true x y h))))
    (λ h. subst (λ b. In z (cond b ys (y ∷ without x ys))) (sym h) (inl e))
without_in x z (y ∷ ys) d (inr j) =
    let r = without_in x z ys d j in
    by_bool (x == y)
    (λ h. subst (λ b. In z (cond b ys (y ∷ without x ys))) (sym h) j)
    (λ h. subst (λ b. In z (cond b ys (y ∷ without x ys))) (sym h) (inr r))

fewer : (xs ys : List ℕ) → Apart xs → ((z : ℕ) → In z xs → In z ys) → length xs ≤ length ys
fewer [] ys a f = omega arith
fewer (x ∷ xs) ys a f =
    let r = without_length x ys (f x (inl refl)) in
    let h = fewer xs (without x ys) a.1 (λ z i. without_in x z ys (λ e. a.0 (subst (λ u. In u xs) e i)) (f z (inr i))) in
    omega (arith, r, h)

-- the blocks that actions emit
emits : List Action → List ℕ
emits [] = []
emits (Action.Input k x ∷ rest) = emits rest
emits (Action.Copy s x ∷ rest) = emits rest
emits (Action.Emit j ∷ rest) = j ∷ emits rest

spent_emits : (acts : List Action) → spent_in acts (length acts) ≡ length (emits acts)
unfolding emits
spent_emits [] = refl
spent_emits (Action.Input k x ∷ acts) = let r = spent_emits acts in omega (arith, r)
spent_emits (Action.Copy s x ∷ acts) = let r = spent_emits acts in omega (arith, r)
spent_emits (Action.Emit j ∷ acts) = let r = spent_emits acts in omega (arith, r)

emitted_at : (acts : List Action) (j : ℕ) → In j (emits acts) → (q : ℕ) × (slice_get acts q ≡ Some (Action.Emit j))
unfolding emits
emitted_at [] j i = absurd i
emitted_at (Action.Input k x ∷ acts) j i = let r = emitted_at acts j i in (suc r.0, r.1)
emitted_at (Action.Copy s x ∷ acts) j i = let r = emitted_at acts j i in (suc r.0, r.1)
emitted_at (Action.Emit k ∷ acts) j (inl e) = (0, ap (λ z. Some (Action.Emit z)) (sym e))
emitted_at (Action.Emit k ∷ acts) j (inr i) = let r = emitted_at acts j i in (suc r.0, r.1)

is_emitted : (acts : List Action) (q j : ℕ) → slice_get acts q ≡ Some (Action.Emit j) → In j (emits acts)
unfolding emits
is_emitted [] q j e = absurd (cc)
is_emitted (Action.Input k x ∷ acts) zero j e = absurd (cc)
is_emitted (Action.Input k x ∷ acts) (suc q) j e = is_emitted acts q j e
is_emitted (Action.Copy s x ∷ acts) zero j e = absurd (cc)
is_emitted (Action.Copy s x ∷ acts) (suc q) j e = is_emitted acts q j e
is_emitted (Action.Emit k ∷ acts) zero j e = let z : k ≡ j = cc in inl (sym z)
is_emitted (Action.Emit k ∷ acts) (suc q) j e = inr (is_emitted acts q j e)

emits_apart : (acts : List Action) → ((i k : ℕ) (o : Action) → i < k → slice_get acts i ≡ Some o → slice_get acts k ≡ Some o → ⊥) → Apart (emits acts)
unfolding emits
emits_apart [] f = tt
emits_apart (Action.Input k x ∷ acts) f = emits_apart acts (λ i l o h. f (suc i) (suc l) o (omega (arith, h)))
emits_apart (Action.Copy s x ∷ acts) f = emits_apart acts (λ i l o h. f (suc i) (suc l) o (omega (arith, h)))
emits_apart (Action.Emit j ∷ acts) f = (
  λ i. let r = emitted_at acts j i in f 0 (suc r.0) (Action.Emit j) (omega arith) refl r.1,
  emits_apart acts (λ i l o h. f (suc i) (suc l) o (omega (arith, h))),
)

same_rank : (n : Net) (i j : ℕ) → (network_of n).elementary i ≡ true → (network_of n).elementary j ≡ true → rank n i ≡ rank n j → i ≡ j
same_rank n i j a b e = by_lt i j
    (λ h. let r = rank_rises n i j a h in absurd (omega (arith, r, e)))
    (λ h. by_lt j i (λ g. let r = rank_rises n j i b g in absurd (omega (arith, r, e))) (λ g. omega (arith, h, g)))

same_step : (n : Net) (o q : Step) → IsStep n o → IsStep n q → action_of n o ≡ action_of n q → o ≡ q
same_step n (Input k x) (Input l y) a b e = let p : k ≡ l = cc in let r : x ≡ y = cc in ap (λ z. Input z x) p ∙ ap (Input l) r
same_step n (Input k x) (Copy s y) a b e = absurd (cc)
same_step n (Input k x) (Emit i) a b e = absurd (cc)
same_step n (Copy s x) (Input l y) a b e = absurd (cc)
same_step n (Copy s x) (Copy u y) a b e = let p : s ≡ u = cc in let r : x ≡ y = cc in ap (λ z. Copy z x) p ∙ ap (Copy u) r
same_step n (Copy s x) (Emit i) a b e = absurd (cc)
same_step n (Emit i) (Input l y) a b e = absurd (cc)
same_step n (Emit i) (Copy u y) a b e = absurd (cc)
same_step n (Emit i) (Emit j) a b e = let p : rank n i ≡ rank n j = cc in ap Emit (same_rank n i j a.1 b.1 p)

pub one_emit_each : {B : Type 0} {m : Blocks B} {n : Net} {bs : List B} {ps : List Node} {actions : List Action} {kinds rows : List ValueType} → IsSet m n bs ps actions kinds rows → spent_in actions (length actions) ≡ length (elementary_below n (length n.instances))
one_emit_each {n = n} {ps = ps} {actions} s =
    let alone : (i k : ℕ) (a : Action) → i < k → slice_get actions i ≡ Some a → slice_get actions k ≡ Some a → ⊥ = λ i k a h x y.
    let p = step_at s i a x in
    let q = step_at s k a y in
    let e : p.0 ≡ q.0 = same_step n p.0 q.0 (s.pass.named i p.0 p.1) (s.pass.named k q.0 q.1) (p.2 ∙ sym q.2) in
    s.pass.alone i k q.0 h (p.1 ∙ ap Some e) q.1 in
    let count : ℕ = length (elementary_below n (length n.instances)) in
    let inside : (j : ℕ) → In j (emits actions) → In j (numbers 0 count) = λ j i.
    let r = emitted_at actions j i in
    let p = step_at s r.0 (Action.Emit j) r.1 in
    numbers_in 0 count j (omega arith) (let l = emit_below p.0 j (s.pass.named r.0 p.0 p.1) p.2 in omega (arith, l)) in
    let all : (j : ℕ) → In j (numbers 0 count) → In j (emits actions) = λ j i.
    let r = in_numbers 0 count j i in
    let g = s.placed.nodes in
    let b = r.1 in
    let a = (planned s).all j (omega (arith, b, g)) in
    is_emitted actions a.0 j a.1 in
    let l = fewer (emits actions) (numbers 0 count) (emits_apart actions alone) inside in
    let g = fewer (numbers 0 count) (emits actions) (apart_numbers 0 count) all in
    let k = numbers_length 0 count in
    let e = spent_emits actions in
    omega (arith, l, g, k, e)
  where
    emit_below : (o : Step) (j : ℕ) → IsStep n o → action_of n o ≡ Action.Emit j → j < length (elementary_below n (length n.instances))
    emit_below (Input k x) j h e = absurd (cc)
    emit_below (Copy u x) j h e = absurd (cc)
    emit_below (Emit i) j h e =
        let z : rank n i ≡ j = cc in
        let r = slice_get_within (elementary_below n (length n.instances)) (rank n i) i (rank_at n i (length n.instances) h.1 h.0) in
        omega (arith, z, r)
