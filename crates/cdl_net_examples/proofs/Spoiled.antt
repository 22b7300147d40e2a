-- Nets that are not well formed.
use Rattle.std.proofs.Common.{ℕ, zero, suc, ◌<◌, ◌≡◌, refl, sym, ap, ◌∙◌, subst, inl, inr, ⊎_elim, List, [], ◌∷◌, ◌++◌, codes, map, arith}
use Rattle.std.specs.List.{flat_map, list_all}
use Rattle.std.proofs.lemmas.Bool.{false≢true}
use Rattle.cdl_network.specs.Lists.{In, numbers}
use Rattle.cdl_network.proofs.Renaming.{of_map}
use Rattle.cdl_connect.specs.Paths.{ArrayOf, Grid, IsStepText, Row, Single, Sizes, Step, array_steps, steps_of}
use Rattle.cdl_connect.specs.WellFormed.{IsWellFormed}
use Rattle.cxf_laws.proofs.Arrays.{in_append, in_left, in_right}
use Rattle.cxf_laws.proofs.Splitting.{no_mark, step_same, step_unmarked}
use Rattle.cdl_net_examples.specs.Elements.{wire}
use Rattle.cdl_net_examples.specs.Negation.{with_a_gap, with_a_point, with_a_wire_to_nowhere}
use Rattle.cdl_net_examples.proofs.Steps.{indexed, indexed_text, n_named, single, single_text, u_named, y_named}

pub no_wire_to_nowhere : IsWellFormed with_a_wire_to_nowhere → ⊥
no_wire_to_nowhere w = let h : 4 < 4 = w.numbers.left 1 (wire 4 1) refl in absurd (omega (arith, h))

-- what holds of the lists of all items
in_each : {A B : Type 0} (f : A → List B) (z w : B) (xs : List A) → ((x : A) → In z (f x) → In w (f x)) → In z (flat_map f xs) → In w (flat_map f xs)
in_each f z w [] h i = absurd i
in_each f z w (x ∷ xs) h i = ⊎_elim
    (λ j. in_left w (f x) (flat_map f xs) (h x j))
    (λ j. in_right w (f x) (flat_map f xs) (in_each f z w xs h j))
    (in_append z (f x) (flat_map f xs) i)

behind_root : (rest text : List ℕ) → 35 ∷ rest ≡ 35 ∷ text → rest ≡ text
behind_root rest text e = cc

-- no step has the text `n.`
no_such_step : (s : Step) (text : List ℕ) → IsStepText s text → codes "#n." ≡ 35 ∷ text → ⊥
no_such_step s text t e = false≢true (ap (list_all no_mark) (behind_root (codes "n.") text e) ∙ step_unmarked s text t)

pub no_point : IsWellFormed with_a_point → ⊥
no_point w =
    let has = w.paths.each 0 (omega arith) in
    let p = has.2.part 1 (omega arith) refl in
    no_such_step (has.1 1) p.0 p.1 p.2

no_index : (k : ℕ) → k ∷ [] ≡ [] → ⊥
no_index k e = absurd (cc)

more_indices : (k l m : ℕ) → k ∷ [] ≡ l ∷ m ∷ [] → ⊥
more_indices k l m e = absurd (cc)

same_index : (k l : ℕ) → k ∷ [] ≡ l ∷ [] → k ≡ l
same_index k l e = cc

-- an array that has a step of one index has the first such step
in_row : (t name : List ℕ) (n k : ℕ) → In k (numbers 1 n) → t ≡ name → In (indexed t 1) (map (indexed name) (numbers 1 n))
in_row t name zero k i e = absurd i
in_row t name (suc n) k i e = inl (λ z. indexed (e z) 1)

in_array : (t name : List ℕ) (s : Sizes) → In (indexed t 2) (array_steps name s) → In (indexed t 1) (array_steps name s)
in_array t name Single (inl e) = absurd (no_index 2 (ap (λ (s : Step). s.indices) e))
in_array t name Single (inr i) = absurd i
in_array t name (Row n) i = let a = of_map (indexed name) (indexed t 2) (numbers 1 n) i in in_row t name n a.0 a.1 (ap (λ (s : Step). s.name) a.2)
in_array t name (Grid m n) i = in_each (λ k. map (grid_step k) (numbers 1 n)) (indexed t 2) (indexed t 1) (numbers 1 m) (λ k j.
    let a = of_map (grid_step k) (indexed t 2) (numbers 1 n) j in
    absurd (more_indices 2 k a.0 (ap (λ (s : Step). s.indices) a.2))) i
  where
    grid_step : ℕ → ℕ → Step
    grid_step k l = record { name = name; indices = k ∷ l ∷ [] }

-- `u`, `y` and `n[2]` are not whole arrays
not_there : (s t v : Step) → s ≡ single (codes "u") → t ≡ single (codes "y") → v ≡ indexed (codes "n") 2 → In (indexed (codes "n") 1) (s ∷ t ∷ v ∷ []) → ⊥
not_there s t v p q r (inl e) = no_index 1 (ap (λ (x : Step). x.indices) (e ∙ p))
not_there s t v p q r (inr (inl e)) = no_index 1 (ap (λ (x : Step). x.indices) (e ∙ q))
not_there s t v p q r (inr (inr (inl e))) = let g : 1 ≡ 2 = same_index 1 2 (ap (λ (x : Step). x.indices) (e ∙ r)) in absurd (omega (arith, g))
not_there s t v p q r (inr (inr (inr i))) = i

no_arrays : (s t v : Step) (arrays : List ArrayOf) → s ∷ t ∷ v ∷ [] ≡ flat_map steps_of arrays → s ≡ single (codes "u") → t ≡ single (codes "y") → v ≡ indexed (codes "n") 2 → ⊥
no_arrays s t v arrays e p q r =
    let second : In (indexed (codes "n") 2) (s ∷ t ∷ v ∷ []) = inr (inr (inl (sym r))) in
    let first = in_each steps_of (indexed (codes "n") 2) (indexed (codes "n") 1) arrays (λ a i. in_array (codes "n") a.name a.sizes i) (subst (In (indexed (codes "n") 2)) e second) in
    not_there s t v p q r (subst (In (indexed (codes "n") 1)) (sym e) first)

pub no_gap : IsWellFormed with_a_gap → ⊥
no_gap w =
    let has = w.paths.each 0 (omega arith) in
    let p = has.2.part 1 (omega arith) refl in
    let u = step_same (has.0 0) (single (codes "u")) (codes "u") (codes "u") (has.2.step 0 (omega arith) refl) (single_text (codes "u") u_named) refl in
    let y = step_same (has.0 1) (single (codes "y")) (codes "y") (codes "y") (has.2.step 1 (omega arith) refl) (single_text (codes "y") y_named) refl in
    let n = step_same (has.1 1) (indexed (codes "n") 2) p.0 (codes "n[2]") p.1 (indexed_text (codes "n") 2 n_named (omega arith)) (sym (behind_root (codes "n[2]") p.0 p.2)) in
    no_arrays (has.0 0) (has.0 1) (has.1 1) (has.2.arrays.0 ++ has.2.arrays.1) has.2.arrays.2.steps u y n
