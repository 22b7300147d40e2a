-- No two instances have one path, no two elements one `@id`, and no instance that of an element.
use Rattle.std.proofs.Common.{ℕ, zero, suc, ◌<◌, ◌≡◌, ◌==◌, refl, sym, ap, ◌∙◌, subst, true, List, ◌++◌, length, map, filter, arith, Some}
use Rattle.std.proofs.lemmas.Bool.{eq-eqb}
use Rattle.cdl_network.specs.Lists.{Apart, In, numbers}
use Rattle.cdl_network.specs.Rules.{is_some_same}
use Rattle.cdl_network.proofs.Inside.{kept_in}
use Rattle.cdl_network.proofs.Renaming.{in_map}
use Rattle.cdl_connect.proofs.Networks.{in_all}
use Rattle.cdl_connect.specs.declared.net.Net.{Net}
use Rattle.cdl_connect.specs.Nets.{element}
use Rattle.cdl_connect.specs.Paths.{IsStepText, Step, extended}
use Rattle.cdl_connect.specs.WellFormed.{HasSteps, IsWellFormed, is_part_of, parent_at, path_of}
use Rattle.cxf_graph.specs.Written.{element_id}
use Rattle.cxf_graph.proofs.Parents.{part_path, part_there}
use Rattle.cxf_laws.proofs.Arrays.{apart_across, apart_left, apart_right, arrays_apart, same_source}
use Rattle.cxf_laws.proofs.Splitting.{extended_same, never_root, step_long, step_same, step_unmarked}

-- the elements of an instance, and its parts
abbrev elements_of : Net → ℕ → List ℕ
elements_of n i = filter (λ x. (element n x).instance == i) (numbers 0 (length n.elements))

abbrev parts_of : Net → ℕ → List ℕ
parts_of n i = filter (is_part_of n i) (numbers 0 (length n.instances))

in_elements : (n : Net) (i x : ℕ) → x < length n.elements → (element n x).instance ≡ i → In x (elements_of n i)
in_elements n i x h e = kept_in (λ y. (element n y).instance == i) x (numbers 0 (length n.elements)) (in_all (length n.elements) x h) (eq-eqb _ _ e)

is_part : (n : Net) (i j : ℕ) → parent_at n j ≡ Some i → is_part_of n i j ≡ true
is_part n i j e = ap (is_some_same (λ p q. p == q) i) e ∙ eq-eqb i i refl

in_parts : (n : Net) (i j : ℕ) → j < length n.instances → parent_at n j ≡ Some i → In j (parts_of n i)
in_parts n i j h e = kept_in (is_part_of n i) j (numbers 0 (length n.instances)) (in_all (length n.instances) j h) (is_part n i j e)

module _ (n : Net) (i : ℕ) (step part : ℕ → Step) (s : HasSteps n i step part) where
  all_apart : Apart (map step (elements_of n i) ++ map part (parts_of n i))
  all_apart = let a = s.arrays in arrays_apart (a.0 ++ a.1) (map step (elements_of n i) ++ map part (parts_of n i)) a.2

  same_element : (x y : ℕ) → x < length n.elements → y < length n.elements → (element n x).instance ≡ i → (element n y).instance ≡ i → (element n x).name ≡ (element n y).name → x ≡ y
  same_element x y h g a b e =
      same_source step (elements_of n i) x y (apart_left (map step (elements_of n i)) (map part (parts_of n i)) all_apart) (in_elements n i x h a) (in_elements n i y g b)
      (step_same (step x) (step y) (element n x).name (element n y).name (s.step x h a) (s.step y g b) e)

  same_part : (j k : ℕ) (v w : List ℕ) → j < length n.instances → k < length n.instances → parent_at n j ≡ Some i → parent_at n k ≡ Some i → IsStepText (part j) v → IsStepText (part k) w → v ≡ w → j ≡ k
  same_part j k v w h g a b p q e =
      same_source part (parts_of n i) j k (apart_right (map step (elements_of n i)) (map part (parts_of n i)) all_apart) (in_parts n i j h a) (in_parts n i k g b)
      (step_same (part j) (part k) v w p q e)

  no_part : (x j : ℕ) (w : List ℕ) → x < length n.elements → j < length n.instances → (element n x).instance ≡ i → parent_at n j ≡ Some i → IsStepText (part j) w → (element n x).name ≡ w → ⊥
  no_part x j w h g a b q e =
      apart_across (step x) (map step (elements_of n i)) (map part (parts_of n i)) all_apart (in_map step x (elements_of n i) (in_elements n i x h a))
      (subst (λ z. In z (map part (parts_of n i))) (sym (step_same (step x) (part j) (element n x).name w (s.step x h a) q e)) (in_map part j (parts_of n i) (in_parts n i j g b)))

-- the path of a part as it is extended
record IsUnder (n : Net) (j i : ℕ) : Type 0 where
  pub there : i < length n.instances
  pub parent : parent_at n j ≡ Some i
  pub before : i < j
  pub step : ℕ → Step
  pub part : ℕ → Step
  pub steps : HasSteps n i step part
  pub text : List ℕ
  pub spelled : IsStepText (part j) text
  pub is : path_of n j ≡ extended (path_of n i) text

under : (n : Net) → IsWellFormed n → (j : ℕ) → suc j < length n.instances → (i : ℕ) × IsUnder n (suc j) i
under n w j h =
    let p = part_there n w.preorder j h in
    let b : p.parent < suc j = p.before in
    let l : p.parent < length n.instances = omega arith in
    let s = w.paths.each p.parent l in
    let t = part_path n (suc j) p.parent s.0 s.1 s.2 h p.is in
    (p.parent, record { there = l; parent = p.is; before = b; step = s.0; part = s.1; steps = s.2; text = t.0; spelled = t.1; is = t.2 })

-- two parts of one instance with one path are one
same_under : (n : Net) → IsWellFormed n → (i j k : ℕ) → IsUnder n j i → IsUnder n k i → j < length n.instances → k < length n.instances → path_of n j ≡ path_of n k → j ≡ k
same_under n w i j k u v h g e =
    let t = part_path n k i u.step u.part u.steps g v.parent in
    let r = extended_same (path_of n i) (path_of n i) u.text t.0 (step_unmarked (u.part j) u.text u.spelled) (step_unmarked (u.part k) t.0 t.1) (sym u.is ∙ e ∙ t.2) in
    same_part n i u.step u.part u.steps j k u.text t.0 h g u.parent v.parent u.spelled t.1 r.1

root_apart : (n : Net) → IsWellFormed n → (j : ℕ) → suc j < length n.instances → path_of n 0 ≡ path_of n (suc j) → ⊥
root_apart n w j h e =
    let u = under n w j h in
    never_root (path_of n u.0) u.1.text (step_unmarked (u.1.part (suc j)) u.1.text u.1.spelled) (step_long (u.1.part (suc j)) u.1.text u.1.spelled) (sym w.paths.root ∙ e ∙ u.1.is)

pub path_apart : (n : Net) → IsWellFormed n → (m i j : ℕ) → i < m → i < length n.instances → j < length n.instances → path_of n i ≡ path_of n j → i ≡ j
path_apart n w zero i j l h g e = absurd (omega arith)
path_apart n w (suc m) zero zero l h g e = refl
path_apart n w (suc m) zero (suc j) l h g e = absurd (root_apart n w j g e)
path_apart n w (suc m) (suc i) zero l h g e = absurd (root_apart n w i h (sym e))
path_apart n w (suc m) (suc i) (suc j) l h g e =
    let u = under n w i h in
    let v = under n w j g in
    let b : u.0 < suc i = u.1.before in
    let r = extended_same (path_of n u.0) (path_of n v.0) u.1.text v.1.text (step_unmarked (u.1.part (suc i)) u.1.text u.1.spelled) (step_unmarked (v.1.part (suc j)) v.1.text v.1.spelled) (sym u.1.is ∙ e ∙ v.1.is) in
    let q : u.0 ≡ v.0 = path_apart n w m u.0 v.0 (omega arith) u.1.there v.1.there r.0 in
    same_under n w v.0 (suc i) (suc j) (subst (λ z. IsUnder n (suc i) z) q u.1) v.1 h g e

pub id_apart : (n : Net) → IsWellFormed n → (x y : ℕ) → x < length n.elements → y < length n.elements → element_id n x ≡ element_id n y → x ≡ y
id_apart n w x y h g e =
    let i : ℕ = (element n x).instance in
    let j : ℕ = (element n y).instance in
    let l = w.numbers.owner x h in
    let k = w.numbers.owner y g in
    let s = w.paths.each i l in
    let t = w.paths.each j k in
    let r = extended_same (path_of n i) (path_of n j) (element n x).name (element n y).name (step_unmarked (s.0 x) (element n x).name (s.2.step x h refl)) (step_unmarked (t.0 y) (element n y).name (t.2.step y g refl)) e in
    let q : j ≡ i = path_apart n w (suc j) j i (omega arith) k l (sym r.0) in
    same_element n i s.0 s.1 s.2 x y h g refl q r.1

pub path_not_id : (n : Net) → IsWellFormed n → (j x : ℕ) → j < length n.instances → x < length n.elements → path_of n j ≡ element_id n x → ⊥
path_not_id n w zero x h g e =
    let s = w.paths.each (element n x).instance (w.numbers.owner x g) in
    never_root (path_of n (element n x).instance) (element n x).name (step_unmarked (s.0 x) (element n x).name (s.2.step x g refl)) (step_long (s.0 x) (element n x).name (s.2.step x g refl)) (sym w.paths.root ∙ e)
path_not_id n w (suc j) x h g e =
    let u = under n w j h in
    let l = w.numbers.owner x g in
    let s = w.paths.each (element n x).instance l in
    let r = extended_same (path_of n u.0) (path_of n (element n x).instance) u.1.text (element n x).name (step_unmarked (u.1.part (suc j)) u.1.text u.1.spelled) (step_unmarked (s.0 x) (element n x).name (s.2.step x g refl)) (sym u.1.is ∙ e) in
    let q : (element n x).instance ≡ u.0 = path_apart n w (suc (element n x).instance) (element n x).instance u.0 (omega arith) l u.1.there (sym r.0) in
    no_part n u.0 u.1.step u.1.part u.1.steps x (suc j) u.1.text g h q u.1.parent u.1.spelled (sym r.1)
