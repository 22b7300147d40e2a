-- The ports of an instance of a kind are those of its row.
use Rattle.std.proofs.Common.{◌≡◌, ℕ, zero, suc, ◌+◌, ◌-◌, ◌*◌, ◌<◌, ◌==◌, Bool, true, false, cond, List, [], ◌∷◌, ◌++◌, length, length-append, Some, None, Ok, Err, refl, sym, ap, ◌∙◌, subst, arith}
use Rattle.std.specs.Prelude.{slice_get}
use Rattle.std.proofs.lemmas.Bool.{lt-ltb, le-ltb}
use Rattle.std.proofs.lemmas.Option.{slice_get_within}
use Rattle.cdl_source.proofs.Cases.{by_lt}
use Rattle.cdl_values.specs.declared.value.Array.{Array}
use Rattle.cdl_values.specs.declared.value.Value.{Value}
use Rattle.cdl_values.specs.Values.{items_of}
use Rattle.cdl_array.specs.Outcomes.{Outcome, then_to}
use Rattle.cdl_kinds.specs.declared.kind.Kind.{Kind}
use Rattle.cdl_kinds.specs.Ports.{PortRow, nin_or_nout, group_size, ports_count, port_in, port_among, inputs, outputs, port_at}
use Rattle.cdl_kinds.specs.Table.{Group, row}
use Rattle.cdl_paths.specs.declared.path.Step.{Step}
use Rattle.cdl_params.specs.Kept.{Model}
use Rattle.cdl_walk.specs.declared.walked.Point.{Point}
use Rattle.cdl_walk.specs.Elements.{tabulate, point_at, points, port_sizes, indices_at}
use Rattle.cdl_walk.specs.Instances.{plain_units, ports_from, ports_of}
use Rattle.cdl_expand.proofs.Grouped.{unequal}

-- the element is the port, but for its text
pub record IsLike (p : PortRow) (x : Point) : Type 0 where
  pub value_type : x.value_type ≡ p.value_type
  pub input : x.input ≡ p.input
  pub name : x.name ≡ p.name
  pub indices : x.indices ≡ cond (p.index == 0) [] (p.index ∷ [])

-- ---- lists

module _ {A : Type 0} where
  some_same : (x y : A) → Some x ≡ Some y → x ≡ y
  some_same x y e = cc

  nothing_there : (x : A) → None ≡ Some x → ⊥
  nothing_there x e = cc

  pub get_left : (xs ys : List A) (j : ℕ) → j < length xs → slice_get (xs ++ ys) j ≡ slice_get xs j
  get_left [] ys j l = absurd (omega (arith, l))
  get_left (x ∷ xs) ys zero l = refl
  get_left (x ∷ xs) ys (suc j) l = get_left xs ys j (omega (arith, l))

  pub get_right : (xs ys : List A) (j k : ℕ) → j ≡ length xs + k → slice_get (xs ++ ys) j ≡ slice_get ys k
  get_right [] ys j k e = ap (slice_get ys) (let q : j ≡ k = omega (arith, e) in q)
  get_right (x ∷ xs) ys zero k e = absurd (omega (arith, e))
  get_right (x ∷ xs) ys (suc j) k e = get_right xs ys j k (omega (arith, e))

  pub length_tabulate : (n : ℕ) (f : ℕ → A) → length (tabulate n f) ≡ n
  length_tabulate zero f = refl
  length_tabulate (suc n) f = let h = length_tabulate n f in let g : length (tabulate n f ++ f n ∷ []) ≡ length (tabulate n f) + 1 = length-append (tabulate n f) (f n ∷ []) in omega (arith, h, g)

  pub get_tabulate : (n : ℕ) (f : ℕ → A) (j : ℕ) → j < n → slice_get (tabulate n f) j ≡ Some (f j)
  get_tabulate zero f j l = absurd (omega (arith, l))
  get_tabulate (suc n) f j l = by_lt j n
      (λ m. get_left (tabulate n f) (f n ∷ []) j (let h = length_tabulate n f in omega (arith, h, m)) ∙ get_tabulate n f j m)
      (λ g. let same : j ≡ n = omega (arith, l, g) in
      get_right (tabulate n f) (f n ∷ []) j 0 (let h = length_tabulate n f in omega (arith, h, same)) ∙ ap (λ k. Some (f k)) (sym same))

-- ---- one group

sizes_count : (n : ℕ) (b : Bool) → items_of (cond b (n ∷ []) []) ≡ cond b n 1
sizes_count n true = let e : n * 1 ≡ n = omega arith in e
sizes_count n false = refl

pub group_length : (n : ℕ) (input : Bool) (g : Group) (us : List Value) → length (points g.name g.value_type input (port_sizes n g) us) ≡ group_size n g
group_length n input g us = length_tabulate (items_of (port_sizes n g)) (point_at g.name g.value_type input (port_sizes n g) us) ∙ sizes_count n g.many

not_none : (i : ℕ) → ((i + 1) == 0) ≡ false
not_none i = unequal (i + 1) 0 (λ q. omega (arith, q))

many_indices : (n i : ℕ) (b : Bool) → i < cond b n 1 → indices_at (cond b (n ∷ []) []) i ≡ cond (cond b (i + 1) 0 == 0) [] (cond b (i + 1) 0 ∷ [])
many_indices n i true l = sym (ap (λ t. cond t [] ((i + 1) ∷ [])) (not_none i))
many_indices n i false l = refl

port_like : (n : ℕ) (input direct : Bool) (g : Group) (us : List Value) (i : ℕ) → i < group_size n g → IsLike (port_in input direct g i) (point_at g.name g.value_type input (port_sizes n g) us i)
port_like n input direct g us i l = record { value_type = refl; input = refl; name = refl; indices = many_indices n i g.many l }

group_like : (n : ℕ) (input direct : Bool) (g : Group) (us : List Value) (i : ℕ) (x : Point) → slice_get (points g.name g.value_type input (port_sizes n g) us) i ≡ Some x → IsLike (port_in input direct g i) x
group_like n input direct g us i x e =
    let l = slice_get_within (points g.name g.value_type input (port_sizes n g) us) i x e in
    let s = group_length n input g us in
    let c = sizes_count n g.many in
    let same : point_at g.name g.value_type input (port_sizes n g) us i ≡ x = some_same (point_at g.name g.value_type input (port_sizes n g) us i) x
    (sym (get_tabulate (items_of (port_sizes n g)) (point_at g.name g.value_type input (port_sizes n g) us) i (omega (arith, l, s, c))) ∙ e) in
    subst (λ (z : Point). IsLike (port_in input direct g i) z) same (port_like n input direct g us i (omega (arith, l, s)))

-- ---- groups

pub count_more : (n : ℕ) (g : Group) (gs : List Group) → ports_count n (g ∷ gs) ≡ group_size n g + ports_count n gs
count_more n g [] = let e : group_size n g ≡ group_size n g + 0 = omega arith in e
count_more n g (f ∷ gs) = refl

abbrev put : List Point → List Point → Outcome (List Point)
put ps more = Ok (ps ++ more)

pub ports_next : (o : Outcome (List Value)) (s : Outcome (List Point)) (f : List Value → List Point) (ps : List Point) → then_to o (λ us. then_to s (λ more. put (f us) more)) ≡ Ok ps
    → (us : List Value) × (more : List Point) × (s ≡ Ok more) × (f us ++ more ≡ ps)
ports_next (Err r) s f ps e = absurd (cc)
ports_next (Ok us) (Err r) f ps e = absurd (cc)
ports_next (Ok us) (Ok more) f ps e = let same : f us ++ more ≡ ps = cc in (us, more, refl, same)

-- as many ports as the row says, and each of them is that of its number
pub record AreLike (n : ℕ) (input direct : Bool) (gs : List Group) (ps : List Point) : Type 0 where
  pub count : length ps ≡ ports_count n gs
  pub each : (i : ℕ) (x : Point) → slice_get ps i ≡ Some x → IsLike (port_among input direct n gs i) x

no_ports : (n : ℕ) (input direct : Bool) (ps : List Point) → [] ≡ ps → AreLike n input direct [] ps
no_ports n input direct ps e = subst (λ (l : List Point). AreLike n input direct [] l) e (record { count = refl; each = λ i x h. absurd (nothing_there x h) })

more_ports : (n : ℕ) (input direct : Bool) (g : Group) (gs : List Group) (us : List Value) (more : List Point) → AreLike n input direct gs more
    → AreLike n input direct (g ∷ gs) (points g.name g.value_type input (port_sizes n g) us ++ more)
more_ports n input direct g gs us more r = record {
  count =
      let a : length (points g.name g.value_type input (port_sizes n g) us ++ more) ≡ length (points g.name g.value_type input (port_sizes n g) us) + length more = length-append (points g.name g.value_type input (port_sizes n g) us) more in
      let b = group_length n input g us in
      let c = count_more n g gs in
      let d = r.count in
      omega (arith, a, b, c, d);
  each = λ i x e. by_lt i (group_size n g)
      (λ l. subst (λ p. IsLike p x) (sym (ap (λ t. cond t (port_in input direct g i) (port_among input direct n gs (i - group_size n g))) (lt-ltb i (group_size n g) l)))
      (group_like n input direct g us i x (sym (get_left (points g.name g.value_type input (port_sizes n g) us) more i (let b = group_length n input g us in omega (arith, l, b))) ∙ e)))
      (λ m. subst (λ p. IsLike p x) (sym (ap (λ t. cond t (port_in input direct g i) (port_among input direct n gs (i - group_size n g))) (le-ltb i (group_size n g) m)))
      (r.each (i - group_size n g) x (sym (get_right (points g.name g.value_type input (port_sizes n g) us) more i (i - group_size n g) (let b = group_length n input g us in omega (arith, m, b))) ∙ e)));
}

pub from_like : (w : Model) (p : List Step) (n : ℕ) (input direct : Bool) (gs : List Group) (ps : List Point) → ports_from w p n input gs ≡ Ok ps → AreLike n input direct gs ps
from_like w p n input direct [] ps e = let same : [] ≡ ps = cc in no_ports n input direct ps same
from_like w p n input direct (g ∷ gs) ps e =
    let z = ports_next (plain_units w p g.name g.value_type) (ports_from w p n input gs) (λ us. points g.name g.value_type input (port_sizes n g) us) ps e in
    subst (λ (l : List Point). AreLike n input direct (g ∷ gs) l) z.3 (more_ports n input direct g gs z.0 z.1 (from_like w p n input direct gs z.1 z.2))

-- ---- the kind

pub sides : (o s : Outcome (List Point)) (ps : List Point) → then_to o (λ ins. then_to s (λ outs. put ins outs)) ≡ Ok ps → (ins : List Point) × (outs : List Point) × (o ≡ Ok ins) × (s ≡ Ok outs) × (ins ++ outs ≡ ps)
sides (Err r) s ps e = absurd (cc)
sides (Ok ins) (Err r) ps e = absurd (cc)
sides (Ok ins) (Ok outs) ps e = let same : ins ++ outs ≡ ps = cc in (ins, outs, refl, refl, same)

-- the ports of a kind with these values
pub record AreOfKind (k : Kind) (v : List Array) (ps : List Point) : Type 0 where
  pub count : length ps ≡ (inputs k v).count + (outputs k v).count
  pub each : (j : ℕ) (x : Point) → slice_get ps j ≡ Some x → IsLike (port_at k v j) x

both_sides : (k : Kind) (v : List Array) (ins outs : List Point) → AreLike (nin_or_nout v) true (row k).direct (row k).ins ins → AreLike (nin_or_nout v) false false (row k).outs outs → AreOfKind k v (ins ++ outs)
both_sides k v ins outs a b = record {
  count =
      let c : length (ins ++ outs) ≡ length ins + length outs = length-append ins outs in
      let d = a.count in
      let e = b.count in
      omega (arith, c, d, e);
  each = λ j x e. by_lt j (ports_count (nin_or_nout v) (row k).ins)
      (λ l. subst (λ p. IsLike p x) (sym (ap (λ t. cond t (port_among true (row k).direct (nin_or_nout v) (row k).ins j) (port_among false false (nin_or_nout v) (row k).outs (j - ports_count (nin_or_nout v) (row k).ins))) (lt-ltb j (ports_count (nin_or_nout v) (row k).ins) l)))
      (a.each j x (sym (get_left ins outs j (let d = a.count in omega (arith, l, d))) ∙ e)))
      (λ m. subst (λ p. IsLike p x) (sym (ap (λ t. cond t (port_among true (row k).direct (nin_or_nout v) (row k).ins j) (port_among false false (nin_or_nout v) (row k).outs (j - ports_count (nin_or_nout v) (row k).ins))) (le-ltb j (ports_count (nin_or_nout v) (row k).ins) m)))
      (b.each (j - ports_count (nin_or_nout v) (row k).ins) x (sym (get_right ins outs j (j - ports_count (nin_or_nout v) (row k).ins) (let d = a.count in omega (arith, m, d))) ∙ e)));
}

pub of_kind : (w : Model) (p : List Step) (k : Kind) (v : List Array) (ps : List Point) → ports_of w p k v ≡ Ok ps → AreOfKind k v ps
of_kind w p k v ps e =
    let z = sides (ports_from w p (nin_or_nout v) true (row k).ins) (ports_from w p (nin_or_nout v) false (row k).outs) ps e in
    subst (λ (l : List Point). AreOfKind k v l) z.4 (both_sides k v z.0 z.1
    (from_like w p (nin_or_nout v) true (row k).direct (row k).ins z.0 z.2) (from_like w p (nin_or_nout v) false false (row k).outs z.1 z.3))
