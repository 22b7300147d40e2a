-- The indices that subscripts select are those of elements.
use Rattle.std.proofs.Common.{◌≡◌, ◌<◌, ◌≤◌, ℕ, zero, suc, ◌+◌, ◌-◌, ◌*◌, ◌%◌, Bool, true, false, cond, List, [], ◌∷◌, map, length, refl, sym, ap, ◌∙◌, subst, arith, inl, inr, Option, Some, None}
use Rattle.std.specs.Prelude.{ℤ, pos, negsuc, ◌+ℤ◌, ◌&&◌, int_le, nat_lt, unsigned_abs, option_map, option_and_then}
use Rattle.std.specs.List.{flat_map, range_with_len}
use Rattle.std.proofs.lemmas.Nat.{div-mul-add, mod-mul-add}
use Rattle.std.proofs.lemmas.Bool.Decides.{nat_tests}
use Rattle.cdl_tree.specs.declared.class.Sub.{Sub}
use Rattle.cdl_tree.specs.declared.class.Sub.TheVariants as sub
use Rattle.cdl_tree.specs.declared.expr.Expr.{Expr}
use Rattle.cdl_values.specs.Values.{items_of}
use Rattle.cdl_stations.specs.Keys.{In}
use Rattle.cdl_stations.proofs.Grown.{in_either}
use Rattle.cdl_walk.specs.Elements.{indices_at}
use Rattle.cdl_joins.specs.declared.picks.Pick.{Pick}
use Rattle.cdl_joins.specs.Picks.{whole, one, range, ranged, pick, pick_each, picks, count, behind, indices}

-- these are indices in dimensions of these sizes
abbrev pub Within : List ℕ → List ℕ → Type 0
Within [] [] = Unit {0}
Within [] (n ∷ ns) = ⊥
Within (i ∷ is) [] = ⊥
Within (i ∷ is) (n ∷ ns) = (1 ≤ i) × (i ≤ n) × Within is ns

abbrev AreIn : List Pick → List ℕ → Type 0
AreIn [] [] = Unit {0}
AreIn [] (n ∷ ns) = ⊥
AreIn (x ∷ xs) [] = ⊥
AreIn (x ∷ xs) (n ∷ ns) = (1 ≤ x.first) × (x.last ≤ n) × AreIn xs ns

-- ---- picks

pub both_hold : (a b : Bool) → a && b ≡ true → (a ≡ true) × (b ≡ true)
both_hold true true h = (refl, refl)
both_hold true false h = cc
both_hold false b h = cc

at_least : (z : ℤ) → int_le (pos 1) z ≡ true → 1 ≤ unsigned_abs z
at_least (pos k) h = grind (arith, nat_tests, h)
at_least (negsuc k) h = cc

at_most : (z : ℤ) (n : ℕ) → int_le (pos 1) z ≡ true → int_le z (pos n) ≡ true → unsigned_abs z ≤ n
at_most (pos k) n g h = grind (arith, nat_tests, h)
at_most (negsuc k) n g h = cc

not_case : (b : Bool) (l x y : ℕ) → 1 ≤ l → y ≤ 0 → int_le (pos l) (cond b (negsuc x) (pos y)) ≡ true → ⊥
not_case true l x y a b h = cc
not_case false l x y a b h = let below : l ≤ y = grind (arith, nat_tests, h) in omega (arith, a, b, below)

-- no number from 1 on is at most one that is below 1
not_before : (l k : ℕ) → 1 ≤ l → int_le (pos l) (negsuc k +ℤ pos 1) ≡ true → ⊥
not_before l k a h = not_case (nat_lt 1 (suc k)) l (suc k - 2) (1 - suc k) a (omega arith) h

-- a last place is at most the size, where one before the first is none
last_at_most : (l h : ℤ) (n : ℕ) → int_le (pos 1) l ≡ true → int_le h (pos n) ≡ true → int_le l (h +ℤ pos 1) ≡ true → unsigned_abs h ≤ n
last_at_most l (pos k) n a b c = grind (arith, nat_tests, b)
last_at_most (pos l) (negsuc k) n a b c = absurd (not_before l k (at_least (pos l) a) c)
last_at_most (negsuc l) (negsuc k) n a b c = cc

some_pick : (b : Bool) (x y : Pick) → cond b (Some x) None ≡ Some y → (b ≡ true) × (x ≡ y)
some_pick true x y h = (refl, cc)
some_pick false x y h = cc

abbrev IsIn : Pick → ℕ → Type 0
IsIn x n = (1 ≤ x.first) × (x.last ≤ n)

one_in : (n : ℕ) (z : ℤ) (x : Pick) → one n z ≡ Some x → IsIn x n
one_in n z x h =
    let c = some_pick (int_le (pos 1) z && int_le z (pos n)) (record { first = unsigned_abs z; last = unsigned_abs z; stays = false }) x h in
    let t = both_hold (int_le (pos 1) z) (int_le z (pos n)) c.0 in
    subst (λ (y : Pick). IsIn y n) c.1 (at_least z t.0, at_most z n t.0 t.1)

range_in : (n : ℕ) (l h : ℤ) (x : Pick) → range n l h ≡ Some x → IsIn x n
range_in n l h x e =
    let c = some_pick (int_le (pos 1) l && int_le h (pos n) && int_le l (h +ℤ pos 1)) (record { first = unsigned_abs l; last = unsigned_abs h; stays = true }) x e in
    let t = both_hold (int_le (pos 1) l && int_le h (pos n)) (int_le l (h +ℤ pos 1)) c.0 in
    let u = both_hold (int_le (pos 1) l) (int_le h (pos n)) t.0 in
    subst (λ (y : Pick). IsIn y n) c.1 (at_least l u.0, last_at_most l h n u.0 u.1 t.1)

ranged_in : (n : ℕ) (a b : Option ℤ) (x : Pick) → ranged n a b ≡ Some x → IsIn x n
ranged_in n None b x h = cc
ranged_in n (Some l) None x h = cc
ranged_in n (Some l) (Some k) x h = range_in n l k x h

pub then_some : {A B : Type 0} (f : A → Option B) (o : Option A) (y : B) → option_and_then f o ≡ Some y → (x : A) × (o ≡ Some x) × (f x ≡ Some y)
then_some f None y h = cc
then_some f (Some x) y h = (x, refl, h)

pub map_some : {A B : Type 0} (f : A → B) (o : Option A) (y : B) → option_map f o ≡ Some y → (x : A) × (o ≡ Some x) × (f x ≡ y)
map_some f None y h = cc
map_some f (Some x) y h = (x, refl, cc)

whole_in : (n : ℕ) → IsIn (whole n) n
whole_in n = (omega arith, omega arith)

pick_in : (at : Expr → Option ℤ) (n : ℕ) (s : Sub) (x : Pick) → pick at n s ≡ Some x → IsIn x n
pick_in at n sub.All x h = let same : whole n ≡ x = cc in subst (λ (y : Pick). IsIn y n) same (whole_in n)
pick_in at n (sub.One e) x h = let t = then_some (one n) (at e) x h in one_in n t.0 x t.2
pick_in at n (sub.Range e f) x h = ranged_in n (at e) (at f) x h

each_in : (at : Expr → Option ℤ) (ns : List ℕ) (ss : List Sub) (xs : List Pick) → pick_each at ns ss ≡ Some xs → AreIn xs ns
each_in at [] [] xs h = let same : [] ≡ xs = cc in subst (λ (ys : List Pick). AreIn ys []) same tt
each_in at [] (s ∷ ss) xs h = cc
each_in at (n ∷ ns) [] xs h = cc
each_in at (n ∷ ns) (s ∷ ss) xs h =
    let t = then_some (λ x. option_map (λ ys. x ∷ ys) (pick_each at ns ss)) (pick at n s) xs h in
    let u = map_some (λ ys. t.0 ∷ ys) (pick_each at ns ss) xs t.2 in
    let one = pick_in at n s t.0 t.1 in
    subst (λ (ys : List Pick). AreIn ys (n ∷ ns)) u.2 (one.0, one.1, each_in at ns ss u.0 u.1)

wholes_in : (ns : List ℕ) → AreIn (map whole ns) ns
wholes_in [] = tt
wholes_in (n ∷ ns) = (omega arith, omega arith, wholes_in ns)

picks_in : (at : Expr → Option ℤ) (ns : List ℕ) (ss : List Sub) (xs : List Pick) → picks at ns ss ≡ Some xs → AreIn xs ns
picks_in at ns [] xs h = let same : map whole ns ≡ xs = cc in subst (λ (ys : List Pick). AreIn ys ns) same (wholes_in ns)
picks_in at ns (s ∷ ss) xs h = each_in at ns (s ∷ ss) xs h

-- ---- indices

in_range : (a n i : ℕ) → In i (range_with_len a n) → (a ≤ i) × (i < a + n)
in_range a zero i h = absurd h
in_range a (suc n) i (inl e) = (omega (arith, e), omega (arith, e))
in_range a (suc n) i (inr h) = let r = in_range (a + 1) n i h in (omega (arith, r.0), omega (arith, r.1))

in_behind : (i : ℕ) (rows : List (List ℕ)) (is : List ℕ) → In is (behind rows i) → (js : List ℕ) × In js rows × (is ≡ i ∷ js)
in_behind i [] is h = absurd h
in_behind i (row ∷ rows) is (inl e) = (row, inl refl, e)
in_behind i (row ∷ rows) is (inr h) = let r = in_behind i rows is h in (r.0, inr r.1, r.2)

in_flat : (rows : List (List ℕ)) (ks : List ℕ) (is : List ℕ) → In is (flat_map (behind rows) ks) → (i : ℕ) × (js : List ℕ) × In i ks × In js rows × (is ≡ i ∷ js)
in_flat rows [] is h = absurd h
in_flat rows (k ∷ ks) is h = elim (in_either is (behind rows k) (flat_map (behind rows) ks) h) [
  | inl a ↦ (let r = in_behind k rows is a in (k, r.0, inl refl, r.1, r.2))
  | inr b ↦ (let r = in_flat rows ks is b in (r.0, r.1, inr r.2, r.3, r.4))
]

indices_in : (xs : List Pick) (ns : List ℕ) → AreIn xs ns → (is : List ℕ) → In is (indices xs) → Within is ns
indices_in [] [] a is (inl e) = subst (λ (js : List ℕ). Within js []) (sym e) tt
indices_in [] [] a is (inr h) = absurd h
indices_in [] (n ∷ ns) a is h = absurd a
indices_in (x ∷ xs) [] a is h = absurd a
indices_in (x ∷ xs) (n ∷ ns) a is h =
    let r = in_flat (indices xs) (range_with_len x.first (count x)) is h in
    let b = in_range x.first (count x) r.0 r.2 in
    subst (λ (js : List ℕ). Within js (n ∷ ns)) (sym r.4) (omega (arith, a.0, b.0), omega (arith, a.1, b.0, b.1), indices_in xs ns a.2 r.1 r.3)

-- the indices that subscripts select
pub selected_within : (at : Expr → Option ℤ) (ns : List ℕ) (ss : List Sub) (xs : List Pick) → picks at ns ss ≡ Some xs → (is : List ℕ) → In is (indices xs) → Within is ns
selected_within at ns ss xs h is m = indices_in xs ns (picks_in at ns ss xs h) is m

-- ---- numbers of elements, row by row

back : (i : ℕ) → 1 ≤ i → i - 1 + 1 ≡ i
back i h = omega (arith, h)

next_row : (i n : ℕ) → (suc i - 1) * n + n ≡ suc i * n
next_row i n = let less : suc i - 1 ≡ i = omega arith in rw less (grind arith)

times_le : (a b n : ℕ) → a ≤ b → a * n ≤ b * n
times_le a b n h = grind (arith, h)

row_fits : (m n i : ℕ) → 1 ≤ i → i ≤ m → (i - 1) * n + n ≤ m * n
row_fits m n zero a b = absurd (omega (arith, a))
row_fits m n (suc i) a b =
    let one : (suc i - 1) * n + n ≡ suc i * n = next_row i n in
    let more : suc i * n ≤ m * n = times_le (suc i) m n b in
    omega (arith, one, more)

grid_below : (m n i j : ℕ) → 1 ≤ i → i ≤ m → 1 ≤ j → j ≤ n → (i - 1) * n + (j - 1) < m * (n * 1)
grid_below m n i j a b c d =
    let rows : (i - 1) * n + n ≤ m * n = row_fits m n i a b in
    let plain : n * 1 ≡ n = omega arith in
    rw plain (omega (arith, rows, c, d))

-- the number of the element with these indices
pub number_of : (ns is : List ℕ) → length ns ≤ 2 → Within is ns → (x : ℕ) × (x < items_of ns) × (indices_at ns x ≡ is)
number_of [] [] few w = (0, omega arith, refl)
number_of [] (i ∷ is) few w = absurd w
number_of (n ∷ []) [] few w = absurd w
number_of (n ∷ []) (i ∷ []) few w = (i - 1, omega (arith, w.0, w.1), ap (λ (k : ℕ). k ∷ []) (back i w.0))
number_of (n ∷ []) (i ∷ j ∷ is) few w = absurd w.2
number_of (m ∷ n ∷ []) [] few w = absurd w
number_of (m ∷ n ∷ []) (i ∷ []) few w = absurd w.2
number_of (m ∷ n ∷ []) (i ∷ j ∷ []) few w =
    let below : j - 1 < n = omega (arith, w.2.0, w.2.1) in (
      (i - 1) * n + (j - 1),
      grid_below m n i j w.0 w.1 w.2.0 w.2.1,
      ap (λ (k : ℕ). (k + 1) ∷ (((i - 1) * n + (j - 1)) % n + 1) ∷ []) (div-mul-add (i - 1) n (j - 1) below)
          ∙ ap (λ (k : ℕ). (i - 1 + 1) ∷ (k + 1) ∷ []) (mod-mul-add (i - 1) n (j - 1) below)
          ∙ ap (λ (k : ℕ). k ∷ (j - 1 + 1) ∷ []) (back i w.0) ∙ ap (λ (k : ℕ). i ∷ k ∷ []) (back j w.2.0),
    )
number_of (m ∷ n ∷ []) (i ∷ j ∷ k ∷ is) few w = absurd w.2.2
number_of (m ∷ n ∷ o ∷ ns) is few w = absurd (omega (arith, few))
