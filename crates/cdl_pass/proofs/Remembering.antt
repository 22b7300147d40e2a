-- The blocks with state words, one by one. The others have nothing to absorb.
use Rattle.std.proofs.Common.{ℕ, zero, suc, ◌+◌, ◌<◌, ◌≤◌, ◌≡◌, ◌⊎◌, inl, inr, refl, sym, ap, ◌∙◌, ℤ, List, [], ◌∷◌, ◌++◌, length, arith, Some, slice_get}
use Rattle.std.proofs.lemmas.Option.{slice_get_within}
use Rattle.cdl_source.proofs.Cases.{by_lt}
use Rattle.cdl_values.specs.History.{History}
use Rattle.cdl_pass.specs.declared.net.Node.{Node}
use Rattle.cdl_pass.specs.Windows.{state_of}
use Rattle.cdl_pass.specs.Net.{AllAt, Blocks, Laid, Net}
use Rattle.cdl_pass.specs.Tick.{Past}
use Rattle.cdl_pass.specs.Absorb.{Absorbed, AreStateful, MayAbsorb, Moved, Upto, longer}
use Rattle.cdl_pass.proofs.Passing.{one_there}

-- places
old_slice : {A : Type 0} (xs : List A) (z : A) (j : ℕ) (o : A) → slice_get xs j ≡ Some o → slice_get (xs ++ z ∷ []) j ≡ Some o
old_slice [] z j o e = absurd (cc)
old_slice (x ∷ xs) z zero o e = e
old_slice (x ∷ xs) z (suc j) o e = old_slice xs z j o e

new_slice : {A : Type 0} (xs : List A) (z : A) → slice_get (xs ++ z ∷ []) (length xs) ≡ Some z
new_slice [] z = refl
new_slice (x ∷ xs) z = new_slice xs z

split_slice : {A : Type 0} (xs : List A) (z : A) (j : ℕ) (o : A) → slice_get (xs ++ z ∷ []) j ≡ Some o → (slice_get xs j ≡ Some o) ⊎ ((j ≡ length xs) × (z ≡ o))
split_slice [] z zero o e = inr (refl, cc)
split_slice [] z (suc j) o e = absurd (cc)
split_slice (x ∷ xs) z zero o e = inl e
split_slice (x ∷ xs) z (suc j) o e = later (split_slice xs z j o e)
  where
    later : (slice_get xs j ≡ Some o) ⊎ ((j ≡ length xs) × (z ≡ o)) → (slice_get xs j ≡ Some o) ⊎ ((suc j ≡ suc (length xs)) × (z ≡ o))
    later (inl q) = inl q
    later (inr q) = inr (ap suc q.0, q.1)

pub none_yet : (ps : List Node) → AreStateful ps 0 []
none_yet ps = record {
  inside = λ k a e. absurd (cc);
  rising = λ k l a b h e f. absurd (cc);
  all = λ a p h e w. absurd (omega (arith, h));
}

-- an instance with state words, and one without
pub one_more : (ps : List Node) (j : ℕ) (ns : List ℕ) → AreStateful ps j ns → AreStateful ps (j + 1) (ns ++ j ∷ [])
one_more ps j ns s = record {
  inside = λ k a e. within k a (split_slice ns j k a e);
  rising = λ k l a b h e f. rise k l a b h (split_slice ns j k a e) (split_slice ns j l b f);
  all = λ a q h e w. by_lt a j
      (λ u. let z = s.all a q u e w in (z.0, old_slice ns j z.0 a z.1))
      (λ u. let d : a ≡ j = omega (arith, h, u) in (length ns, rw d (new_slice ns j)));
}
  where
    within : (k a : ℕ) → (slice_get ns k ≡ Some a) ⊎ ((k ≡ length ns) × (j ≡ a)) → a < j + 1
    within k a (inl e) = let z = s.inside k a e in omega (arith, z)
    within k a (inr e) = omega (arith, e.1)

    rise : (k l a b : ℕ) → k < l → (slice_get ns k ≡ Some a) ⊎ ((k ≡ length ns) × (j ≡ a)) → (slice_get ns l ≡ Some b) ⊎ ((l ≡ length ns) × (j ≡ b)) → a < b
    rise k l a b h (inl e) (inl f) = s.rising k l a b h e f
    rise k l a b h (inl e) (inr f) = let z = s.inside k a e in omega (arith, z, f.1)
    rise k l a b h (inr e) (inl f) = let z = slice_get_within ns l b f in absurd (omega (arith, h, e.0, z))
    rise k l a b h (inr e) (inr f) = absurd (omega (arith, h, e.0, f.0))

pub none_more : (ps : List Node) (j : ℕ) (p : Node) (ns : List ℕ) → slice_get ps j ≡ Some p → (0 < p.width → ⊥) → AreStateful ps j ns → AreStateful ps (j + 1) ns
none_more ps j p ns hp n s = record {
  inside = λ k a e. let z = s.inside k a e in omega (arith, z);
  rising = s.rising;
  all = λ a q h e w. by_lt a j
      (λ u. s.all a q u e w)
      (λ u.
      let d : a ≡ j = omega (arith, h, u) in
      let f : q ≡ p = one_there ps j q p (ap (λ (x : ℕ). slice_get ps x) (sym d) ∙ e) hp in
      absurd (n (rw f at w)));
}

-- the numbers below a place, as the pass goes over them
pub upto_start : (ns : List ℕ) → Upto ns 0 0
upto_start ns = record { below = λ l a e h. absurd (omega (arith, h)); above = λ l a e h. omega arith }

pub upto_next : {ps : List Node} {j k i : ℕ} (ns : List ℕ) (x : ℕ) → AreStateful ps j ns → slice_get ns k ≡ Some x → Upto ns k i → Upto ns (k + 1) (x + 1)
upto_next {k = k} ns x s e u = record {
  below = λ l a f h. by_lt l k
      (λ g. let z = s.rising l k a x g f e in omega (arith, z))
      (λ g.
      let d : l ≡ k = omega (arith, g, h) in
      let q : a ≡ x = one_there ns k a x (ap (λ (y : ℕ). slice_get ns y) (sym d) ∙ f) e in
      omega (arith, q));
  above = λ l a f h. let z = s.rising k l x a (omega (arith, h)) e f in omega (arith, z);
}

-- those that are passed over have no state words
pub passed_over : {ps : List Node} {k i : ℕ} (ns : List ℕ) (x : ℕ) → AreStateful ps (length ps) ns → slice_get ns k ≡ Some x → Upto ns k i → (j : ℕ) (p : Node) → i ≤ j → j < x → slice_get ps j ≡ Some p → p.width ≡ 0
passed_over {ps} {k} {i} ns x s e u j p h g hp = by_lt 0 p.width
    (λ w.
    let z = s.all j p (slice_get_within ps j p hp) hp w in
    by_lt z.0 k
    (λ l. let q = u.below z.0 j z.1 l in absurd (omega (arith, q, h)))
    (λ l. by_lt k z.0
    (λ m. let q = s.rising k z.0 x j m e z.1 in absurd (omega (arith, q, g)))
    (λ m.
    let d : z.0 ≡ k = omega (arith, l, m) in
    let q : j ≡ x = one_there ns k j x (ap (λ (y : ℕ). slice_get ns y) (sym d) ∙ z.1) e in
    absurd (omega (arith, q, g)))))
    (λ w. omega (arith, w))

pub left_over : {ps : List Node} {k i : ℕ} (ns : List ℕ) → AreStateful ps (length ps) ns → length ns ≤ k → Upto ns k i → (j : ℕ) (p : Node) → i ≤ j → j < length ps → slice_get ps j ≡ Some p → p.width ≡ 0
left_over {ps} {k} {i} ns s e u j p h g hp = by_lt 0 p.width
    (λ w.
    let z = s.all j p g hp w in
    let y = slice_get_within ns z.0 j z.1 in
    let q = u.below z.0 j z.1 (omega (arith, y, e)) in
    absurd (omega (arith, q, h)))
    (λ w. omega (arith, w))

-- without state words, all ticks are alike
abbrev pub Idle : {B : Type 0} → Blocks B → Type 0
Idle {B = B} m = (b : B) → m.width b ≡ 0 → ((state : List ℤ) (h g : History) → m.stands b state h → m.stands b state g) × ((state : List ℤ) (last now : ℤ) → m.sound b state last → m.sound b state now)

pub moved_over : {B : Type 0} {m : Blocks B} {n : Net B} {size : ℕ} {now : ℤ} {a : ℕ} {old w : List ℤ} (i : ℕ) (last : ℤ) → Idle m → Laid m n size → a ≤ i → ((j : ℕ) (p : Node) → a ≤ j → j < i → slice_get n.ps j ≡ Some p → p.width ≡ 0) → AllAt n (λ j b p. m.sound b (state_of p old) last) → Moved m n now a old w → Moved m n now i old w
moved_over {m = m} {n} {now = now} {a} {old} {w} i last d l le z s f = record {
  sound = λ j b p u v h. by_lt j a
      (λ k. f.sound j b p u v k)
      (λ k. rw (f.todo j b p u v k) ((d b (sym (l.each j b p u v).width ∙ z j p k h v)).1 (state_of p old) last now (s j b p u v)));
  todo = λ j b p u v h. f.todo j b p u v (omega (arith, le, h));
}

pub absorbed_over : {B : Type 0} {m : Blocks B} {n : Net B} {size : ℕ} {now : ℤ} {a : ℕ} {old w : List ℤ} (i : ℕ) (r : Past) → Idle m → Laid m n size → ((j : ℕ) (p : Node) → a ≤ j → j < i → slice_get n.ps j ≡ Some p → p.width ≡ 0) → MayAbsorb m n now r old → Moved m n now a old w → Absorbed m n now r a old w → Absorbed m n now r i old w
absorbed_over {m = m} {n} {now = now} {a} {old} {w} i r d l z s v f = record {
  done = λ j b p u x h. by_lt j a
      (λ k. f.done j b p u x k)
      (λ k. rw (v.todo j b p u x k) ((d b (sym (l.each j b p u x).width ∙ z j p k h x)).0 (state_of p old) (r j) (longer now r j p old) (s j b p u x).1));
}
