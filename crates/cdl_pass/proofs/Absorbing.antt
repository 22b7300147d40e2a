-- The second pass keeps what it has made true.
use Rattle.std.proofs.Common.{ℕ, ◌+◌, ◌<◌, ◌≤◌, ◌≡◌, refl, sym, ap, ◌∙◌, true, false, ℤ, List, length, take, drop, pos, arith, length-take, length-drop, Option, Some, None, IsSome, slice_get}
use Rattle.cdl_source.proofs.Cases.{by_lt, by_bool}
use Rattle.std.proofs.lemmas.List.{take-take, drop-take, get_or-take}
use Rattle.std.proofs.lemmas.Bool.{false≢true}
use Rattle.std.proofs.lemmas.Option.{slice_get_within}
use Rattle.cdl_values.specs.declared.value.ValueType.{ValueType}
use Rattle.cdl_values.specs.History.{IsTime, IsValue, AreValues, word}
use Rattle.cdl_pass.specs.declared.net.Node.{Node}
use Rattle.cdl_pass.specs.declared.net.Action.{Action}
use Rattle.cdl_pass.specs.Windows.{window, ins_of, state_of, OnlyState}
use Rattle.cdl_pass.specs.Net.{Blocks, Net, AllAt, Fits, Laid, Names, Reads, Writes, sort_at}
use Rattle.cdl_pass.specs.Tick.{Past, Valuation, Starts, Solves, NoFault, lacks, ready, words_from}
use Rattle.cdl_pass.specs.Absorb.{MayAbsorb, Absorbed, Moved, Stood, longer}
use Rattle.cdl_pass.proofs.Ready.{word_in, drop_later, ready_all, value_some, ins_words}
use Rattle.cdl_pass.proofs.Passing.{DirectOnly, one_there, there, same_meets, same_fault, state_kept}

pub window_before : (w v : List ℤ) (k a n : ℕ) → take k v ≡ take k w → a + n ≤ k → window v a n ≡ window w a n
window_before w v k a n e h =
    sym (drop-take a n v) ∙ ap (λ (x : List ℤ). drop a x) (sym (take-take (a + n) k v h) ∙ ap (λ (x : List ℤ). take (a + n) x) e ∙ take-take (a + n) k w h) ∙ drop-take a n w

pub window_after : (w v : List ℤ) (k a n : ℕ) → drop k v ≡ drop k w → k ≤ a → window v a n ≡ window w a n
window_after w v k a n e h = ap (λ (x : List ℤ). take n x) (drop_later w v k a e h)

pub word_kept : (w v : List ℤ) (k e : ℕ) → take k v ≡ take k w → e < k → word v e ≡ word w e
word_kept w v k e t h = sym (get_or-take k v e (pos 0) h) ∙ ap (λ (x : List ℤ). word x e) t ∙ get_or-take k w e (pos 0) h

pub kept_next : (w v old : List ℤ) (k e : ℕ) → take k v ≡ take k w → e ≤ k → take e w ≡ take e old → take e v ≡ take e old
kept_next w v old k e h l g = sym (take-take e k v l) ∙ ap (λ (x : List ℤ). take e x) h ∙ take-take e k w l ∙ g

pub ins_kept : {B : Type 0} {m : Blocks B} {kinds : List ValueType} {size : ℕ} {b : B} {p : Node} (w v : List ℤ) → Fits m kinds size b p → take (length kinds) v ≡ take (length kinds) w → ins_of p v ≡ ins_of p w
ins_kept {kinds = kinds} {p = p} w v f e = window_before w v (length kinds) p.ins p.nin e (omega (arith, f.lies.earlier, f.elements))

-- the inputs of an instance are values
pub values_in : {B : Type 0} {m : Blocks B} {kinds : List ValueType} {b : B} {p : Node} (w : List ℤ) → Fits m kinds (length w) b p → ((e : ℕ) → e < length kinds → IsValue (sort_at kinds e) (word w e)) → AreValues (m.inputs b) (ins_of p w)
values_in {kinds = kinds} {p = p} w f v = record {
  size = simp (length-take, length-drop) (omega (arith, f.nin, f.lies.earlier, f.lies.elements, f.lies.states));
  each = λ i h.
      let g : i < p.nin = omega (arith, f.nin) in
      rw (f.ins_typed i g, word_in w p.ins p.nin i g) (v (p.ins + i) (omega (arith, f.lies.earlier, f.elements)));
}

pub moved_start : {B : Type 0} {m : Blocks B} {n : Net B} {now : ℤ} {w : List ℤ} → Moved m n now 0 w w
moved_start = record { sound = λ j b p u v h. absurd (omega arith); todo = λ j b p u v h. refl }

pub absorbed_start : {B : Type 0} {m : Blocks B} {n : Net B} {now : ℤ} {r : Past} {w : List ℤ} → Absorbed m n now r 0 w w
absorbed_start = record { done = λ j b p u v h. absurd (omega arith) }

pub moved_next : {B : Type 0} {m : Blocks B} {n : Net B} {size : ℕ} {now : ℤ} {i : ℕ} {old w : List ℤ} (v : List ℤ) (b : B) (p : Node) → Laid m n size → Moved m n now i old w → slice_get n.bs i ≡ Some b → slice_get n.ps i ≡ Some p → OnlyState p w v → m.sound b (state_of p v) now → Moved m n now (i + 1) old v
moved_next {m = m} {n} {now = now} {i} {old} {w} v b p l f hb hp o g = record {
  sound = λ j c q u x h. by_lt j i
      (λ k. rw (window_before w v p.state q.state q.width o.before (l.states j i q p k x hp)) (f.sound j c q u x k))
      (λ k.
      let a : j ≡ i = omega arith in
      let d : c ≡ b = one_there n.bs i c b (ap (λ (y : ℕ). slice_get n.bs y) (sym a) ∙ u) hb in
      let e : q ≡ p = one_there n.ps i q p (ap (λ (y : ℕ). slice_get n.ps y) (sym a) ∙ x) hp in
      rw (d, e) g);
  todo = λ j c q u x h.
      let k : i < j = omega arith in
      window_after w v (p.state + p.width) q.state q.width o.after (l.states i j p q k hp x) ∙ f.todo j c q u x (omega arith);
}

pub absorbed_next : {B : Type 0} {m : Blocks B} {n : Net B} {size : ℕ} {now : ℤ} {r : Past} {i : ℕ} {old w : List ℤ} (v : List ℤ) (b : B) (p : Node) → Laid m n size → Absorbed m n now r i old w → slice_get n.bs i ≡ Some b → slice_get n.ps i ≡ Some p → OnlyState p w v → m.stands b (state_of p v) (longer now r i p old) → Absorbed m n now r (i + 1) old v
absorbed_next {m = m} {n} {now = now} {r} {i} {old} {w} v b p l f hb hp o g = record {
  done = λ j c q u x h. by_lt j i
      (λ k. rw (window_before w v p.state q.state q.width o.before (l.states j i q p k x hp)) (f.done j c q u x k))
      (λ k.
      let a : j ≡ i = omega arith in
      let d : c ≡ b = one_there n.bs i c b (ap (λ (y : ℕ). slice_get n.bs y) (sym a) ∙ u) hb in
      let e : q ≡ p = one_there n.ps i q p (ap (λ (y : ℕ). slice_get n.ps y) (sym a) ∙ x) hp in
      rw (a, d, e) g);
}

-- what a step reads and writes are elements
reads_within : {B : Type 0} {m : Blocks B} {n : Net B} {size : ℕ} (o : Action) → Laid m n size → Names n o → (e : ℕ) → Reads n.ps o e → e < length n.kinds
reads_within (Action.Input i t) l h e w = absurd w
reads_within (Action.Copy s t) l h e w = rw w h.0
reads_within {n = n} (Action.Emit j) l h e w =
    let b = there n.bs j (omega (arith, l.same, h)) in
    let f = l.each j b.0 w.0 b.1 w.1 in
    omega (arith, f.reads, f.lies.earlier, f.elements, w.3)

writes_within : {B : Type 0} {m : Blocks B} {n : Net B} {size : ℕ} (o : Action) → Laid m n size → Names n o → (e : ℕ) → Writes n.ps o e → e < length n.kinds
writes_within (Action.Input i t) l h e w = rw w h.1
writes_within (Action.Copy s t) l h e w = rw w h.1
writes_within {n = n} (Action.Emit j) l h e w =
    let b = there n.bs j (omega (arith, l.same, h)) in
    let f = l.each j b.0 w.0 b.1 w.1 in
    omega (arith, f.elements, w.3)

pub solves_kept : {B : Type 0} {m : Blocks B} {n : Net B} {size : ℕ} (now : ℤ) (row : List ℤ) (r : Past) (v u : Valuation) → DirectOnly m → Laid m n size → ((e : ℕ) → e < length n.kinds → v e ≡ u e) → Solves m n now row r v → Solves m n now row r u
solves_kept now row r v u d l a f i o e = same_meets now row r v u o d l (λ x w. a x (reads_within o l (l.actions i o e) x w)) (λ x w. a x (writes_within o l (l.actions i o e) x w)) (f i o e)

pub no_fault_kept : {B : Type 0} {m : Blocks B} {n : Net B} {size : ℕ} (now : ℤ) (r : Past) (v u : Valuation) → DirectOnly m → Laid m n size → ((e : ℕ) → e < length n.kinds → v e ≡ u e) → NoFault m n now r v → NoFault m n now r u
no_fault_kept {n = n} now r v u d l a f j x = f j (same_fault u v d l (λ e w. sym (a e (reads_within (Action.Emit j) l (slice_get_within n.ps j x.node x.node_is) e w))) x)

some_of : {X : Type 0} (x : Option X) → lacks x ≡ false → IsSome x
some_of (Some x) e = refl
some_of None e = absurd (false≢true (sym e))

-- a tick without a fault makes each history longer
pub may_absorb : {B : Type 0} {m : Blocks B} {n : Net B} (now : ℤ) (r : Past) (old w : List ℤ) → Laid m n (length w) → IsTime now → Starts m n now r old → drop (length n.kinds) w ≡ drop (length n.kinds) old → ((e : ℕ) → e < length n.kinds → IsValue (sort_at n.kinds e) (word w e)) → NoFault m n now r (word w) → MayAbsorb m n now r w
may_absorb {m = m} {n} now r old w l time s k v nf = λ j b p hb hp.
    let f = l.each j b p hb hp in
    let z = s j b p hb hp in
    let ins = ins_words w f in
    let rd : ready (word w) p.ins p.reads ≡ true = ready_all (word w) p.ins p.reads (λ e x y. value_some (sort_at n.kinds e) _ (v e (omega (arith, f.reads, f.lies.earlier, f.elements)))) in
    let some : IsSome (m.meaning b (r j) now (words_from (word w) p.ins p.nin)) = by_bool (lacks (m.meaning b (r j) now (words_from (word w) p.ins p.nin)))
    (λ t. absurd (nf j (record { block = b; node = p; block_is = hb; node_is = hp; faults = rw (rd, t) refl })))
    (λ t. some_of _ t) in
    (record { ticks = (time, z.1, values_in w f v, rw ins at some, z.0.ticks) }, rw (state_kept old w f k) z.2)

pub stood_of : {B : Type 0} {m : Blocks B} {n : Net B} {size : ℕ} (now : ℤ) (r : Past) (w u : List ℤ) → Laid m n size → take (length n.kinds) u ≡ take (length n.kinds) w → MayAbsorb m n now r w → AllAt n (λ j b p. m.stands b (state_of p u) (longer now r j p w)) → Stood m n now r u
stood_of now r w u l k a s = λ j b p hb hp.
    rw (ins_kept w u (l.each j b p hb hp) k) ((a j b p hb hp).0, s j b p hb hp)
