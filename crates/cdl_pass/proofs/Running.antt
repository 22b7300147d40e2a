-- States before the first tick, and sound states.
use Rattle.std.proofs.Common.{ℕ, ◌+◌, ◌<◌, ◌≡◌, sym, ap, ◌∙◌, ℤ, negsuc, List, [], length, arith, Some, slice_get}
use Rattle.cdl_source.proofs.Cases.{by_lt}
use Rattle.cdl_pass.specs.declared.net.Node.{Node}
use Rattle.cdl_pass.specs.Windows.{state_of, OnlyState}
use Rattle.cdl_pass.specs.Net.{Blocks, Net, Laid}
use Rattle.cdl_pass.specs.Absorb.{Began, Checked, FirstUnsound}
use Rattle.cdl_pass.proofs.Passing.{one_there}
use Rattle.cdl_pass.proofs.Absorbing.{window_before}

pub began_start : {B : Type 0} {m : Blocks B} {n : Net B} {w : List ℤ} → Began m n 0 w
began_start = record { done = λ j b p u v h. absurd (omega arith) }

pub began_next : {B : Type 0} {m : Blocks B} {n : Net B} {size : ℕ} {i : ℕ} {w : List ℤ} (v : List ℤ) (b : B) (p : Node) → Laid m n size → Began m n i w → slice_get n.bs i ≡ Some b → slice_get n.ps i ≡ Some p → OnlyState p w v → m.stands b (state_of p v) [] → m.sound b (state_of p v) (negsuc 0) → Began m n (i + 1) v
began_next {m = m} {n} {i = i} {w} v b p l f hb hp o g s = record {
  done = λ j c q u x h. by_lt j i
      (λ k. rw (window_before w v p.state q.state q.width o.before (l.states j i q p k x hp)) (f.done j c q u x k))
      (λ k.
      let a : j ≡ i = omega arith in
      let d : c ≡ b = one_there n.bs i c b (ap (λ (y : ℕ). slice_get n.bs y) (sym a) ∙ u) hb in
      let e : q ≡ p = one_there n.ps i q p (ap (λ (y : ℕ). slice_get n.ps y) (sym a) ∙ x) hp in
      rw (d, e) (g, s));
}

pub checked_start : {B : Type 0} {m : Blocks B} {n : Net B} {last : ℤ} {w : List ℤ} → Checked m n 0 last w
checked_start = record { done = λ j b p u v h. absurd (omega arith) }

pub checked_next : {B : Type 0} {m : Blocks B} {n : Net B} {i : ℕ} {last : ℤ} {w : List ℤ} (b : B) (p : Node) → Checked m n i last w → slice_get n.bs i ≡ Some b → slice_get n.ps i ≡ Some p → m.sound b (state_of p w) last → Checked m n (i + 1) last w
checked_next {n = n} {i = i} b p f hb hp s = record {
  done = λ j c q u x h. by_lt j i
      (λ k. f.done j c q u x k)
      (λ k.
      let a : j ≡ i = omega arith in
      let d : c ≡ b = one_there n.bs i c b (ap (λ (y : ℕ). slice_get n.bs y) (sym a) ∙ u) hb in
      let e : q ≡ p = one_there n.ps i q p (ap (λ (y : ℕ). slice_get n.ps y) (sym a) ∙ x) hp in
      rw (d, e) s);
}

pub first_unsound : {B : Type 0} {m : Blocks B} {n : Net B} {i : ℕ} {last : ℤ} {w : List ℤ} (b : B) (p : Node) → i < length n.ps → Checked m n i last w → slice_get n.bs i ≡ Some b → slice_get n.ps i ≡ Some p → (m.sound b (state_of p w) last → ⊥) → FirstUnsound m n last w i
first_unsound {n = n} {i = i} b p l f hb hp s = record {
  within = l;
  before = f.done;
  here = λ j c q u x a.
      let d : c ≡ b = one_there n.bs i c b (ap (λ (y : ℕ). slice_get n.bs y) (sym a) ∙ u) hb in
      let e : q ≡ p = one_there n.ps i q p (ap (λ (y : ℕ). slice_get n.ps y) (sym a) ∙ x) hp in
      rw (d, e) s;
}
