-- The pass names the first instance that gives no value, whatever its state may stand for.
use Rattle.std.proofs.Common.{ℕ, ◌+◌, ◌<◌, ◌≤◌, ◌≡◌, ◌⊎◌, refl, sym, ap, ◌∙◌, subst, Bool, true, false, cond, ℤ, List, length, arith, Option, Some, None, slice_get, inl, inr, IfSome}
use Rattle.cdl_source.proofs.Cases.{by_lt, by_bool}
use Rattle.std.proofs.lemmas.Bool.{false≢true}
use Rattle.std.proofs.lemmas.Option.{slice_get_within, none-some}
use Rattle.cdl_values.specs.History.{IsValue, no_value, word}
use Rattle.cdl_pass.specs.declared.net.Node.{Node}
use Rattle.cdl_pass.specs.declared.net.Action.{Action}
use Rattle.cdl_pass.specs.Windows.{ins_of}
use Rattle.cdl_pass.specs.Net.{Blocks, Net, Fits, Planned, Reads, Writes, sort_at}
use Rattle.cdl_pass.specs.Tick.{Valuation, ready, lesser, lesser_of, Answers, FirstLack, Lack, LackIs, Tried}
use Rattle.cdl_pass.proofs.Ready.{same_ready, word_in, ins_words, length-words_from}
use Rattle.cdl_pass.proofs.Passing.{kept_words, lesser_le, one_there, stable}

-- at a valuation that agrees where the instance reads and writes
same_lack : {B : Type 0} {m : Blocks B} {n : Net B} {now : ℤ} {j : ℕ} (v u : Valuation) → ((e : ℕ) → Reads n.ps (Action.Emit j) e → v e ≡ u e) → ((e : ℕ) → Writes n.ps (Action.Emit j) e → v e ≡ u e) → Lack m n now v j → Lack m n now u j
same_lack v u a w f = record {
  block = f.block;
  node = f.node;
  block_is = f.block_is;
  node_is = f.node_is;
  ready = sym (same_ready v u f.node.ins f.node.reads (λ e x y. a e (f.node, f.node_is, x, y))) ∙ f.ready;
  none = λ k h. sym (w (f.node.outs + k) (f.node, f.node_is, omega arith, omega (arith, h))) ∙ f.none k h;
  ins = f.ins;
  size = f.size;
  direct = λ i h. f.direct i h ∙ a (f.node.ins + i) (f.node, f.node_is, omega arith, omega (arith, h));
  may = f.may;
}

same_answers : {B : Type 0} (n : Net B) (j : ℕ) (v u : Valuation) → ((e : ℕ) → Reads n.ps (Action.Emit j) e → v e ≡ u e) → ((e : ℕ) → Writes n.ps (Action.Emit j) e → v e ≡ u e) → Answers n v j → Answers n u j
same_answers n j v u a w f = λ p hp r k h.
    let s : v (p.outs + k) ≡ u (p.outs + k) = w (p.outs + k) (p, hp, omega arith, omega (arith, h)) in
    subst (λ (z : ℤ). IsValue (sort_at n.kinds (p.outs + k)) z) s (f p hp (same_ready v u p.ins p.reads (λ e x y. a e (p, hp, x, y)) ∙ r) k h)

-- a step without a value is an emission
lack_of : {B : Type 0} {m : Blocks B} {n : Net B} {now : ℤ} (v : Valuation) (b : Bool) (o : Action) → LackIs m n now v b o → b ≡ true → (j : ℕ) × (o ≡ Action.Emit j) × Lack m n now v j
lack_of v b (Action.Input i t) f e = absurd (false≢true (sym f ∙ e))
lack_of v b (Action.Copy s t) f e = absurd (false≢true (sym f ∙ e))
lack_of v b (Action.Emit j) f e = (j, refl, f.0 e)

pub tried_start : {B : Type 0} {m : Blocks B} {n : Net B} {now : ℤ} {v : Valuation} → Tried m n now 0 v None
tried_start = record {
  is = λ j e. absurd (none-some j e);
  each = λ q j h. absurd (omega arith);
}

pub tried_next : {B : Type 0} {m : Blocks B} {n : Net B} {now : ℤ} {i : ℕ} {least : Option ℕ} (v u : Valuation) (new : Option ℕ) (o : Action) (b : Bool) → Planned n → Tried m n now i v least → slice_get n.actions i ≡ Some o → ((e : ℕ) → (Writes n.ps o e → ⊥) → u e ≡ v e) → LackIs m n now u b o → new ≡ cond b (lesser least o) least → Tried m n now (i + 1) u new
tried_next {B} {m} {n} {now} {i} {least} v u new o b pl f is oth fb nw =
    let reads : (q j : ℕ) → q < i → slice_get n.actions q ≡ Some (Action.Emit j) → (e : ℕ) → Reads n.ps (Action.Emit j) e → v e ≡ u e = λ q j l h e w. stable i v u o pl is oth q (Action.Emit j) e (omega (arith, l)) h w in
    let writes : (q j : ℕ) → q < i → slice_get n.actions q ≡ Some (Action.Emit j) → (e : ℕ) → Writes n.ps (Action.Emit j) e → v e ≡ u e = λ q j l h e w. kept_words i v u o pl is oth q (Action.Emit j) e l h w in
    let moves : (q j : ℕ) → q < i → slice_get n.actions q ≡ Some (Action.Emit j) → Lack m n now v j → Lack m n now u j = λ q j l h x. same_lack v u (reads q j l h) (writes q j l h) x in
    let keeps : (q j : ℕ) → q < i → slice_get n.actions q ≡ Some (Action.Emit j) → Answers n v j → Answers n u j = λ q j l h x. same_answers n j v u (reads q j l h) (writes q j l h) x in
    let old_is : b ≡ false → new ≡ least = λ t. nw ∙ ap (λ (y : Bool). cond y (lesser least o) least) t in
    let now_is : b ≡ true → (j : ℕ) × (o ≡ Action.Emit j) × Lack m n now u j × (new ≡ lesser_of least j) = λ t.
    let x = lack_of u b o fb t in
    (x.0, x.1, x.2, nw ∙ ap (λ (y : Bool). cond y (lesser least o) least) t ∙ ap (λ (y : Action). lesser least y) x.1) in
    record {
      is = λ j e. by_bool b
          (λ t. let x = now_is t in
          let y = lesser_le least x.0 in
          let z : Some y.0 ≡ Some j = sym y.1 ∙ sym x.3 ∙ e in
          let k : y.0 ≡ j = cc in
          elim y.4 as (λ _. (q : ℕ) × (q < i + 1) × (slice_get n.actions q ≡ Some (Action.Emit j)) × Lack m n now u j) [
            | inl a ↦
                let c : x.0 ≡ j = sym a ∙ k in
                let h : slice_get n.actions i ≡ Some (Action.Emit j) = is ∙ ap (λ (y : Action). Some y) (x.1 ∙ ap (λ (y : ℕ). Action.Emit y) c) in
                (i, omega arith, h, subst (λ (y : ℕ). Lack m n now u y) c x.2)
            | inr a ↦
                let h = f.is j (a ∙ ap (λ (y : ℕ). Some y) k) in
                (h.0, omega (arith, h.1), h.2, moves h.0 j h.1 h.2 h.3)
          ])
          (λ t. let h = f.is j (sym (old_is t) ∙ e) in (h.0, omega (arith, h.1), h.2, moves h.0 j h.1 h.2 h.3));
      each = λ q j l e. by_lt q i
          (λ k. elim (f.each q j k e) as (λ _. Answers n u j ⊎ ((l : ℕ) × (new ≡ Some l) × (l ≤ j))) [
            | inl y ↦ inl (keeps q j k e y)
            | inr h ↦ inr (by_bool b
                (λ t. let a = now_is t in let z = lesser_le least a.0 in let s = z.3 h.0 h.1 in (z.0, a.3 ∙ z.1, omega (arith, s, h.2)))
                (λ t. (h.0, old_is t ∙ h.1, h.2)))
          ])
          (λ k. let a : q ≡ i = omega arith in
          let s : Action.Emit j ≡ o = one_there n.actions i (Action.Emit j) o (ap (λ (x : ℕ). slice_get n.actions x) (sym a) ∙ e) is in
          let d : LackIs m n now u b (Action.Emit j) = subst (λ (z : Action). LackIs m n now u b z) (sym s) fb in
          by_bool b
          (λ t. let z = lesser_le least j in
          inr (z.0, nw ∙ ap (λ (w : Bool). cond w (lesser least o) least) t ∙ ap (λ (w : Action). lesser least w) (sym s) ∙ z.1, z.2))
          (λ t. inl (d.1 t)));
    }

-- after the whole plan
pub first_lack : {B : Type 0} {m : Blocks B} {n : Net B} {now : ℤ} {i : ℕ} {v : Valuation} (least : Option ℕ) → Planned n → Tried m n now i v least → length n.actions ≤ i → IfSome least (λ j. FirstLack m n now v j)
first_lack None pl f h = tt
first_lack {n = n} {v = v} (Some l) pl f h = record {
  is = (f.is l refl).3;
  before = λ j k p hp.
      let a = pl.all j (slice_get_within n.ps j p hp) in
      let w = slice_get_within n.actions a.0 (Action.Emit j) a.1 in
      elim (f.each a.0 j (omega (arith, w, h)) a.1) as (λ _. ready v p.ins p.reads ≡ true → (k : ℕ) → k < p.nout → IsValue (sort_at n.kinds (p.outs + k)) (v (p.outs + k))) [
        | inl y ↦ y p hp
        | inr z ↦ (let e : Some l ≡ Some z.0 = z.1 in let q : l ≡ z.0 = cc in absurd (omega (arith, z.2, k, q)))
      ];
}

-- what an emission has shown, at whatever the lists have in its place
pub lack_at : {B : Type 0} (m : Blocks B) (n : Net B) (now : ℤ) (w u : List ℤ) (t : Bool) (j : ℕ) (b : B) (p : Node) → slice_get n.bs j ≡ Some b → slice_get n.ps j ≡ Some p → Fits m n.kinds (length w) b p → ((e : ℕ) → (p.outs ≤ e → e < p.outs + p.nout → ⊥) → word u e ≡ word w e)
    → (t ≡ true → ready (word w) p.ins p.reads ≡ true) → (t ≡ true → m.may_lack b now (ins_of p w)) → (t ≡ true → (k : ℕ) → k < p.nout → word u (p.outs + k) ≡ no_value) → (t ≡ false → ready (word w) p.ins p.reads ≡ true → (k : ℕ) → k < p.nout → IsValue (sort_at n.kinds (p.outs + k)) (word u (p.outs + k)))
    → LackIs m n now (word u) t (Action.Emit j)
lack_at {B} m n now w u t j b p hb hp f oth ready_is may blank values =
    let same : (e : ℕ) → p.ins ≤ e → e < p.ins + p.reads → word u e ≡ word w e = λ e x y. oth e (λ z _. omega (arith, z, y, f.reads, f.lies.earlier)) in
    let still : ready (word u) p.ins p.reads ≡ ready (word w) p.ins p.reads = same_ready (word u) (word w) p.ins p.reads same in (
      λ e. record {
        block = b;
        node = p;
        block_is = hb;
        node_is = hp;
        ready = still ∙ ready_is e;
        none = blank e;
        ins = ins_of p w;
        size = sym (ap length (ins_words w f)) ∙ length-words_from (word w) p.ins p.nin;
        direct = λ i h. word_in w p.ins p.nin i (omega (arith, h, f.reads)) ∙ sym (same (p.ins + i) (omega arith) (omega (arith, h)));
        may = may e;
      },
      λ e q hq.
          let g : p ≡ q = one_there n.ps j p q hp hq in
          subst (λ (x : Node). ready (word u) x.ins x.reads ≡ true → (k : ℕ) → k < x.nout → IsValue (sort_at n.kinds (x.outs + k)) (word u (x.outs + k))) g (λ r. values e (sym still ∙ r)),
    )
