-- Words and values of windows, and what an emission makes of them.
use Rattle.std.proofs.Common.{ℕ, zero, suc, ◌+◌, ◌-◌, ◌<◌, ◌≤◌, ◌≡◌, inl, inr, refl, sym, ap, ◌∙◌, subst, true, false, not, ◌&&◌, ℤ, pos, unsigned_abs, List, [], ◌∷◌, length, take, drop, replicate, arith, length-take, length-drop, Some, None, nat_lt}
use Rattle.cdl_source.proofs.Cases.{by_lt, by_bool}
use Rattle.std.proofs.lemmas.List.{drop-drop, get_or-take, get_or-drop, get_or-replicate}
use Rattle.std.proofs.lemmas.Bool.{false≢true}
use Rattle.std.proofs.lemmas.Bool.Decides.{Decides-int_eq}
use Rattle.cdl_values.specs.declared.value.ValueType.{ValueType}
use Rattle.cdl_values.specs.declared.value.ValueType.TheVariants.{Boolean, Integer, Real, Str, Enumeration}
use Rattle.cdl_values.specs.History.{History, IsValue, word, AreReady, AreValues, no_value}
use Rattle.cdl_pass.specs.declared.net.Node.{Node}
use Rattle.cdl_pass.specs.Windows.{window, ins_of, outs_of, OnlyOuts}
use Rattle.cdl_pass.specs.Net.{Blocks, Fits, sort_at}
use Rattle.cdl_pass.specs.Tick.{Valuation, is_none, words_from, ready, given, has_fault, out_word, IsTyped}

pub none_is : (z : ℤ) → is_none z ≡ true → z ≡ no_value
none_is z h = (Decides-int_eq z no_value).0 h

pub none_no_value : is_none no_value ≡ true
none_no_value = (Decides-int_eq no_value no_value).1 refl

-- the word of 'no value' is a value of no type
no_value_is_none : (k : ValueType) → IsValue k no_value → ⊥
no_value_is_none Boolean h = elim h as (λ _. ⊥) [
  | inl e ↦ (let a : unsigned_abs no_value ≡ 0 = ap unsigned_abs e in omega arith)
  | inr e ↦ (let a : unsigned_abs no_value ≡ 1 = ap unsigned_abs e in omega arith)
]
no_value_is_none Integer h = omega (arith, h)
no_value_is_none Real h = omega (arith, h)
no_value_is_none Str h = h
no_value_is_none (Enumeration c) h = h

pub value_some : (k : ValueType) (z : ℤ) → IsValue k z → is_none z ≡ false
value_some k z h = by_bool (is_none z) (λ t. absurd (no_value_is_none k (subst (λ (x : ℤ). IsValue k x) (none_is z t) h))) (λ f. f)

pub ready_at : (v : Valuation) (a n i : ℕ) → i < n → ready v (a + i) (n - i) ≡ (not (is_none (v (a + i))) && ready v (a + (i + 1)) (n - (i + 1)))
ready_at v a n i h =
    let e : n - i ≡ suc (n - (i + 1)) = omega arith in
    let f : a + i + 1 ≡ a + (i + 1) = omega arith in
    rw (e, f) refl

pub ready_values : (v : Valuation) (a n i : ℕ) → ready v a n ≡ true → i < n → is_none (v (a + i)) ≡ false
ready_values v a zero i h l = absurd (omega arith)
ready_values v a (suc n) i h l = by_bool (is_none (v a))
    (λ t. absurd (false≢true (rw t at h)))
    (λ f. let r : ready v (a + 1) n ≡ true = rw f at h in by_lt i 1
    (λ z. let e : a + i ≡ a = omega arith in rw e f)
    (λ z. let e : a + i ≡ a + 1 + (i - 1) = omega arith in rw e (ready_values v (a + 1) n (i - 1) r (omega arith))))

pub ready_all : (v : Valuation) (a n : ℕ) → ((e : ℕ) → a ≤ e → e < a + n → is_none (v e) ≡ false) → ready v a n ≡ true
ready_all v a zero f = refl
ready_all v a (suc n) f =
    let h : is_none (v a) ≡ false = f a (omega arith) (omega arith) in
    rw h (ready_all v (a + 1) n (λ e x y. f e (omega arith) (omega arith)))

pub same_ready : (v w : Valuation) (a n : ℕ) → ((e : ℕ) → a ≤ e → e < a + n → v e ≡ w e) → ready v a n ≡ ready w a n
same_ready v w a zero f = refl
same_ready v w a (suc n) f =
    let h : v a ≡ w a = f a (omega arith) (omega arith) in
    rw (h, same_ready v w (a + 1) n (λ e x y. f e (omega arith) (omega arith))) refl

pub length-words_from : (v : Valuation) (a n : ℕ) → length (words_from v a n) ≡ n
length-words_from v a zero = refl
length-words_from v a (suc n) = ap (λ (x : ℕ). suc x) (length-words_from v (a + 1) n)

pub word_from : (v : Valuation) (a n i : ℕ) → i < n → word (words_from v a n) i ≡ v (a + i)
word_from v a zero i h = absurd (omega arith)
word_from v a (suc n) zero h = let e : a + 0 ≡ a = omega arith in rw e refl
word_from v a (suc n) (suc i) h = let e : a + suc i ≡ a + 1 + i = omega arith in rw e (word_from v (a + 1) n i (omega arith))

pub same_words : (v w : Valuation) (a n : ℕ) → ((e : ℕ) → a ≤ e → e < a + n → v e ≡ w e) → words_from v a n ≡ words_from w a n
same_words v w a zero f = refl
same_words v w a (suc n) f =
    let h : v a ≡ w a = f a (omega arith) (omega arith) in
    rw (h, same_words v w (a + 1) n (λ e x y. f e (omega arith) (omega arith))) refl

drop_next : (w : List ℤ) (a : ℕ) → a < length w → drop a w ≡ word w a ∷ drop (a + 1) w
drop_next [] a h = absurd (omega arith)
drop_next (x ∷ w) zero h = refl
drop_next (x ∷ w) (suc a) h = let e : suc a + 1 ≡ suc (a + 1) = omega arith in rw e (drop_next w a (omega arith))

pub words_are : (w : List ℤ) (a n : ℕ) → a + n ≤ length w → words_from (word w) a n ≡ window w a n
words_are w a zero h = refl
words_are w a (suc n) h = rw (drop_next w a (omega arith), words_are w (a + 1) n (omega arith)) refl

pub word_in : (w : List ℤ) (a n i : ℕ) → i < n → word (window w a n) i ≡ word w (a + i)
word_in w a n i h = get_or-take n (drop a w) i (pos 0) h ∙ get_or-drop a w i (pos 0)

word_before : (w v : List ℤ) (k e : ℕ) → take k v ≡ take k w → e < k → word v e ≡ word w e
word_before w v k e t h = sym (get_or-take k v e (pos 0) h) ∙ ap (λ (x : List ℤ). word x e) t ∙ get_or-take k w e (pos 0) h

word_after : (w v : List ℤ) (k e : ℕ) → drop k v ≡ drop k w → k ≤ e → word v e ≡ word w e
word_after w v k e t h =
    let s : k + (e - k) ≡ e = omega arith in
    let f : (x : List ℤ) → word x e ≡ word (drop k x) (e - k) = λ x. sym (get_or-drop k x (e - k) (pos 0) ∙ ap (λ (i : ℕ). word x i) s) in
    f v ∙ ap (λ (x : List ℤ). word x (e - k)) t ∙ sym (f w)

pub others_of : (p : Node) (w u : List ℤ) → OnlyOuts p w u → (e : ℕ) → (p.outs ≤ e → e < p.outs + p.nout → ⊥) → word u e ≡ word w e
others_of p w u o e f = by_lt e p.outs
    (λ h. word_before w u p.outs e o.before h)
    (λ h. by_lt e (p.outs + p.nout) (λ l. absurd (f h l)) (λ l. word_after w u (p.outs + p.nout) e o.after l))

pub drop_later : (w v : List ℤ) (k a : ℕ) → drop k v ≡ drop k w → k ≤ a → drop a v ≡ drop a w
drop_later w v k a e h =
    let s : k + (a - k) ≡ a = omega arith in
    let f : (x : List ℤ) → drop a x ≡ drop (a - k) (drop k x) = λ x. sym (drop-drop (a - k) k x ∙ ap (λ (i : ℕ). drop i x) s) in
    f v ∙ ap (λ (x : List ℤ). drop (a - k) x) e ∙ sym (f w)

pub blank_outs : (p : Node) (u : List ℤ) → outs_of p u ≡ replicate p.nout no_value → (k : ℕ) → k < p.nout → word u (p.outs + k) ≡ no_value
blank_outs p u e k h = sym (word_in u p.outs p.nout k h) ∙ ap (λ (x : List ℤ). word x k) e ∙ get_or-replicate p.nout k no_value (pos 0) h

-- the inputs of an instance are ready for its block
pub ready_is : {B : Type 0} {m : Blocks B} {kinds : List ValueType} {b : B} {p : Node} (w : List ℤ) → Fits m kinds (length w) b p → ((e : ℕ) → p.ins ≤ e → e < p.ins + p.reads → IsTyped kinds (word w) e) → ready (word w) p.ins p.reads ≡ true → AreReady (m.inputs b) (ins_of p w)
ready_is {m} {kinds} {b} {p} w f t r = record {
  size = simp (length-take, length-drop) (omega (arith, f.nin, f.lies.earlier, f.lies.elements, f.lies.states));
  each = λ i h d.
      let g : i < p.nin = omega (arith, f.nin) in
      let l : nat_lt i p.reads ≡ true = sym (f.direct i g) ∙ d in
      by_lt i p.reads
      (λ z. let n = ready_values (word w) p.ins p.reads i r z in
      rw (f.ins_typed i g, word_in w p.ins p.nin i g)
      (elim (t (p.ins + i) (omega arith) (omega arith)) as (λ _. IsValue (sort_at kinds (p.ins + i)) (word w (p.ins + i))) [
        | inl e ↦ absurd (false≢true (sym n ∙ ap (λ (x : ℤ). is_none x) e ∙ none_no_value))
        | inr v ↦ v
      ]))
      (λ z. absurd (grind (arith, l, z)));
}

-- the outputs are values of their elements' types
pub typed_outs : {B : Type 0} {m : Blocks B} {kinds : List ValueType} {size : ℕ} {b : B} {p : Node} (u : List ℤ) → Fits m kinds size b p → AreValues (m.results b) (outs_of p u) → (k : ℕ) → k < p.nout → IsValue (sort_at kinds (p.outs + k)) (word u (p.outs + k))
typed_outs {m} {kinds} {b} {p} u f a k h = rw (← f.outs_typed k h, ← word_in u p.outs p.nout k h) (a.each k (omega (arith, f.nout)))

pub ins_words : {B : Type 0} {m : Blocks B} {kinds : List ValueType} {b : B} {p : Node} (w : List ℤ) → Fits m kinds (length w) b p → words_from (word w) p.ins p.nin ≡ ins_of p w
ins_words {p} w f = words_are w p.ins p.nin (omega (arith, f.lies.earlier, f.lies.elements, f.lies.states))

-- what an instance gives, and whether it has a fault
pub gives_value : {B : Type 0} {m : Blocks B} {kinds : List ValueType} {b : B} {p : Node} (h : History) (now : ℤ) (w u : List ℤ) → Fits m kinds (length w) b p → ready (word w) p.ins p.reads ≡ true → m.meaning b h now (ins_of p w) ≡ Some (outs_of p u) → ((k : ℕ) → k < p.nout → word u (p.outs + k) ≡ out_word (given m b p h now (word w)) k) × (false ≡ has_fault m b p h now (word w))
gives_value {p} h now w u f r e = (
  λ k l. rw (r, ins_words w f, e) (sym (word_in u p.outs p.nout k l)),
  rw (r, ins_words w f, e) refl,
)

pub gives_none : {B : Type 0} {m : Blocks B} {kinds : List ValueType} {b : B} {p : Node} (h : History) (now : ℤ) (w u : List ℤ) → Fits m kinds (length w) b p → ready (word w) p.ins p.reads ≡ true → m.meaning b h now (ins_of p w) ≡ None → outs_of p u ≡ replicate p.nout no_value → ((k : ℕ) → k < p.nout → word u (p.outs + k) ≡ out_word (given m b p h now (word w)) k) × (true ≡ has_fault m b p h now (word w))
gives_none {p} h now w u f r e o = (
  λ k l. rw (r, ins_words w f, e) (blank_outs p u o k l),
  rw (r, ins_words w f, e) refl,
)

pub gives_missing : {B : Type 0} {m : Blocks B} {kinds : List ValueType} {b : B} {p : Node} (h : History) (now : ℤ) (w u : List ℤ) → Fits m kinds (length w) b p → ready (word w) p.ins p.reads ≡ false → outs_of p u ≡ replicate p.nout no_value → ((k : ℕ) → k < p.nout → word u (p.outs + k) ≡ out_word (given m b p h now (word w)) k) × (false ≡ has_fault m b p h now (word w))
gives_missing {p} h now w u f r o = (
  λ k l. rw r (blank_outs p u o k l),
  rw r refl,
)
