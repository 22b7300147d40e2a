-- The pass keeps what it has made true.
use Rattle.std.proofs.Common.{ℕ, nat_le, zero, suc, ◌+◌, ◌-◌, ◌<◌, ◌≤◌, ◌≡◌, ◌⊎◌, refl, sym, ap, ◌∙◌, subst, Bool, true, false, cond, ℤ, List, [], ◌∷◌, length, take, drop, get_or, arith, Option, Some, None, slice_get, inl, inr, IfSome, nat_lt}
use Rattle.cdl_source.proofs.Cases.{by_lt, by_bool}
use Rattle.std.proofs.lemmas.Bool.{false≢true, lt-leb, le-leb}
use Rattle.std.proofs.lemmas.Option.{slice_get_within, none-some, slice_get-get_or}
use Rattle.cdl_values.specs.declared.value.ValueType.{ValueType}
use Rattle.cdl_values.specs.History.{History, IsValue, SameDirect, no_value}
use Rattle.cdl_pass.specs.declared.net.Node.{Node}
use Rattle.cdl_pass.specs.declared.net.Action.{Action}
use Rattle.cdl_pass.specs.Windows.{state_of}
use Rattle.cdl_pass.specs.Net.{Blocks, Net, Fits, Laid, Planned, Names, Reads, Writes, sort_at}
use Rattle.cdl_pass.specs.Tick.{Valuation, Past, words_from, ready, given, lacks, has_fault, out_word, Gives, Meets, Solves, Fault, FaultIs, FirstFault, NoFault, Starts, IsTyped, lesser, lesser_of, spent, spent_in, Typed, Passed}
use Rattle.cdl_pass.proofs.Ready.{same_ready, length-words_from, word_from, drop_later}

-- the inputs that are not direct have no part in the meaning
abbrev pub DirectOnly : {B : Type 0} → Blocks B → Type 0
DirectOnly {B} m = (b : B) (h : History) (now : ℤ) (x y : List ℤ) → SameDirect (m.inputs b) x y → m.meaning b h now x ≡ m.meaning b h now y

pub there : {X : Type 0} (xs : List X) (i : ℕ) → i < length xs → (x : X) × (slice_get xs i ≡ Some x)
there [] i h = absurd (omega arith)
there (x ∷ xs) zero h = (x, refl)
there (x ∷ xs) (suc i) h = there xs i (omega arith)

pub one_there : {X : Type 0} (xs : List X) (i : ℕ) (x y : X) → slice_get xs i ≡ Some x → slice_get xs i ≡ Some y → x ≡ y
one_there xs i x y e f = let g : Some x ≡ Some y = sym e ∙ f in cc

-- one meaning at valuations that agree on the direct inputs
same_meaning : {B : Type 0} {m : Blocks B} {kinds : List ValueType} {size : ℕ} {b : B} {p : Node} (h : History) (now : ℤ) (v u : Valuation) → DirectOnly m → Fits m kinds size b p → ((e : ℕ) → p.ins ≤ e → e < p.ins + p.reads → v e ≡ u e) → m.meaning b h now (words_from v p.ins p.nin) ≡ m.meaning b h now (words_from u p.ins p.nin)
same_meaning {m} {b = b} {p} h now v u d f a = d b h now _ _ (record {
  size = length-words_from v p.ins p.nin ∙ sym (length-words_from u p.ins p.nin);
  count = length-words_from v p.ins p.nin ∙ f.nin;
  each = λ i l t.
      let k : i < p.nin = omega (arith, f.nin) in
      let g : nat_lt i p.reads ≡ true = sym (f.direct i k) ∙ t in
      by_lt i p.reads
      (λ z. word_from v p.ins p.nin i k ∙ a (p.ins + i) (omega arith) (omega arith) ∙ sym (word_from u p.ins p.nin i k))
      (λ z. absurd (grind (arith, g, z)));
})

pub same_given : {B : Type 0} {m : Blocks B} {kinds : List ValueType} {size : ℕ} {b : B} {p : Node} (h : History) (now : ℤ) (v u : Valuation) → DirectOnly m → Fits m kinds size b p → ((e : ℕ) → p.ins ≤ e → e < p.ins + p.reads → v e ≡ u e) → (given m b p h now v ≡ given m b p h now u) × (has_fault m b p h now v ≡ has_fault m b p h now u)
same_given {m} {b = b} {p} h now v u d f a =
    let s = same_meaning h now v u d f a in
    let r : ready v p.ins p.reads ≡ ready u p.ins p.reads = same_ready v u p.ins p.reads a in
    (rw (r, s) refl, rw (r, s) refl)

-- a step's equation at a valuation that agrees where it reads and writes
pub same_meets : {B : Type 0} {m : Blocks B} {n : Net B} {size : ℕ} (now : ℤ) (row : List ℤ) (r : Past) (v u : Valuation) (o : Action) → DirectOnly m → Laid m n size → ((e : ℕ) → Reads n.ps o e → v e ≡ u e) → ((e : ℕ) → Writes n.ps o e → v e ≡ u e) → Meets m n now row r v o → Meets m n now row r u o
same_meets now row r v u (Action.Input i t) d l a w g = sym (w t refl) ∙ g
same_meets now row r v u (Action.Copy s t) d l a w g = sym (w t refl) ∙ g ∙ a s refl
same_meets {m} {n} now row r v u (Action.Emit j) d l a w g = λ b p hb hp k h.
    let f = l.each j b p hb hp in
    let s = same_given (r j) now v u d f (λ e x y. a e (p, hp, x, y)) in
    sym (w (p.outs + k) (p, hp, omega arith, omega arith)) ∙ g b p hb hp k h ∙ ap (λ (x : Option (List ℤ)). out_word x k) s.0

-- what a step gave is its equation, at the words after it
pub met : {B : Type 0} {m : Blocks B} {n : Net B} {size : ℕ} (now : ℤ) (row : List ℤ) (r : Past) (v u : Valuation) (o : Action) → DirectOnly m → Laid m n size → ((e : ℕ) → Reads n.ps o e → v e ≡ u e) → Gives m n now row r v u o → Meets m n now row r u o
met now row r v u (Action.Input i t) d l a g = g
met now row r v u (Action.Copy s t) d l a g = g ∙ a s refl
met {m} {n} now row r v u (Action.Emit j) d l a g = λ b p hb hp k h.
    let f = l.each j b p hb hp in
    let s = same_given (r j) now v u d f (λ e x y. a e (p, hp, x, y)) in
    g b p hb hp k h ∙ ap (λ (x : Option (List ℤ)). out_word x k) s.0

-- a fault at a valuation that agrees where the instance reads
pub same_fault : {B : Type 0} {m : Blocks B} {n : Net B} {size : ℕ} {now : ℤ} {r : Past} {j : ℕ} (v u : Valuation) → DirectOnly m → Laid m n size → ((e : ℕ) → Reads n.ps (Action.Emit j) e → v e ≡ u e) → Fault m n now r v j → Fault m n now r u j
same_fault {m} {n} {now = now} {r = r} {j = j} v u d l a f =
    let s = same_given (r j) now v u d (l.each j f.block f.node f.block_is f.node_is) (λ e x y. a e (f.node, f.node_is, x, y)) in
    record { block = f.block; node = f.node; block_is = f.block_is; node_is = f.node_is; faults = sym s.1 ∙ f.faults }

-- a step with a fault is an emission
fault_of : {B : Type 0} {m : Blocks B} {n : Net B} {size : ℕ} {now : ℤ} {r : Past} (v : Valuation) (b : Bool) (o : Action) → Laid m n size → Names n o → FaultIs m n now r v b o → b ≡ true → (j : ℕ) × (o ≡ Action.Emit j) × Fault m n now r v j
fault_of v b (Action.Input i t) l h f e = absurd (false≢true (sym f ∙ e))
fault_of v b (Action.Copy s t) l h f e = absurd (false≢true (sym f ∙ e))
fault_of {n = n} v b (Action.Emit j) l h f e =
    let x = there n.bs j (omega (arith, l.same, h)) in
    let p = there n.ps j h in
    (j, refl, record { block = x.0; node = p.0; block_is = x.1; node_is = p.1; faults = sym (f x.0 p.0 x.1 p.1) ∙ e })

pub passed_start : {B : Type 0} {m : Blocks B} {n : Net B} {now : ℤ} {row : List ℤ} {r : Past} {v : Valuation} → Passed m n now row r 0 v None
passed_start = record {
  solved = λ q o h. absurd (omega arith);
  is = λ j e. absurd (none-some j e);
  each = λ q j h. absurd (omega arith);
}

pub typed_start : {B : Type 0} {n : Net B} {v : Valuation} → Typed n 0 v None
typed_start = record {
  typed = λ q o e h. absurd (omega arith);
  whole = λ t q o e h. absurd (omega arith);
}

-- the lesser of those found so far and the next
pub lesser_le : (least : Option ℕ) (j : ℕ) → (l : ℕ) × (lesser_of least j ≡ Some l) × (l ≤ j) × ((o : ℕ) → least ≡ Some o → l ≤ o) × ((l ≡ j) ⊎ (least ≡ Some l))
lesser_le None j = (j, refl, omega arith, λ o e. absurd (none-some o e), inl refl)
lesser_le (Some o) j = by_lt j o
    (λ h. let f : nat_le o j ≡ false = lt-leb o j h in
    (j, rw f refl, omega arith, λ x e. let q : o ≡ x = cc in omega arith, inl refl))
    (λ h. let f : nat_le o j ≡ true = le-leb o j h in
    (o, rw f refl, h, λ x e. let q : o ≡ x = cc in omega arith, inr refl))

-- the words that a later step leaves
pub kept_words : {B : Type 0} {n : Net B} (i : ℕ) (v u : Valuation) (o : Action) → Planned n → slice_get n.actions i ≡ Some o → ((e : ℕ) → (Writes n.ps o e → ⊥) → u e ≡ v e) → (q : ℕ) (c : Action) (e : ℕ) → q < i → slice_get n.actions q ≡ Some c → Writes n.ps c e → v e ≡ u e
kept_words i v u o pl is oth q c e l h w = sym (oth e (λ z. pl.once q i c o e l h is w z))

pub stable : {B : Type 0} {n : Net B} (i : ℕ) (v u : Valuation) (o : Action) → Planned n → slice_get n.actions i ≡ Some o → ((e : ℕ) → (Writes n.ps o e → ⊥) → u e ≡ v e) → (q : ℕ) (c : Action) (e : ℕ) → q < i + 1 → slice_get n.actions q ≡ Some c → Reads n.ps c e → v e ≡ u e
stable i v u o pl is oth q c e l h w =
    let a = pl.after q c e h w in
    kept_words i v u o pl is oth a.0 a.1 e (omega (arith, a.2)) a.3 a.4

pub typed_next : {B : Type 0} {n : Net B} {i : ℕ} {least : Option ℕ} (v u : Valuation) (new : Option ℕ) (o : Action) (b : Bool) → Planned n → Typed n i v least → slice_get n.actions i ≡ Some o → ((e : ℕ) → (Writes n.ps o e → ⊥) → u e ≡ v e) → ((e : ℕ) → Writes n.ps o e → IsTyped n.kinds u e) → (least ≡ None → b ≡ false → (e : ℕ) → Writes n.ps o e → IsValue (sort_at n.kinds e) (u e)) → (new ≡ None → (least ≡ None) × (b ≡ false)) → Typed n (i + 1) u new
typed_next {n = n} {i} v u new o b pl f is oth ty va wh = record {
  typed = λ q c e l h w. by_lt q i
      (λ g. subst (λ (x : ℤ). (x ≡ no_value) ⊎ IsValue (sort_at n.kinds e) x) (kept_words i v u o pl is oth q c e g h w) (f.typed q c e g h w))
      (λ g. let a : q ≡ i = omega arith in
      let s : c ≡ o = one_there n.actions i c o (ap (λ (x : ℕ). slice_get n.actions x) (sym a) ∙ h) is in
      ty e (subst (λ (x : Action). Writes n.ps x e) s w));
  whole = λ t q c e l h w. let z = wh t in by_lt q i
      (λ g. subst (λ (x : ℤ). IsValue (sort_at n.kinds e) x) (kept_words i v u o pl is oth q c e g h w) (f.whole z.0 q c e g h w))
      (λ g. let a : q ≡ i = omega arith in
      let s : c ≡ o = one_there n.actions i c o (ap (λ (x : ℕ). slice_get n.actions x) (sym a) ∙ h) is in
      va z.0 z.1 e (subst (λ (x : Action). Writes n.ps x e) s w));
}

-- what a step reads has a type, and a value where there was no fault
pub reads_typed : {B : Type 0} {n : Net B} {i : ℕ} {least : Option ℕ} (v : Valuation) (o : Action) → Planned n → Typed n i v least → slice_get n.actions i ≡ Some o → (e : ℕ) → Reads n.ps o e → IsTyped n.kinds v e × (least ≡ None → IsValue (sort_at n.kinds e) (v e))
reads_typed {i = i} v o pl f is e w =
    let a = pl.after i o e is w in
    (f.typed a.0 a.1 e a.2 a.3 a.4, λ t. f.whole t a.0 a.1 e a.2 a.3 a.4)

pub passed_next : {B : Type 0} {m : Blocks B} {n : Net B} {size : ℕ} {now : ℤ} {row : List ℤ} {r : Past} {i : ℕ} {least : Option ℕ} (v u : Valuation) (new : Option ℕ) (o : Action) (b : Bool) → DirectOnly m → Laid m n size → Planned n → Passed m n now row r i v least → slice_get n.actions i ≡ Some o → Gives m n now row r v u o → ((e : ℕ) → (Writes n.ps o e → ⊥) → u e ≡ v e) → FaultIs m n now r v b o → new ≡ cond b (lesser least o) least → Passed m n now row r (i + 1) u new
passed_next {B} {m} {n} {size} {now} {row} {r} {i} {least} v u new o b d la pl f is g oth fb nw =
    let st : (q : ℕ) (c : Action) (e : ℕ) → q < i + 1 → slice_get n.actions q ≡ Some c → Reads n.ps c e → v e ≡ u e = stable i v u o pl is oth in
    let at_i : (q : ℕ) (c : Action) → q < i + 1 → i ≤ q → slice_get n.actions q ≡ Some c → c ≡ o = λ q c l k e.
    let a : q ≡ i = omega arith in
    one_there n.actions i c o (ap (λ (x : ℕ). slice_get n.actions x) (sym a) ∙ e) is in
    let now_is : b ≡ true → (j : ℕ) × (o ≡ Action.Emit j) × Fault m n now r v j × (new ≡ lesser_of least j) = λ t.
    let x = fault_of v b o la (la.actions i o is) fb t in
    (x.0, x.1, x.2, nw ∙ ap (λ (y : Bool). cond y (lesser least o) least) t ∙ ap (λ (y : Action). lesser least y) x.1) in
    let old_is : b ≡ false → new ≡ least = λ t. nw ∙ ap (λ (y : Bool). cond y (lesser least o) least) t in
    let moves : (q j : ℕ) → q < i + 1 → slice_get n.actions q ≡ Some (Action.Emit j) → Fault m n now r v j → Fault m n now r u j = λ q j l e x.
    same_fault v u d la (λ e' w. st q (Action.Emit j) e' l e w) x in
    let back : (q j : ℕ) → q < i + 1 → slice_get n.actions q ≡ Some (Action.Emit j) → Fault m n now r u j → Fault m n now r v j = λ q j l e x.
    same_fault u v d la (λ e' w. sym (st q (Action.Emit j) e' l e w)) x in
    record {
      solved = λ q c l e. by_lt q i
          (λ k. same_meets now row r v u c d la (λ e' w. st q c e' l e w) (λ e' w. kept_words i v u o pl is oth q c e' k e w) (f.solved q c k e))
          (λ k. let s : c ≡ o = at_i q c l k e in
          subst (λ (x : Action). Meets m n now row r u x) (sym s) (met now row r v u o d la (λ e' w. st i o e' (omega arith) is w) g));
      is = λ j e. by_bool b
          (λ t. let x = now_is t in
          let y = lesser_le least x.0 in
          let z : Some y.0 ≡ Some j = sym y.1 ∙ sym x.3 ∙ e in
          let k : y.0 ≡ j = cc in
          elim y.4 as (λ _. (q : ℕ) × (q < i + 1) × (slice_get n.actions q ≡ Some (Action.Emit j)) × Fault m n now r u j) [
            | inl a ↦
                let c : x.0 ≡ j = sym a ∙ k in
                let h : slice_get n.actions i ≡ Some (Action.Emit j) = is ∙ ap (λ (y : Action). Some y) (x.1 ∙ ap (λ (y : ℕ). Action.Emit y) c) in
                (i, omega arith, h, moves i j (omega arith) h (subst (λ (y : ℕ). Fault m n now r v y) c x.2))
            | inr a ↦
                let h = f.is j (a ∙ ap (λ (y : ℕ). Some y) k) in
                (h.0, omega (arith, h.1), h.2, moves h.0 j (omega (arith, h.1)) h.2 h.3)
          ])
          (λ t. let h = f.is j (sym (old_is t) ∙ e) in (h.0, omega (arith, h.1), h.2, moves h.0 j (omega (arith, h.1)) h.2 h.3));
      each = λ q j l e x.
          let y = back q j l e x in
          by_lt q i
          (λ k. let h = f.each q j k e y in by_bool b
          (λ t. let a = now_is t in let z = lesser_le least a.0 in let s = z.3 h.0 h.1 in (z.0, a.3 ∙ z.1, omega (arith, s, h.2)))
          (λ t. (h.0, old_is t ∙ h.1, h.2)))
          (λ k. let s : Action.Emit j ≡ o = at_i q (Action.Emit j) l k e in
          let c : b ≡ true = (subst (λ (z : Action). FaultIs m n now r v b z) (sym s) fb) y.block y.node y.block_is y.node_is ∙ y.faults in
          let z = lesser_le least j in
          (z.0, nw ∙ ap (λ (w : Bool). cond w (lesser least o) least) c ∙ ap (λ (w : Action). lesser least w) (sym s) ∙ z.1, z.2));
    }

-- after the whole plan
pub all_solved : {B : Type 0} {m : Blocks B} {n : Net B} {now : ℤ} {row : List ℤ} {r : Past} {i : ℕ} {v : Valuation} {least : Option ℕ} → Passed m n now row r i v least → length n.actions ≤ i → Solves m n now row r v
all_solved {n = n} f h q o e = f.solved q o (let k = slice_get_within n.actions q o e in omega (arith, k, h)) e

all_least : {B : Type 0} {m : Blocks B} {n : Net B} {now : ℤ} {row : List ℤ} {r : Past} {i : ℕ} {v : Valuation} {least : Option ℕ} → Planned n → Passed m n now row r i v least → length n.actions ≤ i → (j : ℕ) → Fault m n now r v j → (l : ℕ) × (least ≡ Some l) × (l ≤ j)
all_least {n = n} pl f h j x =
    let a = pl.all j (slice_get_within n.ps j x.node x.node_is) in
    let k = slice_get_within n.actions a.0 (Action.Emit j) a.1 in
    f.each a.0 j (omega (arith, k, h)) a.1 x

pub first_fault : {B : Type 0} {m : Blocks B} {n : Net B} {now : ℤ} {row : List ℤ} {r : Past} {i : ℕ} {v : Valuation} (least : Option ℕ) → Planned n → Passed m n now row r i v least → length n.actions ≤ i → IfSome least (λ j. FirstFault m n now r v j)
first_fault None pl f h = tt
first_fault (Some l) pl f h = record {
  is = (f.is l refl).3;
  least = λ i x. let a = all_least pl f h i x in let e : Some l ≡ Some a.0 = a.1 in let k : l ≡ a.0 = cc in omega (arith, a.2);
}

pub no_fault : {B : Type 0} {m : Blocks B} {n : Net B} {now : ℤ} {row : List ℤ} {r : Past} {i : ℕ} {v : Valuation} (least : Option ℕ) → Planned n → Passed m n now row r i v least → length n.actions ≤ i → least ≡ None → NoFault m n now r v
no_fault least pl f h e j x = let a = all_least pl f h j x in none-some a.0 (sym e ∙ a.1)

pub all_values : {B : Type 0} {n : Net B} {i : ℕ} {v : Valuation} {least : Option ℕ} → Planned n → Typed n i v least → length n.actions ≤ i → least ≡ None → (e : ℕ) → e < length n.kinds → IsValue (sort_at n.kinds e) (v e)
all_values {n = n} pl f h t e l =
    let a = pl.each e l in
    let k = slice_get_within n.actions a.0 a.1 a.2 in
    f.whole t a.0 a.1 e (omega (arith, k, h)) a.2 a.3

pub all_typed : {B : Type 0} {n : Net B} {i : ℕ} {v : Valuation} {least : Option ℕ} → Planned n → Typed n i v least → length n.actions ≤ i → (e : ℕ) → e < length n.kinds → IsTyped n.kinds v e
all_typed {n = n} pl f h e l =
    let a = pl.each e l in
    let k = slice_get_within n.actions a.0 a.1 a.2 in
    f.typed a.0 a.1 e (omega (arith, k, h)) a.2 a.3

-- two valuations that meet the equation of a step, and agree where it reads, agree where it writes
agree_step : {B : Type 0} {m : Blocks B} {n : Net B} {size : ℕ} (now : ℤ) (row : List ℤ) (r : Past) (v u : Valuation) (o : Action) → DirectOnly m → Laid m n size → Names n o → ((e : ℕ) → Reads n.ps o e → v e ≡ u e) → Meets m n now row r v o → Meets m n now row r u o → (e : ℕ) → Writes n.ps o e → v e ≡ u e
agree_step now row r v u (Action.Input i t) d l h a f g e w = rw w (f ∙ sym g)
agree_step now row r v u (Action.Copy s t) d l h a f g e w = rw w (f ∙ a s refl ∙ sym g)
agree_step {n = n} now row r v u (Action.Emit j) d l h a f g e w =
    let b = there n.bs j (omega (arith, l.same, h)) in
    let p : Node = w.0 in
    let i : ℕ = e - p.outs in
    let k : p.outs + i ≡ e = omega (arith, w.2) in
    let z : i < p.nout = omega (arith, w.2, w.3) in
    let s = same_given (r j) now v u d (l.each j b.0 p b.1 w.1) (λ x y z. a x (p, w.1, y, z)) in
    let q : v (p.outs + i) ≡ u (p.outs + i) = f b.0 p b.1 w.1 i z ∙ ap (λ (x : Option (List ℤ)). out_word x i) s.0 ∙ sym (g b.0 p b.1 w.1 i z) in
    subst (λ (x : ℕ). v x ≡ u x) k q

-- two valuations that meet all equations agree on what the first steps write
agree : {B : Type 0} {m : Blocks B} {n : Net B} {size : ℕ} (now : ℤ) (row : List ℤ) (r : Past) (v u : Valuation) → DirectOnly m → Laid m n size → Planned n → Solves m n now row r v → Solves m n now row r u → (i : ℕ) (q : ℕ) (o : Action) (e : ℕ) → q < i → slice_get n.actions q ≡ Some o → Writes n.ps o e → v e ≡ u e
agree now row r v u d l pl f g zero q o e h is w = absurd (omega arith)
agree now row r v u d l pl f g (suc i) q o e h is w = agree_step now row r v u o d l (l.actions q o is) (λ s z.
    let a = pl.after q o s is z in
    agree now row r v u d l pl f g i a.0 a.1 s (omega (arith, a.2)) a.3 a.4) (f q o is) (g q o is) e w

pub agree_all : {B : Type 0} {m : Blocks B} {n : Net B} {size : ℕ} (now : ℤ) (row : List ℤ) (r : Past) (v u : Valuation) → DirectOnly m → Laid m n size → Planned n → Solves m n now row r v → Solves m n now row r u → (e : ℕ) → e < length n.kinds → v e ≡ u e
agree_all {n = n} now row r v u d l pl f g e h =
    let a = pl.each e h in
    agree now row r v u d l pl f g (length n.actions) a.0 a.1 e (slice_get_within n.actions a.0 a.1 a.2) a.2 a.3

-- the states of the instances are as before
pub starts_kept : {B : Type 0} {m : Blocks B} {n : Net B} {size : ℕ} (now : ℤ) (r : Past) (w u : List ℤ) → Laid m n size → drop (length n.kinds) u ≡ drop (length n.kinds) w → Starts m n now r w → Starts m n now r u
starts_kept {n = n} now r w u l e s = λ j b p hb hp.
    let z = s j b p hb hp in
    let f = l.each j b p hb hp in
    (z.0, z.1, rw (ap (λ (x : List ℤ). take p.width x) (drop_later w u (length n.kinds) p.state e f.state)) z.2)

pub state_kept : {B : Type 0} {m : Blocks B} {kinds : List ValueType} {size : ℕ} {b : B} {p : Node} (w u : List ℤ) → Fits m kinds size b p → drop (length kinds) u ≡ drop (length kinds) w → state_of p u ≡ state_of p w
state_kept {kinds = kinds} {p = p} w u f e = ap (λ (x : List ℤ). take p.width x) (drop_later w u (length kinds) p.state e f.state)

pub spent_next : (actions : List Action) (i : ℕ) (o : Action) → slice_get actions i ≡ Some o → spent_in actions (i + 1) ≡ spent_in actions i + spent o
spent_next [] i o e = cc
spent_next (x ∷ actions) zero o e = let a : x ≡ o = cc in rw a (omega arith)
spent_next (x ∷ actions) (suc i) o e =
    let k : suc i + 1 ≡ suc (i + 1) = omega arith in
    let h = spent_next actions i o e in
    rw k (omega (arith, h))

-- what an instance gives, at whatever the lists have in its place
pub gives_at : {B : Type 0} (m : Blocks B) (n : Net B) (now : ℤ) (row : List ℤ) (r : Past) (v u : Valuation) (j : ℕ) (b : B) (p : Node) → slice_get n.bs j ≡ Some b → slice_get n.ps j ≡ Some p → ((k : ℕ) → k < p.nout → u (p.outs + k) ≡ out_word (given m b p (r j) now v) k) → Gives m n now row r v u (Action.Emit j)
gives_at m n now row r v u j b p hb hp f = λ c q hc hq.
    let e : b ≡ c = one_there n.bs j b c hb hc in
    let g : p ≡ q = one_there n.ps j p q hp hq in
    rw (← e, ← g) f

pub fault_at : {B : Type 0} (m : Blocks B) (n : Net B) (now : ℤ) (r : Past) (v : Valuation) (t : Bool) (j : ℕ) (b : B) (p : Node) → slice_get n.bs j ≡ Some b → slice_get n.ps j ≡ Some p → t ≡ has_fault m b p (r j) now v → FaultIs m n now r v t (Action.Emit j)
fault_at m n now r v t j b p hb hp f = λ c q hc hq.
    let e : b ≡ c = one_there n.bs j b c hb hc in
    let g : p ≡ q = one_there n.ps j p q hp hq in
    rw (← e, ← g) f

pub written_at : (ps : List Node) (j : ℕ) (p : Node) (e : ℕ) → slice_get ps j ≡ Some p → Writes ps (Action.Emit j) e → (k : ℕ) × (k < p.nout) × (p.outs + k ≡ e)
written_at ps j p e hp w =
    let g : w.0 ≡ p = one_there ps j w.0 p w.1 hp in
    let a : p.outs ≤ e = subst (λ (q : Node). q.outs ≤ e) g w.2 in
    let b : e < p.outs + p.nout = subst (λ (q : Node). e < q.outs + q.nout) g w.3 in
    (e - p.outs, omega arith, omega arith)

pub here : {X : Type 0} (xs : List X) (i : ℕ) (x : X) → i < length xs → x ≡ get_or xs i x → slice_get xs i ≡ Some x
here xs i x h e = slice_get-get_or xs i x h ∙ ap (λ y. Some y) (sym e)

pub resized : {B : Type 0} {m : Blocks B} {n : Net B} {size k : ℕ} → Laid m n size → k ≡ size → Laid m n k
resized {m} {n} l e = subst (λ (x : ℕ). Laid m n x) (sym e) l

lesser_none : (least : Option ℕ) (o : Action) → lesser least o ≡ None → (least ≡ None) × (lesser None o ≡ None)
lesser_none None o e = (refl, e)
lesser_none (Some l) (Action.Input i t) e = cc
lesser_none (Some l) (Action.Copy s t) e = cc
lesser_none (Some l) (Action.Emit j) e = cc

-- where there is no fault after a step, there was none before and the step has none
pub whole_of : (least new : Option ℕ) (o : Action) (b : Bool) → new ≡ cond b (lesser least o) least → (lesser None o ≡ None → b ≡ false) → new ≡ None → (least ≡ None) × (b ≡ false)
whole_of least new o b nw pl e = by_bool b
    (λ t. let z = lesser_none least o (sym (nw ∙ ap (λ (x : Bool). cond x (lesser least o) least) t) ∙ e) in (z.0, pl z.1))
    (λ f. (sym (nw ∙ ap (λ (x : Bool). cond x (lesser least o) least) f) ∙ e, f))

pub lacks_none : (least : Option ℕ) → least ≡ None → lacks least ≡ true
lacks_none None e = refl
lacks_none (Some l) e = cc

pub none_of : (least : Option ℕ) → lacks least ≡ true → least ≡ None
none_of None e = refl
none_of (Some l) e = absurd (false≢true e)

pub first_none : (least : Option ℕ) (b : Bool) (j : ℕ) → cond b (lesser_of least j) least ≡ None → (least ≡ None) × (b ≡ false)
first_none least false j e = (e, refl)
first_none None true j e = cc
first_none (Some l) true j e = cc

-- whether there is a fault
abbrev pub found : Option ℕ → Bool
found None = false
found (Some l) = true

pub found_none : (x : Option ℕ) → x ≡ None → found x ≡ false
found_none x e = ap found e

pub none_found : (x : Option ℕ) → found x ≡ false → x ≡ None
none_found None e = refl
none_found (Some l) e = absurd (false≢true (sym e))

-- the least fault is one of a block
pub lesser_inside : (least : Option ℕ) (j k : ℕ) (fault : Bool) → IfSome least (λ x. x < k) → j < k → IfSome (cond fault (lesser_of least j) least) (λ x. x < k)
lesser_inside None j k true f h = h
lesser_inside None j k false f h = tt
lesser_inside (Some l) j k true f h = by_bool (nat_le l j) (λ e. rw e f) (λ e. rw e h)
lesser_inside (Some l) j k false f h = f
