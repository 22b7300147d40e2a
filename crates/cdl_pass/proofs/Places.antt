-- A window that was written, and the words around it.
use Rattle.std.proofs.Common.{ℕ, ◌+◌, ◌≤◌, ◌≡◌, refl, sym, ap, ◌∙◌, ℤ, List, ◌++◌, length, take, drop, arith, append_assoc, length-take, take-append-drop, Option, Some, None, Result, MatchResult, OnErr}
use Rattle.std.proofs.lemmas.List.{take-take, drop-drop, take_at, drop_at, drop-take}
use Rattle.std.proofs.Math.Seq.{drop-append-le}
use Rattle.cdl_pass.specs.Windows.{Lies, OnlyOuts, OnlyState, ins_of, outs_of, state_of}
use Rattle.cdl_pass.specs.declared.net.Node.{Node}

-- the region with a window written over
abbrev pub put : List ℤ → ℕ → List ℤ → List ℤ
put w i o = take i w ++ (o ++ drop (i + length o) w)

rest_joined : (w : List ℤ) (k st : ℕ) → k ≤ st → st ≤ length w → drop k (take st w) ++ drop st w ≡ drop k w
rest_joined w k st h l =
    let f : k ≤ length (take st w) = omega (arith, length-take st w) in
    sym (drop-append-le k (take st w) (drop st w) f) ∙ ap (λ (x : List ℤ). drop k x) (take-append-drop st w)

pub put_is : (w o : List ℤ) (i n st : ℕ) → i + n ≤ st → st ≤ length w → length o ≡ n → (take i (take st w) ++ (o ++ drop n (drop i (take st w)))) ++ drop st w ≡ put w i o
put_is w o i n st h l e =
    let a : i ≤ st = omega arith in
    let d : drop n (drop i (take st w)) ++ drop st w ≡ drop (i + n) w = ap (λ (x : List ℤ). x ++ drop st w) (drop-drop n i (take st w)) ∙ rest_joined w (i + n) st h l in
    rw (append_assoc, append_assoc, take-take i st w a, d, e) refl

pub put_before : (w o : List ℤ) (i : ℕ) → i ≤ length w → take i (put w i o) ≡ take i w
put_before w o i h = take_at (take i w) (o ++ drop (i + length o) w) i (omega (arith, length-take i w))

pub put_there : (w o : List ℤ) (i : ℕ) → i ≤ length w → take (length o) (drop i (put w i o)) ≡ o
put_there w o i h =
    ap (λ (x : List ℤ). take (length o) x) (drop_at (take i w) (o ++ drop (i + length o) w) i (omega (arith, length-take i w)))
    ∙ take_at o (drop (i + length o) w) (length o) refl

pub put_after : (w o : List ℤ) (i : ℕ) → i ≤ length w → drop (i + length o) (put w i o) ≡ drop (i + length o) w
put_after w o i h =
    sym (drop-drop (length o) i (put w i o))
    ∙ ap (λ (x : List ℤ). drop (length o) x) (drop_at (take i w) (o ++ drop (i + length o) w) i (omega (arith, length-take i w)))
    ∙ drop_at o (drop (i + length o) w) (length o) refl

-- the region after the outputs of an instance were written
pub after_emit : (p : Node) (w e s f b o : List ℤ) → Lies p (length w) → e ≡ take p.state w → s ≡ drop p.state w → f ≡ take p.outs e → b ≡ drop p.outs e → length o ≡ p.nout → (f ++ (o ++ drop p.nout b)) ++ s ≡ put w p.outs o
after_emit p w e s f b o l he hs hf hb ho =
    rw (hf, hb, he, hs) (put_is w o p.outs p.nout p.state l.elements (omega (arith, l.states)) ho)

pub only_outs : (p : Node) (w o n : List ℤ) → Lies p (length w) → length o ≡ p.nout → n ≡ put w p.outs o → OnlyOuts p w n × (outs_of p n ≡ o)
only_outs p w o n l ho e =
    let h : p.outs ≤ length w = omega (arith, l.elements, l.states) in (
      record {
        before = rw e (put_before w o p.outs h);
        after = rw (e, ← ho) (put_after w o p.outs h);
      },
      rw (e, ← ho) (put_there w o p.outs h),
    )

-- the inputs of an instance, in the words before its outputs
pub ins_there : (p : Node) (w e f : List ℤ) (k : ℕ) → Lies p (length w) → e ≡ take p.state w → f ≡ take p.outs e → k ≡ p.nin → take k (drop p.ins f) ≡ ins_of p w
ins_there p w e f k l he hf hk =
    let a : p.outs ≤ p.state = omega (arith, l.elements) in
    rw (hk, hf, he, take-take p.outs p.state w a, ← drop-take p.ins p.nin (take p.outs w), take-take (p.ins + p.nin) p.outs w l.earlier, drop-take p.ins p.nin w) refl

-- what a block gave, at equal arguments
pub moved : {X E : Type 0} (m : ℤ → List ℤ → Option (List ℤ)) (r : Result X E) (t t' : ℤ) (x x' o o' : List ℤ) → t' ≡ t → x' ≡ x → o' ≡ o → MatchResult r (λ _. m t' x' ≡ Some o') (λ _. m t' x' ≡ None) → MatchResult r (λ _. m t x ≡ Some o) (λ _. m t x ≡ None)
moved m r t t' x x' o o' p q s k = rw (← p, ← q, ← s) k

-- what holds where a block gave nothing, at equal arguments
pub lacking : {X E : Type 0} (P : ℤ → List ℤ → Type 0) (r : Result X E) (t t' : ℤ) (x x' : List ℤ) → t' ≡ t → x' ≡ x → OnErr r (P t' x') → OnErr r (P t x)
lacking P r t t' x x' p q k = rw (← p, ← q) k

-- the region after the state of an instance was written
pub only_state : (p : Node) (w e s o : List ℤ) → Lies p (length w) → e ≡ take p.state w → s ≡ drop p.state w → length o ≡ p.width → OnlyState p w (e ++ (o ++ drop p.width s)) × (state_of p (e ++ (o ++ drop p.width s)) ≡ o)
only_state p w e s o l he hs ho =
    let h : p.state ≤ length w = omega (arith, l.states) in
    let q : e ++ (o ++ drop p.width s) ≡ put w p.state o = rw (he, hs, drop-drop p.width p.state w, ho) refl in (
      record {
        before = rw q (put_before w o p.state h);
        after = rw (q, ← ho) (put_after w o p.state h);
      },
      rw (q, ← ho) (put_there w o p.state h),
    )

-- the inputs of an instance, in the first part of the region
pub ins_first : (p : Node) (w e : List ℤ) (k : ℕ) → Lies p (length w) → e ≡ take p.state w → k ≡ p.nin → take k (drop p.ins e) ≡ ins_of p w
ins_first p w e k l he hk =
    let a : p.ins + p.nin ≤ length (take p.state w) = omega (arith, l.earlier, l.elements, l.states, length-take p.state w) in
    let b : p.ins + p.nin ≤ p.state = omega (arith, l.earlier, l.elements) in
    rw (hk, he, ← drop-take p.ins p.nin (take p.state w), take-take (p.ins + p.nin) p.state w b, drop-take p.ins p.nin w) refl

-- the region after the outputs of an instance were written, in one cut
pub after_blank : (p : Node) (w f b o : List ℤ) → Lies p (length w) → f ≡ take p.outs w → b ≡ drop p.outs w → length o ≡ p.nout → f ++ (o ++ drop p.nout b) ≡ put w p.outs o
after_blank p w f b o l hf hb ho = rw (hf, hb, drop-drop p.nout p.outs w, ho) refl
