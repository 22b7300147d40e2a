-- The instance that the pass names gives no value in the network.
use Rattle.std.proofs.Common.{ℕ, zero, suc, ◌+◌, ◌-◌, ◌<◌, ◌≡◌, refl, sym, ap, ◌∙◌, subst, arith, ℤ, true, false, cond, List, [], ◌∷◌, length, Some, slice_get}
use Rattle.cdl_source.proofs.Cases.{by_bool}
use Rattle.cdl_values.specs.History.{no_value, word}
use Rattle.cdl_values.specs.declared.value.Array.{Array}
use Rattle.cdl_values.specs.declared.value.ValueType.{ValueType}
use Rattle.cdl_kinds.specs.declared.kind.Kind.{Kind}
use Rattle.cdl_kinds.specs.declared.kind.Kind.TheVariants.{LogicalPre, DiscreteUnitDelay}
use Rattle.cdl_kinds.specs.Meanings.{MayLack}
use Rattle.cdl_kinds.specs.Ports.{inputs, outputs}
use Rattle.cdl_kinds.specs.Table.{row}
use Rattle.cdl_network.specs.Dependence.{inputs_of, outputs_of}
use Rattle.cdl_network.specs.Lists.{In, has_some, numbers}
use Rattle.cdl_network.specs.Ticks.{values, words}
use Rattle.cdl_network.proofs.Places.{in_numbers}
use Rattle.cdl_connect.specs.declared.net.Net.{Net}
use Rattle.cdl_connect.specs.declared.net.NetInstance.{NetInstance}
use Rattle.cdl_connect.specs.Nets.{network_of}
use Rattle.cdl_connect.proofs.Windows.{direct_are, inputs_are, outputs_are}
use Rattle.cdl_pass.specs.declared.net.Action.{Action}
use Rattle.cdl_pass.specs.declared.net.Node.{Node}
use Rattle.cdl_pass.specs.Net.{Blocks, net_of, sort_at}
use Rattle.cdl_pass.specs.Tick.{FirstLack, is_none, ready, words_from}
use Rattle.cdl_pass.proofs.Ready.{length-words_from, none_no_value, ready_values, value_some, word_from}
use Rattle.cdl_run.specs.Words.{elementary_below, valuation}
use Rattle.cdl_run.specs.Running.{FirstLacks, is_ready}
use Rattle.cdl_run.specs.inner.Laid.{IsPlaced, rank}
use Rattle.cdl_run.specs.inner.Setting.{IsSet}
use Rattle.cdl_run.proofs.Meeting.{seat, windowed}
use Rattle.cdl_run.proofs.Ranks.{of_rank, rank_rises}
use Rattle.cdl_run.proofs.Values.{Windowed, none_value, seen_by, some_value, values_missing, values_ready, words_known}

-- a kind that may lack a value has only direct inputs
lacks_direct : (k : Kind) (v : List Array) (now : ℤ) (x : List ℤ) → MayLack k v now x → (row k).direct ≡ true
lacks_direct LogicalPre v now x m = absurd m
lacks_direct DiscreteUnitDelay v now x m = absurd m
lacks_direct k v now x m = refl

equal_words : (xs ys : List ℤ) → length xs ≡ length ys → ((i : ℕ) → i < length xs → word xs i ≡ word ys i) → xs ≡ ys
equal_words [] [] e f = refl
equal_words [] (y ∷ ys) e f = absurd (omega (arith, e))
equal_words (x ∷ xs) [] e f = absurd (omega (arith, e))
equal_words (x ∷ xs) (y ∷ ys) e f =
    let h : x ≡ y = f zero (omega arith) in
    let r = equal_words xs ys (omega (arith, e)) (λ i l. f (suc i) (omega (arith, l))) in
    ap (λ z. z ∷ xs) h ∙ ap (λ l. y ∷ l) r

some_ready : (w : ℕ → ℤ) (a n : ℕ) → has_some (values (seen_by w) (numbers a n)) ≡ ready w a n
some_ready w a n = by_bool (ready w a n)
    (λ r. ap has_some (values_ready w a n r) ∙ sym r)
    (λ r. ap has_some (values_missing w a n r) ∙ sym r)

ready_is : {B : Type 0} {m : Blocks B} {n : Net} {i : ℕ} {t : NetInstance} {k : Kind} {v : List Array} {b : B} {p : Node} (w : List ℤ) → Windowed m n i t k v b p → is_ready n w i ≡ ready (word w) p.ins p.reads
ready_is {n = n} {i} {t} {k} {v} {p = p} w o =
    let c : ℕ = (inputs k v).count in
    let left : is_ready n w i ≡ has_some (values (seen_by (word w)) (cond (row k).direct (numbers t.first c) [])) = ap (λ l. has_some (values (seen_by (word w)) l)) (direct_are n i t k v o.is) in
    let right : ready (word w) p.ins p.reads ≡ ready (word w) t.first (cond (row k).direct c 0) = ap (λ a. ready (word w) a p.reads) o.ins ∙ ap (λ a. ready (word w) t.first a) o.reads in
    left ∙ by_bool (row k).direct
    (λ d. ap (λ z. has_some (values (seen_by (word w)) (cond z (numbers t.first c) []))) d ∙ some_ready (word w) t.first c ∙ sym (ap (λ z. ready (word w) t.first (cond z c 0)) d))
    (λ d. ap (λ z. has_some (values (seen_by (word w)) (cond z (numbers t.first c) []))) d ∙ sym (ap (λ z. ready (word w) t.first (cond z c 0)) d))
    ∙ sym right

-- the place of an output among those of its instance
pub record OutPlace (p : Node) (x : ℕ) : Type 0 where
  pub k : ℕ
  pub few : k < p.nout
  pub is : p.outs + k ≡ x

out_place : {B : Type 0} {m : Blocks B} {n : Net} {bs : List B} {ps : List Node} {actions : List Action} {kinds rows : List ValueType} {i : ℕ} {b : B} {p : Node} (x : ℕ) → IsSet m n bs ps actions kinds rows → (q : IsPlaced m n i b p) → In x (outputs_of (network_of n) i) → OutPlace p x
out_place {n = n} {i = i} {p = p} x s q h =
    let o = windowed s q in
    let a : p.outs ≡ q.t.first + (inputs q.k q.v).count = ap (λ (y : Node). y.outs) q.node in
    let d : p.nout ≡ (outputs q.k q.v).count = ap (λ (y : Node). y.nout) q.node in
    let r = in_numbers (q.t.first + (inputs q.k q.v).count) (outputs q.k q.v).count x (subst (λ l. In x l) (outputs_are n i q.t q.k q.v o.is) h) in
    record { k = x - p.outs; few = omega (arith, a, d, r.0, r.1); is = omega (arith, a, r.0) }

-- the inputs with which an instance may lack a value are those in the network
ins_are : {B : Type 0} {m : Blocks B} {n : Net} {i : ℕ} {t : NetInstance} {k : Kind} {v : List Array} {b : B} {p : Node} (w ins : List ℤ) → Windowed m n i t k v b p → (row k).direct ≡ true → ready (word w) p.ins p.reads ≡ true → length ins ≡ p.nin → ((j : ℕ) → j < p.reads → word ins j ≡ word w (p.ins + j)) → ins ≡ words (valuation w) (inputs_of (network_of n) i)
ins_are {n = n} {i} {t} {k} {v} {p = p} w ins o d r e f =
    let c : ℕ = (inputs k v).count in
    let all : p.reads ≡ c = o.reads ∙ ap (λ z. cond z c 0) d in
    let here : ready (word w) t.first c ≡ true = sym (ap (λ a. ready (word w) a p.reads) o.ins ∙ ap (λ a. ready (word w) t.first a) all) ∙ r in
    let size : length ins ≡ length (words_from (word w) t.first c) = e ∙ o.nin ∙ sym (length-words_from (word w) t.first c) in
    let same : ins ≡ words_from (word w) t.first c = equal_words ins (words_from (word w) t.first c) size
    (λ j l. let g : j < c = omega (arith, l, e, o.nin) in f j (omega (arith, g, all)) ∙ ap (λ a. word w (a + j)) o.ins ∙ sym (word_from (word w) t.first c j g)) in
    same ∙ sym (words_known (word w) t.first c (λ j l. ready_values (word w) t.first c j here l)) ∙ ap (words (seen_by (word w))) (sym (inputs_are n i t k v o.is))

pub first_lacks : {B : Type 0} {m : Blocks B} {n : Net} {bs : List B} {ps : List Node} {actions : List Action} {kinds rows : List ValueType} (now : ℤ) (w : List ℤ) (j i : ℕ) → IsSet m n bs ps actions kinds rows → slice_get (elementary_below n (length n.instances)) j ≡ Some i → FirstLack m (net_of bs ps actions kinds rows) now (word w) j → FirstLacks n now w i
first_lacks {m = m} {n} {kinds = kinds} now w j i s e f =
    let r = of_rank n j i (length n.instances) e in
    let l = f.is in
    let q = s.placed.each j i l.block l.node e l.block_is l.node_is in
    let o = windowed s q in
    let may : MayLack q.k q.v now l.ins = q.block.may_lack now l.ins l.may in
    let ins : l.ins ≡ words (valuation w) (inputs_of (network_of n) i) = ins_are w l.ins o (lacks_direct q.k q.v now l.ins may) l.ready l.size l.direct in
    record {
      here = record {
        t = q.t;
        kind = q.k;
        params = q.v;
        there = q.there;
        body = q.body;
        ready = ready_is w o ∙ l.ready;
        none = λ x h.
            let a = out_place x s q h in
            let z : word w x ≡ no_value = ap (word w) (sym a.is) ∙ l.none a.k a.few in
            ap has_some (none_value (word w x) (ap is_none z ∙ none_no_value));
        may = subst (λ xs. MayLack q.k q.v now xs) ins may;
      };
      before = λ c x h el t y.
          let st = seat s c el in
          let a = out_place x s st.placed y in
          let u = f.before (rank n c) (let z = rank_rises n c i el h in let g = r.2 in omega (arith, z, g)) st.p st.node_is (sym (ready_is w (windowed s st.placed)) ∙ t) a.k a.few in
          let g : is_none (word w x) ≡ false = ap (λ z. is_none (word w z)) (sym a.is) ∙ value_some (sort_at kinds (st.p.outs + a.k)) (word w (st.p.outs + a.k)) u in
          ap has_some (some_value (word w x) g);
    }
