-- From tick to tick: what stands before a tick stands after it, with the tick.
use Rattle.std.proofs.Common.{ℕ, suc, ◌+◌, ◌<◌, ◌≤◌, ◌≡◌, refl, sym, ap, ◌∙◌, subst, arith, ℤ, negsuc, ◌<ℤ◌, true, List, [], ◌∷◌, ◌++◌, length, take, drop, Some, slice_get}
use Rattle.std.proofs.lemmas.Option.{slice_get_within, get_or_from_slice_get}
use Rattle.cdl_values.specs.History.{History, IsHistory, IsLater, IsValue, Meaning, Signature, tick, word}
use Rattle.cdl_values.specs.declared.value.Array.{Array}
use Rattle.cdl_values.specs.declared.value.ValueType.{ValueType}
use Rattle.cdl_kinds.specs.declared.kind.Kind.{Kind}
use Rattle.cdl_kinds.specs.Meanings.{meaning}
use Rattle.cdl_kinds.specs.Ports.{inputs}
use Rattle.cdl_kinds.specs.States.{Stands}
use Rattle.cdl_kinds.specs.StateWords.{state_words}
use Rattle.cdl_network.specs.Dependence.{inputs_of}
use Rattle.cdl_network.specs.Ticks.{Seen, Tick, after, history, seen, words}
use Rattle.cdl_network.proofs.Checking.{planned_of}
use Rattle.cdl_network.proofs.Solving.{after_more, runs_off, runs_on}
use Rattle.cdl_connect.specs.declared.net.Net.{Net}
use Rattle.cdl_connect.specs.declared.net.NetInstance.{NetInstance}
use Rattle.cdl_connect.specs.declared.net.Body.{Body}
use Rattle.cdl_connect.specs.declared.net.Body.TheVariants.{Composite, Elementary}
use Rattle.cdl_connect.specs.Nets.{is_block, is_elementary, network_of, words_at, words_of}
use Rattle.cdl_connect.proofs.Networks.{net_closed, net_shaped, none_first}
use Rattle.cdl_connect.proofs.Windows.{IsOf, direct_alone, inputs_are}
use Rattle.cdl_pass.specs.declared.net.Action.{Action}
use Rattle.cdl_pass.specs.declared.net.Node.{Node}
use Rattle.cdl_pass.specs.Absorb.{Stood, longer}
use Rattle.cdl_pass.specs.Net.{AllAt, Blocks, net_of, sort_at}
use Rattle.cdl_pass.specs.Tick.{FirstFault, NoFault, Starts}
use Rattle.cdl_pass.specs.Windows.{ins_of, state_of, window}
use Rattle.cdl_pass.proofs.Passing.{there}
use Rattle.cdl_pass.proofs.Ready.{value_some, words_are}
use Rattle.cdl_run.specs.Words.{elementary_below, state_at, state_place, valuation}
use Rattle.cdl_run.specs.Runs.{AreShown, HasFault, RunStands, StandsFor, last_time}
use Rattle.cdl_run.specs.inner.Laid.{IsPlaced, element_types, rank}
use Rattle.cdl_run.specs.inner.Setting.{IsSet, past_at}
use Rattle.cdl_run.proofs.Meeting.{Now, calm, first, is_of, meets, past_is, seat}
use Rattle.cdl_run.proofs.Values.{words_known}

-- the instance of a block
pub instance_of : {B : Type 0} {m : Blocks B} {n : Net} {bs : List B} {ps : List Node} {actions : List Action} {kinds rows : List ValueType} (s : IsSet m n bs ps actions kinds rows) (j : ℕ) (b : B) (p : Node) → slice_get bs j ≡ Some b → slice_get ps j ≡ Some p → (i : ℕ) × (slice_get (elementary_below n (length n.instances)) j ≡ Some i) × IsPlaced m n i b p
instance_of {n = n} {bs} s j b p hb hp =
    let l = slice_get_within bs j b hb in
    let f = s.placed.blocks in
    let i = there (elementary_below n (length n.instances)) j (omega (arith, l, f)) in
    (i.0, i.1, s.placed.each j i.0 b p i.1 hb hp)

-- its state
pub state_is : {B : Type 0} {m : Blocks B} {n : Net} {i : ℕ} {b : B} {p : Node} (w : List ℤ) → (q : IsPlaced m n i b p) → state_of p w ≡ state_at n i w
state_is {n = n} {i} {p = p} w q =
    let a : p.width ≡ state_words q.k q.v = ap (λ (z : Node). z.width) q.node in
    let c : p.state ≡ state_place n i = ap (λ (z : Node). z.state) q.node in
    let d : (network_of n).state_words i ≡ state_words q.k q.v = ap words_at q.there ∙ ap words_of q.body in
    ap (λ z. take p.width (drop z w)) c ∙ ap (λ z. take z (drop (state_place n i) w)) (a ∙ sym d)

-- a history of a kind is one of its block
pub kind_history : {B : Type 0} {m : Blocks B} {n : Net} {i : ℕ} {b : B} {p : Node} (h : History) → (q : IsPlaced m n i b p) → IsHistory (inputs q.k q.v) (meaning q.k q.v) h → IsHistory (m.inputs b) (m.meaning b) h
kind_history {m = m} {b = b} h q x = subst (λ (f : Meaning). IsHistory (m.inputs b) f h) (sym q.block.meaning) (subst (λ (f : Signature). IsHistory f (meaning q.k q.v) h) (sym q.block.inputs) x)

block_history : {B : Type 0} {m : Blocks B} {n : Net} {i : ℕ} {b : B} {p : Node} (h : History) → (q : IsPlaced m n i b p) → IsHistory (m.inputs b) (m.meaning b) h → IsHistory (inputs q.k q.v) (meaning q.k q.v) h
block_history {m = m} {b = b} h q x = subst (λ (f : Meaning). IsHistory (inputs q.k q.v) f h) q.block.meaning (subst (λ (f : Signature). IsHistory f (m.meaning b) h) q.block.inputs x)

later_of : (n : Net) (past : List (Seen ℕ)) (now : ℤ) (i : ℕ) → last_time past <ℤ now → IsLater now (history (network_of n) past i)
later_of n [] now i h = tt
later_of n (s ∷ past) now i h = h

-- what the words before a tick stand for
pub stood : {n : Net} {ts : List Tick} {last : ℤ} {w : List ℤ} (r : RunStands n ts last w) (i : ℕ) (t : NetInstance) (k : Kind) (v : List Array) → slice_get n.instances i ≡ Some t → t.body ≡ Elementary k v → IsHistory (inputs k v) (meaning k v) (history (network_of n) (after [] ts r.values) i) × Stands k v (state_at n i w) (history (network_of n) (after [] ts r.values) i)
stood {n} {ts} {w = w} r i t k v s e = subst (λ b. StandsFor b (state_at n i w) (history (network_of n) (after [] ts r.values) i)) e (r.states i t s)

pub starts : {B : Type 0} {m : Blocks B} {n : Net} {bs : List B} {ps : List Node} {actions : List Action} {kinds rows : List ValueType} {ts : List Tick} {last : ℤ} {w : List ℤ} (now : ℤ) → IsSet m n bs ps actions kinds rows → last <ℤ now → (r : RunStands n ts last w) → Starts m (net_of bs ps actions kinds rows) now (past_at n (after [] ts r.values)) w
starts {m = m} {n} {ts = ts} {w = w} now s l r = λ j b p hb hp.
    let i = instance_of s j b p hb hp in
    let q = i.2 in
    let h : History = history (network_of n) (after [] ts r.values) i.0 in
    let z = stood r i.0 q.t q.k q.v q.there q.body in
    let e : history (network_of n) (after [] ts r.values) i.0 ≡ past_at n (after [] ts r.values) j = ap (λ x. history (network_of n) (after [] ts r.values) x) (sym (get_or_from_slice_get (elementary_below n (length n.instances)) j i.0 0 i.1)) in
    let stands : m.stands b (state_of p w) h = subst (λ x. m.stands b x h) (sym (state_is w q)) ((q.block.stands (state_at n i.0 w) h).1 z.1) in
    subst (λ x. IsHistory (m.inputs b) (m.meaning b) x × IsLater now x × m.stands b (state_of p w) x) e
    (kind_history h q z.0, later_of n (after [] ts r.values) now i.0 (subst (λ x. x <ℤ now) r.last_is l), stands)

pub histories : {n : Net} {ts : List Tick} {last : ℤ} {w : List ℤ} (now : ℤ) → last <ℤ now → (r : RunStands n ts last w) → (i : ℕ) (t : NetInstance) (k : Kind) (v : List Array) → IsOf n i t k v → IsHistory (inputs k v) (meaning k v) (history (network_of n) (after [] ts r.values) i) × IsLater now (history (network_of n) (after [] ts r.values) i)
histories {n = n} {ts = ts} now l r i t k v o = ((stood r i t k v o.there o.body).0, later_of n (after [] ts r.values) now i (subst (λ x. x <ℤ now) r.last_is l))

-- the words of an instance's inputs, where all elements have values
inputs_known : {B : Type 0} {m : Blocks B} {n : Net} {i : ℕ} {b : B} {p : Node} (w : List ℤ) → (q : IsPlaced m n i b p) → IsOf n i q.t q.k q.v → length n.elements ≤ length w → ((e : ℕ) → e < length n.elements → IsValue (sort_at (element_types n) e) (word w e)) → words (valuation w) (inputs_of (network_of n) i) ≡ ins_of p w
inputs_known {n = n} {i} {p = p} w q o sz va =
    let l = o.indexed.windows.within i q.t o.there in
    let c = o.ports.count in
    let m : ℕ = (inputs q.k q.v).count in
    let a : p.ins ≡ q.t.first = ap (λ (z : Node). z.ins) q.node in
    let d : p.nin ≡ m = ap (λ (z : Node). z.nin) q.node in
    ap (λ x. words (valuation w) x) (inputs_are n i q.t q.k q.v o)
    ∙ words_known (word w) q.t.first m (λ j h. value_some (sort_at (element_types n) (q.t.first + j)) (word w (q.t.first + j)) (va (q.t.first + j) (omega (arith, l, c, h))))
    ∙ words_are w q.t.first m (omega (arith, l, c, sz))
    ∙ ap (λ z. window w z m) (sym a) ∙ ap (λ z. window w p.ins z) (sym d)

pub by_body : (b : Body) (P : Body → Type 0) → P Composite → ((k : Kind) (v : List Array) → b ≡ Elementary k v → P (Elementary k v)) → P b
by_body Composite P c e = c
by_body (Elementary k v) P c e = e k v refl

-- after a tick without a fault
pub stands_next : {B : Type 0} {m : Blocks B} {n : Net} {bs : List B} {ps : List Node} {actions : List Action} {kinds rows : List ValueType} {ts : List Tick} {last : ℤ} {old : List ℤ} (u : Tick) (w : List ℤ) → (r : RunStands n ts last old) → Now m n bs ps actions kinds rows (after [] ts r.values) u (word w) → length n.elements ≤ length w
    → ((e : ℕ) → e < length n.elements → IsValue (sort_at (element_types n) e) (word w e)) → NoFault m (net_of bs ps actions kinds rows) u.time (past_at n (after [] ts r.values)) (word w) → Stood m (net_of bs ps actions kinds rows) u.time (past_at n (after [] ts r.values)) w → RunStands n (ts ++ u ∷ []) u.time w
stands_next {m = m} {n} {bs} {ps} {ts = ts} u w r a sz va nf st = record {
  values = r.values ++ valuation w ∷ [];
  runs = runs_on (network_of n) ts r.values u (valuation w) r.runs (meets a) (calm past u (word w) a.set nf);
  last_is = ap last_time (sym more);
  states = λ i t s. subst (λ x. StandsFor t.body (state_at n i w) (history (network_of n) x i)) (sym more) (by_body t.body (λ b. StandsFor b (state_at n i w) (history (network_of n) (seen u (valuation w) ∷ past) i)) tt (λ k v e. block i t k v s e));
  shown = subst (λ x. AreShown n x w) (sym more) (λ e h. refl);
}
  where
    past : List (Seen ℕ)
    past = after [] ts r.values

    more : after [] (ts ++ u ∷ []) (r.values ++ valuation w ∷ []) ≡ seen u (valuation w) ∷ after [] ts r.values
    more = after_more (network_of n) ts [] r.values u (valuation w) r.runs.0 r.runs.1

    block : (i : ℕ) (t : NetInstance) (k : Kind) (v : List Array) → slice_get n.instances i ≡ Some t → t.body ≡ Elementary k v → IsHistory (inputs k v) (meaning k v) (history (network_of n) (seen u (valuation w) ∷ past) i) × Stands k v (state_at n i w) (history (network_of n) (seen u (valuation w) ∷ past) i)
    block i t k v s e =
        let el : (network_of n).elementary i ≡ true = ap is_elementary s ∙ ap is_block e in
        let z = seat a.set i el in
        let q = z.placed in
        let o = is_of a.set q in
        let same_t : q.t ≡ t = let h : Some q.t ≡ Some t = sym q.there ∙ s in cc in
        let same_b : Elementary q.k q.v ≡ Elementary k v = sym q.body ∙ ap (λ (x : NetInstance). x.body) same_t ∙ e in
        let same_k : q.k ≡ k = cc in
        let same_v : q.v ≡ v = cc in
        let x = st (rank n i) z.b z.p z.block_is z.node_is in
        let h : longer u.time (past_at n past) (rank n i) z.p w ≡ history (network_of n) (seen u (valuation w) ∷ past) i =
        ap (λ y. tick u.time y ∷ past_at n past (rank n i)) (sym (inputs_known w q o sz va)) ∙ ap (λ y. tick u.time (words (valuation w) (inputs_of (network_of n) i)) ∷ y) (past_is n past i z.number) in
        let hist = block_history (longer u.time (past_at n past) (rank n i) z.p w) q x.0 in
        let stands = (q.block.stands (state_of z.p w) (longer u.time (past_at n past) (rank n i) z.p w)).0 x.1 in
        subst (λ y. IsHistory (inputs y v) (meaning y v) (history (network_of n) (seen u (valuation w) ∷ past) i) × Stands y v (state_at n i w) (history (network_of n) (seen u (valuation w) ∷ past) i)) same_k
        (subst (λ y. IsHistory (inputs q.k y) (meaning q.k y) (history (network_of n) (seen u (valuation w) ∷ past) i) × Stands q.k y (state_at n i w) (history (network_of n) (seen u (valuation w) ∷ past) i)) same_v
        (subst (λ y. IsHistory (inputs q.k q.v) (meaning q.k q.v) y × Stands q.k q.v (state_at n i w) y) h
        (hist, subst (λ y. Stands q.k q.v y (longer u.time (past_at n past) (rank n i) z.p w)) (state_is w q) stands)))

-- a tick with a fault
pub faults : {B : Type 0} {m : Blocks B} {n : Net} {bs : List B} {ps : List Node} {actions : List Action} {kinds rows : List ValueType} {ts : List Tick} {last : ℤ} {old : List ℤ} (u : Tick) (w : List ℤ) (j i : ℕ) → (r : RunStands n ts last old) → Now m n bs ps actions kinds rows (after [] ts r.values) u (word w) → slice_get (elementary_below n (length n.instances)) j ≡ Some i → FirstFault m (net_of bs ps actions kinds rows) u.time (past_at n (after [] ts r.values)) (word w) j → HasFault n ts u i
faults {n = n} {ts = ts} u w j i r a e f vs g =
    let z = none_first n a.set.checked.unbroken in
    let c = net_closed n a.set.checked.indexed in
    let p = planned_of (network_of n) c (net_shaped n a.set.checked.indexed) z.0 z.1 (direct_alone n a.set.checked.indexed a.set.of_kinds) a.set.open_ended in
    runs_off (network_of n) (suc (length (network_of n).elements)) ts r.values u (valuation w) i c p r.runs (meets a) (first (after [] ts r.values) u (word w) j i a.set e f) vs g

-- before any tick
pub stands_first : {B : Type 0} {m : Blocks B} {n : Net} {bs : List B} {ps : List Node} {actions : List Action} {kinds rows : List ValueType} (w : List ℤ) → IsSet m n bs ps actions kinds rows → AllAt (net_of bs ps actions kinds rows) (λ j b p. m.stands b (state_of p w) []) → RunStands n [] (negsuc 0) w
stands_first {m = m} {n} w s f = record {
  values = [];
  runs = (tt, refl);
  last_is = refl;
  states = λ i t h. by_body t.body (λ b. StandsFor b (state_at n i w) []) tt (λ k v e.
      let el : (network_of n).elementary i ≡ true = ap is_elementary h ∙ ap is_block e in
      let z = seat s i el in
      let q = z.placed in
      let same_t : q.t ≡ t = let g : Some q.t ≡ Some t = sym q.there ∙ h in cc in
      let same_b : Elementary q.k q.v ≡ Elementary k v = sym q.body ∙ ap (λ (x : NetInstance). x.body) same_t ∙ e in
      let same_k : q.k ≡ k = cc in
      let same_v : q.v ≡ v = cc in
      let x = (q.block.stands (state_of z.p w) []).0 (f (rank n i) z.b z.p z.block_is z.node_is) in
      let y : Stands q.k q.v (state_at n i w) [] = subst (λ y. Stands q.k q.v y []) (state_is w q) x in
      (record { ticks = tt }, subst (λ a. Stands a v (state_at n i w) []) same_k (subst (λ a. Stands q.k a (state_at n i w) []) same_v y)));
  shown = tt;
}
