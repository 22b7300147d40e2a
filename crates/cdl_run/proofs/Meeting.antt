-- A pass that meets its equations meets those of the network.
use Rattle.std.proofs.Common.{ℕ, zero, suc, ◌+◌, ◌<◌, ◌≤◌, ◌≡◌, refl, sym, ap, ◌∙◌, subst, arith, ℤ, true, false, List, [], ◌∷◌, length, map, Option, Some, None, slice_get}
use Rattle.cdl_source.proofs.Cases.{by_bool}
use Rattle.std.proofs.lemmas.Option.{slice_get_within, get_or_from_slice_get}
use Rattle.std.proofs.lemmas.Bool.{and_parts}
use Rattle.cdl_values.specs.History.{IsHistory, IsLater, IsTime, no_value, word}
use Rattle.cdl_values.specs.declared.value.Array.{Array}
use Rattle.cdl_values.specs.declared.value.ValueType.{ValueType}
use Rattle.cdl_kinds.specs.declared.kind.Kind.{Kind}
use Rattle.cdl_kinds.specs.Meanings.{meaning}
use Rattle.cdl_kinds.specs.Ports.{inputs, outputs}
use Rattle.cdl_network.specs.Lists.{numbers}
use Rattle.cdl_network.specs.Dependence.{Origin, Row, From, Out, HasOrigin, root_inputs}
use Rattle.cdl_network.specs.Ticks.{Meets, Seen, Tick, answer, first_fault, given as given_word, history, is_faulty, rule}
use Rattle.cdl_network.proofs.Places.{first_number, no_number, of_slice_numbers}
use Rattle.cdl_connect.specs.declared.net.Net.{Net}
use Rattle.cdl_connect.specs.declared.net.NetInstance.{NetInstance}
use Rattle.cdl_connect.specs.Nets.{network_of}
use Rattle.cdl_connect.proofs.Windows.{IsOf, of_kind, outputs_are}
use Rattle.cdl_pass.specs.declared.net.Action.{Action}
use Rattle.cdl_pass.specs.declared.net.Node.{Node}
use Rattle.cdl_pass.specs.Net.{Blocks, net_of}
use Rattle.cdl_pass.specs.Tick.{Fault, FirstFault, IsTyped, NoFault, Solves, given, has_fault, is_none, out_word}
use Rattle.cdl_pass.proofs.Passing.{there}
use Rattle.cdl_pass.proofs.Ready.{none_no_value, value_some}
use Rattle.cdl_schedule.specs.declared.steps.Step.TheVariants.{Input, Copy, Emit}
use Rattle.cdl_schedule.specs.inner.Passed.{step_by}
use Rattle.cdl_schedule.proofs.Loops.{has_inside, some_at}
use Rattle.cdl_schedule.proofs.Passing.{only_origin, step_origin}
use Rattle.cdl_run.specs.Words.{elementary_below}
use Rattle.cdl_run.specs.Runs.{IsRow}
use Rattle.cdl_run.specs.inner.Laid.{IsPlaced, action_of, element_types, rank}
use Rattle.cdl_run.specs.inner.Setting.{IsSet, past_at}
use Rattle.cdl_run.proofs.Ranks.{of_rank, rank_at, rank_rises}
use Rattle.cdl_run.proofs.Typing.{answers_typed}
use Rattle.cdl_run.proofs.Values.{Windowed, answer_is, fault_is, none_value, seen_by, some_value}

pub mapped : {X Y : Type 0} (f : X → Y) (xs : List X) (j : ℕ) (x : X) → slice_get xs j ≡ Some x → slice_get (map f xs) j ≡ Some (f x)
mapped f [] j x e = absurd (cc)
mapped f (y ∷ xs) zero x e = let q : y ≡ x = cc in ap (λ z. Some (f z)) q
mapped f (y ∷ xs) (suc j) x e = mapped f xs j x e

-- the step that gives an element its value
pub origin_action : {B : Type 0} {m : Blocks B} {n : Net} {bs : List B} {ps : List Node} {actions : List Action} {kinds rows : List ValueType} (s : IsSet m n bs ps actions kinds rows) (x : ℕ) (c : Origin ℕ ℕ) → HasOrigin (network_of n) x c → (q : ℕ) × (slice_get actions q ≡ Some (action_of n (step_by x c)))
origin_action {n = n} s x c h =
    let e = s.pass.each x (has_inside n x c s.checked h) in
    let o = step_origin n e.1 x (s.pass.named e.0 e.1 e.2) e.3 in
    let z : e.1 ≡ step_by x c = sym o.2 ∙ ap (step_by x) (only_origin n x o.0 c s.checked o.1 h) in
    let r = mapped (action_of n) s.steps e.0 (step_by x c) (e.2 ∙ ap Some z) in
    (e.0, subst (λ l. slice_get l e.0 ≡ Some (action_of n (step_by x c))) (sym s.actions_are) r)

-- the block of an elementary instance
pub record Seat {B : Type 0} (m : Blocks B) (n : Net) (bs : List B) (ps : List Node) (i : ℕ) : Type 0 where
  pub b : B
  pub p : Node
  pub block_is : slice_get bs (rank n i) ≡ Some b
  pub node_is : slice_get ps (rank n i) ≡ Some p
  pub number : slice_get (elementary_below n (length n.instances)) (rank n i) ≡ Some i
  pub placed : IsPlaced m n i b p

pub seat : {B : Type 0} {m : Blocks B} {n : Net} {bs : List B} {ps : List Node} {actions : List Action} {kinds rows : List ValueType} (s : IsSet m n bs ps actions kinds rows) (i : ℕ) → (network_of n).elementary i ≡ true → Seat m n bs ps i
seat {n = n} {bs} {ps} s i e =
    let r = rank_at n i (length n.instances) e (some_at n i e) in
    let l = slice_get_within (elementary_below n (length n.instances)) (rank n i) i r in
    let f = s.placed.blocks in
    let g = s.placed.nodes in
    let b = there bs (rank n i) (omega (arith, l, f)) in
    let p = there ps (rank n i) (omega (arith, l, g)) in
    record { b = b.0; p = p.0; block_is = b.1; node_is = p.1; number = r; placed = s.placed.each (rank n i) i b.0 p.0 r b.1 p.1 }

pub is_of : {B : Type 0} {m : Blocks B} {n : Net} {bs : List B} {ps : List Node} {actions : List Action} {kinds rows : List ValueType} {i : ℕ} {b : B} {p : Node} → IsSet m n bs ps actions kinds rows → (q : IsPlaced m n i b p) → IsOf n i q.t q.k q.v
is_of {n = n} {i = i} s q = of_kind n i q.t q.k q.v s.checked.indexed s.of_kinds q.there q.body

pub windowed : {B : Type 0} {m : Blocks B} {n : Net} {bs : List B} {ps : List Node} {actions : List Action} {kinds rows : List ValueType} {i : ℕ} {b : B} {p : Node} → IsSet m n bs ps actions kinds rows → (q : IsPlaced m n i b p) → Windowed m n i q.t q.k q.v b p
windowed {n = n} {i = i} s q = record {
  is = is_of s q;
  meaning = q.block.meaning;
  ins = ap (λ (z : Node). z.ins) q.node;
  nin = ap (λ (z : Node). z.nin) q.node;
  reads = ap (λ (z : Node). z.reads) q.node;
}

-- what is known at a tick
pub record Now {B : Type 0} (m : Blocks B) (n : Net) (bs : List B) (ps : List Node) (actions : List Action) (kinds rows : List ValueType) (past : List (Seen ℕ)) (u : Tick) (w : ℕ → ℤ) : Type 0 where
  pub set : IsSet m n bs ps actions kinds rows
  pub row : IsRow n u.row
  pub time : IsTime u.time
  pub typed : (e : ℕ) → e < length n.elements → IsTyped (element_types n) w e
  pub histories : (i : ℕ) (t : NetInstance) (k : Kind) (v : List Array) → IsOf n i t k v → IsHistory (inputs k v) (meaning k v) (history (network_of n) past i) × IsLater u.time (history (network_of n) past i)
  pub solves : Solves m (net_of bs ps actions kinds rows) u.time u.row (past_at n past) w

pub past_is : (n : Net) (past : List (Seen ℕ)) (i : ℕ) → slice_get (elementary_below n (length n.instances)) (rank n i) ≡ Some i → past_at n past (rank n i) ≡ history (network_of n) past i
past_is n past i e = ap (λ z. history (network_of n) past z) (get_or_from_slice_get (elementary_below n (length n.instances)) (rank n i) i 0 e)

read_word : (ys : List ℤ) (k : ℕ) → k < length ys → slice_get ys k ≡ Some (word ys k)
read_word [] k h = absurd (omega (arith, h))
read_word (y ∷ ys) zero h = refl
read_word (y ∷ ys) (suc k) h = read_word ys k (omega (arith, h))

pub number_inside : (a n k x : ℕ) → slice_get (numbers a n) k ≡ Some x → k < n
number_inside a zero k x e = absurd (cc)
number_inside a (suc n) zero x e = omega arith
number_inside a (suc n) (suc k) x e = let r = number_inside (suc a) n k x e in omega (arith, r)

-- one output
out_value : (g : Option (List ℤ)) (k : ℕ) → ((ys : List ℤ) → g ≡ Some ys → (k < length ys) × (is_none (word ys k) ≡ false)) → seen_by (λ z. out_word g k) 0 ≡ given_word k g
out_value None k f = none_value no_value none_no_value
out_value (Some ys) k f = let r = f ys refl in some_value (word ys k) r.1 ∙ sym (read_word ys k r.0)

pub meets : {B : Type 0} {m : Blocks B} {n : Net} {bs : List B} {ps : List Node} {actions : List Action} {kinds rows : List ValueType} {past : List (Seen ℕ)} {u : Tick} {w : ℕ → ℤ} → Now m n bs ps actions kinds rows past u w → Meets (network_of n) past u (seen_by w)
meets {B} {m} {n} {bs} {ps} {actions} {kinds} {rows} {past} {u} {w} a x c h = go c h
  where
    row_value : (k : ℕ) → HasOrigin (network_of n) x (Row k) → seen_by (λ z. word u.row k) 0 ≡ slice_get u.row k
    row_value k g =
        let l = slice_get_within (root_inputs (network_of n)) k x g in
        let s = a.row.size in
        some_value (word u.row k) (value_some ((network_of n).value_type x) (word u.row k) (a.row.each k x g)) ∙ sym (read_word u.row k (omega (arith, l, s)))

    out : (i k : ℕ) → HasOrigin (network_of n) x (Out i k) → seen_by w x ≡ given_word k (answer (network_of n) past u.time (seen_by w) i)
    out i k g =
        let t = seat a.set i g.1 in
        let q = t.placed in
        let o = is_of a.set q in
        let d = windowed a.set q in
        let act = origin_action a.set x (Out i k) g in
        let eq = a.solves act.0 (action_of n (Emit i)) act.1 in
        let z : slice_get (numbers (q.t.first + (inputs q.k q.v).count) (outputs q.k q.v).count) k ≡ Some x = ap (λ l. slice_get l k) (sym (outputs_are n i q.t q.k q.v o)) ∙ g.2 in
        let xs : x ≡ q.t.first + (inputs q.k q.v).count + k = of_slice_numbers (q.t.first + (inputs q.k q.v).count) (outputs q.k q.v).count k x z in
        let kn : k < (outputs q.k q.v).count = number_inside (q.t.first + (inputs q.k q.v).count) (outputs q.k q.v).count k x z in
        let po : t.p.outs ≡ q.t.first + (inputs q.k q.v).count = ap (λ (y : Node). y.outs) q.node in
        let pn : t.p.nout ≡ (outputs q.k q.v).count = ap (λ (y : Node). y.nout) q.node in
        let gv = eq t.b t.p t.block_is t.node_is k (omega (arith, kn, pn)) in
        let at : w x ≡ out_word (given m t.b t.p (history (network_of n) past i) u.time w) k =
        ap w (xs ∙ ap (λ y. y + k) (sym po)) ∙ gv ∙ ap (λ y. out_word (given m t.b t.p y u.time w) k) (past_is n past i t.number) in
        let an = answer_is m n i q.t q.k q.v t.b t.p past u.time w d in
        let hs = a.histories i q.t q.k q.v o in
        let ty : (ys : List ℤ) → answer (network_of n) past u.time (seen_by w) i ≡ Some ys → (k < length ys) × (is_none (word ys k) ≡ false) = λ ys e.
        let v = answers_typed n i q.t q.k q.v past u.time w ys o (λ y l. a.set.plain.each y l) a.typed hs.0 a.time hs.1 e in
        let sz = v.size in
        (omega (arith, sz, kn), value_some ((outputs q.k q.v).value_type k) (word ys k) (v.each k kn)) in
        ap (λ y. seen_by (λ r. y) 0) (at ∙ ap (λ y. out_word y k) (sym an)) ∙ out_value (answer (network_of n) past u.time (seen_by w) i) k ty

    go : (c : Origin ℕ ℕ) → HasOrigin (network_of n) x c → seen_by w x ≡ rule (network_of n) past u (seen_by w) c
    go (Row k) g =
        let act = origin_action a.set x (Row k) g in
        let eq : w x ≡ word u.row k = a.solves act.0 (action_of n (Input k x)) act.1 in
        ap (λ y. seen_by (λ r. y) 0) eq ∙ row_value k g
    go (From s) g =
        let act = origin_action a.set x (From s) g in
        let eq : w x ≡ w s = a.solves act.0 (action_of n (Copy s x)) act.1 in
        ap (λ y. seen_by (λ r. y) 0) eq
    go (Out i k) g = out i k g

-- faults
faulty_elementary : (n : Net) (past : List (Seen ℕ)) (u : Tick) (w : ℕ → ℤ) (i : ℕ) → is_faulty (network_of n) past u (seen_by w) i ≡ true → (network_of n).elementary i ≡ true
faulty_elementary n past u w i e = (and_parts ((network_of n).elementary i) _ e).0

pub faulty : {B : Type 0} {m : Blocks B} {n : Net} {bs : List B} {ps : List Node} {actions : List Action} {kinds rows : List ValueType} (past : List (Seen ℕ)) (u : Tick) (w : ℕ → ℤ) (i : ℕ) → IsSet m n bs ps actions kinds rows → is_faulty (network_of n) past u (seen_by w) i ≡ true → Fault m (net_of bs ps actions kinds rows) u.time (past_at n past) w (rank n i)
faulty {m = m} {n} past u w i s e =
    let el = faulty_elementary n past u w i e in
    let t = seat s i el in
    let f = fault_is m n i t.placed.t t.placed.k t.placed.v t.b t.p past u w (windowed s t.placed) el in
    record { block = t.b; node = t.p; block_is = t.block_is; node_is = t.node_is; faults = ap (λ h. has_fault m t.b t.p h u.time w) (past_is n past i t.number) ∙ sym f ∙ e }

pub calm : {B : Type 0} {m : Blocks B} {n : Net} {bs : List B} {ps : List Node} {actions : List Action} {kinds rows : List ValueType} (past : List (Seen ℕ)) (u : Tick) (w : ℕ → ℤ) → IsSet m n bs ps actions kinds rows → NoFault m (net_of bs ps actions kinds rows) u.time (past_at n past) w → first_fault (network_of n) past u (seen_by w) ≡ None
calm {n = n} past u w s f = no_number (is_faulty (network_of n) past u (seen_by w)) 0 (length n.instances)
    (λ i a b. by_bool (is_faulty (network_of n) past u (seen_by w) i) (λ t. absurd (f (rank n i) (faulty past u w i s t))) (λ e. e))

pub first : {B : Type 0} {m : Blocks B} {n : Net} {bs : List B} {ps : List Node} {actions : List Action} {kinds rows : List ValueType} (past : List (Seen ℕ)) (u : Tick) (w : ℕ → ℤ) (j i : ℕ) → IsSet m n bs ps actions kinds rows → slice_get (elementary_below n (length n.instances)) j ≡ Some i → FirstFault m (net_of bs ps actions kinds rows) u.time (past_at n past) w j → first_fault (network_of n) past u (seen_by w) ≡ Some i
first {m = m} {n} past u w j i s e f =
    let o = of_rank n j i (length n.instances) e in
    let q = s.placed.each j i f.is.block f.is.node e f.is.block_is f.is.node_is in
    let d = fault_is m n i q.t q.k q.v f.is.block f.is.node past u w (windowed s q) o.0 in
    let here : is_faulty (network_of n) past u (seen_by w) i ≡ true = d ∙ ap (λ z. has_fault m f.is.block f.is.node (history (network_of n) past z) u.time w) (sym (get_or_from_slice_get (elementary_below n (length n.instances)) j i 0 e)) ∙ f.is.faults in
    let before : (l : ℕ) → 0 ≤ l → l < i → is_faulty (network_of n) past u (seen_by w) l ≡ false = λ l a b. by_bool (is_faulty (network_of n) past u (seen_by w) l)
    (λ t.
    let x = f.least (rank n l) (faulty past u w l s t) in
    let y = rank_rises n l i (faulty_elementary n past u w l t) b in
    let z = o.2 in
    absurd (omega (arith, x, y, z)))
    (λ t. t) in
    first_number (is_faulty (network_of n) past u (seen_by w)) 0 (length n.instances) i (omega arith) (let h = o.1 in omega (arith, h)) here before
