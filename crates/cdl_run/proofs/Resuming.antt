-- Words from which a runner goes on.
use Rattle.std.proofs.Common.{ℕ, ◌≡◌, refl, sym, ap, ◌∙◌, subst, arith, ℤ, true, List, [], ◌∷◌, length, None, Option, Some, slice_get}
use Rattle.std.specs.List.{refill}
use Rattle.std.proofs.lemmas.Option.{slice_get_within}
use Rattle.cdl_values.specs.History.{History, IsHistory, last_time}
use Rattle.cdl_values.specs.declared.value.ValueType.{ValueType}
use Rattle.cdl_kinds.specs.States.{IsSound}
use Rattle.cdl_network.specs.Ticks.{Seen, Tick, after, history}
use Rattle.cdl_connect.specs.declared.net.Net.{Net}
use Rattle.cdl_connect.specs.declared.net.NetInstance.{NetInstance}
use Rattle.cdl_connect.specs.declared.net.Body.TheVariants.{Elementary}
use Rattle.cdl_connect.specs.Nets.{is_block, is_elementary, network_of}
use Rattle.cdl_pass.specs.declared.net.Action.{Action}
use Rattle.cdl_pass.specs.declared.net.Node.{Node}
use Rattle.cdl_pass.specs.Absorb.{FirstUnsound as FirstBlock}
use Rattle.cdl_pass.specs.Net.{AllAt, Blocks, net_of}
use Rattle.cdl_pass.specs.Windows.{state_of}
use Rattle.cdl_pass.proofs.Passing.{there}
use Rattle.cdl_run.specs.Words.{elementary_below, state_at, state_place}
use Rattle.cdl_run.specs.Runs.{RunStands, last_time as time_of}
use Rattle.cdl_run.specs.Running.{FirstUnsound, IsSoundState, Running}
use Rattle.cdl_run.specs.inner.Laid.{rank}
use Rattle.cdl_run.specs.inner.Ready.{IsReady}
use Rattle.cdl_run.specs.inner.Setting.{IsSet}
use Rattle.cdl_run.proofs.Meeting.{seat}
use Rattle.cdl_run.proofs.Ranks.{of_rank, rank_rises}
use Rattle.cdl_run.proofs.Ticking.{refill_all}
use Rattle.cdl_run.proofs.Running.{by_body, instance_of, kind_history, state_is, stood}

-- the state of an instance is sound where that of its block is
sound_at : {B : Type 0} {m : Blocks B} {n : Net} {bs : List B} {ps : List Node} {actions : List Action} {kinds rows : List ValueType} (w : List ℤ) (last : ℤ) (s : IsSet m n bs ps actions kinds rows) (i : ℕ) (t : NetInstance) → slice_get n.instances i ≡ Some t → ((b : B) (p : Node) → (network_of n).elementary i ≡ true → slice_get bs (rank n i) ≡ Some b → slice_get ps (rank n i) ≡ Some p → m.sound b (state_of p w) last) → IsSoundState t.body (state_at n i w) last
sound_at {n = n} w last s i t h f = by_body t.body (λ b. IsSoundState b (state_at n i w) last) tt (λ k v e.
    let el : (network_of n).elementary i ≡ true = ap is_elementary h ∙ ap is_block e in
    let z = seat s i el in
    let q = z.placed in
    let same_t : q.t ≡ t = let g : Some q.t ≡ Some t = sym q.there ∙ h in cc in
    let same_b : Elementary q.k q.v ≡ Elementary k v = sym q.body ∙ ap (λ (x : NetInstance). x.body) same_t ∙ e in
    let same_k : q.k ≡ k = cc in
    let same_v : q.v ≡ v = cc in
    let x = (q.block.sound (state_of z.p w) last).0 (f z.b z.p el z.block_is z.node_is) in
    let y : IsSound q.k q.v (state_at n i w) last = subst (λ y. IsSound q.k q.v y last) (state_is w q) x in
    subst (λ a. IsSound a v (state_at n i w) last) same_k (subst (λ a. IsSound q.k a (state_at n i w) last) same_v y))

pub all_sound : {B : Type 0} {m : Blocks B} {n : Net} {bs : List B} {ps : List Node} {actions : List Action} {kinds rows : List ValueType} (w : List ℤ) (last : ℤ) → IsSet m n bs ps actions kinds rows → AllAt (net_of bs ps actions kinds rows) (λ j b p. m.sound b (state_of p w) last) → (i : ℕ) (t : NetInstance) → slice_get n.instances i ≡ Some t → IsSoundState t.body (state_at n i w) last
all_sound {n = n} w last s f i t h = sound_at w last s i t h (λ b p _ hb hp. f (rank n i) b p hb hp)

-- the instance of the first block whose state is not sound
pub first_is : {B : Type 0} {m : Blocks B} {n : Net} {bs : List B} {ps : List Node} {actions : List Action} {kinds rows : List ValueType} (w : List ℤ) (last : ℤ) (j i : ℕ) → IsSet m n bs ps actions kinds rows → slice_get (elementary_below n (length n.instances)) j ≡ Some i → FirstBlock m (net_of bs ps actions kinds rows) last w j → FirstUnsound n last w i
first_is {m = m} {n} {bs} {ps} w last j i s e f =
    let o = of_rank n j i (length n.instances) e in
    let l = slice_get_within (elementary_below n (length n.instances)) j i e in
    let c = s.placed.blocks in
    let d = s.placed.nodes in
    let b = there bs j (omega (arith, l, c)) in
    let p = there ps j (omega (arith, l, d)) in
    let q = s.placed.each j i b.0 p.0 e b.1 p.1 in
    record {
      t = q.t;
      there = q.there;
      unsound = λ x. f.here j b.0 p.0 b.1 p.1 refl ((q.block.sound (state_of p.0 w) last).1 (subst (λ y. IsSound q.k q.v y last) (sym (state_is w q)) (subst (λ y. IsSoundState y (state_at n i w) last) q.body x)));
      first = λ k t lt h. sound_at w last s k t h (λ x y el hx hy. f.before (rank n k) x y hx hy (let r = rank_rises n k i el lt in let z = o.2 in omega (arith, r, z)));
    }

-- words that stand for some ticks
last_seen : (n : Net) (past : List (Seen ℕ)) (i : ℕ) → time_of past ≡ last_time (history (network_of n) past i)
last_seen n [] i = refl
last_seen n (s ∷ past) i = refl

pub all_stand : {B : Type 0} {m : Blocks B} {n : Net} {bs : List B} {ps : List Node} {actions : List Action} {kinds rows : List ValueType} {ts : List Tick} {last : ℤ} {w : List ℤ} → IsSet m n bs ps actions kinds rows → RunStands n ts last w → AllAt (net_of bs ps actions kinds rows) (λ j b p. (h : History) × IsHistory (m.inputs b) (m.meaning b) h × m.stands b (state_of p w) h × (last ≡ last_time h))
all_stand {m = m} {n} {ts = ts} {w = w} s r = λ j b p hb hp.
    let i = instance_of s j b p hb hp in
    let q = i.2 in
    let h : History = history (network_of n) (after [] ts r.values) i.0 in
    let z = stood r i.0 q.t q.k q.v q.there q.body in
    let stands : m.stands b (state_of p w) h = subst (λ x. m.stands b x h) (sym (state_is w q)) ((q.block.stands (state_at n i.0 w) h).1 z.1) in
    (h, kind_history h q z.0, stands, r.last_is ∙ last_seen n (after [] ts r.values) i.0)

-- a region into which the words were copied
pub refilled : (old words new : List ℤ) → length words ≡ length old → new ≡ words → refill (length old) old new ≡ words
refilled old words new l e = refill_all old new (ap length e ∙ l) ∙ e

pub resumed_ready : {B : Type 0} {m : Blocks B} {n : Net} {bs : List B} {ps : List Node} {actions : List Action} {kinds rows : List ValueType} (w r : List ℤ) (last z : ℤ) → r ≡ w → z ≡ last → length w ≡ state_place n (length n.instances) → AllAt (net_of bs ps actions kinds rows) (λ j b p. m.sound b (state_of p w) last) → IsReady m n bs ps actions kinds rows r z None
resumed_ready {m = m} {n} {bs} {ps} {actions} {kinds} {rows} w r last z e f s a =
    subst (λ x. IsReady m n bs ps actions kinds rows x z None) (sym e)
    (subst (λ x. IsReady m n bs ps actions kinds rows w x None) (sym f) (record { size = s; sound = λ h. a }))

abbrev pub running : Net → List ℤ → ℤ → Running
running n w z = record { net = n; words = w; last = z; fault = None }

pub running_is : (n k : Net) (w v : List ℤ) (z y : ℤ) → n ≡ k → w ≡ v → z ≡ y → running n w z ≡ running k v y
running_is n k w v z y a b c = ap (λ x. running x w z) a ∙ ap (λ x. running k x z) b ∙ ap (λ x. running k v x) c

pub run_of : {ts : List Tick} (n k : Net) (w v : List ℤ) (z y : ℤ) → n ≡ k → w ≡ v → z ≡ y → RunStands k ts y v → RunStands n ts z w
run_of {ts} n k w v z y a b c r = subst (λ x. RunStands x ts z w) (sym a) (subst (λ x. RunStands k ts z x) (sym b) (subst (λ x. RunStands k ts x v) (sym c) r))

pub some_none : {X : Type 0} {x : X} → Some x ≡ None → ⊥
some_none e = cc

pub none_is : {X : Type 0} (o : Option X) → ((x : X) → o ≡ Some x → ⊥) → o ≡ None
none_is None h = refl
none_is (Some x) h = absurd (h x refl)
