-- What a pass needs of a runner, and what a runner has of it.
use Rattle.std.proofs.Common.{ℕ, zero, suc, ◌<◌, ◌≡◌, refl, sym, ap, ◌∙◌, subst, arith, ℤ, negsuc, ◌<ℤ◌, List, [], ◌∷◌, ◌++◌, length, get_or, Option, Some, None, slice_get}
use Rattle.cdl_schedule.proofs.Passing.{numbers_length}
use Rattle.std.specs.List.{refill}
use Rattle.std.proofs.lemmas.List.{length-replicate, length-map}
use Rattle.std.specs.Option.{option_map}
use Rattle.std.specs.Prelude.{replicate, pos}
use Rattle.cdl_network.specs.Rules.{word_count}
use Rattle.cdl_pool.specs.Windows.{Carved}
use Rattle.cdl_run.specs.declared.runner.RangeFault.{RangeFault}
use Rattle.cdl_values.specs.History.{IsTime, IsValue, word}
use Rattle.cdl_values.specs.declared.value.ValueType.{ValueType}
use Rattle.cdl_network.specs.Dependence.{root_inputs}
use Rattle.cdl_network.specs.Ticks.{Tick, after}
use Rattle.cdl_connect.specs.declared.net.Net.{Net}
use Rattle.cdl_connect.specs.Nets.{network_of}
use Rattle.cdl_pass.specs.declared.net.Action.{Action}
use Rattle.cdl_pass.specs.declared.net.Node.{Node}
use Rattle.cdl_pass.specs.Absorb.{Stood}
use Rattle.cdl_pass.specs.Net.{AllAt, Blocks, Laid, Planned, net_of, sort_at}
use Rattle.cdl_pass.specs.Tick.{FirstFault, IsTyped, NoFault, Past, RowOf, Solves, Starts}
use Rattle.cdl_pass.specs.Windows.{state_of}
use Rattle.cdl_pass.proofs.Passing.{there}
use Rattle.cdl_network.specs.Lists.{numbers}
use Rattle.cdl_network.proofs.Inside.{in_filter, in_slice}
use Rattle.cdl_connect.proofs.Networks.{below_all}
use Rattle.cdl_run.specs.Words.{elementary_below, is_root_output, root_outputs, state_place}
use Rattle.cdl_run.specs.Runs.{HasFault, IsRow, RunStands, tick_at}
use Rattle.cdl_run.specs.inner.Laid.{element_types, row_types}
use Rattle.cdl_run.specs.inner.Ready.{IsReady}
use Rattle.cdl_run.specs.inner.Setting.{IsSet, past_at}
use Rattle.cdl_run.proofs.Laying.{laid, planned, read_mapped}
use Rattle.cdl_run.proofs.Meeting.{Now}
use Rattle.cdl_run.proofs.Typing.{type_is}
use Rattle.cdl_run.proofs.Running.{faults, histories, stands_first, stands_next, starts}

pub laid_at : {B : Type 0} {m : Blocks B} {n : Net} {bs : List B} {ps : List Node} {actions : List Action} {kinds rows : List ValueType} (size : ℕ) → IsSet m n bs ps actions kinds rows → size ≡ state_place n (length n.instances) → Laid m (net_of bs ps actions kinds rows) size
laid_at {m = m} {n} {bs} {ps} {actions} {kinds} {rows} size s e =
    subst (λ z. Laid m (net_of bs ps actions kinds rows) z) (sym e)
    (subst (λ z. Laid m (net_of bs ps actions kinds z) (state_place n (length n.instances))) (sym s.rows_are)
    (subst (λ z. Laid m (net_of bs ps actions z (row_types n)) (state_place n (length n.instances))) (sym s.kinds_are) (laid s)))

pub planned_at : {B : Type 0} {m : Blocks B} {n : Net} {bs : List B} {ps : List Node} {actions : List Action} {kinds rows : List ValueType} → IsSet m n bs ps actions kinds rows → Planned (net_of bs ps actions kinds rows)
planned_at {m = m} {n} {bs} {ps} {actions} {kinds} {rows} s =
    subst (λ z. Planned (net_of bs ps actions kinds z)) (sym s.rows_are)
    (subst (λ z. Planned (net_of bs ps actions z (row_types n))) (sym s.kinds_are) (planned s))

row_of : (n : Net) (row : List ℤ) → IsRow n row → RowOf (row_types n) row
row_of n row r = record {
  size = r.size ∙ sym (length-map (root_inputs (network_of n)) (network_of n).value_type);
  each = λ k h.
      let l = length-map (root_inputs (network_of n)) (network_of n).value_type in
      let x = there (root_inputs (network_of n)) k (omega (arith, h, l)) in
      subst (λ (t : ValueType). IsValue t (word row k)) (sym (read_mapped (network_of n).value_type (root_inputs (network_of n)) k x.0 ValueType.Boolean x.1)) (r.each k x.0 x.1);
}

pub row_at : {B : Type 0} {m : Blocks B} {n : Net} {bs : List B} {ps : List Node} {actions : List Action} {kinds rows : List ValueType} (row : List ℤ) → IsSet m n bs ps actions kinds rows → IsRow n row → RowOf rows row
row_at {n = n} row s r = subst (λ z. RowOf z row) (sym s.rows_are) (row_of n row r)

-- what is known at a tick
now_at : {B : Type 0} {m : Blocks B} {n : Net} {bs : List B} {ps : List Node} {actions : List Action} {kinds rows : List ValueType} {ts : List Tick} {last : ℤ} {old : List ℤ} (now : ℤ) (row w : List ℤ) → IsSet m n bs ps actions kinds rows → IsRow n row → IsTime now → last <ℤ now → ((e : ℕ) → e < length kinds → IsTyped kinds (word w) e)
    → (r : RunStands n ts last old) → Solves m (net_of bs ps actions kinds rows) now row (past_at n (after [] ts r.values)) (word w) → Now m n bs ps actions kinds rows (after [] ts r.values) (tick_at now row) (word w)
now_at {n = n} {kinds = kinds} now row w s ir time later ty r so = record {
  set = s;
  row = ir;
  time = time;
  typed = λ e h. subst (λ z. IsTyped z (word w) e) s.kinds_are (ty e (let l = types_of n kinds s.kinds_are in omega (arith, h, l)));
  histories = λ i t k v o. histories now later r i t k v o;
  solves = so;
}
  where
    types_of : (n : Net) (kinds : List ValueType) → kinds ≡ element_types n → length kinds ≡ length n.elements
    types_of n kinds e = ap length e ∙ length-map n.elements (λ x. x.value_type)

pub tick_ok : {B : Type 0} {m : Blocks B} {n : Net} {bs : List B} {ps : List Node} {actions : List Action} {kinds rows : List ValueType} {ts : List Tick} {last : ℤ} {old : List ℤ} (now : ℤ) (row w : List ℤ) → IsSet m n bs ps actions kinds rows → IsRow n row → IsTime now → last <ℤ now → length w ≡ state_place n (length n.instances) → ((e : ℕ) → e < length kinds → IsTyped kinds (word w) e) → ((e : ℕ) → e < length kinds → IsValue (sort_at kinds e) (word w e))
    → (r : RunStands n ts last old) → ((past : Past) → Starts m (net_of bs ps actions kinds rows) now past old → Solves m (net_of bs ps actions kinds rows) now row past (word w)) → ((past : Past) → Starts m (net_of bs ps actions kinds rows) now past old → NoFault m (net_of bs ps actions kinds rows) now past (word w) × Stood m (net_of bs ps actions kinds rows) now past w)
    → RunStands n (ts ++ tick_at now row ∷ []) now w
tick_ok {n = n} {kinds = kinds} {ts = ts} now row w s ir time later size ty va r so ok =
    let st = starts now s later r in
    let past : Past = past_at n (after [] ts r.values) in
    let k = ok past st in
    let l : length kinds ≡ length n.elements = ap length s.kinds_are ∙ length-map n.elements (λ x. x.value_type) in
    stands_next (tick_at now row) w r (now_at now row w s ir time later ty r (so past st)) (omega (arith, size))
    (λ e h. subst (λ z. IsValue (sort_at z e) (word w e)) s.kinds_are (va e (omega (arith, h, l)))) k.0 k.1

pub tick_fault : {B : Type 0} {m : Blocks B} {n : Net} {bs : List B} {ps : List Node} {actions : List Action} {kinds rows : List ValueType} {ts : List Tick} {last : ℤ} {old : List ℤ} (now : ℤ) (row w : List ℤ) (j i : ℕ) → IsSet m n bs ps actions kinds rows → IsRow n row → IsTime now → last <ℤ now → ((e : ℕ) → e < length kinds → IsTyped kinds (word w) e)
    → (r : RunStands n ts last old) → ((past : Past) → Starts m (net_of bs ps actions kinds rows) now past old → Solves m (net_of bs ps actions kinds rows) now row past (word w)) → ((past : Past) → Starts m (net_of bs ps actions kinds rows) now past old → FirstFault m (net_of bs ps actions kinds rows) now past (word w) j)
    → slice_get (elementary_below n (length n.instances)) j ≡ Some i → HasFault n ts (tick_at now row) i
tick_fault {n = n} {ts = ts} now row w j i s ir time later ty r so ff e =
    let st = starts now s later r in
    let past : Past = past_at n (after [] ts r.values) in
    faults (tick_at now row) w j i r (now_at now row w s ir time later ty r (so past st)) e (ff past st)

-- what was written last is all that a region has
pub refill_all : (xs ws : List ℤ) → length ws ≡ length xs → refill (length xs) xs ws ≡ ws
refill_all [] [] e = refl
refill_all [] (w ∷ ws) e = absurd (omega (arith, e))
refill_all (x ∷ xs) [] e = absurd (omega (arith, e))
refill_all (x ∷ xs) (w ∷ ws) e = ap (λ l. w ∷ l) (refill_all xs ws (omega (arith, e)))

pub next_ready : {B : Type 0} {m : Blocks B} {n : Net} {bs : List B} {ps : List Node} {actions : List Action} {kinds rows : List ValueType} (old new : List ℤ) (last now : ℤ) (fault : Option ℕ) → IsReady m n bs ps actions kinds rows old last fault → length new ≡ length old → AllAt (net_of bs ps actions kinds rows) (λ j b p. m.sound b (state_of p new) now) → IsReady m n bs ps actions kinds rows (refill (length old) old new) now fault
next_ready {m = m} {n} {bs} {ps} {actions} {kinds} {rows} old new last now fault r e f =
    subst (λ w. IsReady m n bs ps actions kinds rows w now fault) (sym (refill_all old new e)) (record { size = e ∙ r.size; sound = λ z. f })

pub fault_ready : {B : Type 0} {m : Blocks B} {n : Net} {bs : List B} {ps : List Node} {actions : List Action} {kinds rows : List ValueType} (old new : List ℤ) (last : ℤ) (fault : Option ℕ) (i : ℕ) → IsReady m n bs ps actions kinds rows old last fault → length new ≡ length old → IsReady m n bs ps actions kinds rows (refill (length old) old new) last (Some i)
fault_ready {m = m} {n} {bs} {ps} {actions} {kinds} {rows} old new last fault i r e =
    subst (λ w. IsReady m n bs ps actions kinds rows w last (Some i)) (sym (refill_all old new e)) (record { size = e ∙ r.size; sound = λ z. absurd (cc) })

-- an output of the root is an element, and has a word
get_other : (xs : List ℕ) (i x : ℕ) → i < length xs → x ≡ get_or xs i x → slice_get xs i ≡ Some x
get_other [] i x h e = absurd (omega (arith, h))
get_other (y ∷ xs) zero x h e = ap Some (sym e)
get_other (y ∷ xs) (suc i) x h e = get_other xs i x (omega (arith, h)) e

pub output_inside : (n : Net) (outs : List ℕ) (w : List ℤ) (i x : ℕ) → outs ≡ root_outputs n → length w ≡ state_place n (length n.instances) → i < length (root_outputs n) → x ≡ get_or outs i x → x < length w
output_inside n outs w i x e s h q =
    let a = get_other (root_outputs n) i x h (q ∙ ap (λ l. get_or l i x) e) in
    let b = below_all (length n.elements) x (in_filter (is_root_output n) x (numbers 0 (length n.elements)) (in_slice (root_outputs n) i x a)) in
    omega (arith, b, s)

pub none_fault : (o : Option RangeFault) → ((f : RangeFault) → o ≡ Some f → ⊥) → option_map (λ f. f.instance) o ≡ None
none_fault None h = refl
none_fault (Some f) h = absurd (h f refl)

-- the instance of a block
pub fault_at : (xs ys : List ℕ) (j i : ℕ) → j < length xs → ys ≡ xs → i ≡ get_or ys j i → slice_get xs j ≡ Some i
fault_at xs ys j i h e q = get_other xs j i h (q ∙ ap (λ l. get_or l j i) e)

-- a region before the first tick
pub region_size : (r : Carved) (k : ℕ) → r ≡ record { words = replicate k (pos 0); used = 0 } → length r.words ≡ k
region_size r k e = ap (λ (z : Carved). length z.words) e ∙ length-replicate k (pos 0)

-- what is known of some lists is known of equal ones
pub moved : {B : Type 0} (P : List B → List Node → List Action → List ValueType → List ValueType → List ℤ → ℤ → Type 0) (bs bs2 : List B) (ps ps2 : List Node) (acts acts2 : List Action) (kinds kinds2 rows rows2 : List ValueType) (words words2 : List ℤ) (now now2 : ℤ) → bs ≡ bs2 → ps ≡ ps2 → acts ≡ acts2 → kinds ≡ kinds2 → rows ≡ rows2 → words ≡ words2 → now ≡ now2 → P bs ps acts kinds rows words now → P bs2 ps2 acts2 kinds2 rows2 words2 now2
moved P bs bs2 ps ps2 acts acts2 kinds kinds2 rows rows2 words words2 now now2 a b c d e f g h =
    subst (λ z. P bs2 ps2 acts2 kinds2 rows2 words2 z) g
    (subst (λ z. P bs2 ps2 acts2 kinds2 rows2 z now) f
    (subst (λ z. P bs2 ps2 acts2 kinds2 z words now) e
    (subst (λ z. P bs2 ps2 acts2 z rows words now) d
    (subst (λ z. P bs2 ps2 z kinds rows words now) c
    (subst (λ z. P bs2 z acts kinds rows words now) b
    (subst (λ z. P z ps acts kinds rows words now) a h))))))

pub start_ready : {B : Type 0} {m : Blocks B} {n : Net} {bs : List B} {ps : List Node} {actions : List Action} {kinds rows : List ValueType} (old new : List ℤ) (fault : Option ℕ) → length old ≡ state_place n (length n.instances) → length new ≡ length old → AllAt (net_of bs ps actions kinds rows) (λ j b p. m.sound b (state_of p new) (negsuc 0)) → IsReady m n bs ps actions kinds rows (refill (length old) old new) (negsuc 0) fault
start_ready {m = m} {n} {bs} {ps} {actions} {kinds} {rows} old new fault s e f =
    subst (λ w. IsReady m n bs ps actions kinds rows w (negsuc 0) fault) (sym (refill_all old new e)) (record { size = e ∙ s; sound = λ z. f })

pub start_stands : {B : Type 0} {m : Blocks B} {n : Net} {bs : List B} {ps : List Node} {actions : List Action} {kinds rows : List ValueType} (old new : List ℤ) → IsSet m n bs ps actions kinds rows → length new ≡ length old → AllAt (net_of bs ps actions kinds rows) (λ j b p. m.stands b (state_of p new) []) → RunStands n [] (negsuc 0) (refill (length old) old new)
start_stands {n = n} old new s e f = subst (λ w. RunStands n [] (negsuc 0) w) (sym (refill_all old new e)) (stands_first new s f)

pub words_total : (n : Net) → state_place n (length n.instances) ≡ word_count (network_of n)
words_total n = let e = numbers_length 0 (length n.elements) in omega (arith, e)

pub start_size : (n : Net) (old new : List ℤ) → length old ≡ state_place n (length n.instances) → length new ≡ length old → length (refill (length old) old new) ≡ word_count (network_of n)
start_size n old new s e = ap length (refill_all old new e) ∙ e ∙ s ∙ words_total n

-- each element has a value of its type
pub element_values : {B : Type 0} {m : Blocks B} {n : Net} {bs : List B} {ps : List Node} {actions : List Action} {kinds rows : List ValueType} (w : List ℤ) → IsSet m n bs ps actions kinds rows → ((e : ℕ) → e < length kinds → IsValue (sort_at kinds e) (word w e)) → (e : ℕ) → e < length n.elements → IsValue ((network_of n).value_type e) (word w e)
element_values {n = n} {kinds = kinds} w s va e h =
    let l : length kinds ≡ length n.elements = ap length s.kinds_are ∙ length-map n.elements (λ x. x.value_type) in
    subst (λ (t : ValueType). IsValue t (word w e)) (type_is n e) (subst (λ z. IsValue (sort_at z e) (word w e)) s.kinds_are (va e (omega (arith, h, l))))
