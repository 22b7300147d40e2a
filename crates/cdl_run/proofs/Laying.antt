-- A runner's lists are laid out, and its steps are a plan.
use Rattle.std.proofs.Common.{ℕ, zero, suc, ◌+◌, ◌<◌, ◌≤◌, ◌≡◌, ◌||◌, inl, inr, refl, sym, ap, ◌∙◌, subst, arith, Bool, true, false, cond, List, [], ◌∷◌, ◌++◌, length, map, sum, Option, Some, None, slice_get}
use Rattle.std.specs.List.{fold}
use Rattle.std.specs.Prelude.{nat_lt, slice_index_or}
use Rattle.std.proofs.lemmas.Bool.{false≢true, eqb-true, lt-ltb, le-ltb}
use Rattle.std.proofs.lemmas.Option.{slice_get_within}
use Rattle.std.proofs.lemmas.List.{length-map}
use Rattle.cdl_source.specs.declared.rules.TheConstants.{TWO_SOURCES_OR_SINKS, TYPES_DIFFER, UNITS_DIFFER}
use Rattle.cdl_source.proofs.Cases.{by_lt, by_bool}
use Rattle.cdl_values.specs.History.{Signature}
use Rattle.cdl_values.specs.declared.value.ValueType.{ValueType}
use Rattle.cdl_values.specs.declared.value.ValueType.TheVariants.{Boolean, Integer, Real, Str, Enumeration}
use Rattle.cdl_kinds.specs.Ports.{inputs, outputs}
use Rattle.cdl_kinds.specs.StateWords.{state_words}
use Rattle.cdl_kinds.specs.Table.{row}
use Rattle.cdl_network.specs.Lists.{In, numbers}
use Rattle.cdl_network.specs.Network.{Wire}
use Rattle.cdl_network.specs.Dependence.{Row, From, HasOrigin, root_inputs}
use Rattle.cdl_network.specs.Rules.{goes, same_type, units_differ, wire_fault}
use Rattle.cdl_network.proofs.Checking.{none_of}
use Rattle.cdl_network.proofs.Places.{in_numbers}
use Rattle.cdl_connect.specs.declared.net.Net.{Net}
use Rattle.cdl_connect.specs.declared.net.NetElement.{NetElement}
use Rattle.cdl_connect.specs.Nets.{element, network_of, words_at, words_of}
use Rattle.cdl_connect.proofs.Networks.{none_first}
use Rattle.cdl_connect.proofs.Windows.{direct_are, outputs_are}
use Rattle.cdl_pass.specs.declared.net.Action.{Action}
use Rattle.cdl_pass.specs.declared.net.Node.{Node}
use Rattle.cdl_pass.specs.Net.{Blocks, Fits, Laid, Names, Planned, net_of, sort_at}
use Rattle.cdl_pass.specs.Net as pass
use Rattle.cdl_pass.proofs.Passing.{there, one_there}
use Rattle.cdl_schedule.specs.declared.steps.Step.{Step}
use Rattle.cdl_schedule.specs.declared.steps.Step.TheVariants.{Input, Copy, Emit}
use Rattle.cdl_schedule.specs.Passes.{IsStep, Reads, Writes}
use Rattle.cdl_schedule.proofs.Loops.{has_inside, reads_are, some_at}
use Rattle.cdl_run.specs.Words.{elementary_below, state_place}
use Rattle.cdl_run.specs.inner.Laid.{IsPlaced, action_of, element_types, node_of, rank, row_types}
use Rattle.cdl_run.specs.inner.Setting.{IsSet}
use Rattle.cdl_run.proofs.Meeting.{is_of, mapped, seat}
use Rattle.cdl_run.proofs.Ranks.{of_rank, rank_rises, split_at}
use Rattle.cdl_run.proofs.Running.{instance_of}
use Rattle.cdl_run.proofs.Typing.{input_type, output_type, type_is}

-- states lie one behind the other
sum_from : (a : ℕ) (xs : List ℕ) → fold ◌+◌ a xs ≡ a + sum xs
sum_from a [] = omega arith
sum_from a (x ∷ xs) =
    let p = sum_from (a + x) xs in
    let q = sum_from (0 + x) xs in
    omega (arith, p, q)

pub sum_split : (f : ℕ → ℕ) (xs : List ℕ) (y : ℕ) (ys : List ℕ) → sum (map f (xs ++ y ∷ ys)) ≡ sum (map f xs) + (f y + sum (map f ys))
sum_split f [] y ys = let p = sum_from (0 + f y) (map f ys) in omega (arith, p)
sum_split f (x ∷ xs) y ys =
    let r = sum_split f xs y ys in
    let p = sum_from (0 + f x) (map f (xs ++ y ∷ ys)) in
    let q = sum_from (0 + f x) (map f xs) in
    omega (arith, p, q, r)

pub place_rises : (n : Net) (i top : ℕ) → (network_of n).elementary i ≡ true → i < top → state_place n i + (network_of n).state_words i ≤ state_place n top
place_rises n i top e h =
    let s = split_at n i top e h in
    let q = ap (λ l. sum (map (network_of n).state_words l)) s.1 ∙ sum_split (network_of n).state_words (elementary_below n i) i s.0 in
    omega (arith, q)

pub types_length : (n : Net) → length (element_types n) ≡ length n.elements
types_length n = map_length (λ (e : NetElement). e.value_type) n.elements
  where
    map_length : {X Y : Type 0} (f : X → Y) (xs : List X) → length (map f xs) ≡ length xs
    map_length f [] = refl
    map_length f (x ∷ xs) = ap suc (map_length f xs)

few_reads : (d : Bool) (c : ℕ) → cond d c 0 ≤ c
few_reads true c = omega arith
few_reads false c = omega arith

reads_direct : (d : Bool) (c j : ℕ) → j < c → d ≡ nat_lt j (cond d c 0)
reads_direct true c j h = sym (lt-ltb j c h)
reads_direct false c j h = sym (le-ltb j 0 (omega arith))

-- the windows of a block
fits_node : {B : Type 0} {m : Blocks B} {n : Net} {bs : List B} {ps : List Node} {actions : List Action} {kinds rows : List ValueType} {i : ℕ} {b : B} {p : Node} → IsSet m n bs ps actions kinds rows → (q : IsPlaced m n i b p) → (network_of n).elementary i ≡ true → Fits m (element_types n) (state_place n (length n.instances)) b (node_of n i q.t q.k q.v)
fits_node {m = m} {n} {i = i} {b} s q el =
    let o = is_of s q in
    let l = o.indexed.windows.within i q.t o.there in
    let c = o.ports.count in
    let e = types_length n in
    let r = place_rises n i (length n.instances) el (some_at n i el) in
    let w : (network_of n).state_words i ≡ state_words q.k q.v = ap words_at q.there ∙ ap words_of q.body in
    record {
      lies = record { earlier = omega arith; elements = omega (arith, l, c); states = omega (arith, r, w) };
      elements = omega (arith, l, c, e);
      state = omega (arith, e);
      width = sym q.block.width;
      nin = ap (λ (z : Signature). z.count) (sym q.block.inputs);
      nout = ap (λ (z : Signature). z.count) (sym q.block.results);
      reads = few_reads (row q.k).direct (inputs q.k q.v).count;
      direct = λ j h. ap (λ (z : Signature). z.direct j) q.block.inputs ∙ reads_direct (row q.k).direct (inputs q.k q.v).count j h;
      ins_typed = λ j h. ap (λ (z : Signature). z.value_type j) q.block.inputs ∙ sym (input_type n i q.t q.k q.v j o h) ∙ sym (type_is n (q.t.first + j));
      outs_typed = λ j h. ap (λ (z : Signature). z.value_type j) q.block.results ∙ sym (output_type n i q.t q.k q.v j o h) ∙ sym (type_is n (q.t.first + (inputs q.k q.v).count + j));
    }

-- a wire joins like types
same_types : (a b : ValueType) → same_type a b ≡ true → a ≡ b
same_types Boolean Boolean e = refl
same_types Boolean Integer e = absurd (false≢true e)
same_types Boolean Real e = absurd (false≢true e)
same_types Boolean Str e = absurd (false≢true e)
same_types Boolean (Enumeration d) e = absurd (false≢true e)
same_types Integer Boolean e = absurd (false≢true e)
same_types Integer Integer e = refl
same_types Integer Real e = absurd (false≢true e)
same_types Integer Str e = absurd (false≢true e)
same_types Integer (Enumeration d) e = absurd (false≢true e)
same_types Real Boolean e = absurd (false≢true e)
same_types Real Integer e = absurd (false≢true e)
same_types Real Real e = refl
same_types Real Str e = absurd (false≢true e)
same_types Real (Enumeration d) e = absurd (false≢true e)
same_types Str Boolean e = absurd (false≢true e)
same_types Str Integer e = absurd (false≢true e)
same_types Str Real e = absurd (false≢true e)
same_types Str Str e = refl
same_types Str (Enumeration d) e = absurd (false≢true e)
same_types (Enumeration c) Boolean e = absurd (false≢true e)
same_types (Enumeration c) Integer e = absurd (false≢true e)
same_types (Enumeration c) Real e = absurd (false≢true e)
same_types (Enumeration c) Str e = absurd (false≢true e)
same_types (Enumeration c) (Enumeration d) e = ap Enumeration (eqb-true c d e)

some_none : {A : Type 0} (x : A) → Some x ≡ None → ⊥
some_none x e = absurd (cc)

fine_types : (t f u : Bool) → cond {A = Option ℕ} t (cond {A = Option ℕ} f (cond {A = Option ℕ} u (Some UNITS_DIFFER) None) (Some TYPES_DIFFER)) (Some TWO_SOURCES_OR_SINKS) ≡ None → f ≡ true
fine_types true true u e = refl
fine_types true false u e = absurd (some_none TYPES_DIFFER e)
fine_types false f u e = absurd (some_none TWO_SOURCES_OR_SINKS e)

copy_types : {B : Type 0} {m : Blocks B} {n : Net} {bs : List B} {ps : List Node} {actions : List Action} {kinds rows : List ValueType} (s : IsSet m n bs ps actions kinds rows) (x y : ℕ) → HasOrigin (network_of n) y (From x) → (element n x).value_type ≡ (element n y).value_type
copy_types {n = n} s x y h =
    let w : Wire ℕ ℕ = h.0 in
    let f = none_of (wire_fault (network_of n)) w (network_of n).wires (none_first n s.checked.unbroken).0 h.1 in
    let t = fine_types (goes (network_of n) w.scope w.left w.right || goes (network_of n) w.scope w.right w.left) (same_type (element n w.left).value_type (element n w.right).value_type) (units_differ (network_of n) w.left w.right) f in
    let e = same_types (element n w.left).value_type (element n w.right).value_type t in
    by_bool (goes (network_of n) w.scope w.left w.right)
    (λ g.
    let a : w.left ≡ x = sym (ap (λ b. cond b w.left w.right) g) ∙ h.2 in
    let c : w.right ≡ y = sym (ap (λ b. cond b w.right w.left) g) ∙ h.3 in
    ap (λ z. (element n z).value_type) (sym a) ∙ e ∙ ap (λ z. (element n z).value_type) c)
    (λ g.
    let a : w.right ≡ x = sym (ap (λ b. cond b w.left w.right) g) ∙ h.2 in
    let c : w.left ≡ y = sym (ap (λ b. cond b w.right w.left) g) ∙ h.3 in
    ap (λ z. (element n z).value_type) (sym a) ∙ sym e ∙ ap (λ z. (element n z).value_type) c)

-- steps and actions
pub unmapped : {X Y : Type 0} (f : X → Y) (xs : List X) (j : ℕ) (y : Y) → slice_get (map f xs) j ≡ Some y → (x : X) × (slice_get xs j ≡ Some x) × (f x ≡ y)
unmapped f [] j y e = absurd (cc)
unmapped f (x ∷ xs) zero y e = (x, refl, cc)
unmapped f (x ∷ xs) (suc j) y e = unmapped f xs j y e

pub read_mapped : {X Y : Type 0} (f : X → Y) (xs : List X) (k : ℕ) (x : X) (d : Y) → slice_get xs k ≡ Some x → slice_index_or (map f xs) k d ≡ f x
read_mapped f [] k x d e = absurd (cc)
read_mapped f (y ∷ xs) zero x d e = let q : y ≡ x = cc in ap f q
read_mapped f (y ∷ xs) (suc k) x d e = read_mapped f xs k x d e

pub step_at : {B : Type 0} {m : Blocks B} {n : Net} {bs : List B} {ps : List Node} {actions : List Action} {kinds rows : List ValueType} (s : IsSet m n bs ps actions kinds rows) (j : ℕ) (a : Action) → slice_get actions j ≡ Some a → (o : Step) × (slice_get s.steps j ≡ Some o) × (action_of n o ≡ a)
step_at {n = n} s j a e = unmapped (action_of n) s.steps j a (ap (λ l. slice_get l j) (sym s.actions_are) ∙ e)

action_at : {B : Type 0} {m : Blocks B} {n : Net} {bs : List B} {ps : List Node} {actions : List Action} {kinds rows : List ValueType} (s : IsSet m n bs ps actions kinds rows) (j : ℕ) (o : Step) → slice_get s.steps j ≡ Some o → slice_get actions j ≡ Some (action_of n o)
action_at {n = n} s j o e = ap (λ l. slice_get l j) s.actions_are ∙ mapped (action_of n) s.steps j o e

named : {B : Type 0} {m : Blocks B} {n : Net} {bs : List B} {ps : List Node} {actions : List Action} {kinds rows : List ValueType} → IsSet m n bs ps actions kinds rows → (o : Step) → IsStep n o → Names (net_of bs ps actions (element_types n) (row_types n)) (action_of n o)
named {n = n} s (Input k x) h =
    let a = has_inside n x (Row k) s.checked h in
    let e = types_length n in
    let l = slice_get_within (root_inputs (network_of n)) k x h in
    let r = length-map (root_inputs (network_of n)) (network_of n).value_type in
    (omega (arith, l, r), omega (arith, a, e), read_mapped (network_of n).value_type (root_inputs (network_of n)) k x Boolean h ∙ sym (type_is n x))
named {n = n} s (Copy y x) h =
    let a = has_inside n x (From y) s.checked h in
    let b = reads_are n x (From y) y s.checked h refl in
    let e = types_length n in
    (omega (arith, b, e), omega (arith, a, e), type_is n y ∙ copy_types s y x h ∙ sym (type_is n x))
named {n = n} {ps = ps} s (Emit i) h = let z = seat s i h.1 in slice_get_within ps (rank n i) z.p z.node_is

pub laid : {B : Type 0} {m : Blocks B} {n : Net} {bs : List B} {ps : List Node} {actions : List Action} {kinds rows : List ValueType} → IsSet m n bs ps actions kinds rows → Laid m (net_of bs ps actions (element_types n) (row_types n)) (state_place n (length n.instances))
laid {m = m} {n} {bs} {ps} {actions} s = record {
  same = s.placed.blocks ∙ sym s.placed.nodes;
  each = λ j b p hb hp.
      let i = instance_of s j b p hb hp in
      let el = (of_rank n j i.0 (length n.instances) i.1).0 in
      subst (λ (z : Node). Fits m (element_types n) (state_place n (length n.instances)) b z) (sym i.2.node) (fits_node s i.2 el);
  states = λ j k p q h hp hq. apart j k p q h hp hq;
  actions = λ j a e. let o = step_at s j a e in subst (λ z. Names (net_of bs ps actions (element_types n) (row_types n)) z) o.2 (named s o.0 (s.pass.named j o.0 o.1));
  elements = let e = types_length n in omega (arith, e);
}
  where
    block_of : (j : ℕ) (p : Node) → slice_get ps j ≡ Some p → (i : ℕ) × (slice_get (elementary_below n (length n.instances)) j ≡ Some i) × (p.state ≡ state_place n i) × (p.width ≡ (network_of n).state_words i)
    block_of j p hp =
        let l = slice_get_within ps j p hp in
        let f = s.placed.blocks in
        let g = s.placed.nodes in
        let b = there bs j (omega (arith, l, f, g)) in
        let i = instance_of s j b.0 p b.1 hp in
        let w : (network_of n).state_words i.0 ≡ state_words i.2.k i.2.v = ap words_at i.2.there ∙ ap words_of i.2.body in
        (i.0, i.1, ap (λ (z : Node). z.state) i.2.node, ap (λ (z : Node). z.width) i.2.node ∙ sym w)

    apart : (j k : ℕ) (p q : Node) → j < k → slice_get ps j ≡ Some p → slice_get ps k ≡ Some q → p.state + p.width ≤ q.state
    apart j k p q h hp hq =
        let a = block_of j p hp in
        let b = block_of k q hq in
        let x = of_rank n j a.0 (length n.instances) a.1 in
        let y = of_rank n k b.0 (length n.instances) b.1 in
        let order : a.0 < b.0 = by_lt a.0 b.0 (λ z. z) (λ z. by_lt b.0 a.0
        (λ u. let r = rank_rises n b.0 a.0 y.0 u in let c = x.2 in let d = y.2 in absurd (omega (arith, r, c, d, h)))
        (λ u. let e : a.0 ≡ b.0 = omega arith in let c : j ≡ k = sym x.2 ∙ ap (rank n) e ∙ y.2 in absurd (omega (arith, h, c)))) in
        let r = place_rises n a.0 b.0 x.0 order in
        let c = a.2 in
        let d = a.3 in
        let e = b.2 in
        omega (arith, r, c, d, e)

-- what actions write and read
pub numbers_in : (a n e : ℕ) → a ≤ e → e < a + n → In e (numbers a n)
numbers_in a zero e h l = absurd (omega (arith, h, l))
numbers_in a (suc n) e h l = by_lt a e (λ z. inr (numbers_in (suc a) n e (omega (arith, z)) (omega (arith, l)))) (λ z. inl (omega (arith, h, z)))

writes_to : {B : Type 0} {m : Blocks B} {n : Net} {bs : List B} {ps : List Node} {actions : List Action} {kinds rows : List ValueType} (s : IsSet m n bs ps actions kinds rows) (o : Step) (e : ℕ) → IsStep n o → Writes n o e → pass.Writes ps (action_of n o) e
writes_to s (Input k x) e h w = w
writes_to s (Copy y x) e h w = w
writes_to {n = n} s (Emit i) e h w =
    let z = seat s i h.1 in
    let q = z.placed in
    let x = in_numbers (q.t.first + (inputs q.k q.v).count) (outputs q.k q.v).count e (subst (λ l. In e l) (outputs_are n i q.t q.k q.v (is_of s q)) w) in
    let a : z.p.outs ≡ q.t.first + (inputs q.k q.v).count = ap (λ (y : Node). y.outs) q.node in
    let b : z.p.nout ≡ (outputs q.k q.v).count = ap (λ (y : Node). y.nout) q.node in
    let c = x.0 in
    let d = x.1 in
    (z.p, z.node_is, omega (arith, a, c), omega (arith, a, b, d))

writes_from : {B : Type 0} {m : Blocks B} {n : Net} {bs : List B} {ps : List Node} {actions : List Action} {kinds rows : List ValueType} (s : IsSet m n bs ps actions kinds rows) (o : Step) (e : ℕ) → IsStep n o → pass.Writes ps (action_of n o) e → Writes n o e
writes_from s (Input k x) e h w = w
writes_from s (Copy y x) e h w = w
writes_from {n = n} {ps = ps} s (Emit i) e h w =
    let z = seat s i h.1 in
    let q = z.placed in
    let same : w.0 ≡ z.p = one_there ps (rank n i) w.0 z.p w.1 z.node_is in
    let a : w.0.outs ≡ q.t.first + (inputs q.k q.v).count = ap (λ (y : Node). y.outs) (same ∙ q.node) in
    let b : w.0.nout ≡ (outputs q.k q.v).count = ap (λ (y : Node). y.nout) (same ∙ q.node) in
    let c = w.2 in
    let d = w.3 in
    subst (λ l. In e l) (sym (outputs_are n i q.t q.k q.v (is_of s q))) (numbers_in (q.t.first + (inputs q.k q.v).count) (outputs q.k q.v).count e (omega (arith, a, c)) (omega (arith, a, b, d)))

direct_in : (d : Bool) (a c e : ℕ) → a ≤ e → e < a + cond d c 0 → In e (cond d (numbers a c) [])
direct_in true a c e h l = numbers_in a c e h l
direct_in false a c e h l = absurd (omega (arith, h, l))

reads_from : {B : Type 0} {m : Blocks B} {n : Net} {bs : List B} {ps : List Node} {actions : List Action} {kinds rows : List ValueType} (s : IsSet m n bs ps actions kinds rows) (o : Step) (e : ℕ) → IsStep n o → pass.Reads ps (action_of n o) e → Reads n o e
reads_from s (Input k x) e h w = w
reads_from s (Copy y x) e h w = w
reads_from {n = n} {ps = ps} s (Emit i) e h w =
    let z = seat s i h.1 in
    let q = z.placed in
    let same : w.0 ≡ z.p = one_there ps (rank n i) w.0 z.p w.1 z.node_is in
    let a : w.0.ins ≡ q.t.first = ap (λ (y : Node). y.ins) (same ∙ q.node) in
    let b : w.0.reads ≡ cond (row q.k).direct (inputs q.k q.v).count 0 = ap (λ (y : Node). y.reads) (same ∙ q.node) in
    let c = w.2 in
    let d = w.3 in
    subst (λ l. In e l) (sym (direct_are n i q.t q.k q.v (is_of s q))) (direct_in (row q.k).direct q.t.first (inputs q.k q.v).count e (omega (arith, a, c)) (omega (arith, a, b, d)))

pub planned : {B : Type 0} {m : Blocks B} {n : Net} {bs : List B} {ps : List Node} {actions : List Action} {kinds rows : List ValueType} → IsSet m n bs ps actions kinds rows → Planned (net_of bs ps actions (element_types n) (row_types n))
planned {n = n} {bs} {ps} {actions} s = record {
  each = λ e h.
      let l = types_length n in
      let r = s.pass.each e (omega (arith, h, l)) in
      (r.0, action_of n r.1, action_at s r.0 r.1 r.2, writes_to s r.1 e (s.pass.named r.0 r.1 r.2) r.3);
  once = λ i j a b e h x y w u.
      let p = step_at s i a x in
      let q = step_at s j b y in
      s.pass.once i j e p.0 q.0 h p.1 q.1
      (writes_from s p.0 e (s.pass.named i p.0 p.1) (subst (λ z. pass.Writes ps z e) (sym p.2) w))
      (writes_from s q.0 e (s.pass.named j q.0 q.1) (subst (λ z. pass.Writes ps z e) (sym q.2) u));
  after = λ j a e x w.
      let p = step_at s j a x in
      let r = s.pass.after j e p.0 p.1 (reads_from s p.0 e (s.pass.named j p.0 p.1) (subst (λ z. pass.Reads ps z e) (sym p.2) w)) in
      (r.0, action_of n r.1, r.2, action_at s r.0 r.1 r.3, writes_to s r.1 e (s.pass.named r.0 r.1 r.3) r.4);
  all = λ j h.
      let f = s.placed.blocks in
      let g = s.placed.nodes in
      let i = there (elementary_below n (length n.instances)) j (omega (arith, h, g)) in
      let o = of_rank n j i.0 (length n.instances) i.1 in
      let r = s.pass.all i.0 o.0 in
      (r.0, action_at s r.0 (Emit i.0) r.1 ∙ ap (λ z. Some (Action.Emit z)) o.2);
}
