-- The lists of a runner, made item by item.
use Rattle.std.proofs.Common.{ℕ, zero, suc, ◌+◌, ◌<◌, ◌≤◌, ◌≡◌, ◌&&◌, refl, sym, ap, ◌∙◌, subst, arith, ℤ, Bool, true, false, cond, not, List, [], ◌∷◌, ◌++◌, filter, length, map, sum, take, get_or, Some, slice_get}
use Rattle.cdl_schedule.proofs.Passing.{numbers_after, filter_after}
use Rattle.cdl_source.proofs.Cases.{by_lt}
use Rattle.std.proofs.Math.Seq.{take-suc}
use Rattle.std.proofs.lemmas.Bool.{false≢true, and_parts, not-true}
use Rattle.std.proofs.lemmas.List.{map-append, length_push, get_or_append_left, get_or_push, get_or_read}
use Rattle.std.specs.Prelude.{◌↔◌, OnOk, Result, Ok, Err}
use Rattle.cdl_values.specs.History.{History}
use Rattle.cdl_values.specs.declared.value.Array.{Array}
use Rattle.cdl_values.specs.declared.value.ValueType.{ValueType}
use Rattle.cdl_kinds.specs.declared.kind.Kind.{Kind}
use Rattle.cdl_kinds.specs.Ports.{inputs, outputs}
use Rattle.cdl_kinds.specs.Meanings.{MayLack, meaning}
use Rattle.cdl_kinds.specs.States.{IsSound, Stands}
use Rattle.cdl_kinds.specs.StateWords.{state_words}
use Rattle.cdl_network.specs.Lists.{In, numbers}
use Rattle.cdl_network.specs.Dependence.{is_of}
use Rattle.cdl_connect.specs.declared.net.Net.{Net}
use Rattle.cdl_connect.specs.declared.net.NetElement.{NetElement}
use Rattle.cdl_connect.specs.declared.net.NetInstance.{NetInstance}
use Rattle.cdl_connect.specs.declared.net.Body.{Body}
use Rattle.cdl_connect.specs.declared.net.Body.TheVariants.{Composite, Elementary}
use Rattle.cdl_connect.specs.Faults.{IsChecked}
use Rattle.cdl_connect.specs.Nets.{element, is_block, is_elementary, network_of, no_element, words_at, words_of}
use Rattle.cdl_connect.specs.WellFormed.{AreOfKinds}
use Rattle.cdl_connect.proofs.Windows.{IsOf, inputs_are, of_kind, outputs_are}
use Rattle.cdl_network.proofs.Inside.{kept_true}
use Rattle.cdl_run.proofs.Laying.{numbers_in}
use Rattle.cdl_pass.specs.declared.net.Node.{Node}
use Rattle.cdl_pass.specs.Net.{Blocks}
use Rattle.cdl_run.specs.Words.{elementary_below, state_place}
use Rattle.cdl_run.specs.inner.Laid.{AreBuilt, AreRanks, IsBlock, IsPlaced, node_of, rank}
use Rattle.cdl_run.proofs.Laying.{sum_split}

pub filter_next : (f : ℕ → Bool) (t : ℕ) → filter f (numbers 0 (t + 1)) ≡ cond (f t) (filter f (numbers 0 t) ++ t ∷ []) (filter f (numbers 0 t))
filter_next f t =
    let q : t + 1 ≡ suc t = omega arith in
    let z : 0 + t ≡ t = omega arith in
    ap (λ m. filter f (numbers 0 m)) q ∙ ap (filter f) (numbers_after 0 t ∙ ap (λ y. numbers 0 t ++ y ∷ []) z) ∙ filter_after f (numbers 0 t) t

below_add : (n : Net) (i : ℕ) → (network_of n).elementary i ≡ true → elementary_below n (i + 1) ≡ elementary_below n i ++ i ∷ []
below_add n i e = filter_next (network_of n).elementary i ∙ ap (λ b. cond b (elementary_below n i ++ i ∷ []) (elementary_below n i)) e

below_skip : (n : Net) (i : ℕ) → (network_of n).elementary i ≡ false → elementary_below n (i + 1) ≡ elementary_below n i
below_skip n i e = filter_next (network_of n).elementary i ∙ ap (λ b. cond b (elementary_below n i ++ i ∷ []) (elementary_below n i)) e

old_slice : {A : Type 0} (xs : List A) (z : A) (j : ℕ) (o : A) → j < length xs → slice_get (xs ++ z ∷ []) j ≡ Some o → slice_get xs j ≡ Some o
old_slice [] z j o h e = absurd (omega (arith, h))
old_slice (x ∷ xs) z zero o h e = e
old_slice (x ∷ xs) z (suc j) o h e = old_slice xs z j o (omega (arith, h)) e

new_slice : {A : Type 0} (xs : List A) (z : A) (j : ℕ) (o : A) → length xs ≤ j → slice_get (xs ++ z ∷ []) j ≡ Some o → (j ≡ length xs) × (z ≡ o)
new_slice [] z zero o h e = (refl, cc)
new_slice [] z (suc j) o h e = absurd (cc)
new_slice (x ∷ xs) z zero o h e = absurd (omega (arith, h))
new_slice (x ∷ xs) z (suc j) o h e = let r = new_slice xs z j o (omega (arith, h)) e in (ap suc r.0, r.1)

-- ranks
ranks_add : (n : Net) (i : ℕ) (ranks : List ℕ) (r : ℕ) → AreRanks n i ranks → r ≡ rank n i → AreRanks n (i + 1) (ranks ++ r ∷ [])
ranks_add n i ranks r a e = record {
  size = let l = length_push ranks r in let s = a.size in omega (arith, l, s);
  each = λ q h. by_lt q i
      (λ l. let s = a.size in get_or_append_left ranks (r ∷ []) 0 q (omega (arith, l, s)) ∙ a.each q l)
      (λ l. let s : q ≡ length ranks = let z = a.size in omega (arith, h, l, z) in let t : i ≡ q = omega (arith, h, l) in ap (λ z. get_or (ranks ++ r ∷ []) z 0) s ∙ get_or_push ranks r 0 (length ranks) refl ∙ e ∙ ap (rank n) t);
}

-- blocks
pub built_start : {B : Type 0} (m : Blocks B) (n : Net) (bs : List B) (ps : List Node) (is ranks : List ℕ) → bs ≡ [] → ps ≡ [] → is ≡ [] → ranks ≡ [] → AreBuilt m n 0 bs ps is ranks
built_start m n bs ps is ranks a b c d = record {
  placed = record { blocks = ap length a; nodes = ap length b; each = λ j q x y h u v. absurd (cc) };
  instances = c;
  numbers = record { size = ap length d; each = λ q h. absurd (omega (arith, h)) };
}

elementary_of : (n : Net) (i : ℕ) (t : NetInstance) (b : Body) → slice_get n.instances i ≡ Some t → t.body ≡ b → (network_of n).elementary i ≡ is_block b
elementary_of n i t b s e = ap is_elementary s ∙ ap is_block e

pub built_skip : {B : Type 0} (m : Blocks B) (n : Net) (i : ℕ) (t : NetInstance) (bs : List B) (ps : List Node) (is ranks ranks2 : List ℕ) (r : ℕ) → slice_get n.instances i ≡ Some t → t.body ≡ Composite → AreBuilt m n i bs ps is ranks → r ≡ length is → ranks2 ≡ ranks ++ r ∷ [] → AreBuilt m n (i + 1) bs ps is ranks2
built_skip m n i t bs ps is ranks ranks2 r s e a q z =
    let g = below_skip n i (elementary_of n i t Composite s e) in
    record {
      placed = record {
        blocks = a.placed.blocks ∙ ap length (sym g);
        nodes = a.placed.nodes ∙ ap length (sym g);
        each = λ j k b p h u v. a.placed.each j k b p (ap (λ l. slice_get l j) (sym g) ∙ h) u v;
      };
      instances = a.instances ∙ sym g;
      numbers = subst (λ l. AreRanks n (i + 1) l) (sym z) (ranks_add n i ranks r a.numbers (q ∙ ap length a.instances));
    }

pub place_skip : (n : Net) (i : ℕ) (t : NetInstance) → slice_get n.instances i ≡ Some t → t.body ≡ Composite → state_place n (i + 1) ≡ state_place n i
place_skip n i t s e = ap (λ l. length n.elements + sum (map (network_of n).state_words l)) (below_skip n i (elementary_of n i t Composite s e))

pub built_add : {B : Type 0} (m : Blocks B) (n : Net) (i : ℕ) (t : NetInstance) (k : Kind) (v : List Array) (b : B) (p : Node) (bs bs2 : List B) (ps ps2 : List Node) (is is2 ranks ranks2 : List ℕ) (r : ℕ) → slice_get n.instances i ≡ Some t → t.body ≡ Elementary k v → IsBlock m b k v → p ≡ node_of n i t k v → AreBuilt m n i bs ps is ranks
    → r ≡ length is → ranks2 ≡ ranks ++ r ∷ [] → bs2 ≡ bs ++ b ∷ [] → ps2 ≡ ps ++ p ∷ [] → is2 ≡ is ++ i ∷ [] → AreBuilt m n (i + 1) bs2 ps2 is2 ranks2
built_add {B} m n i t k v b p bs bs2 ps ps2 is is2 ranks ranks2 r s e block node a q z eb ep ei =
    let g = below_add n i (elementary_of n i t (Elementary k v) s e) in
    record {
      placed = record {
        blocks = ap length eb ∙ count_more bs b a.placed.blocks ∙ ap length (sym g);
        nodes = ap length ep ∙ count_more ps p a.placed.nodes ∙ ap length (sym g);
        each = λ j c x y h u w. each j c x y (ap (λ l. slice_get l j) (sym g) ∙ h) (ap (λ l. slice_get l j) (sym eb) ∙ u) (ap (λ l. slice_get l j) (sym ep) ∙ w);
      };
      instances = ei ∙ ap (λ l. l ++ i ∷ []) a.instances ∙ sym g;
      numbers = subst (λ l. AreRanks n (i + 1) l) (sym z) (ranks_add n i ranks r a.numbers (q ∙ ap length a.instances));
    }
  where
    count_more : {X : Type 0} (xs : List X) (x : X) → length xs ≡ length (elementary_below n i) → length (xs ++ x ∷ []) ≡ length (elementary_below n i ++ i ∷ [])
    count_more xs x h = let l = length_push xs x in let o = length_push (elementary_below n i) i in omega (arith, l, o, h)

    each : (j c : ℕ) (x : B) (y : Node) → slice_get (elementary_below n i ++ i ∷ []) j ≡ Some c → slice_get (bs ++ b ∷ []) j ≡ Some x → slice_get (ps ++ p ∷ []) j ≡ Some y → IsPlaced m n c x y
    each j c x y h u w = by_lt j (length (elementary_below n i))
        (λ l.
        let f = a.placed.blocks in
        let o = a.placed.nodes in
        a.placed.each j c x y (old_slice (elementary_below n i) i j c l h) (old_slice bs b j x (omega (arith, l, f)) u) (old_slice ps p j y (omega (arith, l, o)) w))
        (λ l.
        let f = a.placed.blocks in
        let o = a.placed.nodes in
        let d = new_slice (elementary_below n i) i j c l h in
        let x2 = new_slice bs b j x (omega (arith, l, f)) u in
        let y2 = new_slice ps p j y (omega (arith, l, o)) w in
        subst (λ w2. IsPlaced m n c x w2) y2.1 (subst (λ w2. IsPlaced m n c w2 p) x2.1 (subst (λ w2. IsPlaced m n w2 b p) d.1 (record { t = t; k = k; v = v; there = s; body = e; block = block; node = node }))))

pub place_add : (n : Net) (i : ℕ) (t : NetInstance) (k : Kind) (v : List Array) → slice_get n.instances i ≡ Some t → t.body ≡ Elementary k v → state_place n (i + 1) ≡ state_place n i + state_words k v
place_add n i t k v s e =
    let g = ap (λ l. sum (map (network_of n).state_words l)) (below_add n i (elementary_of n i t (Elementary k v) s e)) ∙ sum_split (network_of n).state_words (elementary_below n i) i [] in
    let w : (network_of n).state_words i ≡ state_words k v = ap words_at s ∙ ap words_of e in
    omega (arith, g, w)

-- the inputs of an instance, and its outputs
input_at : (n : Net) (i : ℕ) (t : NetInstance) (k : Kind) (v : List Array) (x : ℕ) → IsOf n i t k v → t.first ≤ x → x < t.first + (inputs k v).count → (element n x).input ≡ true
input_at n i t k v x o a b =
    let m = subst (λ l. In x l) (sym (inputs_are n i t k v o)) (numbers_in t.first (inputs k v).count x a b) in
    let h = kept_true (λ y. is_of (network_of n) i y && (element n y).input) x (network_of n).elements m in
    (and_parts (is_of (network_of n) i x) (element n x).input h).1

output_at : (n : Net) (i : ℕ) (t : NetInstance) (k : Kind) (v : List Array) (x : ℕ) → IsOf n i t k v → t.first + (inputs k v).count ≤ x → x < t.first + (inputs k v).count + (outputs k v).count → (element n x).input ≡ false
output_at n i t k v x o a b =
    let m = subst (λ l. In x l) (sym (outputs_are n i t k v o)) (numbers_in (t.first + (inputs k v).count) (outputs k v).count x a b) in
    let h = kept_true (λ y. is_of (network_of n) i y && not (element n y).input) x (network_of n).elements m in
    not-true (element n x).input (and_parts (is_of (network_of n) i x) (not (element n x).input) h).1

-- the inputs of an instance of a kind end where the first output stands, or with its elements
pub inputs_end : (n : Net) (i : ℕ) (t : NetInstance) (k : Kind) (v : List Array) (j : ℕ) → IsChecked n → AreOfKinds n → slice_get n.instances i ≡ Some t → t.body ≡ Elementary k v → ((l : ℕ) → l < j → (element n (t.first + l)).input ≡ true) → j ≤ t.count → (j < t.count → (element n (t.first + j)).input ≡ false) → j ≡ (inputs k v).count
inputs_end n i t k v j f w s e before h here =
    let o = of_kind n i t k v f.indexed w s e in
    let c = o.ports.count in
    by_lt j (inputs k v).count
    (λ l. absurd (false≢true (sym (here (omega (arith, l, c))) ∙ input_at n i t k v (t.first + j) o (omega arith) (omega (arith, l)))))
    (λ l. by_lt (inputs k v).count j
    (λ g. absurd (false≢true (sym (output_at n i t k v (t.first + (inputs k v).count) o (omega arith) (omega (arith, g, h, c))) ∙ before (inputs k v).count g)))
    (λ g. omega (arith, l, g)))

-- the rest
pub mapped_next : {X Y : Type 0} (f : X → Y) (xs : List X) (t : ℕ) (d : X) (ys ys2 : List Y) (y : Y) → t < length xs → ys ≡ map f (take t xs) → y ≡ f (get_or xs t d) → ys2 ≡ ys ++ y ∷ [] → ys2 ≡ map f (take (t + 1) xs)
mapped_next f xs t d ys ys2 y h a b e =
    let q : t + 1 ≡ suc t = omega arith in
    let g : take (suc t) xs ≡ take t xs ++ get_or xs t d ∷ [] = take-suc xs t d h in
    e ∙ ap (λ l. l ++ y ∷ []) a ∙ ap (λ z. map f (take t xs) ++ z ∷ []) b ∙ sym (map-append f (take t xs) (get_or xs t d ∷ [])) ∙ ap (map f) (sym g) ∙ ap (λ z. map f (take z xs)) (sym q)

pub kept_next : (f : ℕ → Bool) (t : ℕ) (xs xs2 : List ℕ) → xs ≡ filter f (numbers 0 t) → xs2 ≡ cond (f t) (xs ++ t ∷ []) xs → xs2 ≡ filter f (numbers 0 (t + 1))
kept_next f t xs xs2 a e = e ∙ ap (λ l. cond (f t) (l ++ t ∷ []) l) a ∙ sym (filter_next f t)

pub rows_next : (f : ℕ → Bool) (g : ℕ → ValueType) (t : ℕ) (xs xs2 : List ValueType) → xs ≡ map g (filter f (numbers 0 t)) → xs2 ≡ cond (f t) (xs ++ g t ∷ []) xs → xs2 ≡ map g (filter f (numbers 0 (t + 1)))
rows_next f g t xs xs2 a e = e ∙ ap (λ l. cond (f t) (l ++ g t ∷ []) l) a ∙ by_cases (f t) ∙ ap (map g) (sym (filter_next f t))
  where
    by_cases : (b : Bool) → cond b (map g (filter f (numbers 0 t)) ++ g t ∷ []) (map g (filter f (numbers 0 t))) ≡ map g (cond b (filter f (numbers 0 t) ++ t ∷ []) (filter f (numbers 0 t)))
    by_cases true = sym (map-append g (filter f (numbers 0 t)) (t ∷ []))
    by_cases false = refl

pub block_is : {B : Type 0} (m : Blocks B) (b : B) (k : Kind) (v w : List Array) → v ≡ w → m.inputs b ≡ inputs k v → m.results b ≡ outputs k v → m.width b ≡ state_words k v → m.meaning b ≡ meaning k v → ((state : List ℤ) (h : History) → m.stands b state h ↔ Stands k v state h) → ((state : List ℤ) (last : ℤ) → m.sound b state last ↔ IsSound k v state last) → ((now : ℤ) (x : List ℤ) → m.may_lack b now x → MayLack k v now x) → IsBlock m b k w
block_is m b k v w e i r d f s t l = subst (λ z. IsBlock m b k z) e (record { inputs = i; results = r; width = d; meaning = f; stands = s; sound = t; may_lack = l })

pub element_is : (n : Net) (xs : List NetElement) (x : ℕ) (e : NetElement) → xs ≡ n.elements → x < length n.elements → e ≡ get_or xs x e → element n x ≡ e
element_is n xs x e q h r = sym (get_or_read n.elements x e h (r ∙ ap (λ l. get_or l x e) q) no_element)

pub no_input : (n : Net) (x : ℕ) (e g : NetElement) → element n x ≡ e → e ≡ g → g.input ≡ false → (element n x).input ≡ false
no_input n x e g q r h = ap (λ (y : NetElement). y.input) (q ∙ r) ∙ h

pub ok_of : {A E : Type 0} (r : Result A E) (P : Type 0) → P → OnOk r P
ok_of (Ok x) P p = p
ok_of (Err x) P p = tt
