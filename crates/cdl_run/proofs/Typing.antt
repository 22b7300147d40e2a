-- Types of elements and of what instances give.
use Rattle.std.proofs.Common.{ℕ, zero, suc, ◌+◌, ◌-◌, ◌<◌, ◌≡◌, inl, inr, refl, sym, ap, ◌∙◌, subst, arith, ℤ, pos, true, false, cond, List, [], ◌∷◌, length, map, Option, Some, None}
use Rattle.std.specs.Prelude.{slice_index_or}
use Rattle.std.proofs.lemmas.Bool.{false≢true, lt-ltb, le-ltb}
use Rattle.cdl_values.specs.History.{IsHistory, IsLater, IsTime, IsValue, AreValues}
use Rattle.cdl_values.specs.declared.value.Array.{Array}
use Rattle.cdl_values.specs.declared.value.ValueType.{ValueType}
use Rattle.cdl_values.specs.declared.value.ValueType.TheVariants.{Boolean, Integer, Real, Str, Enumeration}
use Rattle.cdl_kinds.specs.declared.kind.Kind.{Kind}
use Rattle.cdl_kinds.specs.Meanings.{meaning}
use Rattle.cdl_kinds.specs.Ports.{inputs, outputs, nin_or_nout, port_among}
use Rattle.cdl_kinds.specs.Table.{row}
use Rattle.cdl_kinds.proofs.Listing.{among_is}
use Rattle.cdl_kind_laws.proofs.TypedOutputs.{outputs_typed}
use Rattle.cdl_network.specs.Lists.{numbers}
use Rattle.cdl_network.specs.Dependence.{direct_of, inputs_of}
use Rattle.cdl_network.specs.Ticks.{Seen, answer, history, strict, values, word_of, words}
use Rattle.cdl_connect.specs.declared.net.Net.{Net}
use Rattle.cdl_connect.specs.declared.net.NetElement.{NetElement}
use Rattle.cdl_connect.specs.declared.net.NetInstance.{NetInstance}
use Rattle.cdl_connect.specs.Nets.{element, network_of, no_element}
use Rattle.cdl_connect.specs.WellFormed.{is_plain}
use Rattle.cdl_connect.proofs.Windows.{IsOf, inputs_are, meaning_is}
use Rattle.cdl_pass.specs.Net.{sort_at}
use Rattle.cdl_pass.specs.Tick.{IsTyped, is_none}
use Rattle.cdl_pass.proofs.Ready.{none_no_value, value_some}
use Rattle.cdl_run.specs.inner.Laid.{element_types}
use Rattle.cdl_run.proofs.Values.{none_value, seen_by, some_value, word_at, words_length}

read_map : {X Y : Type 0} (f : X → Y) (xs : List X) (i : ℕ) (d : X) → slice_index_or (map f xs) i (f d) ≡ f (slice_index_or xs i d)
read_map f [] i d = refl
read_map f (x ∷ xs) zero d = refl
read_map f (x ∷ xs) (suc i) d = read_map f xs i d

pub type_is : (n : Net) (e : ℕ) → sort_at (element_types n) e ≡ (element n e).value_type
type_is n e = read_map (λ (x : NetElement). x.value_type) n.elements e no_element

-- ports and elements have the same types
pub input_type : (n : Net) (i : ℕ) (t : NetInstance) (k : Kind) (v : List Array) (j : ℕ) → IsOf n i t k v → j < (inputs k v).count → (element n (t.first + j)).value_type ≡ (inputs k v).value_type j
input_type n i t k v j o h =
    let a = port_among true (row k).direct (nin_or_nout v) (row k).ins j in
    let b = port_among false false (nin_or_nout v) (row k).outs (j - (inputs k v).count) in
    let c = o.ports.count in
    (o.ports.each j (omega (arith, h, c))).value_type ∙ ap (λ z. (cond z a b).value_type) (lt-ltb j (inputs k v).count h) ∙ (among_is a true (row k).direct (nin_or_nout v) (row k).ins j refl h).1

pub output_type : (n : Net) (i : ℕ) (t : NetInstance) (k : Kind) (v : List Array) (j : ℕ) → IsOf n i t k v → j < (outputs k v).count → (element n (t.first + (inputs k v).count + j)).value_type ≡ (outputs k v).value_type j
output_type n i t k v j o h =
    let m : ℕ = (inputs k v).count in
    let q : t.first + (m + j) ≡ t.first + m + j = omega arith in
    let s : m + j - m ≡ j = omega arith in
    let a = port_among true (row k).direct (nin_or_nout v) (row k).ins (m + j) in
    let b = port_among false false (nin_or_nout v) (row k).outs (m + j - m) in
    let c = o.ports.count in
    ap (λ z. (element n z).value_type) (sym q)
    ∙ (o.ports.each (m + j) (omega (arith, h, c))).value_type
    ∙ ap (λ z. (cond z a b).value_type) (le-ltb (m + j) m (omega arith))
    ∙ ap (λ z. (port_among false false (nin_or_nout v) (row k).outs z).value_type) s
    ∙ (among_is (port_among false false (nin_or_nout v) (row k).outs j) false false (nin_or_nout v) (row k).outs j refl h).1

zero_value : (t : ValueType) → is_plain t ≡ true → IsValue t (pos 0)
zero_value Boolean h = inl refl
zero_value Integer h = omega arith
zero_value Real h = omega arith
zero_value Str h = absurd (false≢true h)
zero_value (Enumeration c) h = absurd (false≢true h)

-- the word of an element, with 0 where it has no value, is a value of its type
shown_value : (n : Net) (w : ℕ → ℤ) (e : ℕ) (t : ValueType) → IsTyped (element_types n) w e → (element n e).value_type ≡ t → is_plain (element n e).value_type ≡ true → IsValue t (word_of (seen_by w e))
shown_value n w e t (inl q) a p =
    let s : word_of (seen_by w e) ≡ pos 0 = ap word_of (none_value (w e) (ap is_none q ∙ none_no_value)) in
    subst (λ z. IsValue t z) (sym s) (zero_value t (ap is_plain (sym a) ∙ p))
shown_value n w e t (inr q) a p =
    let s : word_of (seen_by w e) ≡ w e = ap word_of (some_value (w e) (value_some (sort_at (element_types n) e) (w e) q)) in
    subst (λ z. IsValue t z) (sym s) (subst (λ (u : ValueType). IsValue u (w e)) (type_is n e ∙ a) q)

pub inputs_shown : (n : Net) (i : ℕ) (t : NetInstance) (k : Kind) (v : List Array) (w : ℕ → ℤ) → IsOf n i t k v → ((e : ℕ) → e < length n.elements → is_plain (element n e).value_type ≡ true) → ((e : ℕ) → e < length n.elements → IsTyped (element_types n) w e) → AreValues (inputs k v) (words (seen_by w) (numbers t.first (inputs k v).count))
inputs_shown n i t k v w o p ty = record {
  size = words_length (seen_by w) t.first (inputs k v).count;
  each = λ j h.
      let l = o.indexed.windows.within i t o.there in
      let c = o.ports.count in
      let m : t.first + j < length n.elements = omega (arith, l, c, h) in
      subst (λ z. IsValue ((inputs k v).value_type j) z) (sym (word_at (seen_by w) t.first (inputs k v).count j h))
      (shown_value n w (t.first + j) ((inputs k v).value_type j) (ty (t.first + j) m) (input_type n i t k v j o h) (p (t.first + j) m));
}

strict_some : (o m : Option (List ℤ)) (ys : List ℤ) → strict o m ≡ Some ys → m ≡ Some ys
strict_some None m ys e = absurd (cc)
strict_some (Some x) m ys e = e

-- what an instance gives are values of its outputs' types
pub answers_typed : (n : Net) (i : ℕ) (t : NetInstance) (k : Kind) (v : List Array) (past : List (Seen ℕ)) (now : ℤ) (w : ℕ → ℤ) (ys : List ℤ) → IsOf n i t k v → ((e : ℕ) → e < length n.elements → is_plain (element n e).value_type ≡ true) → ((e : ℕ) → e < length n.elements → IsTyped (element_types n) w e)
    → IsHistory (inputs k v) (meaning k v) (history (network_of n) past i) → IsTime now → IsLater now (history (network_of n) past i) → answer (network_of n) past now (seen_by w) i ≡ Some ys → AreValues (outputs k v) ys
answers_typed n i t k v past now w ys o p ty h time later e =
    let a = strict_some (values (seen_by w) (direct_of (network_of n) i)) ((network_of n).meaning i (history (network_of n) past i) now (words (seen_by w) (inputs_of (network_of n) i))) ys e in
    let b : meaning k v (history (network_of n) past i) now (words (seen_by w) (numbers t.first (inputs k v).count)) ≡ Some ys =
    ap (λ l. meaning k v (history (network_of n) past i) now (words (seen_by w) l)) (sym (inputs_are n i t k v o))
    ∙ sym (ap (λ f. f (history (network_of n) past i) now (words (seen_by w) (inputs_of (network_of n) i))) (meaning_is n i t k v o)) ∙ a in
    outputs_typed k v (history (network_of n) past i) now (words (seen_by w) (numbers t.first (inputs k v).count)) ys o.ports.keeps h time later (inputs_shown n i t k v w o p ty) b
