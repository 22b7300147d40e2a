-- Words and valuations: what an instance gives by the words is what it gives in the network.
use Rattle.std.proofs.Common.{ℕ, zero, suc, ◌+◌, ◌<◌, ◌≡◌, ◌&&◌, refl, sym, ap, ◌∙◌, arith, ℤ, true, false, cond, not, List, [], ◌∷◌, length, Option, Some, None}
use Rattle.cdl_source.proofs.Cases.{by_bool}
use Rattle.std.proofs.lemmas.Bool.{false≢true}
use Rattle.cdl_values.specs.History.{History, Meaning, word}
use Rattle.cdl_values.specs.declared.value.Array.{Array}
use Rattle.cdl_kinds.specs.declared.kind.Kind.{Kind}
use Rattle.cdl_kinds.specs.Meanings.{meaning}
use Rattle.cdl_kinds.specs.Ports.{inputs}
use Rattle.cdl_kinds.specs.Table.{row}
use Rattle.cdl_kind_laws.proofs.Direct.{direct_only}
use Rattle.cdl_network.specs.Lists.{has_some, numbers}
use Rattle.cdl_network.specs.Dependence.{direct_of, inputs_of}
use Rattle.cdl_network.specs.Ticks.{Seen, Tick, Valuation, answer, both, history, is_faulty, lacks, strict, values, word_of, words}
use Rattle.cdl_connect.specs.declared.net.Net.{Net}
use Rattle.cdl_connect.specs.declared.net.NetInstance.{NetInstance}
use Rattle.cdl_connect.specs.Nets.{network_of}
use Rattle.cdl_connect.proofs.Windows.{IsOf, direct_are, inputs_are, meaning_is}
use Rattle.cdl_pass.specs.declared.net.Node.{Node}
use Rattle.cdl_pass.specs.Net.{Blocks}
use Rattle.cdl_pass.specs.Tick.{given, has_fault, is_none, lacks as lacks_one, ready, words_from}
use Rattle.cdl_pass.proofs.Ready.{length-words_from, ready_values}
use Rattle.cdl_run.specs.Words.{value_of}

-- the values of the words
abbrev pub seen_by : (ℕ → ℤ) → ℕ → Option ℤ
seen_by w e = value_of (w e)

pub some_value : (z : ℤ) → is_none z ≡ false → value_of z ≡ Some z
some_value z h = ap (λ b. cond {A = Option ℤ} b None (Some z)) h

pub none_value : (z : ℤ) → is_none z ≡ true → value_of z ≡ None
none_value z h = ap (λ b. cond {A = Option ℤ} b None (Some z)) h

-- elements that lie side by side
pub values_ready : (w : ℕ → ℤ) (a n : ℕ) → ready w a n ≡ true → values (seen_by w) (numbers a n) ≡ Some (words_from w a n)
values_ready w a zero h = refl
values_ready w a (suc n) h = by_bool (is_none (w a))
    (λ t. absurd (false≢true (ap (λ b. not b && ready w (a + 1) n) (sym t) ∙ h)))
    (λ f.
    let e : a + 1 ≡ suc a = omega arith in
    let r : ready w (a + 1) n ≡ true = ap (λ b. not b && ready w (a + 1) n) (sym f) ∙ h in
    let s : values (seen_by w) (numbers (suc a) n) ≡ Some (words_from w (a + 1) n) = ap (λ x. values (seen_by w) (numbers x n)) (sym e) ∙ values_ready w (a + 1) n r in
    ap (λ o. both o (values (seen_by w) (numbers (suc a) n))) (some_value (w a) f) ∙ ap (both (Some (w a))) s)

pub values_missing : (w : ℕ → ℤ) (a n : ℕ) → ready w a n ≡ false → values (seen_by w) (numbers a n) ≡ None
values_missing w a zero h = absurd (false≢true (sym h))
values_missing w a (suc n) h = by_bool (is_none (w a))
    (λ t. ap (λ o. both o (values (seen_by w) (numbers (suc a) n))) (none_value (w a) t))
    (λ f.
    let e : a + 1 ≡ suc a = omega arith in
    let r : ready w (a + 1) n ≡ false = ap (λ b. not b && ready w (a + 1) n) (sym f) ∙ h in
    let s : values (seen_by w) (numbers (suc a) n) ≡ None = ap (λ x. values (seen_by w) (numbers x n)) (sym e) ∙ values_missing w (a + 1) n r in
    ap (λ o. both o (values (seen_by w) (numbers (suc a) n))) (some_value (w a) f) ∙ ap (both (Some (w a))) s)

pub words_known : (w : ℕ → ℤ) (a n : ℕ) → ((i : ℕ) → i < n → is_none (w (a + i)) ≡ false) → words (seen_by w) (numbers a n) ≡ words_from w a n
words_known w a zero f = refl
words_known w a (suc n) f =
    let e : a + 1 ≡ suc a = omega arith in
    let z : a + 0 ≡ a = omega arith in
    let h : word_of (seen_by w a) ≡ w a = ap word_of (some_value (w a) (ap (λ x. is_none (w x)) (sym z) ∙ f 0 (omega arith))) in
    let r : words (seen_by w) (numbers (suc a) n) ≡ words_from w (a + 1) n = ap (λ x. words (seen_by w) (numbers x n)) (sym e) ∙ words_known w (a + 1) n (λ i l. let q : a + 1 + i ≡ a + suc i = omega arith in ap (λ x. is_none (w x)) q ∙ f (suc i) (omega (arith, l))) in
    ap (λ x. x ∷ words (seen_by w) (numbers (suc a) n)) h ∙ ap (λ l. w a ∷ l) r

pub words_length : (v : Valuation ℕ) (a n : ℕ) → length (words v (numbers a n)) ≡ n
words_length v a zero = refl
words_length v a (suc n) = ap suc (words_length v (suc a) n)

pub word_at : (v : Valuation ℕ) (a n i : ℕ) → i < n → word (words v (numbers a n)) i ≡ word_of (v (a + i))
word_at v a zero i h = absurd (omega (arith, h))
word_at v a (suc n) zero h = let e : a ≡ a + 0 = omega arith in ap (λ x. word_of (v x)) e
word_at v a (suc n) (suc i) h = let e : suc a + i ≡ a + suc i = omega arith in word_at v (suc a) n i (omega (arith, h)) ∙ ap (λ x. word_of (v x)) e

-- a placed instance, told by equations
pub record Windowed {B : Type 0} (m : Blocks B) (n : Net) (i : ℕ) (t : NetInstance) (k : Kind) (v : List Array) (b : B) (p : Node) : Type 0 where
  pub is : IsOf n i t k v
  pub meaning : m.meaning b ≡ meaning k v
  pub ins : p.ins ≡ t.first
  pub nin : p.nin ≡ (inputs k v).count
  pub reads : p.reads ≡ cond (row k).direct (inputs k v).count 0

-- inputs that aren't direct may have any words
late_same : (k : Kind) (v : List Array) (h : History) (now : ℤ) (x y : List ℤ) → (row k).direct ≡ false → length x ≡ (inputs k v).count → length y ≡ (inputs k v).count → meaning k v h now x ≡ meaning k v h now y
late_same k v h now x y d a b = direct_only k v h now x y (record { size = a ∙ sym b; count = a; each = λ i l e. absurd (false≢true (sym d ∙ e)) })

pub answer_is : {B : Type 0} (m : Blocks B) (n : Net) (i : ℕ) (t : NetInstance) (k : Kind) (v : List Array) (b : B) (p : Node) (past : List (Seen ℕ)) (now : ℤ) (w : ℕ → ℤ) → Windowed m n i t k v b p → answer (network_of n) past now (seen_by w) i ≡ given m b p (history (network_of n) past i) now w
answer_is m n i t k v b p past now w o =
    let h : History = history (network_of n) past i in
    let c : ℕ = (inputs k v).count in
    let xs : List ℤ = words (seen_by w) (numbers t.first c) in
    let ys : List ℤ = words_from w t.first c in
    let left : answer (network_of n) past now (seen_by w) i ≡ strict (values (seen_by w) (cond (row k).direct (numbers t.first c) [])) (meaning k v h now xs) =
    ap (λ l. strict (values (seen_by w) l) ((network_of n).meaning i h now (words (seen_by w) (inputs_of (network_of n) i)))) (direct_are n i t k v o.is)
    ∙ ap (λ l. strict (values (seen_by w) (cond (row k).direct (numbers t.first c) [])) ((network_of n).meaning i h now (words (seen_by w) l))) (inputs_are n i t k v o.is)
    ∙ ap (λ (f : Meaning). strict (values (seen_by w) (cond (row k).direct (numbers t.first c) [])) (f h now xs)) (meaning_is n i t k v o.is) in
    let right : given m b p h now w ≡ cond (ready w t.first (cond (row k).direct c 0)) (meaning k v h now ys) None =
    ap (λ (f : Meaning). cond (ready w p.ins p.reads) (f h now (words_from w p.ins p.nin)) None) o.meaning
    ∙ ap (λ a. cond (ready w a p.reads) (meaning k v h now (words_from w a p.nin)) None) o.ins
    ∙ ap (λ a. cond (ready w t.first a) (meaning k v h now (words_from w t.first p.nin)) None) o.reads
    ∙ ap (λ a. cond (ready w t.first (cond (row k).direct c 0)) (meaning k v h now (words_from w t.first a)) None) o.nin in
    left ∙ by_bool (row k).direct
    (λ d. ap (λ z. strict (values (seen_by w) (cond z (numbers t.first c) [])) (meaning k v h now xs)) d
    ∙ by_bool (ready w t.first c)
    (λ r. ap (λ z. strict z (meaning k v h now xs)) (values_ready w t.first c r)
    ∙ ap (meaning k v h now) (words_known w t.first c (λ j l. ready_values w t.first c j r l))
    ∙ sym (ap (λ z. cond z (meaning k v h now ys) None) r))
    (λ r. ap (λ z. strict z (meaning k v h now xs)) (values_missing w t.first c r) ∙ sym (ap (λ z. cond z (meaning k v h now ys) None) r))
    ∙ sym (ap (λ z. cond (ready w t.first (cond z c 0)) (meaning k v h now ys) None) d))
    (λ d. ap (λ z. strict (values (seen_by w) (cond z (numbers t.first c) [])) (meaning k v h now xs)) d
    ∙ late_same k v h now xs ys d (words_length (seen_by w) t.first c) (length-words_from w t.first c)
    ∙ sym (ap (λ z. cond (ready w t.first (cond z c 0)) (meaning k v h now ys) None) d))
    ∙ sym right

lacks_strict : (o m : Option (List ℤ)) → lacks o m ≡ (has_some o && lacks_one m)
lacks_strict None m = refl
lacks_strict (Some x) None = refl
lacks_strict (Some x) (Some y) = refl

pub fault_is : {B : Type 0} (m : Blocks B) (n : Net) (i : ℕ) (t : NetInstance) (k : Kind) (v : List Array) (b : B) (p : Node) (past : List (Seen ℕ)) (u : Tick) (w : ℕ → ℤ) → Windowed m n i t k v b p → (network_of n).elementary i ≡ true → is_faulty (network_of n) past u (seen_by w) i ≡ has_fault m b p (history (network_of n) past i) u.time w
fault_is m n i t k v b p past u w o el =
    let h : History = history (network_of n) past i in
    let c : ℕ = (inputs k v).count in
    let xs : List ℤ = words (seen_by w) (numbers t.first c) in
    let ys : List ℤ = words_from w t.first c in
    let left : is_faulty (network_of n) past u (seen_by w) i ≡ lacks (values (seen_by w) (cond (row k).direct (numbers t.first c) [])) (meaning k v h u.time xs) =
    ap (λ z. z && lacks (values (seen_by w) (direct_of (network_of n) i)) ((network_of n).meaning i h u.time (words (seen_by w) (inputs_of (network_of n) i)))) el
    ∙ ap (λ l. lacks (values (seen_by w) l) ((network_of n).meaning i h u.time (words (seen_by w) (inputs_of (network_of n) i)))) (direct_are n i t k v o.is)
    ∙ ap (λ l. lacks (values (seen_by w) (cond (row k).direct (numbers t.first c) [])) ((network_of n).meaning i h u.time (words (seen_by w) l))) (inputs_are n i t k v o.is)
    ∙ ap (λ (f : Meaning). lacks (values (seen_by w) (cond (row k).direct (numbers t.first c) [])) (f h u.time xs)) (meaning_is n i t k v o.is) in
    let right : has_fault m b p h u.time w ≡ (ready w t.first (cond (row k).direct c 0) && lacks_one (meaning k v h u.time ys)) =
    ap (λ (f : Meaning). ready w p.ins p.reads && lacks_one (f h u.time (words_from w p.ins p.nin))) o.meaning
    ∙ ap (λ a. ready w a p.reads && lacks_one (meaning k v h u.time (words_from w a p.nin))) o.ins
    ∙ ap (λ a. ready w t.first a && lacks_one (meaning k v h u.time (words_from w t.first p.nin))) o.reads
    ∙ ap (λ a. ready w t.first (cond (row k).direct c 0) && lacks_one (meaning k v h u.time (words_from w t.first a))) o.nin in
    left ∙ lacks_strict (values (seen_by w) (cond (row k).direct (numbers t.first c) [])) (meaning k v h u.time xs)
    ∙ by_bool (row k).direct
    (λ d. ap (λ z. has_some (values (seen_by w) (cond z (numbers t.first c) [])) && lacks_one (meaning k v h u.time xs)) d
    ∙ by_bool (ready w t.first c)
    (λ r. ap (λ z. has_some z && lacks_one (meaning k v h u.time xs)) (values_ready w t.first c r)
    ∙ ap (λ z. lacks_one (meaning k v h u.time z)) (words_known w t.first c (λ j l. ready_values w t.first c j r l))
    ∙ sym (ap (λ z. z && lacks_one (meaning k v h u.time ys)) r))
    (λ r. ap (λ z. has_some z && lacks_one (meaning k v h u.time xs)) (values_missing w t.first c r) ∙ sym (ap (λ z. z && lacks_one (meaning k v h u.time ys)) r))
    ∙ sym (ap (λ z. ready w t.first (cond z c 0) && lacks_one (meaning k v h u.time ys)) d))
    (λ d. ap (λ z. has_some (values (seen_by w) (cond z (numbers t.first c) [])) && lacks_one (meaning k v h u.time xs)) d
    ∙ ap lacks_one (late_same k v h u.time xs ys d (words_length (seen_by w) t.first c) (length-words_from w t.first c))
    ∙ sym (ap (λ z. ready w t.first (cond z c 0) && lacks_one (meaning k v h u.time ys)) d))
    ∙ sym right
