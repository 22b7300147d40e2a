-- The sentences of a well-formed net that a test decides, from the tests.
use Rattle.std.proofs.Common.{ℕ, suc, ◌+◌, ◌-◌, ◌≡◌, ◌==◌, ◌&&◌, ◌||◌, refl, sym, ap, ◌∙◌, Bool, true, false, not, List, [], ◌∷◌, length, Option, Some, None, slice_get, arith}
use Rattle.std.specs.Prelude.{nat_le, nat_lt}
use Rattle.std.specs.List.{list_all, list_any}
use Rattle.std.proofs.lemmas.Bool.{leb-true, ltb-true, le-leb, false≢true}
use Rattle.cdl_source.specs.declared.limits.TheConstants.{LONGEST_UNIT, MOST_ELEMENTS, MOST_INSTANCES, MOST_STEPS, MOST_WIRES}
use Rattle.cdl_network.specs.Rules.{is_empty, is_real, is_some_same}
use Rattle.cdl_connect.specs.declared.net.Net.{Net}
use Rattle.cdl_connect.specs.declared.net.NetInstance.{NetInstance}
use Rattle.cdl_connect.specs.declared.net.RawWire.{RawWire}
use Rattle.cdl_connect.specs.Nets.{element, is_elementary, parent_of}
use Rattle.cdl_connect.specs.WellFormed.{AreByScope, AreComposite, AreNear, AreNumbers, ArePaths, ArePlain, AreUnits, AreWindows, FitsBody, IsPreorder, IsWellFormed, IsWithinLimits, is_near, is_plain, lineage, parent_at}
use Rattle.cxf_graph.proofs.Texts.{is_low, low_utf8}
use Rattle.cdl_net_examples.proofs.Tests.{EachAt, all_at, all_below, at_place, below, each_at}

-- tests
not_true : (b : Bool) → not b ≡ true → b ≡ false
not_true false h = refl
not_true true h = absurd (false≢true h)

either_true : (a b : Bool) → (not a || b) ≡ true → a ≡ true → b ≡ true
either_true true b h e = h
either_true false b h e = absurd (false≢true e)

abbrev alike : Bool → Bool → Bool
alike true b = b
alike false b = not b

alike_same : (a b : Bool) → alike a b ≡ true → a ≡ b
alike_same true b h = sym h
alike_same false b h = sym (not_true b h)

empty_is : (t : List ℕ) → is_empty t ≡ true → t ≡ []
empty_is [] h = refl
empty_is (c ∷ cs) h = absurd (false≢true h)

-- a parent, where there is one, passes
abbrev parent_passes : (ℕ → Bool) → Option ℕ → Bool
parent_passes p None = true
parent_passes p (Some i) = p i

passed : (p : ℕ → Bool) (o : Option ℕ) (i : ℕ) → parent_passes p o ≡ true → o ≡ Some i → p i ≡ true
passed p None i h e = absurd (cc)
passed p (Some j) i h e = let q : j ≡ i = cc in ap p (sym q) ∙ h

parent_is : (p : ℕ → Bool) (ts : List NetInstance) → all_at (λ i t. parent_passes p t.parent) ts ≡ true → (i j : ℕ) → parent_of (slice_get ts i) ≡ Some j → p j ≡ true
parent_is p ts h i j e = go (slice_get ts i) refl e
  where
    go : (o : Option NetInstance) → slice_get ts i ≡ o → parent_of o ≡ Some j → p j ≡ true
    go None s q = absurd (cc)
    go (Some t) s q = passed p t.parent j (at_place (λ k u. parent_passes p u.parent) ts h i t s) q

abbrev elementary_at : Net → ℕ → Bool
elementary_at n i = is_elementary (slice_get n.instances i)

abbrev owner_at : Net → ℕ → ℕ
owner_at n x = (element n x).instance

-- the tests of a net, whose units have no bytes but those of ASCII
pub record Passes (n : Net) : Type 0 where
  pub parents : all_at (λ i t. parent_passes (λ p. nat_lt p (length n.instances)) t.parent) n.instances ≡ true
  pub owners : all_below (length n.elements) (λ x. nat_lt (owner_at n x) (length n.instances)) ≡ true
  pub scopes : all_at (λ k w. nat_lt w.scope (length n.instances)) n.wires ≡ true
  pub lefts : all_at (λ k w. nat_lt w.left (length n.elements)) n.wires ≡ true
  pub rights : all_at (λ k w. nat_lt w.right (length n.elements)) n.wires ≡ true
  pub some : nat_lt 0 (length n.instances) ≡ true
  pub root : parent_at n 0 ≡ None
  pub next : all_below (length n.instances - 1) (λ i. list_any (λ a. is_some_same (λ p q. p == q) a (parent_at n (suc i))) (lineage n i i)) ≡ true
  pub rising : all_below (length n.elements) (λ y. all_below (suc y) (λ x. nat_le (owner_at n x) (owner_at n y))) ≡ true
  pub within : all_at (λ i t. nat_le (t.first + t.count) (length n.elements)) n.instances ≡ true
  pub own : all_at (λ i t. all_below (length n.elements) (λ x. alike (owner_at n x == i) (nat_le t.first x && nat_lt x (t.first + t.count)))) n.instances ≡ true
  pub by_scope : all_at (λ k w. all_at (λ j v. not (nat_le j k) || nat_le v.scope w.scope) n.wires) n.wires ≡ true
  pub near_left : all_at (λ k w. is_near n w.scope w.left) n.wires ≡ true
  pub near_right : all_at (λ k w. is_near n w.scope w.right) n.wires ≡ true
  pub composite_root : elementary_at n 0 ≡ false
  pub composite_parents : all_at (λ i t. parent_passes (λ p. not (elementary_at n p)) t.parent) n.instances ≡ true
  pub composite_scopes : all_at (λ k w. not (elementary_at n w.scope)) n.wires ≡ true
  pub plain : all_below (length n.elements) (λ x. is_plain (element n x).value_type) ≡ true
  pub ascii : all_below (length n.elements) (λ x. list_all is_low (element n x).unit) ≡ true
  pub short : all_below (length n.elements) (λ x. nat_le (length (element n x).unit) LONGEST_UNIT) ≡ true
  pub real : all_below (length n.elements) (λ x. not (not (is_real (element n x).value_type)) || is_empty (element n x).unit) ≡ true
  pub few_instances : nat_le (length n.instances) MOST_INSTANCES ≡ true
  pub few_elements : nat_le (length n.elements) MOST_ELEMENTS ≡ true
  pub few_wires : nat_le (length n.wires) MOST_WIRES ≡ true
  pub few_steps : all_below (length n.instances) (λ i. nat_le (length (lineage n i i)) (MOST_STEPS + 1)) ≡ true

numbers_pass : (n : Net) → Passes n → AreNumbers n
numbers_pass n t = record {
  parent = λ i p e. ltb-true p (length n.instances) (parent_is (λ q. nat_lt q (length n.instances)) n.instances t.parents i p e);
  owner = λ x h. ltb-true (owner_at n x) (length n.instances) (below (length n.elements) (λ y. nat_lt (owner_at n y) (length n.instances)) t.owners x h);
  scope = λ k w s. ltb-true w.scope (length n.instances) (at_place (λ j (v : RawWire). nat_lt v.scope (length n.instances)) n.wires t.scopes k w s);
  left = λ k w s. ltb-true w.left (length n.elements) (at_place (λ j (v : RawWire). nat_lt v.left (length n.elements)) n.wires t.lefts k w s);
  right = λ k w s. ltb-true w.right (length n.elements) (at_place (λ j (v : RawWire). nat_lt v.right (length n.elements)) n.wires t.rights k w s);
}

preorder_pass : (n : Net) → Passes n → IsPreorder n
preorder_pass n t = record {
  some = ltb-true 0 (length n.instances) t.some;
  root = t.root;
  next = λ i h. below (length n.instances - 1) (λ j. list_any (λ a. is_some_same (λ p q. p == q) a (parent_at n (suc j))) (lineage n j j)) t.next i (omega (arith, h));
}

windows_pass : (n : Net) → Passes n → AreWindows n
windows_pass n t = record {
  rising = λ x y l h. leb-true (owner_at n x) (owner_at n y) (below (suc y) (λ z. nat_le (owner_at n z) (owner_at n y)) (below (length n.elements) (λ v. all_below (suc v) (λ z. nat_le (owner_at n z) (owner_at n v))) t.rising y h) x (omega (arith, l)));
  within = λ i u s. leb-true (u.first + u.count) (length n.elements) (at_place (λ j (v : NetInstance). nat_le (v.first + v.count) (length n.elements)) n.instances t.within i u s);
  own = λ i u x s h.
      let p : (j : ℕ) → NetInstance → ℕ → Bool = λ j v y. alike (owner_at n y == j) (nat_le v.first y && nat_lt y (v.first + v.count)) in
      alike_same (owner_at n x == i) (nat_le u.first x && nat_lt x (u.first + u.count)) (below (length n.elements) (p i u) (at_place (λ j v. all_below (length n.elements) (p j v)) n.instances t.own i u s) x h);
}

by_scope_pass : (n : Net) → Passes n → AreByScope n
by_scope_pass n t = record {
  rising = λ j k v w l a b.
      let p : ℕ → RawWire → ℕ → RawWire → Bool = λ k w j v. not (nat_le j k) || nat_le v.scope w.scope in
      leb-true v.scope w.scope (either_true (nat_le j k) (nat_le v.scope w.scope) (at_place (p k w) n.wires (at_place (λ g u. all_at (p g u) n.wires) n.wires t.by_scope k w b) j v a) (le-leb j k l));
}

near_pass : (n : Net) → Passes n → AreNear n
near_pass n t = record {
  left = λ k w s. at_place (λ j (v : RawWire). is_near n v.scope v.left) n.wires t.near_left k w s;
  right = λ k w s. at_place (λ j (v : RawWire). is_near n v.scope v.right) n.wires t.near_right k w s;
}

composite_pass : (n : Net) → Passes n → AreComposite n
composite_pass n t = record {
  root = t.composite_root;
  parent = λ i p e. not_true (elementary_at n p) (parent_is (λ q. not (elementary_at n q)) n.instances t.composite_parents i p e);
  scope = λ k w s. not_true (elementary_at n w.scope) (at_place (λ j (v : RawWire). not (elementary_at n v.scope)) n.wires t.composite_scopes k w s);
}

plain_pass : (n : Net) → Passes n → ArePlain n
plain_pass n t = record { each = below (length n.elements) (λ x. is_plain (element n x).value_type) t.plain }

units_pass : (n : Net) → Passes n → AreUnits n
units_pass n t = record {
  utf8 = λ x h. low_utf8 (element n x).unit (below (length n.elements) (λ y. list_all is_low (element n y).unit) t.ascii x h);
  short = λ x h. leb-true (length (element n x).unit) LONGEST_UNIT (below (length n.elements) (λ y. nat_le (length (element n y).unit) LONGEST_UNIT) t.short x h);
  real = λ x h e. empty_is (element n x).unit (either_true (not (is_real (element n x).value_type)) (is_empty (element n x).unit) (below (length n.elements) (λ y. not (not (is_real (element n y).value_type)) || is_empty (element n y).unit) t.real x h) (ap not e));
}

limits_pass : (n : Net) → Passes n → IsWithinLimits n
limits_pass n t = record {
  instances = leb-true (length n.instances) MOST_INSTANCES t.few_instances;
  elements = leb-true (length n.elements) MOST_ELEMENTS t.few_elements;
  wires = leb-true (length n.wires) MOST_WIRES t.few_wires;
  steps = λ i h. leb-true (length (lineage n i i)) (MOST_STEPS + 1) (below (length n.instances) (λ j. nat_le (length (lineage n j j)) (MOST_STEPS + 1)) t.few_steps i h);
}

-- a net that passes, whose instances are of their kinds and whose texts are paths
pub placed : (n : Net) → Passes n → EachAt (λ i t. FitsBody n t t.body) n.instances → ArePaths n → IsWellFormed n
placed n t k p = record {
  numbers = numbers_pass n t;
  preorder = preorder_pass n t;
  windows = windows_pass n t;
  by_scope = by_scope_pass n t;
  near = near_pass n t;
  composite = composite_pass n t;
  plain = plain_pass n t;
  units = units_pass n t;
  limits = limits_pass n t;
  kinds = record { each = λ i u s. each_at (λ j (v : NetInstance). FitsBody n v v.body) n.instances k i u s };
  paths = p;
}
