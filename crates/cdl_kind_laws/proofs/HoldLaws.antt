-- A hold by what it gave before.
use Rattle.std.proofs.Common.{◌≡◌, refl, ◌∙◌, ap, ℤ, List, [], ◌∷◌, Bool, true, false, cond, Option, Some, None}
use Rattle.std.specs.Int.RustNames.{int_le}
use Rattle.cdl_values.specs.History.{History, flag, is_on, word}
use Rattle.cdl_kinds.specs.Meaning.Gates.{just_one}
use Rattle.cdl_kinds.specs.Meaning.Timers.{Held, elapsed, held, held_from, true_false_hold}
use Rattle.cdl_kind_laws.specs.Holds.{Output, flag_of, hold_rule, last_change, outputs, run_start}

-- y of a hold and the time of its last change are those of its outputs
abbrev pub Agrees : Option Held → List Output → Type 0
Agrees None [] = Unit {0}
Agrees None (o ∷ os) = ⊥
Agrees (Some y) [] = ⊥
Agrees (Some y) (o ∷ os) = (o.on ≡ y.on) × (last_change (o ∷ os) ≡ y.changed)

flag_is : (b : Bool) → flag_of (flag b) ≡ b
flag_is true = refl
flag_is false = refl

same : (b : Bool) → just_one b b ≡ false
same true = refl
same false = refl

-- one output more, which is the one before or a new one
stays : (y : Held) (o : Output) (os : List Output) (now : ℤ) → o.on ≡ y.on → last_change (o ∷ os) ≡ y.changed → run_start now y.on (o ∷ os) ≡ y.changed
stays y o os now e f = rw (← e) (rw (same o.on) f)

turns : (o : Output) (os : List Output) (now : ℤ) (b c : Bool) → o.on ≡ c → just_one c b ≡ true → run_start now b (o ∷ os) ≡ now
turns o os now b c e f = rw (e, f) refl

next_agrees : (test u : Bool) (on : Bool) (changed : ℤ) (o : Output) (os : List Output) (now : ℤ) → o.on ≡ on → last_change (o ∷ os) ≡ changed
    → let y : Held = record { on = on; changed = changed } in let z : Held = cond test (cond u (cond on y (record { on = true; changed = now })) (cond on (record { on = false; changed = now }) y)) y in
    (z.on ≡ cond test u on) × (run_start now z.on (o ∷ os) ≡ z.changed)
next_agrees false u on changed o os now e f = (refl, stays (record { on = on; changed = changed }) o os now e f)
next_agrees true true true changed o os now e f = (refl, stays (record { on = true; changed = changed }) o os now e f)
next_agrees true true false changed o os now e f = (refl, turns o os now true false e refl)
next_agrees true false true changed o os now e f = (refl, turns o os now false true e refl)
next_agrees true false false changed o os now e f = (refl, stays (record { on = false; changed = changed }) o os now e f)

from_agrees : (a b : ℤ) (y : Option Held) (os : List Output) (now : ℤ) (u : Bool) → Agrees y os
    → ((held_from a b y now u).on ≡ hold_rule a b os now u) × (run_start now (held_from a b y now u).on os ≡ (held_from a b y now u).changed)
from_agrees a b None [] now u g = (refl, refl)
from_agrees a b None (o ∷ os) now u g = absurd g
from_agrees a b (Some y) [] now u g = absurd g
from_agrees a b (Some y) (o ∷ os) now u g =
    let n = next_agrees (int_le (cond y.on a b) (elapsed y.changed now)) u y.on y.changed o os now g.0 g.1 in
    (n.0 ∙ rw (g.1, g.0) refl, n.1)

held_agrees : (a b : ℤ) (h : History) → Agrees (held a b h) (outputs a b h)
held_agrees a b [] = tt
held_agrees a b (t ∷ h) =
    let f = from_agrees a b (held a b h) (outputs a b h) t.time (is_on (word t.ins 0)) (held_agrees a b h) in
    let e : flag_of (true_false_hold a b h t.time t.ins) ≡ (held_from a b (held a b h) t.time (is_on (word t.ins 0))).on = flag_is _ in
    (e, rw e f.1)

pub hold_is : (a b now : ℤ) (h : History) (x : List ℤ) → true_false_hold a b h now x ≡ flag (hold_rule a b (outputs a b h) now (is_on (word x 0)))
hold_is a b now h x = ap flag (from_agrees a b (held a b h) (outputs a b h) now (is_on (word x 0)) (held_agrees a b h)).0
