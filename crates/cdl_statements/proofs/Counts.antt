-- The machine counts what the events bring.
use Rattle.std.proofs.Common.{◌≡◌, ◌<◌, ℕ, ◌+◌, List, [], ◌∷◌, ◌++◌, map, length, refl, sym, ap, ◌∙◌, arith, append_assoc, Result, Ok, Err, Bool, true, false, cond, Option, Some}
use Rattle.std.specs.Prelude.{nat_le}
use Rattle.std.proofs.lemmas.Bool.Decides.{nat_tests}
use Rattle.std.proofs.lemmas.List.{append-nil, map-append, length-map}
use Rattle.cdl_source.specs.declared.limits.TheConstants.{MOST_TURNS, MOST_WIRES}
use Rattle.cdl_source.specs.declared.rules.TheConstants.{TOO_MANY_TURNS, TOO_MANY_WIRES}
use Rattle.cdl_stations.specs.Keys.{Key}
use Rattle.cdl_stations.specs.Runs.{on_ok, goes, Went, StopsAt}
use Rattle.cdl_stations.specs.FirstBroken.{Agrees}
use Rattle.cdl_stations.proofs.FromRuns.{none_of_went, first_of_stops}
use Rattle.cdl_connect.specs.declared.net.RawWire.{RawWire}
use Rattle.cdl_statements.specs.declared.fault.StatementFault.{StatementFault}
use Rattle.cdl_statements.specs.declared.fault.StatementFault.TheVariants as fault
use Rattle.cdl_statements.specs.declared.net.Net.{Net}
use Rattle.cdl_statements.specs.Directory.{Directory, NamedWire}
use Rattle.cdl_statements.specs.Events.{Event, Fails, Skips, Turns, Wires, Made, nothing, with_turns, with_wires, step, turns_in, wires_in, turns_of, wires_of, Bad}
use Rattle.cdl_statements.specs.Judges.{Judges, StandForAll}
use Rattle.cdl_statements.specs.Places.{Fault}
use Rattle.cdl_statements.specs.inner.Seen.{made, tells}

ok_case : (b : Bool) (k n : Made) (f : Fault) → cond b (Ok k) (Err f) ≡ Ok n → k ≡ n
ok_case true k n f h = cc
ok_case false k n f h = cc

err_case : (b : Bool) (k : Made) (f g : Fault) → cond b (Ok k) (Err f) ≡ Err g → (b ≡ false) × (g ≡ f)
err_case true k f g h = cc
err_case false k f g h = (refl, cc)

err_chosen : (b : Bool) (k : Made) (f g : Fault) → b ≡ false → g ≡ f → cond b (Ok k) (Err f) ≡ Err g
err_chosen b k f g e h = rw (e, h) refl

past : (a b : ℕ) → nat_le a b ≡ false → b < a
past a b h = grind (arith, nat_tests, h)

is_past : (a b : ℕ) → b < a → nat_le a b ≡ false
is_past a b h = grind (arith, nat_tests, h)

still : (m n : Made) → m ≡ n → (n.turns ≡ m.turns + 0) × (n.wires ≡ m.wires ++ [])
still m n e = (ap (λ (z : Made). z.turns) (sym e) ∙ omega arith, ap (λ (z : Made). z.wires) (sym e) ∙ sym (append-nil m.wires))

-- a step that goes adds what the event brings
one_step : (m n : Made) (e : Event) → step m e ≡ Ok n → (n.turns ≡ m.turns + turns_in e) × (n.wires ≡ m.wires ++ map Some (wires_in e))
one_step m n (Fails at r) h = cc
one_step m n Skips h = still m n cc
one_step m n (Turns at k) h = let e = ok_case (nat_le (m.turns + k) MOST_TURNS) (with_turns m k) n (at, TOO_MANY_TURNS) h in
    (sym (ap (λ (z : Made). z.turns) e), sym (ap (λ (z : Made). z.wires) e) ∙ sym (append-nil m.wires))
one_step m n (Wires at ws) h = let e = ok_case (nat_le (length m.wires + length ws) MOST_WIRES) (with_wires m ws) n (at, TOO_MANY_WIRES) h in
    (sym (ap (λ (z : Made). z.turns) e) ∙ omega arith, sym (ap (λ (z : Made). z.wires) e))

more_steps : (m n : Made) (x : Key × Event) (xs : List (Key × Event)) (r : Result Made Fault) → step m x.1 ≡ r
    → ((k : Made) → goes step k xs ≡ Ok n → (n.turns ≡ k.turns + turns_of xs) × (n.wires ≡ k.wires ++ map Some (wires_of xs)))
    → on_ok r (λ k. goes step k xs) ≡ Ok n → (n.turns ≡ m.turns + (turns_in x.1 + turns_of xs)) × (n.wires ≡ m.wires ++ map Some (wires_in x.1 ++ wires_of xs))
more_steps m n x xs (Ok k) e f h = let one = one_step m k x.1 e in let rest = f k h in (
  omega (arith, one.0, rest.0),
  rest.1 ∙ ap (λ (ws : List (Option NamedWire)). ws ++ map Some (wires_of xs)) one.1 ∙ append_assoc m.wires (map Some (wires_in x.1)) (map Some (wires_of xs))
      ∙ ap (λ (ws : List (Option NamedWire)). m.wires ++ ws) (sym (map-append Some (wires_in x.1) (wires_of xs))),
)
more_steps m n x xs (Err g) e f h = cc

many_steps : (m n : Made) (xs : List (Key × Event)) → goes step m xs ≡ Ok n → (n.turns ≡ m.turns + turns_of xs) × (n.wires ≡ m.wires ++ map Some (wires_of xs))
many_steps m n [] h = still m n cc
many_steps m n (x ∷ xs) h = more_steps m n x xs (step m x.1) refl (λ k. many_steps k n xs) h

count_same : (xs : List (Key × Event)) (m : Made) → m.wires ≡ map Some (wires_of xs) → length m.wires ≡ length (wires_of xs)
count_same xs m e = ap length e ∙ length-map (wires_of xs) Some

step_bad : (xs : List (Key × Event)) (m : Made) (e : Event) (f : Fault) → m.turns ≡ turns_of xs → m.wires ≡ map Some (wires_of xs) → step m e ≡ Err f → Bad xs e f
step_bad xs m (Fails at r) f t w h = cc
step_bad xs m Skips f t w h = cc
step_bad xs m (Turns at n) f t w h = let c = err_case (nat_le (m.turns + n) MOST_TURNS) (with_turns m n) (at, TOO_MANY_TURNS) f h in (c.1, rw (← t) (past (m.turns + n) MOST_TURNS c.0))
step_bad xs m (Wires at ws) f t w h = let c = err_case (nat_le (length m.wires + length ws) MOST_WIRES) (with_wires m ws) (at, TOO_MANY_WIRES) f h in
    (c.1, rw (← count_same xs m w) (past (length m.wires + length ws) MOST_WIRES c.0))

step_fails : (xs : List (Key × Event)) (m : Made) (e : Event) (f : Fault) → m.turns ≡ turns_of xs → m.wires ≡ map Some (wires_of xs) → Bad xs e f → step m e ≡ Err f
step_fails xs m (Fails at r) f t w h = ap Err (sym h)
step_fails xs m Skips f t w h = absurd h
step_fails xs m (Turns at n) f t w h = err_chosen (nat_le (m.turns + n) MOST_TURNS) (with_turns m n) (at, TOO_MANY_TURNS) f (is_past (m.turns + n) MOST_TURNS (rw t h.1)) h.0
step_fails xs m (Wires at ws) f t w h = err_chosen (nat_le (length m.wires + length ws) MOST_WIRES) (with_wires m ws) (at, TOO_MANY_WIRES) f
    (is_past (length m.wires + length ws) MOST_WIRES (rw (count_same xs m w) h.1)) h.0

nothing_more : (xs : List (Key × Event)) → 0 + turns_of xs ≡ turns_of xs
nothing_more xs = omega arith

pub agrees : Agrees step nothing Bad
agrees = record {
  bad = λ xs m e f g h. let s = many_steps nothing m xs g in step_bad xs m e f (s.0 ∙ nothing_more xs) s.1 h;
  fails = λ xs m e f g h. let s = many_steps nothing m xs g in step_fails xs m e f (s.0 ∙ nothing_more xs) s.1 h;
}

pub judges_fault : (S : Key → Event → Type 0) (f : StatementFault) → StopsAt step S nothing (tells f) → Judges S (Err f)
judges_fault S fault.OutOfMemory h = tt
judges_fault S (fault.Rule r p at) h = first_of_stops step nothing Bad S (record { path = p.steps; place = at }, r) agrees h

pub judges_wires : (S : Key → Event → Type 0) (ws : List RawWire) (n : Made) → Went step S nothing n → Judges S (Ok ws)
judges_wires S ws n w = none_of_went step nothing Bad S n agrees w

pub stand_for_all : (S : Key → Event → Type 0) (d : Directory) (n : Net) → Went step S nothing (made d n) → StandForAll S d n.wires
stand_for_all S d n w = record {
  wires = wires_of w.entries;
  all = record { events = w.entries; lists = w.lists; are = refl };
  are = (many_steps nothing (made d n) w.entries w.goes).1;
}
