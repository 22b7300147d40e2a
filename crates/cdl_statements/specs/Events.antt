-- What heads and occurrences bring, and what is made behind them.
use Rattle.std.specs.Prelude.{ℕ, ℤ, ◌+◌, ◌<◌, ◌≡◌, cond, nat_le, List, [], ◌∷◌, ◌++◌, map, length, Option, Some, None, Result, Ok, Err}
use Rattle.cdl_source.specs.declared.limits.TheConstants.{MOST_TURNS, MOST_WIRES}
use Rattle.cdl_source.specs.declared.rules.TheConstants.{TOO_MANY_TURNS, WRONG_SUBSCRIPT, TOO_MANY_WIRES}
use Rattle.cdl_tree.specs.declared.class.Connect.{Connect}
use Rattle.cdl_tree.specs.declared.class.Loop.{Loop}
use Rattle.cdl_paths.specs.declared.path.Local.{Local}
use Rattle.cdl_paths.specs.declared.path.Step.{Step}
use Rattle.cdl_params.specs.Kept.{Model}
use Rattle.cdl_stations.specs.Keys.{Key}
use Rattle.cdl_model.specs.Names.{ElementName}
use Rattle.cdl_statements.specs.Directory.{NamedWire, wire}
use Rattle.cdl_statements.specs.Places.{Scope, Spot, spot, Fault}
use Rattle.cdl_joins.specs.Sides.{elements}
use Rattle.cdl_joins.specs.declared.verdicts.Verdict.{Verdict}
use Rattle.cdl_joins.specs.declared.verdicts.Verdict.TheVariants.{Breaks, Dropped, Joins}
use Rattle.cdl_joins.specs.Verdicts.{verdict, bounds, turns}

-- a rule that is broken; nothing; the turns of a head; the wires of an occurrence, in order
pub data Event : Type 0 where
  Fails : Spot → ℕ → Event
  Skips : Event
  Turns : Spot → ℕ → Event
  Wires : Spot → List NamedWire → Event

-- one element with the other at the same place
abbrev pub pairs : List Step → List ElementName → List ElementName → List NamedWire
pairs p [] rs = []
pairs p (l ∷ ls) [] = []
pairs p (l ∷ ls) (r ∷ rs) = wire p l r ∷ pairs p ls rs

abbrev pub brings : Scope → Spot → Verdict → Event
brings s at (Breaks r) = Fails at r
brings s at Dropped = Skips
brings s at (Joins l r) = Wires at (pairs s.path (elements l) (elements r))

-- an occurrence
abbrev pub occurrence : Model → Scope → List Local → Connect → Event
occurrence w s locals c = brings s (spot s c.span.start) (verdict w s.path s.class locals c)

abbrev pub headed : Spot → Option (ℤ × ℤ) → Event
headed at None = Fails at WRONG_SUBSCRIPT
headed at (Some b) = Turns at (turns b.0 b.1)

-- a head
abbrev pub head : Model → Scope → List Local → Loop → Event
head w s locals l = headed (spot s l.span.start) (bounds w s.path locals l)

-- ---- counts

-- so many turns, and these wires
pub record Made : Type 0 where
  pub turns : ℕ
  pub wires : List (Option NamedWire)

abbrev pub nothing : Made
nothing = record { turns = 0; wires = [] }

abbrev pub with_turns : Made → ℕ → Made
with_turns m n = record { turns = m.turns + n; wires = m.wires }

abbrev pub with_wires : Made → List NamedWire → Made
with_wires m ws = record { turns = m.turns; wires = m.wires ++ map Some ws }

-- what is made behind an event, or the rule that it breaks
abbrev pub step : Made → Event → Result Made Fault
step m (Fails at r) = Err (at, r)
step m Skips = Ok m
step m (Turns at n) = cond (nat_le (m.turns + n) MOST_TURNS) (Ok (with_turns m n)) (Err (at, TOO_MANY_TURNS))
step m (Wires at ws) = cond (nat_le (length m.wires + length ws) MOST_WIRES) (Ok (with_wires m ws)) (Err (at, TOO_MANY_WIRES))

abbrev pub turns_in : Event → ℕ
turns_in (Fails at r) = 0
turns_in Skips = 0
turns_in (Turns at n) = n
turns_in (Wires at ws) = 0

abbrev pub wires_in : Event → List NamedWire
wires_in (Fails at r) = []
wires_in Skips = []
wires_in (Turns at n) = []
wires_in (Wires at ws) = ws

-- the turns of these heads
abbrev pub turns_of : List (Key × Event) → ℕ
turns_of [] = 0
turns_of (x ∷ xs) = turns_in x.1 + turns_of xs

-- the wires of these occurrences
abbrev pub wires_of : List (Key × Event) → List NamedWire
wires_of [] = []
wires_of (x ∷ xs) = wires_in x.1 ++ wires_of xs

-- The rule that an event breaks behind these. C39 counts the turns of all earlier heads and of this one, C47 the wires of all earlier
-- occurrences and of this one.
abbrev pub Bad : List (Key × Event) → Event → Fault → Type 0
Bad xs (Fails at r) f = f ≡ (at, r)
Bad xs Skips f = ⊥
Bad xs (Turns at n) f = (f ≡ (at, TOO_MANY_TURNS)) × (MOST_TURNS < turns_of xs + n)
Bad xs (Wires at ws) f = (f ≡ (at, TOO_MANY_WIRES)) × (MOST_WIRES < length (wires_of xs) + length ws)
