-- What is answered of statements: the wires where no rule is broken, else the rule that is broken first.
use Rattle.std.specs.Prelude.{◌≡◌, List, map, Some, Result, Ok, Err}
use Rattle.cdl_connect.specs.declared.net.RawWire.{RawWire}
use Rattle.cdl_stations.specs.Keys.{Key, Lists}
use Rattle.cdl_stations.specs.FirstBroken.{First, IsBroken, NoneBroken}
use Rattle.cdl_statements.specs.declared.fault.StatementFault.{StatementFault}
use Rattle.cdl_statements.specs.declared.fault.StatementFault.TheVariants as fault
use Rattle.cdl_statements.specs.Directory.{Directory, NamedWire, wire_at}
use Rattle.cdl_statements.specs.Events.{Event, Bad, wires_of}

-- no rule is broken; or this rule is broken first, by a statement at this place, in the instance at this path
abbrev pub Judges : (Key → Event → Type 0) → Result (List RawWire) StatementFault → Type 0
Judges S (Ok ws) = NoneBroken (IsBroken Bad S)
Judges S (Err (fault.Rule r p at)) = First (IsBroken Bad S) (record { path = p.steps; place = at }, r)
Judges S (Err fault.OutOfMemory) = Unit {0}

-- these are all wires of the occurrences, in order
pub record AreAllWires (S : Key → Event → Type 0) (ws : List NamedWire) : Type 0 where
  pub events : List (Key × Event)
  pub lists : Lists S events
  pub are : ws ≡ wires_of events

-- so are those for which these wires between numbers stand
pub record StandForAll (S : Key → Event → Type 0) (d : Directory) (xs : List RawWire) : Type 0 where
  pub wires : List NamedWire
  pub all : AreAllWires S wires
  pub are : map (wire_at d) xs ≡ map Some wires
