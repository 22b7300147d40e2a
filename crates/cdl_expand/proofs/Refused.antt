-- A model breaks one rule first, in one place, or none.
use Rattle.std.proofs.Common.{◌≡◌, ℕ, List, map, sym, ap, ◌∙◌}
use Rattle.cdl_source.specs.declared.place.Place.{Place}
use Rattle.cdl_network.specs.Network.{Wire}
use Rattle.cdl_params.specs.Kept.{Model}
use Rattle.cdl_paths.specs.declared.path.Step.{Step}
use Rattle.cdl_stations.specs.FirstBroken.{First, IsBroken}
use Rattle.cdl_stations.specs.Keys.{Lists}
use Rattle.cdl_stations.proofs.Firsts.{first_one, first_none}
use Rattle.cdl_stations.proofs.Grown.{lists_like}
use Rattle.cdl_stations.proofs.Unique.{lists_same}
use Rattle.cdl_walk.specs.declared.walked.Instance.{Instance}
use Rattle.cdl_walk.specs.Events as walk
use Rattle.cdl_walk.specs.Instances.{Seen, Owned, seen_instance}
use Rattle.cdl_walk.specs.Stations as station
use Rattle.cdl_model.specs.Names.{ElementName}
use Rattle.cdl_model.specs.Parts.{Unfolding}
use Rattle.cdl_statements.specs.Directory.{NamedWire}
use Rattle.cdl_statements.specs.Events as event
use Rattle.cdl_statements.specs.Events.{wires_of}
use Rattle.cdl_statements.specs.Judges.{AreAllWires}
use Rattle.cdl_statements.specs.Places.{Fault}
use Rattle.cdl_statements.specs.Stations.{InModel}
use Rattle.cdl_expand.specs.Expanded.{AreInstances, BreaksInstance, BreaksStatement, HasInstances, IsExpanded}
use Rattle.cdl_expand.proofs.Stationed.{same_stations, same_instances, first_like}

-- ---- rules of instances

pub instance_once : (w : Model) (r s : ℕ) (p q : List Step) → BreaksInstance w r p → BreaksInstance w s q → (r ≡ s) × (p ≡ q)
instance_once w r s p q a b =
    let e : (p, r) ≡ (q, s) = first_one (IsBroken walk.Bad (station.InModel w)) (p, r) (q, s) a b in
    (ap (λ (z : List Step × ℕ). z.1) e, ap (λ (z : List Step × ℕ). z.0) e)

pub instance_none : (w : Model) (r : ℕ) (p : List Step) → HasInstances w → BreaksInstance w r p → ⊥
instance_none w r p n a = first_none (IsBroken walk.Bad (station.InModel w)) (p, r) n a

-- ---- rules of statements

-- a first broken rule is that of any list of the instances
first_there : (w : Model) (xs ys : List Instance) (f : Fault) → map seen_instance xs ≡ map seen_instance ys → First (IsBroken event.Bad (InModel w xs)) f → First (IsBroken event.Bad (InModel w ys)) f
first_there w xs ys f e a = first_like event.Bad (InModel w xs) (InModel w ys) (same_stations w xs ys e) (same_stations w ys xs (sym e)) f a

abbrev fault : List Step → Place → ℕ → Fault
fault p a r = (record { path = p; place = a }, r)

pub statement_once : (w : Model) (r s : ℕ) (p q : List Step) (a b : Place) → BreaksStatement w r p a → BreaksStatement w s q b → (r ≡ s) × (p ≡ q) × (a ≡ b)
statement_once w r s p q a b x y =
    let e : fault p a r ≡ fault q b s = first_one (IsBroken event.Bad (InModel w y.instances)) (fault p a r) (fault q b s)
    (first_there w x.instances y.instances (fault p a r) (same_instances w x.instances y.instances x.are y.are) x.first) y.first in
    (ap (λ (z : Fault). z.1) e, ap (λ (z : Fault). z.0.path) e, ap (λ (z : Fault). z.0.place) e)

-- the instances of an expansion are those of the model
expanded_instances : (w : Model) (u : Unfolding) (x : IsExpanded w u) → AreInstances w x.instances
expanded_instances w u x = record { things = x.parts.things; lists = x.parts.lists; seen = x.seen ∙ x.parts.instances }

pub statement_none : (w : Model) (u : Unfolding) (r : ℕ) (p : List Step) (a : Place) → IsExpanded w u → BreaksStatement w r p a → ⊥
statement_none w u r p a x y = first_none (IsBroken event.Bad (InModel w x.instances)) (fault p a r) x.statements
    (first_there w y.instances x.instances (fault p a r) (same_instances w y.instances x.instances y.are (expanded_instances w u x)) y.first)

-- ---- expansions

same_wires : (w : Model) (xs ys : List Instance) (us vs : List NamedWire) → map seen_instance xs ≡ map seen_instance ys → AreAllWires (InModel w xs) us → AreAllWires (InModel w ys) vs → us ≡ vs
same_wires w xs ys us vs e a b =
    let there : Lists (InModel w ys) a.events = lists_like (InModel w xs) (InModel w ys) a.events (same_stations w xs ys e) (same_stations w ys xs (sym e)) a.lists in
    a.are ∙ ap wires_of (lists_same (InModel w ys) a.events b.events there b.lists) ∙ sym b.are

abbrev unfolding_of : List Seen → List Owned → List (Wire (List Step) ElementName) → Unfolding
unfolding_of ss os ws = record { instances = ss; elements = os; wires = ws }

pub expansion_once : (w : Model) (u v : Unfolding) → u.instances ≡ v.instances → u.elements ≡ v.elements → IsExpanded w u → IsExpanded w v → u ≡ v
expansion_once w u v i o a b =
    let wires : u.wires ≡ v.wires = same_wires w a.instances b.instances u.wires v.wires (a.seen ∙ i ∙ sym b.seen) a.wires b.wires in
    ap (λ (ss : List Seen). unfolding_of ss u.elements u.wires) i
    ∙ ap (λ (os : List Owned). unfolding_of v.instances os u.wires) o
    ∙ ap (λ (ws : List (Wire (List Step) ElementName)). unfolding_of v.instances v.elements ws) wires
