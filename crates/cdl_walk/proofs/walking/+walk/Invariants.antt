use Rattle.std.proofs.Common.{◌≡◌, ◌+◌, ◌-◌, ◌*◌, ◌++◌, ◌∷◌, [], length}
use Rattle.cdl_stations.specs.Keys.{upto}
use Rattle.cdl_stations.specs.Runs.{Went}
use Rattle.cdl_items.specs.declared.role.Role.TheVariants as role
use Rattle.cdl_walk.specs.Events.{step}
use Rattle.cdl_walk.specs.inner.Numbers.{AreNumbers, IsDeeper}
use Rattle.cdl_walk.specs.Places.{here, inside}
use Rattle.cdl_walk.specs.Stations as spec
use Rattle.cdl_walk.proofs.walking.+walk.Given as goal

abbrev pub decreases-block : goal.decreases-block
decreases-block l = 5 * (18 - length l.place.now.path.steps) + 3

abbrev pub decreases-instance : goal.decreases-instance
decreases-instance l = 5 * (18 - length l.place.now.path.steps) + 4

abbrev pub decreases-pass_item : goal.decreases-pass_item
decreases-pass_item l = 5 * (18 - length l.place.now.path.steps) + 2

abbrev pub decreases-component : goal.decreases-component
decreases-component l = 5 * (18 - length l.place.now.path.steps) + 1

abbrev pub decreases-element : goal.decreases-element
decreases-element l = 5 * (18 - length l.place.now.path.steps)

abbrev pub invariant-block-loop-i : goal.invariant-block-loop-i
invariant-block-loop-i l = record {
  kept : l.e ≡ l.fn.e;
  same : here l.place ≡ inside (here l.fn.place) l.class;
  numbers : l.place.numbers.items ≡ l.fn.place.numbers.items ++ length l.fn.walked.instances ∷ [];
  stand : AreNumbers (l.fn.place.numbers.items ++ length l.fn.walked.instances ∷ []) (length l.fn.place.path.steps + 1) l.fn.place.path.steps l.walked.instances;
  deeper : IsDeeper (length l.fn.place.path.steps) l.fn.walked.instances l.walked.instances;
  went : Went step (upto (spec.InBlock l.fn.e (here l.fn.place) l.class) l.i) l.fn.walked l.walked;
}

abbrev pub invariant-component-loop-x : goal.invariant-component-loop-x
invariant-component-loop-x l = record {
  kept : l.e ≡ l.fn.e;
  same : here l.place ≡ here l.fn.place;
  numbers : l.place.numbers.items ≡ l.fn.place.numbers.items;
  deeper : IsDeeper (length l.fn.place.path.steps + 1) l.fn.walked.instances l.walked.instances;
  went : Went step (upto (spec.InItem l.fn.e (here l.fn.place) l.item (role.Component l.part)) l.x) l.fn.walked l.walked;
}
