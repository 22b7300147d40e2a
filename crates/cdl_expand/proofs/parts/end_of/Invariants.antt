use Rattle.std.proofs.Common.{◌≡◌, ◌<◌, ◌≤◌, ◌-◌, ℕ, length}
use Rattle.std.specs.Prelude.{slice_index_or}
use Rattle.cdl_walk.specs.declared.walked.Element.{Element}
use Rattle.cdl_expand.proofs.parts.end_of.Given as goal

abbrev pub invariant-loop-end : goal.invariant-loop-end
invariant-loop-end l = record {
  behind : l.first ≤ l.end;
  within : l.end ≤ length l.elements;
  own : (x : ℕ) (d : Element) → l.first ≤ x → x < l.end → (slice_index_or l.elements x d).instance ≡ l.number;
}

abbrev pub decreases-loop-end : goal.decreases-loop-end
decreases-loop-end l = length l.elements - l.end
