-- What the walk found is unfolded.
use Rattle.std.proofs.Common.{◌≡◌, List, sym, subst}
use Rattle.cdl_params.specs.Kept.{Model}
use Rattle.cdl_stations.specs.Keys.{In}
use Rattle.cdl_walk.specs.declared.walked.Element.{Element}
use Rattle.cdl_walk.specs.declared.walked.Instance.{Instance}
use Rattle.cdl_walk.specs.declared.walked.Walked.{Walked}
use Rattle.cdl_walk.specs.Instances.{AreAll}
use Rattle.cdl_walk.specs.Judges.{NoneFails}
use Rattle.cdl_walk.specs.Stations.{InModel}
use Rattle.cdl_statements.specs.Complete.{IsUnfolded}

pub found_unfolded : (w v : Model) (x : Walked) (xs : List Instance) (es : List Element) → AreAll w x → NoneFails (InModel w) → v ≡ w → xs ≡ x.instances → es ≡ x.elements → IsUnfolded v xs es
found_unfolded w v x xs es a f e g h = subst (λ (z : Model). IsUnfolded z xs es) (sym e)
    (record { found = x; all = a; fine = f; instances = g; elements = λ d m. subst (λ (ys : List Element). In d ys) (sym h) m })
