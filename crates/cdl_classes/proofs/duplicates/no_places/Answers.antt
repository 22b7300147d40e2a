use Rattle.std.proofs.Common.{arith}
use Rattle.cdl_classes.proofs.MarkLaws.{empty_marks}
use Rattle.cdl_classes.proofs.duplicates.no_places.Goals as goal

pub returns : goal.returns
returns c = λ ds e.
    empty_marks ds c.loop.classes.items c.loop.constants.items (omega (arith, e, c.loop.invariant.0)) (omega (arith, e, c.loop.invariant.1)) c.loop.invariant.2 c.loop.invariant.3
