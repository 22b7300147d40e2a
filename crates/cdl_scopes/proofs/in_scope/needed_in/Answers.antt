use Rattle.std.proofs.Common.{◌++◌, ◌∷◌, [], sym}
use Rattle.cdl_scopes.proofs.Needs.{unneeded}
use Rattle.cdl_scopes.proofs.in_scope.needed_in.Goals as goal

pub returns-in-Some : goal.returns-in-Some
returns-in-Some c = λ files h q at. c.is_needed.ensures files h (q ++ c.args.part.now ∷ []) (c.in-Some.ensures.some files h q at)

pub returns-in-None : goal.returns-in-None
returns-in-None c = λ files h q at. sym (unneeded files c.args.all.now h (q ++ c.args.part.now ∷ []) (c.in-None.ensures.none files h q at))
