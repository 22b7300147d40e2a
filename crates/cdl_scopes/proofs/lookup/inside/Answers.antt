use Rattle.std.proofs.Common.{◌∙◌, sym, Some}
use Rattle.cdl_scopes.specs.Classes.{declared}
use Rattle.cdl_scopes.proofs.StandingLaws.{none_inside}
use Rattle.cdl_scopes.proofs.Finding.{finds_as, inside_is}
use Rattle.cdl_scopes.proofs.lookup.inside.Goals as goal

pub returns-in-Some-child-clause-found : goal.returns-in-Some-child-clause-found
returns-in-Some-child-clause-found c = λ files h q at cdl modelica.
    let found = c.standing_at.ensures.found files h _ (h.gathered.names.numbers.found c.args.scope c.in-Some-child.name c.in-Some.node.now q c.args.part.now c.in-Some.ensures.some at (sym c.child.ensures ∙ c.in-Some-child.is)) in
    finds_as h.gathered.names.paths (Some c.standing_at.result) _ _ found (sym (inside_is (declared files) q c.args.part.now cdl modelica))

pub returns-in-None-clause-found : goal.returns-in-None-clause-found
returns-in-None-clause-found c = λ files h q at cdl modelica.
    none_inside files c.args.all.now h c.args.scope c.in-Some.node.now q c.args.part.now c.in-Some.ensures.some at (sym c.child.ensures ∙ c.in-None.is) cdl modelica
