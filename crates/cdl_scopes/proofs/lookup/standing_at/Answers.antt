use Rattle.std.proofs.Common.{◌∙◌, sym, refl, ap}
use Rattle.std.specs.Prelude.{option_map}
use Rattle.cdl_scopes.specs.Lookup.{a_class, a_package}
use Rattle.cdl_scopes.proofs.Finding.{stands_class, stands_package}
use Rattle.cdl_scopes.proofs.lookup.standing_at.Goals as goal

pub returns-in-Some-clause-found : goal.returns-in-Some-clause-found
returns-in-Some-clause-found c = λ files h q at.
    (a_class c.in-Some.class, refl, stands_class files c.args.all.now h c.args.name c.in-Some.class q at (sym c.first_at.ensures ∙ c.in-Some.is))

pub returns-in-None-clause-found : goal.returns-in-None-clause-found
returns-in-None-clause-found c = λ files h q at.
    (a_package q, ap (option_map a_package) at, stands_package files c.args.all.now h c.args.name q at (sym c.first_at.ensures ∙ c.in-None.is))
