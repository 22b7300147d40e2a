use Rattle.std.proofs.Common.{◌∙◌, sym, refl, ap, []}
use Rattle.std.specs.Prelude.{option_map}
use Rattle.std.specs.Option.{option_copied}
use Rattle.cdl_scopes.specs.declared.lookup.ClassSort.TheVariants as sort
use Rattle.cdl_scopes.specs.declared.lookup.Sought.{Sought}
use Rattle.cdl_scopes.specs.Lookup.{a_literal, class_enters}
use Rattle.cdl_scopes.proofs.lookup.literal.Goals as goal

pub returns-in-Some-clause-found : goal.returns-in-Some-clause-found
returns-in-Some-clause-found c = λ paths d e. (
  a_literal c.args.number c.in-Some.place.now,
  refl,
  ap (λ (s : Sought). class_enters [] s c.args.number d sort.Enumeration c.args.part.now) c.in-Value.is
      ∙ ap (option_map (a_literal c.args.number)) (sym e ∙ sym c.get.ensures.value ∙ ap option_copied c.in-Some.is),
)
