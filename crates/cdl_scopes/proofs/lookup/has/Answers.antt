use Rattle.std.proofs.Common.{◌≡◌, ◌∙◌, [], Option, sym, refl, ap}
use Rattle.std.specs.List.{slice_get}
use Rattle.std.specs.Prelude.{option_map}
use Rattle.std.specs.Option.{option_or}
use Rattle.cdl_values.specs.declared.value.ValueType.{ValueType}
use Rattle.cdl_scopes.specs.Classes.{Full, declared}
use Rattle.cdl_scopes.specs.Lookup.{a_type, has, member}
use Rattle.cdl_scopes.proofs.Finding.{top_is}
use Rattle.cdl_scopes.proofs.lookup.has.Goals as goal

pub returns-in-Some-clause-found : goal.returns-in-Some-clause-found
returns-in-Some-clause-found c = λ h q at cdl modelica.
    let top : q ≡ [] = top_is c.args.files.now c.args.all.now h q (ap (λ i. slice_get h.gathered.names.paths i) (sym c.if-scope-eq-TOP.true) ∙ at) in (
      a_type c.in-Some.kind,
      refl,
      ap (λ (r : Full). has (declared c.args.files.now) c.args.sought r c.args.part.now) top
          ∙ ap (λ (o : Option ValueType). option_or (option_map a_type o) (member (declared c.args.files.now) c.args.sought [] c.args.part.now)) (sym c.scalar_named.ensures ∙ c.in-Some.is),
    )
