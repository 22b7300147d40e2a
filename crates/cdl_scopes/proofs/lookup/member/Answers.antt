use Rattle.std.proofs.Common.{◌∙◌, ℕ, Option, sym, refl, ap}
use Rattle.std.specs.Prelude.{option_map}
use Rattle.std.specs.Option.{option_or}
use Rattle.cdl_scopes.specs.Classes.{declared}
use Rattle.cdl_scopes.specs.declared.lookup.Sought.{Sought}
use Rattle.cdl_scopes.specs.Lookup.{Entity, a_constant, inside, member}
use Rattle.cdl_scopes.proofs.lookup.member.Goals as goal

pub returns-in-Some-clause-found : goal.returns-in-Some-clause-found
returns-in-Some-clause-found c = λ h q at cdl modelica. (
  a_constant c.in-Some.package c.in-Some.item,
  refl,
  ap (λ (s : Sought). member (declared c.args.files.now) s q c.args.part.now) c.in-Value.is
      ∙ ap (λ (o : Option Entity). option_or o (inside (declared c.args.files.now) q c.args.part.now)) (sym (c.constant.ensures h q at) ∙ ap (option_map (λ (p : ℕ × ℕ). a_constant p.0 p.1)) c.in-Some.is),
)
