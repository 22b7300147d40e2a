use Rattle.std.proofs.Common.{◌∙◌, sym, subst, Result}
use Rattle.std.specs.Prelude.{ℤ}
use Rattle.cdl_decimal.specs.Spells.{Parses}
use Rattle.cdl_decimal.specs.declared.numeral.DecimalError.{DecimalError}
use Rattle.cdl_decimal.proofs.ParseLaws.{parses_is, parses_one}
use Rattle.cdl_decimal.proofs.parser.parse.Goals as goal

pub returns-clause-exact : goal.returns-clause-exact
returns-clause-exact c = subst (λ (r : Result ℤ DecimalError). Parses c.args.bytes.now r) (sym c.read.ensures) (parses_is c.args.bytes.now)

pub returns-clause-only : goal.returns-clause-only
returns-clause-only c r h = c.read.ensures ∙ parses_one c.args.bytes.now r h
