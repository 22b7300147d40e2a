use Rattle.std.proofs.Common.{rules, ◌≡◌}
use Rattle.cdl_decimal.specs.Near.{modulo_of, in_range, InRange}
use Rattle.cdl_decimal.proofs.NearLaws.{modulo_left}
use Rattle.cdl_decimal.proofs.real.Real.modulo.Goals.{After-from_count}
use Rattle.cdl_decimal.proofs.real.Real.modulo.Goals as goal

value : (c : After-from_count) → c.from_count.result ≡ in_range (modulo_of c.args.self c.args.b)
value c = search rules

small : (c : After-from_count) → InRange c.args.b
small c = search rules

pub returns-else-b-eq0-clause-left : goal.returns-else-b-eq0-clause-left
returns-else-b-eq0-clause-left c = modulo_left c.args.self c.args.b c.from_count.result (small c) (value c)
