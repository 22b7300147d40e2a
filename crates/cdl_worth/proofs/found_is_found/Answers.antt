use Rattle.cdl_source.specs.declared.limits.TheConstants.{MOST_LINKS}
use Rattle.cdl_worth.specs.Values.{value}
use Rattle.cdl_worth.proofs.Laws as laws
use Rattle.cdl_worth.proofs.Links.{value_lasts, fault_lasts}
use Rattle.cdl_worth.proofs.found_is_found.Goals as goal

pub returns-clause-value : goal.returns-clause-value
returns-clause-value c ds d r p n a h e = value_lasts (value ds d r p n) (value ds MOST_LINKS r p n) a ((laws.value_lasts ds r p n).more d MOST_LINKS h) e

pub returns-clause-rule : goal.returns-clause-rule
returns-clause-rule c ds d r p n x h k e = fault_lasts (value ds d r p n) (value ds MOST_LINKS r p n) x ((laws.value_lasts ds r p n).more d MOST_LINKS h) k e
