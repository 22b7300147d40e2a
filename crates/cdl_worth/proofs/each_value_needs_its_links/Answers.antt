use Rattle.cdl_worth.specs.Values.{value}
use Rattle.cdl_worth.proofs.Laws.{value_lasts}
use Rattle.cdl_worth.proofs.Links.{least}
use Rattle.cdl_worth.proofs.each_value_needs_its_links.Goals as goal

pub returns : goal.returns
returns c ds d r p n a e = least (λ k. value ds k r p n) (value_lasts ds r p n) d a e
