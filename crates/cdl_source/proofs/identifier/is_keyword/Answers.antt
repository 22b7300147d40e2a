use Rattle.cdl_source.specs.Identifiers.{keywords, is_keyword}
use Rattle.cdl_source.proofs.identifier.is_keyword.Goals as goal

pub returns : goal.returns
unfolding keywords is_keyword
returns c = c.contains.ensures.value
