use Rattle.cdl_reading.proofs.Strings.{spelling_means, means_spelling}
use Rattle.cdl_reading.proofs.law.strings_mean.Goals as goal

pub returns-clause-some : goal.returns-clause-some
returns-clause-some c = spelling_means

pub returns-clause-only : goal.returns-clause-only
returns-clause-only c = means_spelling
