use Rattle.cdl_reading.proofs.Spelled.{words_spelled}
use Rattle.cdl_reading.proofs.law.spelled_words.Goals as goal

pub returns : goal.returns
returns c = words_spelled
