use Rattle.std.proofs.Common.{rules}
use Rattle.cdl_decimal.proofs.SplitLaws.{split_digits}
use Rattle.cdl_decimal.proofs.numeral.split.Goals as goal
use Rattle.cdl_decimal.specs.Split.{split}

pub returns-clause-digits : goal.returns-clause-digits
unfolding split
returns-clause-digits c = split_digits c.args.bytes.now _ (search rules)
