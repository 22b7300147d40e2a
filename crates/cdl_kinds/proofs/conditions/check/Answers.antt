use Rattle.cdl_kinds.proofs.Integers.{fits_small}
use Rattle.cdl_kinds.proofs.conditions.check.Goals as goal

pub keep-requires : goal.keep-requires
keep-requires c = fits_small c.args.kind c.args.values c.requires
