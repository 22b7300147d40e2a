use Rattle.cdl_joins.specs.Integers.{integer}
use Rattle.cdl_joins.proofs.Behind.{other_length}
use Rattle.cdl_joins.proofs.picks.pick_each.Goals as goal

pub returns-then-sizes-subs-clause-value : goal.returns-then-sizes-subs-clause-value
returns-then-sizes-subs-clause-value c = other_length (integer c.args.e.now c.args.site.path.now c.args.site.locals.now) c.args.sizes.now c.args.subs.now c.if-sizes-subs.true
