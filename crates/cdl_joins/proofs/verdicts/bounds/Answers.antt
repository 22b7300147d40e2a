use Rattle.cdl_joins.proofs.Told.{bounds_told}
use Rattle.cdl_joins.proofs.verdicts.bounds.Goals as goal

pub returns-clause-value : goal.returns-clause-value
returns-clause-value c = bounds_told c.args.e.now c.integer.new.e c.args.site.path.now c.args.site.locals.now c.args.head.now c.in_ok-low.low c.in_ok-high.high c.both.result
    c.integer.ensures.kept c.in_ok-low.ensures.value c.in_ok-high.ensures.value c.both.ensures
