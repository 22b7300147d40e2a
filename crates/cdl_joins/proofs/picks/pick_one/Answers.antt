use Rattle.cdl_joins.proofs.Told.{range_told}
use Rattle.cdl_joins.proofs.picks.pick_one.Goals as goal

pub returns-in_ok-high-in-Range-clause-value : goal.returns-in_ok-high-in-Range-clause-value
returns-in_ok-high-in-Range-clause-value c = range_told c.args.e.now c.integer-in-Range.new.e c.args.site.path.now c.args.site.locals.now c.args.size c.args.sub.now c.in-Range.low c.in-Range.high c.in_ok-low-in-Range.low c.in_ok-high-in-Range.high c.ranged.result
    c.in-Range.is c.integer-in-Range.ensures.kept c.in_ok-low-in-Range.ensures.value c.in_ok-high-in-Range.ensures.value c.ranged.ensures
