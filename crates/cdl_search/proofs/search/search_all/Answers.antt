use Rattle.cdl_search.proofs.Working.{moved, done_below}
use Rattle.cdl_search.proofs.search.search_all.Goals as goal

pub loop-u-preserved : goal.loop-u-preserved
loop-u-preserved c =
    let k = c.in_ok-visit.ensures in
    let i = c.loop-u.invariant in
    record {
      found = moved c.args.first.now c.args.edges.now _ _ c.visit.new.s k.found i.found.ranged.marks;
      none = k.none;
      done = done_below c.loop-u.s.marks.items c.visit.new.s.marks.items c.loop-u.u i.done k.kept k.done;
    }
