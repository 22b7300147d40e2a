use Rattle.std.proofs.Common.{arith, ◌<◌, length}
use Rattle.cdl_search.proofs.search.first_looped.Goals as goal

pub returns-then-index-clause-least : goal.returns-then-index-clause-least
returns-then-index-clause-least c w h o =
    let m : w < length c.args.s.now.marks.items = omega (arith, c.loop-v-test.true, c.requires.found.ranged.looped) in
    c.requires.found.inv.free w (c.requires.all w m) (c.loop-v.invariant w h) o

pub returns-clause-none : goal.returns-clause-none
returns-clause-none c w h o =
    let m : w < c.loop-v.v = omega (arith, c.loop-v-test.false, c.requires.found.ranged.looped) in
    c.requires.found.inv.free w (c.requires.all w h) (c.loop-v.invariant w m) o
