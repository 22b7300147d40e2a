use Rattle.std.proofs.Common.{arith, length, sym}
use Rattle.cdl_search.proofs.Founds.{after_begin}
use Rattle.cdl_search.proofs.Working.{moved, all_closed, pushed_mark}
use Rattle.cdl_search.proofs.search.search_from.Goals as goal

pub loop-s-init : goal.loop-s-init
loop-s-init c =
    let r = c.args.s.now in
    let t = c.push_segment.new.s in
    let f = after_begin c.args.first.now c.args.edges.now (length r.marks.items) c.args.u r t c.requires.graph c.requires.found c.requires.none c.requires.new.0 c.requires.new.1 c.in_ok-push_segment.ensures in
    record {
      found = moved c.args.first.now c.args.edges.now (length r.marks.items) (length t.marks.items) t f (sym f.ranged.marks);
      seen = pushed_mark c.args.first.now c.args.edges.now c.args.u r t c.requires.new.0 c.in_ok-push_segment.ensures;
      kept = λ v h. h;
    }

pub loop-s-preserved-in-Continue-branch-2 : goal.loop-s-preserved-in-Continue-branch-2
loop-s-preserved-in-Continue-branch-2 c =
    let k = c.in_ok-look.ensures in
    let i = c.loop-s.invariant in
    record {
      found = moved c.args.first.now c.args.edges.now _ _ c.look.new.s k.found i.found.ranged.marks;
      seen = λ e. i.seen (k.fresh c.args.u e);
      kept = λ v h. k.kept v (i.kept v h);
    }

pub loop-s-preserved : goal.loop-s-preserved
loop-s-preserved c =
    let k = c.in_ok-shut.ensures in
    let i = c.loop-s.invariant in
    record {
      found = moved c.args.first.now c.args.edges.now _ _ c.shut.new.s k.found i.found.ranged.marks;
      seen = λ e. i.seen (k.fresh c.args.u e);
      kept = λ v h. k.kept v (i.kept v h);
    }

pub returns-clause-done : goal.returns-clause-done
returns-clause-done c =
    let i = c.loop-s.invariant in
    all_closed c.args.first.now c.args.edges.now _ c.args.u c.loop-s.s i.found (omega (arith, c.loop-s-test.false)) i.seen
