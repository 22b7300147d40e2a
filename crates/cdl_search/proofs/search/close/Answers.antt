use Rattle.std.proofs.Common.{arith, ◌≡◌, ◌+◌, ◌-◌, ◌<◌, ◌≤◌, length, take, get_or, true, cond, set, sym, refl, ap, ◌∙◌, Bool, nat_lt}
use Rattle.std.proofs.lemmas.List.{get_or_read}
use Rattle.cdl_search.specs.Graph.{last_start}
use Rattle.cdl_search.proofs.Lists.{done_next, done_moved}
use Rattle.cdl_search.proofs.search.close.Goals as goal

pub loop-p-preserved : goal.loop-p-preserved
loop-p-preserved c =
    let f = c.in_ok-finish.ensures in
    let i = c.loop-p.invariant in
    let s = c.args.s.now in
    let w = c.loop-p.s in
    let v = c.index-v.result.now in
    let start = c.index-start.result.now in
    let many : Bool = nat_lt (start + 1) c.len-2.result in
    let here : c.loop-p.p < length s.held.items = omega (arith, c.loop-p-test.true) in
    let now : c.loop-p.p < length w.held.items = rw i.held here in
    let e : get_or s.held.items c.loop-p.p 0 ≡ v = sym (get_or_read w.held.items c.loop-p.p v now c.index-v.ensures 0 ∙ ap (λ x. get_or x c.loop-p.p 0) i.held) in
    let inside : v < length s.marks.items = rw e at (c.requires.inside c.loop-p.p here) in
    record {
      held = f.held ∙ i.held;
      todo = f.todo ∙ i.todo;
      starts = f.starts ∙ i.starts;
      owed = f.owed ∙ i.owed;
      done = rw (f.marks, f.looped, f.order) (done_next s.held.items s.marks.items w.marks.items s.looped.items w.looped.items s.order.items w.order.items start c.loop-p.p v many (cond many (set w.looped.items v true) w.looped.items) i.done (omega arith) e inside c.requires.sizes (λ q. ap (λ b. cond b (set w.looped.items v true) w.looped.items) q) (λ q. ap (λ b. cond b (set w.looped.items v true) w.looped.items) q));
    }

pub returns : goal.returns
returns c =
    let i = c.loop-p.invariant in
    let s = c.args.s.now in
    let w = c.loop-p.s in
    let start = c.index-start.result.now in
    let n : c.len.result ≡ length s.starts.items = omega arith in
    let a : s.starts.len ≡ length s.starts.items = omega arith in
    let b : s.owed.len ≡ length s.starts.items = omega (arith, c.requires.pairs) in
    let z : c.len.result - 1 < length s.starts.items = omega (arith, c.requires.some) in
    let st : start ≡ last_start s = get_or_read s.starts.items (c.len.result - 1) start z c.index-start.ensures 0 ∙ ap (λ k. get_or s.starts.items (k - 1) 0) n in
    let h : c.len-2.result ≡ length s.held.items = omega arith in
    let x : start ≤ c.len-p-end.result = rw st (omega (arith, c.requires.above)) in
    let y = c.loop-p.auto.p-end x in
    let p : c.loop-p.p ≡ length s.held.items = omega (arith, c.loop-p-test.false, y) in
    record {
      held = c.truncate.ensures.items ∙ rw (st, i.held) refl;
      todo = i.todo;
      starts = i.starts ∙ c.pop.ensures.rest ∙ ap (λ k. take (k - 1) s.starts.items) a;
      owed = i.owed ∙ c.pop-2.ensures.rest ∙ ap (λ k. take (k - 1) s.owed.items) b;
      done = done_moved start (last_start s) c.loop-p.p (length s.held.items) _ _ i.done st p (ap (λ k. nat_lt (k + 1) c.len-2.result) st ∙ ap (λ k. nat_lt (last_start s + 1) k) h);
    }
