use Rattle.std.proofs.Common.{arith, ◌≡◌, ◌+◌, ◌-◌, ◌<◌, ℕ, suc, length, get_or, sym, ◌∙◌, refl}
use Rattle.std.proofs.lemmas.List.{get_or_read}
use Rattle.std.proofs.lemmas.Result.{on_ok_weaker}
use Rattle.cdl_search.proofs.Founds.{after_open, after_skip, after_merge}
use Rattle.cdl_search.proofs.Working.{step_open, step_same}
use Rattle.cdl_search.proofs.search.look.Goals as goal

pub returns-then-mark-eq0 : goal.returns-then-mark-eq0
returns-then-mark-eq0 c =
    let r = c.args.s.now in
    let s = record r { todo = c.truncate.new.self } in
    let a : ℕ = c.len-a.result - 1 in
    let u = c.index-u.result.now in
    let n : ℕ = length r.marks.items in
    let la : a + 1 ≡ length r.todo.items = omega (arith, c.requires.more.1) in
    let al : a < length r.todo.items = omega (arith, c.requires.more.1) in
    let au : get_or r.todo.items a 0 ≡ u = sym (get_or_read r.todo.items a u al c.index-u.ensures 0) in
    let hu : u < n = rw (← au) (c.requires.found.ranged.todo a al) in
    let mk : get_or r.marks.items u 0 ≡ 0 = sym (get_or_read r.marks.items u c.index-mark.result.now hu c.index-mark.ensures 0) ∙ c.if-mark-eq0.true in
    on_ok_weaker c.push_segment.result (λ k. step_open c.args.first.now c.args.edges.now n a u r s c.push_segment.new.s c.requires.graph hu refl la mk refl refl c.truncate.ensures.items k (after_open c.args.first.now c.args.edges.now n a u r s c.push_segment.new.s c.requires.graph c.requires.found c.requires.more.0 c.requires.more.1 la au mk refl refl refl refl refl refl c.truncate.ensures.items k)) c.push_segment.ensures

pub returns-then-mark-eq1 : goal.returns-then-mark-eq1
returns-then-mark-eq1 c =
    let r = c.args.s.now in
    let a : ℕ = c.len-a.result - 1 in
    let u = c.index-u.result.now in
    let n : ℕ = length r.marks.items in
    let la : a + 1 ≡ length r.todo.items = omega (arith, c.requires.more.1) in
    let al : a < length r.todo.items = omega (arith, c.requires.more.1) in
    let au : get_or r.todo.items a 0 ≡ u = sym (get_or_read r.todo.items a u al c.index-u.ensures 0) in
    let hu : u < n = rw (← au) (c.requires.found.ranged.todo a al) in
    let mk : get_or r.marks.items u 0 ≡ 1 = sym (get_or_read r.marks.items u c.index-mark.result.now hu c.index-mark.ensures 0) ∙ c.if-mark-eq1.true in
    step_same c.args.first.now c.args.edges.now n a r _ la refl c.truncate.ensures.items (omega arith) (after_skip c.args.first.now c.args.edges.now n a u r _ c.requires.found c.requires.more.0 c.requires.more.1 la au mk refl refl refl refl refl refl c.truncate.ensures.items)

pub returns : goal.returns
returns c =
    let r = c.args.s.now in
    let a : ℕ = c.len-a.result - 1 in
    let u = c.index-u.result.now in
    let m = c.index-mark.result.now in
    let n : ℕ = length r.marks.items in
    let la : a + 1 ≡ length r.todo.items = omega (arith, c.requires.more.1) in
    let al : a < length r.todo.items = omega (arith, c.requires.more.1) in
    let au : get_or r.todo.items a 0 ≡ u = sym (get_or_read r.todo.items a u al c.index-u.ensures 0) in
    let hu : u < n = rw (← au) (c.requires.found.ranged.todo a al) in
    let two : m ≡ suc (suc (m - 2)) = omega (arith, c.if-mark-eq0.false, c.if-mark-eq1.false) in
    let mk : get_or r.marks.items u 0 ≡ suc (suc (m - 2)) = sym (get_or_read r.marks.items u m hu c.index-mark.ensures 0) ∙ two in
    let q = c.merge.ensures.dropped in
    step_same c.args.first.now c.args.edges.now n a r c.merge.new.s la q.marks (q.todo ∙ c.truncate.ensures.items) q.cut.fewer (after_merge c.args.first.now c.args.edges.now n a u (m - 2) r _ c.merge.new.s c.requires.found c.requires.more.0 c.requires.more.1 la au mk refl refl refl refl refl refl c.truncate.ensures.items c.merge.ensures)
