use Rattle.std.proofs.Common.{◌≡◌, ◌∙◌, ◌≤◌, ◌+◌, ◌*◌, ◌-◌, List, ℤ, ap, arith, drop, length, rules, sym, take}
use Rattle.cdl_table.proofs.FlatFacts.{count-of, row-within, words-of}
use Rattle.cdl_table.proofs.table.Table.row.Goals as goal

pub overflow_mul-start : goal.overflow_mul-start
overflow_mul-start c =
    let count = count-of c.self.inside.width c.self.inside.times c.self.inside.words c.args.self.now c.self.view_is in
    let items = ap (λ (x : List ℤ). length x) c.items-words.ensures in
    let within = row-within c.self.inside.width c.args.i (length c.self.inside.times) (length c.self.inside.words) (omega (arith, count)) c.self.invariant in
    let room : c.args.i * c.self.inside.width + c.self.inside.width ≤ length c.items-words.result.now = omega (arith, within, items) in
    search rules

pub overflow_add-result : goal.overflow_add-result
overflow_add-result c =
    let count = count-of c.self.inside.width c.self.inside.times c.self.inside.words c.args.self.now c.self.view_is in
    let items = ap (λ (x : List ℤ). length x) c.items-words.ensures in
    let within = row-within c.self.inside.width c.args.i (length c.self.inside.times) (length c.self.inside.words) (omega (arith, count)) c.self.invariant in
    let room : c.args.i * c.self.inside.width + c.self.inside.width ≤ length c.items-words.result.now = omega (arith, within, items) in
    search rules

pub offset_bounds-words-start : goal.offset_bounds-words-start
offset_bounds-words-start c =
    let count = count-of c.self.inside.width c.self.inside.times c.self.inside.words c.args.self.now c.self.view_is in
    let items = ap (λ (x : List ℤ). length x) c.items-words.ensures in
    let within = row-within c.self.inside.width c.args.i (length c.self.inside.times) (length c.self.inside.words) (omega (arith, count)) c.self.invariant in
    let room : c.args.i * c.self.inside.width + c.self.inside.width ≤ length c.items-words.result.now = omega (arith, within, items) in
    search rules

pub slice_bounds-result-end : goal.slice_bounds-result-end
slice_bounds-result-end c =
    let count = count-of c.self.inside.width c.self.inside.times c.self.inside.words c.args.self.now c.self.view_is in
    let items = ap (λ (x : List ℤ). length x) c.items-words.ensures in
    let within = row-within c.self.inside.width c.args.i (length c.self.inside.times) (length c.self.inside.words) (omega (arith, count)) c.self.invariant in
    let room : c.args.i * c.self.inside.width + c.self.inside.width ≤ length c.items-words.result.now = omega (arith, within, items) in
    search rules

pub returns : goal.returns
returns c =
    let width : c.args.i * c.self.inside.width + c.self.inside.width - c.args.i * c.self.inside.width ≡ c.self.inside.width = omega arith in
    ap (λ n. take n (drop (c.args.i * c.self.inside.width) c.items-words.result.now)) width
    ∙ ap (λ (x : List ℤ). take c.self.inside.width (drop (c.args.i * c.self.inside.width) x)) c.items-words.ensures
    ∙ sym (words-of c.self.inside.width c.self.inside.times c.self.inside.words c.args.self.now c.args.i c.self.view_is c.requires)
