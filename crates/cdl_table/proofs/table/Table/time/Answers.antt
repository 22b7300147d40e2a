use Rattle.std.proofs.Common.{◌≡◌, ◌∙◌, ◌<◌, List, ℤ, pos, ap, arith, get_or, length, rules, sym, to_z, of_z, w64}
use mir.Val.{SFits}
use Rattle.std.proofs.lemmas.Int.{ints}
use Rattle.cdl_table.proofs.FlatFacts.{count-of, time-of}
use Rattle.cdl_table.proofs.table.Table.time.Goals as goal

pub offset_bounds-items-i : goal.offset_bounds-items-i
offset_bounds-items-i c =
    let count = count-of c.self.inside.width c.self.inside.times c.self.inside.words c.args.self.now c.self.view_is in
    let items = ap (λ (x : List ℤ). length x) c.items.ensures in
    let within : c.args.i < length c.items.result.now = omega (arith, count, items) in
    search rules

pub bounds-items-i : goal.bounds-items-i
bounds-items-i c =
    let count = count-of c.self.inside.width c.self.inside.times c.self.inside.words c.args.self.now c.self.view_is in
    let items = ap (λ (x : List ℤ). length x) c.items.ensures in
    omega (arith, count, items)

pub returns : goal.returns
returns c =
    let time = time-of c.self.inside.width c.self.inside.times c.self.inside.words c.args.self.now c.args.i c.self.view_is c.requires in
    let item = ap (λ (x : List ℤ). get_or x c.args.i (pos 0)) c.items.ensures in
    let fits : SFits w64 (get_or c.items.result.now c.args.i (pos 0)) = search rules in
    let same : to_z w64 (of_z w64 (get_or c.items.result.now c.args.i (pos 0))) ≡ get_or c.items.result.now c.args.i (pos 0) = omega (arith, ints) in
    same ∙ item ∙ sym time
