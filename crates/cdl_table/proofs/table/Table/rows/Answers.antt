use Rattle.std.proofs.Common.{◌∙◌, List, ℤ, ap, length, sym}
use Rattle.cdl_table.proofs.FlatFacts.{count-of}
use Rattle.cdl_table.proofs.table.Table.rows.Goals as goal

pub returns : goal.returns
returns c = ap (λ (x : List ℤ). length x) c.items.ensures ∙ sym (count-of c.self.inside.width c.self.inside.times c.self.inside.words c.args.self.now c.self.view_is)
