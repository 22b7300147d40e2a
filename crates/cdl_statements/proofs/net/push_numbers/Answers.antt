use Rattle.std.proofs.Common.{ℕ, List, sym, subst}
use Rattle.cdl_statements.specs.Complete.{Stands}
use Rattle.cdl_joins.specs.Sides.{element}
use Rattle.cdl_statements.proofs.Numbers.{stand_row}
use Rattle.cdl_statements.proofs.net.push_numbers.Goals as goal

pub number-requires : goal.number-requires
number-requires c = subst (λ (is : List ℕ). Stands c.args.directory.now.names (element c.args.path.now c.args.name.now is)) (sym c.items.ensures)
    (stand_row c.args.directory.now.names (element c.args.path.now c.args.name.now) c.args.rows.now c.loop-i.i c.index-rows-i.result c.requires c.loop-i-test.true c.index-rows-i.is)
