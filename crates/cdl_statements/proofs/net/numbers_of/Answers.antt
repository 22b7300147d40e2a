use Rattle.cdl_statements.proofs.Numbers.{stand_piece}
use Rattle.cdl_statements.proofs.net.numbers_of.Goals as goal

pub push_numbers-requires : goal.push_numbers-requires
push_numbers-requires c = rw (c.items-path.ensures, c.items.ensures) (stand_piece c.args.directory.now.names c.args.name.now c.args.pieces.now c.loop-i.i c.index-pieces-i.result c.requires c.loop-i-test.true c.index-pieces-i.is)
