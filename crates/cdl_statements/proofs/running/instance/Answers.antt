use Rattle.cdl_statements.specs.inner.Seen.{made, tells}
use Rattle.cdl_statements.proofs.Steps.{at_block}
use Rattle.cdl_statements.proofs.running.instance.Goals as goal

pub returns-in-Block-clause-runs : goal.returns-in-Block-clause-runs
returns-in-Block-clause-runs c = at_block _ _ tells c.args.e.now c.args.instance.now c.in-Block.class c.items-path.result.now (made c.args.directory.now c.args.net.now) (made c.args.directory.now c.block.new.net) c.block.result
    c.in-Block.is c.items-path.ensures c.block.ensures.runs
