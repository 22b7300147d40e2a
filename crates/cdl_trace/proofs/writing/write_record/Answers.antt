use Rattle.cdl_trace.proofs.Ticking.{outputs_are}
use Rattle.cdl_trace.proofs.writing.write_record.Goals as goal

pub row-requires : goal.row-requires
row-requires g c = rw (c.requires.writer, c.take_outputs.ensures) (outputs_are c.args.runner.now c.requires.values)
