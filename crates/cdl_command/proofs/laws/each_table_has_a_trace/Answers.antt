use Rattle.cdl_model.specs.Networks.{network}
use Rattle.cdl_trace.proofs.Traces.{sole, some_end}
use Rattle.cdl_command.specs.Sequences.{labelled}
use Rattle.cdl_command.proofs.laws.each_table_has_a_trace.Goals as goal

pub returns : goal.returns
returns c w u rows d a =
    let laws = c.model_is_a_network.ensures in
    some_end (labelled u) rows (sole (network u) (laws.closed w u d) (laws.shaped w u d) (laws.direct u) a)
