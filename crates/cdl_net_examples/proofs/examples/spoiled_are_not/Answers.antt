use Rattle.cdl_net_examples.proofs.Spoiled.{no_gap, no_point, no_wire_to_nowhere}
use Rattle.cdl_net_examples.proofs.examples.spoiled_are_not.Goals as goal

pub returns : goal.returns
returns c = record { wire = no_wire_to_nowhere; path = no_point; array = no_gap }
