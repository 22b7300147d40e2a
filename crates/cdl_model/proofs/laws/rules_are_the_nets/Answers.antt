use Rattle.cdl_connect.specs.Nets.{network_of}
use Rattle.cdl_network.proofs.Accepted.{accepted_back}
use Rattle.cdl_network.proofs.Looping.{determines_there, determines_back, loop_there, loop_back, broken_there, broken_back}
use Rattle.cdl_network.proofs.Rules.{words_same}
use Rattle.cdl_model.specs.Networks.{network}
use Rattle.cdl_model.specs.NetOf.{instance_number, element_number}
use Rattle.cdl_model.proofs.Corresponding.{model_closed, unfolded_renamed, source_same, sink_same}
use Rattle.cdl_model.proofs.laws.rules_are_the_nets.Goals as goal

pub returns-clause-source : goal.returns-clause-source
returns-clause-source c w u n p x d r i j = source_same (instance_number u.instances) (element_number u.elements) (network u) (network_of n) p x (model_closed w u d) (unfolded_renamed w u n d r) i j

pub returns-clause-sink : goal.returns-clause-sink
returns-clause-sink c w u n p x d r i j = sink_same (instance_number u.instances) (element_number u.elements) (network u) (network_of n) p x (model_closed w u d) (unfolded_renamed w u n d r) i j

pub returns-clause-determines : goal.returns-clause-determines
returns-clause-determines c w u n s x d r h = determines_there (instance_number u.instances) (element_number u.elements) (network u) (network_of n) s x (model_closed w u d) (unfolded_renamed w u n d r) h

pub returns-clause-determined : goal.returns-clause-determined
returns-clause-determined c w u n a b d r h =
    let z = determines_back (instance_number u.instances) (element_number u.elements) (network u) (network_of n) a b (model_closed w u d) (unfolded_renamed w u n d r) h in
    (z.0, z.1, z.2, z.3, z.6)

pub returns-clause-loop_there : goal.returns-clause-loop_there
returns-clause-loop_there c w u n x d r h = loop_there (instance_number u.instances) (element_number u.elements) (network u) (network_of n) x (model_closed w u d) (unfolded_renamed w u n d r) h

pub returns-clause-loop_back : goal.returns-clause-loop_back
returns-clause-loop_back c w u n x d r i h = loop_back (instance_number u.instances) (element_number u.elements) (network u) (network_of n) x (model_closed w u d) (unfolded_renamed w u n d r) i h

pub returns-clause-broken_there : goal.returns-clause-broken_there
returns-clause-broken_there c w u n p d r h = broken_there (instance_number u.instances) (element_number u.elements) (network u) (network_of n) p (model_closed w u d) (unfolded_renamed w u n d r) h

pub returns-clause-broken_back : goal.returns-clause-broken_back
returns-clause-broken_back c w u n q d r h = broken_back (instance_number u.instances) (element_number u.elements) (network u) (network_of n) q (model_closed w u d) (unfolded_renamed w u n d r) h

pub returns-clause-accepted : goal.returns-clause-accepted
returns-clause-accepted c w u n d r h = accepted_back (instance_number u.instances) (element_number u.elements) (network u) (network_of n) (model_closed w u d) (unfolded_renamed w u n d r) h

pub returns-clause-words : goal.returns-clause-words
returns-clause-words c w u n d r = words_same (instance_number u.instances) (element_number u.elements) (network u) (network_of n) (unfolded_renamed w u n d r)
