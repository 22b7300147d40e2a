use Rattle.cdl_kind_laws.proofs.TypedOutputs.{outputs_typed}
use Rattle.cdl_kind_laws.proofs.meanings.outputs_have_their_types.Goals as goal

pub returns : goal.returns
returns c = outputs_typed
