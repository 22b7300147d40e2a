use Rattle.std.proofs.Common.{◌∙◌, ap, List}
use Rattle.cdl_kinds.specs.Ports.{inputs, outputs}
use Rattle.cdl_values.specs.declared.value.Array.{Array}
use Rattle.cdl_block_tests.proofs.values.block_of.Goals as goal

pub returns-clause-inputs : goal.returns-clause-inputs
returns-clause-inputs c = c.new.ensures.inputs ∙ ap (λ (v : List Array). inputs c.args.kind v) c.in_ok-copy.ensures

pub returns-clause-results : goal.returns-clause-results
returns-clause-results c = c.new.ensures.results ∙ ap (λ (v : List Array). outputs c.args.kind v) c.in_ok-copy.ensures
