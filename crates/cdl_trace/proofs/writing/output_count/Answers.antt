use Rattle.std.proofs.Common.{◌≡◌, ◌∙◌, ap, arith, length}
use Rattle.std.proofs.lemmas.List.{length-map}
use Rattle.cdl_connect.specs.Nets.{network_of}
use Rattle.cdl_trace.specs.Columns.{column_of, labelled, output_columns, root_outputs}
use Rattle.cdl_trace.proofs.writing.output_count.Goals as goal

pub returns : goal.returns
returns c =
    let a : length c.items.result.now ≡ length (output_columns (labelled c.args._net.now)) = ap length (c.items.ensures ∙ c.requires) in
    let b : length (output_columns (labelled c.args._net.now)) ≡ length (root_outputs (network_of c.args._net.now)) = length-map (root_outputs (network_of c.args._net.now)) (column_of (labelled c.args._net.now)) in
    omega (arith, a, b)
