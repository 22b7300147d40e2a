use Rattle.std.proofs.Common.{string_bytes}
use Rattle.std.proofs.lemmas.Result.{IfOk-weaker}
use Rattle.cxf_graph.proofs.Floats.{text_of}
use Rattle.cxf_graph.proofs.json.document_text.Goals as goal

pub returns : goal.returns
returns c = IfOk-weaker c.to_string.result _ _ (λ s h. text_of c.args.graph.now _ (string_bytes s) c.in_ok-value.ensures h) c.to_string.ensures.text
