use Rattle.std.proofs.Common.{◌≡◌}
use Rattle.std.proofs.lemmas.Result.{IfOk-weaker}
use Rattle.cdl_connect.specs.WellFormed.{IsWellFormed}
use Rattle.cxf_graph.specs.Document.{IsWritable}
use Rattle.cxf_graph.specs.Written.{graph_of}
use Rattle.cxf_graph.proofs.Writable.{writable_as}
use Rattle.cxf_graph.proofs.writer.write.Goals as goal

pub returns-clause-writable : goal.returns-clause-writable
returns-clause-writable c =
    IfOk-weaker c.graph.result (λ g. g ≡ graph_of c.net.result.now) (λ g. IsWellFormed c.args.net.now → IsWritable g)
    (λ g e w. writable_as c.args.net.now c.net.result.now g e c.net.ensures.same w) c.graph.ensures
