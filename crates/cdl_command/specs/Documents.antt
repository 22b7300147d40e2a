-- The document of a model.
use Rattle.std.specs.Prelude.{◌≡◌, ℕ, List, ◌++◌, codes}
use Rattle.serde_json.specs.Written.{compact_text}
use Rattle.cdl_connect.specs.declared.net.Net.{Net}
use Rattle.cdl_model.specs.NetOf.{NetOf}
use Rattle.cdl_model.specs.Parts.{Unfolding}
use Rattle.cxf_graph.specs.Document.{document}
use Rattle.cxf_graph.specs.Written.{graph_of}

-- the text of the document of a net, and a line feed
abbrev pub document_text : Net → List ℕ
document_text n = compact_text (document (graph_of n)) ++ codes "\n"

-- This is the text of the document of the net of the model, and a line feed.
pub record IsDocument (u : Unfolding) (text : List ℕ) : Type 0 where
  pub net : Net
  pub net_is : NetOf u net
  pub text_is : text ≡ document_text net
