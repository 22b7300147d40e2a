-- What the making of a document leaves.
use Rattle.std.specs.Prelude.{◌≡◌, ◌≤◌, ◌<◌, ℕ, List, length}
use Rattle.cdl_source.specs.declared.limits.TheConstants.{LONGEST_DOCUMENT}
use Rattle.cdl_source.specs.declared.rules.TheConstants.{CXF_TOO_LONG}
use Rattle.cdl_connect.specs.declared.net.Net.{Net}
use Rattle.cdl_command.specs.Breaks.{root_path}
use Rattle.cdl_command.specs.Documents.{document_text}
use Rattle.cdl_command.specs.inner.Stops.{refusal_of}
use Rattle.cdl_command.specs.declared.stop.Refusal.{Refusal}

-- This is the text of the document of the net, within the limit.
pub record HasText (n : Net) (text : List ℕ) : Type 0 where
  pub text_is : text ≡ document_text n
  pub short : length text ≤ LONGEST_DOCUMENT

-- That text is too long.
pub record RefusesDocument (n : Net) (r : Refusal) : Type 0 where
  pub long : LONGEST_DOCUMENT < length (document_text n)
  pub refusal_is : r ≡ refusal_of CXF_TOO_LONG root_path
