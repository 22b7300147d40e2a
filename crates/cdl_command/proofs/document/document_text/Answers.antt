use Rattle.cdl_command.proofs.document.document_text.Goals as goal

pub text-requires : goal.text-requires
text-requires c = c.in_ok-graph.ensures.writable c.requires
