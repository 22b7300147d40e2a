use Rattle.std.proofs.Common.{◌∙◌, arith, inl, inr, refl}
use Rattle.cdl_command_tests.proofs.MixedLaw.{mixed}
use Rattle.cdl_command_tests.proofs.table.traces_are_written.Goals as goal

pub row-requires : goal.row-requires
row-requires g c = mixed _ _ _ _ _ c.in_ok-outputs.ensures (c.header.ensures.kept ∙ c.in_ok-writer.ensures) (inr refl) (omega arith) (omega arith)

pub row-requires-2 : goal.row-requires-2
row-requires-2 g c = mixed _ _ _ _ _ c.in_ok-outputs.ensures (c.row.ensures.kept ∙ c.header.ensures.kept ∙ c.in_ok-writer.ensures) (inl refl) (omega arith) (omega arith)

pub row-requires-3 : goal.row-requires-3
row-requires-3 g c =
    mixed _ _ _ _ _ c.in_ok-outputs.ensures (c.header-2.ensures.kept ∙ c.row-2.ensures.kept ∙ c.row.ensures.kept ∙ c.header.ensures.kept ∙ c.in_ok-writer.ensures) (inl refl) (omega arith) (omega arith)
