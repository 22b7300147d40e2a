use Rattle.std.proofs.Common.{inl, refl, arith}
use Rattle.std.specs.Prelude.{pos}
use Rattle.cdl_values.specs.declared.value.ValueType.TheVariants.{Boolean}
use Rattle.cdl_kind_laws.proofs.ValueWords.{before_value, bit_value, two_booleans}
use Rattle.cdl_blocks.specs.Memory.{memory}
use Rattle.cdl_blocks.proofs.memory.MemoryElementary.sound.Goals as goal

pub returns-clause-standing : goal.returns-clause-standing
returns-clause-standing c h history stands last =
    rw stands (two_booleans _ _ (bit_value (memory c.args.self.now.op h)) (before_value Boolean (pos 0) 0 h (omega arith) refl (inl refl) history))
