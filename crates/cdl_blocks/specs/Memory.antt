-- What latches and toggles remember.
use Rattle.std.specs.Prelude.{ℤ, Bool, true, false, cond, not, ◌&&◌, List}
use Rattle.cdl_values.specs.History.{History, Meaning, is_on, word}
use Rattle.cdl_kinds.specs.Meaning.Edges.{latch, latched, toggle, toggled}
use Rattle.cdl_blocks.specs.declared.memory.MemoryOp.{MemoryOp}
use Rattle.cdl_blocks.specs.declared.memory.MemoryOp.TheVariants.{Latch, Toggle}

-- y at the latest tick, and what the block means
abbrev pub memory : MemoryOp → History → Bool
memory Latch = latched
memory Toggle = toggled

abbrev pub memory_meaning : MemoryOp → Meaning
memory_meaning Latch = latch
memory_meaning Toggle = toggle

-- y where u starts, from the y before
abbrev pub memory_started : MemoryOp → Bool → Bool
memory_started Latch y = true
memory_started Toggle y = not y

-- y from the y and the u before
abbrev pub memory_next : MemoryOp → Bool → Bool → List ℤ → Bool
memory_next op y u x = cond (is_on (word x 1)) false (cond (is_on (word x 0) && not u) (memory_started op y) y)
