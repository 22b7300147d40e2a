-- How many state words a block of a kind has.
use Rattle.std.specs.Prelude.{ℕ, ◌+◌, List, unsigned_abs}
use Rattle.cdl_kinds.specs.declared.kind.Kind.{Kind}
use Rattle.cdl_kinds.specs.declared.state_size.StateSize.{StateSize}
use Rattle.cdl_kinds.specs.declared.state_size.StateSize.TheVariants.{Words, Samples}
use Rattle.cdl_kinds.specs.Table.{row}
use Rattle.cdl_values.specs.declared.value.Array.{Array}
use Rattle.cdl_values.specs.Values.{integer_at}

-- so many words, and where the first parameter says how many samples there are, one for each
abbrev pub words_in : StateSize → List Array → ℕ
words_in (Words w) v = w
words_in (Samples w) v = unsigned_abs (integer_at v 0) + w

abbrev pub state_words : Kind → List Array → ℕ
state_words k v = words_in (row k).state v
