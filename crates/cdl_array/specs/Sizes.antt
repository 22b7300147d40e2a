-- Sizes, and shapes whose items are not too many.
use Rattle.std.specs.Prelude.{ℕ, pos, ◌&&◌, List, unsigned_abs, nat_le, Ok, Err}
use Rattle.std.specs.Int.RustNames.{int_le}
use Rattle.cdl_values.specs.Values.{items_of}
use Rattle.cdl_values.specs.declared.value.Array.{Array}
use Rattle.cdl_values.specs.declared.value.Value.{Value}
use Rattle.cdl_values.specs.declared.value.Value.TheVariants.{Integer}
use Rattle.cdl_source.specs.declared.limits.TheConstants.{LARGEST_SIZE, MOST_ITEMS}
use Rattle.cdl_source.specs.declared.rules.TheConstants.{WRONG_SHAPE, WRONG_TYPE, SIZE_OUT_OF_RANGE}
use Rattle.cdl_array.specs.Outcomes.{Outcome, some_or, holds_or}
use Rattle.cdl_array.specs.Scalars.{scalar_of}

-- a size is an Integer from 0 to 4096
unfoldable pub size_value : Value → Outcome ℕ
size_value (Integer z) = holds_or (int_le (pos 0) z && int_le z (pos LARGEST_SIZE)) SIZE_OUT_OF_RANGE (Ok (unsigned_abs z))
size_value _ = Err WRONG_TYPE

abbrev pub size_of : Array → Outcome ℕ
size_of a = some_or (scalar_of a) WRONG_SHAPE size_value

-- how many items an array of this shape has, which are at most 65,536
abbrev pub count_of : List ℕ → Outcome ℕ
count_of shape = holds_or (nat_le (items_of shape) MOST_ITEMS) SIZE_OUT_OF_RANGE (Ok (items_of shape))
