-- The words of a run: one for each element, and then the state words of each elementary instance in preorder.
use Rattle.std.specs.Prelude.{ℕ, ◌+◌, ◌&&◌, ℤ, Bool, cond, filter, not, length, map, sum, List, take, drop, Option, Some, None}
use Rattle.std.specs.Ordering.{int_eq}
use Rattle.cdl_values.specs.History.{no_value, word}
use Rattle.cdl_network.specs.Lists.{has_some, numbers}
use Rattle.cdl_network.specs.Ticks.{Valuation}
use Rattle.cdl_connect.specs.declared.net.Net.{Net}
use Rattle.cdl_connect.specs.Nets.{network_of}

-- the value of a word, or none
abbrev pub value_of : ℤ → Option ℤ
value_of w = cond (int_eq w no_value) None (Some w)

-- the values of the elements
abbrev pub valuation : List ℤ → Valuation ℕ
valuation words e = value_of (word words e)

-- the elementary instances among the first i
abbrev pub elementary_below : Net → ℕ → List ℕ
elementary_below n i = filter (network_of n).elementary (numbers 0 i)

-- where the state words of an instance begin
abbrev pub state_place : Net → ℕ → ℕ
state_place n i = length n.elements + sum (map (network_of n).state_words (elementary_below n i))

abbrev pub state_at : Net → ℕ → List ℤ → List ℤ
state_at n i words = take ((network_of n).state_words i) (drop (state_place n i) words)

-- the outputs of the root
abbrev pub is_root_output : Net → ℕ → Bool
is_root_output n x = not ((network_of n).input x) && not (has_some ((network_of n).parent ((network_of n).owner x)))

abbrev pub root_outputs : Net → List ℕ
root_outputs n = filter (is_root_output n) (network_of n).elements

-- how many instances are elementary
abbrev pub elementary_count : Net → ℕ
elementary_count n = length (elementary_below n (length n.instances))
