-- How a counter goes on.
use Rattle.std.specs.Prelude.{ℤ, ◌+ℤ◌, Bool, cond, not, ◌&&◌, List}
use Rattle.cdl_values.specs.History.{bit, is_on, word}

-- the count from the count and both inputs before
abbrev pub count_next : ℤ → ℤ → Bool → Bool → List ℤ → ℤ
count_next start count trigger reset x =
    cond (is_on (word x 1) && not reset) start (count +ℤ bit (is_on (word x 0) && not trigger))
