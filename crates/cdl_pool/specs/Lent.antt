-- What a region becomes when the words that it lent were written.
use Rattle.std.specs.Prelude.{ℤ, List, length}
use Rattle.std.specs.List.{refill}
use Rattle.std.specs.Borrow.{Lends, MutBor, Fml, i64, Array}
use Rattle.cdl_pool.specs.Windows.{Carved, Extent, overwritten}
use Rattle.cdl_pool.specs.contracts.region.Region.{the_row}

-- with these words in all places
abbrev pub with_all : Carved → List ℤ → Carved
with_all r new = record { words = refill (length r.words) r.words new; used = r.used }

-- with these words in a window
abbrev pub with_window : Carved → Extent → List ℤ → Carved
with_window r w new = record { words = overwritten r.words w new; used = r.used }

-- The region ends with what was written last to all its words.
abbrev pub LendsAll : MutBor Carved → MutBor (List ℤ) → Fml
LendsAll region result = Lends the_row (Array i64 0) region result (with_all region.now)

-- The region ends with what was written last to a window.
abbrev pub LendsWindow : MutBor Carved → Extent → MutBor (List ℤ) → Fml
LendsWindow region w result = Lends the_row (Array i64 0) region result (with_window region.now w)
