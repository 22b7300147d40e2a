-- Words of a region, and windows of them.
use Rattle.std.specs.Prelude.{◌≡◌, ◌⊎◌, ℕ, ◌+◌, ◌≤◌, ◌++◌, ℤ, List, length, take, drop}
use Rattle.std.specs.List.{refill}

-- the words of a region, from the first to the last, and how many of them were handed out
pub record Carved : Type 0 where
  pub words : List ℤ
  pub used : ℕ

-- the place of the first word of a window, and the number of its words
pub record Extent : Type 0 where
  pub place : ℕ
  pub len : ℕ

-- the words of a window
abbrev pub window : List ℤ → Extent → List ℤ
window words w = take w.len (drop w.place words)

-- The words are there.
abbrev pub Fits : List ℤ → Extent → Type 0
Fits words w = w.place + w.len ≤ length words

-- All words of the window were handed out.
abbrev pub LiesWithin : Carved → Extent → Type 0
LiesWithin r w = w.place + w.len ≤ r.used

-- No word lies in both: one window ends where the other begins, or before.
abbrev pub LieApart : Extent → Extent → Type 0
LieApart v w = (v.place + v.len ≤ w.place) ⊎ (w.place + w.len ≤ v.place)

-- the words, with others in place of those from a place on, as many as there were
abbrev pub overwritten : List ℤ → Extent → List ℤ → List ℤ
overwritten words w new = refill (length words) words (take w.place words ++ (new ++ drop (length new) (drop w.place words)))
