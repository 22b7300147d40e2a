-- Windows of a region of words.
use Rattle.std.specs.Prelude.{ℕ, ◌+◌, ◌≤◌, ◌≡◌, ℤ, List, take, drop}
use Rattle.cdl_pass.specs.declared.net.Node.{Node}

-- n words from a place on
abbrev pub window : List ℤ → ℕ → ℕ → List ℤ
window w a n = take n (drop a w)

abbrev pub ins_of : Node → List ℤ → List ℤ
ins_of p w = window w p.ins p.nin

abbrev pub outs_of : Node → List ℤ → List ℤ
outs_of p w = window w p.outs p.nout

abbrev pub state_of : Node → List ℤ → List ℤ
state_of p w = window w p.state p.width

-- the windows lie in the region, the elements before the states
pub record Lies (p : Node) (size : ℕ) : Type 0 where
  pub earlier : p.ins + p.nin ≤ p.outs
  pub elements : p.outs + p.nout ≤ p.state
  pub states : p.state + p.width ≤ size

-- only the outputs changed
pub record OnlyOuts (p : Node) (old new : List ℤ) : Type 0 where
  pub before : take p.outs new ≡ take p.outs old
  pub after : drop (p.outs + p.nout) new ≡ drop (p.outs + p.nout) old

-- only the state changed
pub record OnlyState (p : Node) (old new : List ℤ) : Type 0 where
  pub before : take p.state new ≡ take p.state old
  pub after : drop (p.state + p.width) new ≡ drop (p.state + p.width) old
