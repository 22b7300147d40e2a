-- What makes the numbers of a net good, item by item.
use Rattle.std.specs.Prelude.{ℕ, ◌+◌, ◌<◌, ◌≤◌, ◌≡◌, ◌==◌, ◌&&◌, nat_le, nat_lt, false, length, Some, slice_get}
use Rattle.cdl_connect.specs.declared.net.Net.{Net}
use Rattle.cdl_connect.specs.declared.net.NetInstance.{NetInstance}
use Rattle.cdl_connect.specs.declared.net.RawWire.{RawWire}
use Rattle.cdl_connect.specs.Nets.{element, is_elementary}

-- the first k elements stand by instance
abbrev pub AreRising : Net → ℕ → Type 0
AreRising n k = (x y : ℕ) → x ≤ y → y < k → (element n x).instance ≤ (element n y).instance

-- the element is of no earlier instance than the one before it
abbrev pub Follows : Net → ℕ → Type 0
Follows n x = (y : ℕ) → y + 1 ≡ x → (element n y).instance ≤ (element n x).instance

-- the elements from a to b are all the instance's; the one before a is of an earlier instance; the one at b is of a later one
abbrev pub AreOwn : Net → ℕ → ℕ → ℕ → Type 0
AreOwn n i a b = (x : ℕ) → a ≤ x → x < b → (element n x).instance ≡ i

abbrev pub Begins : Net → ℕ → ℕ → Type 0
Begins n i a = (x : ℕ) → x + 1 ≡ a → (element n x).instance < i

abbrev pub Ends : Net → ℕ → ℕ → Type 0
Ends n i b = b < length n.elements → i < (element n b).instance

-- the instance's window holds the elements that it has, and no others
abbrev pub Owns : Net → ℕ → NetInstance → Type 0
Owns n i t = (x : ℕ) → x < length n.elements → ((element n x).instance == i) ≡ (nat_le t.first x && nat_lt x (t.first + t.count))

pub record IsFineInstance (n : Net) (i : ℕ) (t : NetInstance) : Type 0 where
  pub parent : (p : ℕ) → t.parent ≡ Some p → p < length n.instances
  pub within : t.first + t.count ≤ length n.elements
  pub own : Owns n i t

pub record IsFineWire (n : Net) (w : RawWire) : Type 0 where
  pub scope : w.scope < length n.instances
  pub composite : is_elementary (slice_get n.instances w.scope) ≡ false
  pub left : w.left < length n.elements
  pub right : w.right < length n.elements
