-- The elementary instances among vertices, in the order in which they stand.
use Rattle.std.specs.Prelude.{ℕ, ◌+◌, ◌-◌, ◌<◌, ◌≡◌, ◌&&◌, nat_le, Bool, true, List, length, get_or}
use Rattle.cdl_connect.specs.declared.net.Net.{Net}
use Rattle.cdl_connect.specs.Nets.{network_of}

-- the vertex is an elementary instance
abbrev pub is_listed : Net → ℕ → Bool
is_listed n v = nat_le (length n.elements) v && (network_of n).elementary (v - length n.elements)

-- the list of those among the first t of an order; vertices from m on are instances
pub record Listed (elementary : ℕ → Bool) (m : ℕ) (order : List ℕ) (t : ℕ) (list : List ℕ) : Type 0 where
  pub inside : (j : ℕ) → j < length list → (p : ℕ) × (p < t) × (get_or order p 0 ≡ m + get_or list j 0) × (elementary (get_or list j 0) ≡ true)
  pub each : (p i : ℕ) → p < t → get_or order p 0 ≡ m + i → elementary i ≡ true → (j : ℕ) × (j < length list) × (get_or list j 0 ≡ i)
  pub once : (i j : ℕ) → i < j → j < length list → get_or list i 0 ≡ get_or list j 0 → ⊥
  pub behind : (j p r q : ℕ) → j < length list → p < length order → get_or order p 0 ≡ m + get_or list j 0 → r < p → get_or order r 0 ≡ m + q → elementary q ≡ true → (i : ℕ) × (i < j) × (get_or list i 0 ≡ q)
