-- Where each input is direct, a meaning rests on direct inputs alone.
use Rattle.std.proofs.Common.{ℕ, ◌≡◌, ap, ℤ, List, true, arith}
use Rattle.std.specs.Prelude.{Option, pos}
use Rattle.std.proofs.lemmas.List.{ext_get_or}
use Rattle.cdl_values.specs.History.{History, SameDirect, Signature}

-- where each input is direct, the same direct inputs are the same inputs
pub same_inputs : (p : Signature) (x y : List ℤ) → ((i : ℕ) → p.direct i ≡ true) → SameDirect p x y → x ≡ y
same_inputs p x y d s = ext_get_or (pos 0) x y s.size (λ i l. s.each i (omega (arith, s.count)) (d i))

-- so a meaning rests on direct inputs alone
pub by_all : {B : Type 0} (m : B → History → ℤ → List ℤ → Option (List ℤ)) (p : Signature) → ((i : ℕ) → p.direct i ≡ true) → (b : B) (h : History) (now : ℤ) (x y : List ℤ) → SameDirect p x y → m b h now x ≡ m b h now y
by_all m p d b h now x y s = ap (λ (z : List ℤ). m b h now z) (same_inputs p x y d s)
