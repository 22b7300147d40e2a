-- What breaks no rule has one solution.
use Rattle.std.proofs.Common.{ℕ, zero, suc, ◌<◌, ◌≡◌, refl, arith, List, [], Option, Some, None, slice_get}
use Rattle.cdl_network.specs.Closed.{Closed, Shaped}
use Rattle.cdl_network.specs.Dependence.{FirstLoop, HasLoop, NoLoop}
use Rattle.cdl_network.specs.FirstBroken.{Accepted, AtElement, AtInstance, AtWire}
use Rattle.cdl_network.specs.Network.{Network}
use Rattle.cdl_network.specs.Planned.{AgreeAll, DirectOnly}
use Rattle.cdl_network.specs.Renamed.{Renamed, rename_spot}
use Rattle.cdl_network.specs.Rules.{first_element, first_wire}
use Rattle.cdl_network.specs.Ticks.{Solves, Tick, Valuation}
use Rattle.cdl_network.proofs.Checking.{slice_in, checked_solution}
use Rattle.cdl_network.proofs.Looping.{broken_back, broken_there}

no_pair : {A : Type 0} (o : Option (A × ℕ)) → ((x : A) (r : ℕ) → o ≡ Some (x, r) → ⊥) → o ≡ None
no_pair None f = refl
no_pair (Some p) f = absurd (f p.0 p.1 refl)

-- no instance has a loop, since there would be a first
no_instance : {I E : Type 0} (n : Network I E) → ((i : I) → FirstLoop n i → ⊥) → (b k : ℕ) (i : I) → k < b → slice_get n.instances k ≡ Some i → HasLoop n i → ⊥
no_instance n f zero k i l e h = omega arith
no_instance n f (suc b) k i l e h = f i (k, e, h, λ j o lt g q. no_instance n f b j o (omega arith) g q)

pub accepted_rules : {I E : Type 0} (n : Network I E) → Closed n → Accepted n → (first_wire n ≡ None) × (first_element n ≡ None) × NoLoop n
accepted_rules n c a =
    let w : first_wire n ≡ None = no_pair (first_wire n) (λ x r e. a (AtWire x r) e) in
    let e : first_element n ≡ None = no_pair (first_element n) (λ x r h. a (AtElement x r) (w, h)) in (
      w,
      e,
      λ x i l.
          let k = slice_in (n.owner x) n.instances (c.owner x i) in
          no_instance n (λ j h. a (AtInstance j) (w, e, h)) (suc k.0) k.0 (n.owner x) (omega arith) k.1 (x, i, refl, l),
    )

pub accepted_there : {I E J F : Type 0} (a : I → J) (b : E → F) (m : Network I E) (n : Network J F) → Closed m → Renamed a b m n → Accepted m → Accepted n
accepted_there a b m n c r f q h = let p = broken_back a b m n q c r h in f p.0 p.2

pub accepted_back : {I E J F : Type 0} (a : I → J) (b : E → F) (m : Network I E) (n : Network J F) → Closed m → Renamed a b m n → Accepted n → Accepted m
accepted_back a b m n c r f p h = f (rename_spot a b p) (broken_there a b m n p c r h)

-- the law of the ticks, from the rules alone
pub accepted_solution : {I E : Type 0} (n : Network I E) (ts : List Tick) → Closed n → Shaped n → DirectOnly n → Accepted n
    → (vs : List (Valuation E)) × Solves n [] ts vs × ((ws : List (Valuation E)) → Solves n [] ts ws → AgreeAll n ws vs)
accepted_solution n ts c z u a = let r = accepted_rules n c a in checked_solution n ts c z r.0 r.1 u r.2
