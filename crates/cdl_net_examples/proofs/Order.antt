-- In the net of a block that negates its input each element stands behind those that determine it. So nothing is on a loop, and there is one solution.
use Rattle.std.proofs.Common.{ℕ, zero, suc, ◌<◌, ◌≡◌, refl, sym, ap, ◌∙◌, subst, inl, inr, true, List, [], ◌∷◌, Some, slice_get, arith}
use Rattle.std.proofs.lemmas.Bool.{false≢true}
use Rattle.cdl_network.specs.Dependence.{Determines, From, HasOrigin, NoLoop, Origin, Out, Reads, Row, Walk}
use Rattle.cdl_network.specs.Lists.{In}
use Rattle.cdl_network.specs.Network.{Network, Wire}
use Rattle.cdl_network.specs.Planned.{AgreeAll}
use Rattle.cdl_network.specs.Rules.{sink_of, source_of}
use Rattle.cdl_network.specs.Ticks.{Solves, Tick, Valuation}
use Rattle.cdl_connect.specs.Faults.{IsChecked}
use Rattle.cdl_connect.specs.Nets.{network_of}
use Rattle.cdl_connect.proofs.Networks.{one_solution, well_formed_indexed}
use Rattle.cdl_connect.proofs.Windows.{direct_alone}
use Rattle.cdl_net_examples.specs.Negation.{negation}
use Rattle.cdl_net_examples.proofs.Negation.{negation_formed, negation_unbroken}

-- `u`, then `n.u`, `n.y` and `y`
abbrev place : ℕ → ℕ
place zero = 0
place (suc zero) = 3
place (suc (suc zero)) = 1
place (suc (suc (suc x))) = 2

abbrev network : Network ℕ ℕ
network = network_of negation

ends : (s x a b : ℕ) → s ≡ a → x ≡ b → place a < place b → place s < place x
ends s x a b p q h = rw (p, q) h

along_wire : (s x t : ℕ) (w : Wire ℕ ℕ) → In w network.wires → source_of network w ≡ t → sink_of network w ≡ x → s ≡ t → place s < place x
along_wire s x t w (inl e) p q r = let h : 0 < 1 = omega arith in ends s x 0 2 (r ∙ sym p ∙ ap (source_of network) e) (sym q ∙ ap (sink_of network) e) h
along_wire s x t w (inr (inl e)) p q r = let h : 2 < 3 = omega arith in ends s x 3 1 (r ∙ sym p ∙ ap (source_of network) e) (sym q ∙ ap (sink_of network) e) h
along_wire s x t w (inr (inr i)) p q r = absurd i

output_is : (k x : ℕ) → slice_get (3 ∷ []) k ≡ Some x → x ≡ 3
output_is zero x e = let h : 3 ≡ x = cc in sym h
output_is (suc k) x e = absurd (cc)

input_is : (s : ℕ) → In s (2 ∷ []) → s ≡ 2
input_is s (inl e) = e
input_is s (inr i) = absurd i

through_block : (s x i k : ℕ) → In i network.instances → network.elementary i ≡ true → HasOrigin network x (Out i k) → Reads network (Out i k) s → place s < place x
through_block s x i k (inl e) h o r = absurd (false≢true (sym (ap network.elementary e) ∙ h))
through_block s x i k (inr (inl e)) h o r =
    let b : 1 < 2 = omega arith in
    let c = subst (λ j. HasOrigin network x (Out j k)) e o in
    let d = subst (λ j. Reads network (Out j k) s) e r in
    ends s x 2 3 (input_is s d) (output_is k x c.2) b
through_block s x i k (inr (inr j)) h o r = absurd j

behind : (s x : ℕ) (c : Origin ℕ ℕ) → HasOrigin network x c → Reads network c s → place s < place x
behind s x (Row k) o r = absurd r
behind s x (From t) o r = along_wire s x t o.0 o.1 o.2 o.3 r
behind s x (Out i k) o r = through_block s x i k o.0 o.1 o r

walk_behind : (x y k : ℕ) → Walk network x y (suc k) → place x < place y
walk_behind x y zero w =
    let d = behind w.0 y w.2.0 w.2.1 w.2.2 in
    subst (λ z. place z < place y) (sym w.1) d
walk_behind x y (suc k) w =
    let d = behind w.0 y w.2.0 w.2.1 w.2.2 in
    let g = walk_behind x w.0 k w.1 in
    omega (arith, d, g)

pub negation_no_loop : NoLoop network
negation_no_loop x i l = let h = walk_behind x x l.0 l.1 in absurd (omega (arith, h))

pub negation_checked : IsChecked negation
negation_checked = record { indexed = well_formed_indexed negation negation_formed; unbroken = negation_unbroken }

pub negation_solution : (ts : List Tick) → (vs : List (Valuation ℕ)) × Solves network [] ts vs × ((ws : List (Valuation ℕ)) → Solves network [] ts ws → AgreeAll network ws vs)
negation_solution ts = one_solution negation ts negation_checked (direct_alone negation negation_checked.indexed negation_formed.kinds) negation_no_loop
