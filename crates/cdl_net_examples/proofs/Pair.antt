-- The net of a block that negates two inputs.
use Rattle.std.proofs.Common.{ℕ, ◌≡◌, refl, List, [], ◌∷◌, codes, arith, None}
use Rattle.std.proofs.lemmas.Bool.{false≢true}
use Rattle.cdl_network.specs.Rules.{element_fault, wire_fault}
use Rattle.cdl_connect.specs.declared.net.RawWire.{RawWire}
use Rattle.cdl_connect.specs.Faults.{IsUnbroken}
use Rattle.cdl_connect.specs.Nets.{network_of, wire_in}
use Rattle.cdl_connect.specs.Paths.{AreSizes, ArrayOf, Row, Single, Step}
use Rattle.cdl_connect.specs.WellFormed.{ArePaths, HasSteps, IsWellFormed}
use Rattle.cxf_graph.specs.Document.{document}
use Rattle.cxf_graph.specs.Reading.{IsGraphOf}
use Rattle.cxf_graph.specs.Written.{graph_of}
use Rattle.cxf_laws.proofs.Ids.{net_back}
use Rattle.cxf_laws.proofs.Plain.{apart_tested}
use Rattle.cdl_net_examples.specs.Pair.{pair}
use Rattle.cdl_net_examples.proofs.Inverters.{inverter_ports, u_port, y_port}
use Rattle.cdl_net_examples.proofs.Placed.{Passes, placed}
use Rattle.cdl_net_examples.proofs.Steps.{ArePartsOf, AreSteps, array, has_steps, indexed, indexed_text, n_named, single, single_text, step_at, u_named, y_named}
use Rattle.cdl_net_examples.proofs.Tests.{each_at, each_below, each_in}

passes : Passes pair
passes = record {
  parents = refl;
  owners = refl;
  scopes = refl;
  lefts = refl;
  rights = refl;
  some = refl;
  root = refl;
  next = refl;
  rising = refl;
  within = refl;
  own = refl;
  by_scope = refl;
  near_left = refl;
  near_right = refl;
  composite_root = refl;
  composite_parents = refl;
  composite_scopes = refl;
  plain = refl;
  ascii = refl;
  short = refl;
  real = refl;
  few_instances = refl;
  few_elements = refl;
  few_wires = refl;
  few_steps = refl;
}

-- the steps of its elements and of its parts
abbrev u : Step
u = single (codes "u")

abbrev y : Step
y = single (codes "y")

abbrev element_step : ℕ → Step
element_step = step_at (indexed (codes "u") 1 ∷ indexed (codes "u") 2 ∷ indexed (codes "y") 1 ∷ indexed (codes "y") 2 ∷ u ∷ y ∷ u ∷ y ∷ [])

abbrev part_step : ℕ → Step
part_step = step_at (single [] ∷ indexed (codes "n") 1 ∷ indexed (codes "n") 2 ∷ [])

steps : AreSteps pair element_step
steps = record {
  texts = (
    indexed_text (codes "u") 1 u_named (omega arith),
    (
      indexed_text (codes "u") 2 u_named (omega arith),
      (
        indexed_text (codes "y") 1 y_named (omega arith),
        (
          indexed_text (codes "y") 2 y_named (omega arith),
          (single_text (codes "u") u_named, (single_text (codes "y") y_named, (single_text (codes "u") u_named, (single_text (codes "y") y_named, tt)))),
        ),
      ),
    ),
  );
  types = (refl, (refl, (refl, (refl, (refl, (refl, (refl, (refl, tt))))))));
  inputs = (refl, (refl, (refl, (refl, (refl, (refl, (refl, (refl, tt))))))));
}

abbrev rows : List ArrayOf
rows = array (codes "u") (Row 2) ∷ array (codes "y") (Row 2) ∷ []

abbrev singles : List ArrayOf
singles = array (codes "u") Single ∷ array (codes "y") Single ∷ []

root_steps : HasSteps pair 0 element_step part_step
root_steps = has_steps pair 0 element_step part_step rows (array (codes "n") (Row 2) ∷ []) steps
    (λ h. absurd (false≢true h), (λ h. (codes "n[1]", indexed_text (codes "n") 1 n_named (omega arith), refl), (λ h. (codes "n[2]", indexed_text (codes "n") 2 n_named (omega arith), refl), tt)))
    (record {
      steps = refl;
      sizes = each_in (λ (a : ArrayOf). AreSizes a.sizes) (array (codes "u") (Row 2) ∷ array (codes "y") (Row 2) ∷ array (codes "n") (Row 2) ∷ []) (two, (two, (two, tt)));
      apart = apart_tested (codes "u" ∷ codes "y" ∷ codes "n" ∷ []) refl;
    })
  where
    two : AreSizes (Row 2)
    two = (omega arith, omega arith)

first_steps : HasSteps pair 1 element_step part_step
first_steps = has_steps pair 1 element_step part_step singles [] steps no_parts
    (record { steps = refl; sizes = each_in (λ (a : ArrayOf). AreSizes a.sizes) singles (tt, (tt, tt)); apart = apart_tested (codes "u" ∷ codes "y" ∷ []) refl })
  where
    no_parts : ArePartsOf pair 1 part_step
    no_parts = (λ h. absurd (false≢true h), (λ h. absurd (false≢true h), (λ h. absurd (false≢true h), tt)))

second_steps : HasSteps pair 2 element_step part_step
second_steps = has_steps pair 2 element_step part_step singles [] steps no_parts
    (record { steps = refl; sizes = each_in (λ (a : ArrayOf). AreSizes a.sizes) singles (tt, (tt, tt)); apart = apart_tested (codes "u" ∷ codes "y" ∷ []) refl })
  where
    no_parts : ArePartsOf pair 2 part_step
    no_parts = (λ h. absurd (false≢true h), (λ h. absurd (false≢true h), (λ h. absurd (false≢true h), tt)))

paths : ArePaths pair
paths = record {
  root = refl;
  each = each_below 3 (λ i. (step part : ℕ → Step) × HasSteps pair i step part) ((element_step, part_step, root_steps), ((element_step, part_step, first_steps), ((element_step, part_step, second_steps), tt)));
}

pub pair_formed : IsWellFormed pair
pair_formed = placed pair passes (tt, (inverter_ports pair "#n[1]" 4 (u_port 1) (y_port 1), (inverter_ports pair "#n[2]" 6 (u_port 2) (y_port 2), tt))) paths

pub pair_unbroken : IsUnbroken pair
pair_unbroken = record {
  wires = λ j w l s. each_at (λ k (v : RawWire). wire_fault (network_of pair) (wire_in v) ≡ None) pair.wires (refl, (refl, (refl, (refl, tt)))) j w s;
  elements = each_below 8 (λ x. element_fault (network_of pair) x ≡ None) (refl, (refl, (refl, (refl, (refl, (refl, (refl, (refl, tt))))))));
}

pub pair_back : IsGraphOf (document (graph_of pair)) (graph_of pair)
pair_back = net_back pair pair_formed
