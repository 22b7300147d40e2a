-- The net of a block that negates its input.
use Rattle.std.proofs.Common.{ℕ, ◌≡◌, refl, List, [], ◌∷◌, codes, None}
use Rattle.std.proofs.lemmas.Bool.{false≢true}
use Rattle.cdl_network.specs.Rules.{element_fault, wire_fault}
use Rattle.cdl_connect.specs.declared.net.RawWire.{RawWire}
use Rattle.cdl_connect.specs.Faults.{IsUnbroken}
use Rattle.cdl_connect.specs.Nets.{network_of, wire_in}
use Rattle.cdl_connect.specs.Paths.{AreSizes, ArrayOf, Single, Step}
use Rattle.cdl_connect.specs.WellFormed.{ArePaths, HasSteps, IsWellFormed}
use Rattle.cxf_graph.specs.Document.{document}
use Rattle.cxf_graph.specs.Reading.{IsGraphOf}
use Rattle.cxf_graph.specs.Written.{graph_of}
use Rattle.cxf_laws.proofs.Ids.{net_back}
use Rattle.cxf_laws.proofs.Plain.{apart_tested}
use Rattle.cdl_net_examples.specs.Negation.{negation}
use Rattle.cdl_net_examples.proofs.Inverters.{inverter_ports, u_port, y_port}
use Rattle.cdl_net_examples.proofs.Placed.{Passes, placed}
use Rattle.cdl_net_examples.proofs.Steps.{AreSteps, array, has_steps, n_named, single, single_text, step_at, u_named, y_named}
use Rattle.cdl_net_examples.proofs.Tests.{each_at, each_below, each_in}

passes : Passes negation
passes = record {
  parents = refl;
  owners = refl;
  scopes = refl;
  lefts = refl;
  rights = refl;
  some = refl;
  root = refl;
  next = refl;
  rising = refl;
  within = refl;
  own = refl;
  by_scope = refl;
  near_left = refl;
  near_right = refl;
  composite_root = refl;
  composite_parents = refl;
  composite_scopes = refl;
  plain = refl;
  ascii = refl;
  short = refl;
  real = refl;
  few_instances = refl;
  few_elements = refl;
  few_wires = refl;
  few_steps = refl;
}

-- the steps of its elements and of its part
abbrev u : Step
u = single (codes "u")

abbrev y : Step
y = single (codes "y")

abbrev element_step : ℕ → Step
element_step = step_at (u ∷ y ∷ u ∷ y ∷ [])

abbrev part_step : ℕ → Step
part_step = step_at (single [] ∷ single (codes "n") ∷ [])

steps : AreSteps negation element_step
steps = record {
  texts = (single_text (codes "u") u_named, (single_text (codes "y") y_named, (single_text (codes "u") u_named, (single_text (codes "y") y_named, tt))));
  types = (refl, (refl, (refl, (refl, tt))));
  inputs = (refl, (refl, (refl, (refl, tt))));
}

abbrev own_arrays : List ArrayOf
own_arrays = array (codes "u") Single ∷ array (codes "y") Single ∷ []

abbrev part_arrays : List ArrayOf
part_arrays = array (codes "n") Single ∷ []

root_steps : HasSteps negation 0 element_step part_step
root_steps = has_steps negation 0 element_step part_step own_arrays part_arrays steps
    (λ h. absurd (false≢true h), (λ h. (codes "n", single_text (codes "n") n_named, refl), tt))
    (record {
      steps = refl;
      sizes = each_in (λ (a : ArrayOf). AreSizes a.sizes) (array (codes "u") Single ∷ array (codes "y") Single ∷ array (codes "n") Single ∷ []) (tt, (tt, (tt, tt)));
      apart = apart_tested (codes "u" ∷ codes "y" ∷ codes "n" ∷ []) refl;
    })

part_steps : HasSteps negation 1 element_step part_step
part_steps = has_steps negation 1 element_step part_step own_arrays [] steps
    (λ h. absurd (false≢true h), (λ h. absurd (false≢true h), tt))
    (record {
      steps = refl;
      sizes = each_in (λ (a : ArrayOf). AreSizes a.sizes) own_arrays (tt, (tt, tt));
      apart = apart_tested (codes "u" ∷ codes "y" ∷ []) refl;
    })

paths : ArePaths negation
paths = record {
  root = refl;
  each = each_below 2 (λ i. (step part : ℕ → Step) × HasSteps negation i step part) ((element_step, part_step, root_steps), ((element_step, part_step, part_steps), tt));
}

pub negation_formed : IsWellFormed negation
negation_formed = placed negation passes (tt, (inverter_ports negation "#n" 2 (u_port 1) (y_port 1), tt)) paths

pub negation_unbroken : IsUnbroken negation
negation_unbroken = record {
  wires = λ j w l s. each_at (λ k (v : RawWire). wire_fault (network_of negation) (wire_in v) ≡ None) negation.wires (refl, (refl, tt)) j w s;
  elements = each_below 4 (λ x. element_fault (network_of negation) x ≡ None) (refl, (refl, (refl, (refl, tt))));
}

pub negation_back : IsGraphOf (document (graph_of negation)) (graph_of negation)
negation_back = net_back negation negation_formed
