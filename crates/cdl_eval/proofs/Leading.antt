-- What leads at a place leads at smaller ones too.
use Rattle.std.proofs.Common.{ℕ, ◌-◌, ◌<◌, ◌≤◌, ◌≡◌, List, Result, length, take, min, arith, ap, ◌∙◌, length-take}
use denote.Ref.{Bor, MutBor}
use Rattle.cdl_source.specs.declared.limits.TheConstants.{MOST_LINKS}
use Rattle.cdl_values.specs.declared.value.Array.{Array}
use Rattle.cdl_array.specs.declared.fault.EvalFault.{EvalFault}
use Rattle.cdl_classes.specs.declared.found.ClassId.{ClassId}
use Rattle.cdl_paths.specs.declared.path.Step.{Step}
use Rattle.cdl_eval.specs.Kept.{Model}
use Rattle.cdl_eval.specs.Leads.{Leads}
use Rattle.cdl_eval.specs.Places.{weight}

-- one link less weighs less
pub fewer_links : (links steps : ℕ) → 1 ≤ links → weight (links - 1) steps < weight links steps
unfolding weight
fewer_links links steps h = omega (arith, h)

fewer_steps : (links steps fewer : ℕ) → fewer < steps → weight MOST_LINKS fewer ≤ weight links steps
unfolding weight
fewer_steps links steps fewer h = omega (arith, h)

no_more_steps : (links steps fewer : ℕ) → fewer ≤ steps → weight links fewer ≤ weight links steps
unfolding weight
no_more_steps links steps fewer h = omega (arith, h)

leads_less : {pre : MutBor Model → ℕ → ClassId → Bor (List Step) → Bor (List ℕ) → Type 0}
    {post : MutBor Model → ℕ → ClassId → Bor (List Step) → Bor (List ℕ) → Result Array EvalFault → MutBor Model → Type 0}
    (most less : ℕ) → less ≤ most → Leads most pre post → Leads less pre post
leads_less most less h l = record {
  callable = λ old k start steps name lt. l.callable old k start steps name (omega (arith, h, lt));
  same = l.same;
  gives = l.gives;
}

-- at the places of fewer steps, with all links anew
pub leads_front : {pre : MutBor Model → ℕ → ClassId → Bor (List Step) → Bor (List ℕ) → Type 0}
    {post : MutBor Model → ℕ → ClassId → Bor (List Step) → Bor (List ℕ) → Result Array EvalFault → MutBor Model → Type 0}
    (links n : ℕ) (p q : List Step) → q ≡ take n p → n < length p → Leads (weight links (length p)) pre post → Leads (weight MOST_LINKS (length q)) pre post
leads_front links n p q e h l =
    let same : length q ≡ min n (length p) = ap length e ∙ length-take n p in
    let shorter : length q < length p = omega (arith, same, h) in
    leads_less (weight links (length p)) (weight MOST_LINKS (length q)) (fewer_steps links (length p) (length q) shorter) l

-- at those of no more steps, with the same links
pub leads_outer : {pre : MutBor Model → ℕ → ClassId → Bor (List Step) → Bor (List ℕ) → Type 0}
    {post : MutBor Model → ℕ → ClassId → Bor (List Step) → Bor (List ℕ) → Result Array EvalFault → MutBor Model → Type 0}
    (links n : ℕ) (p q : List Step) → q ≡ take n p → Leads (weight links (length p)) pre post → Leads (weight links (length q)) pre post
leads_outer links n p q e l =
    let same : length q ≡ min n (length p) = ap length e ∙ length-take n p in
    let no_longer : length q ≤ length p = omega (arith, same) in
    leads_less (weight links (length p)) (weight links (length q)) (no_more_steps links (length p) (length q) no_longer) l

-- at a place without steps
pub leads_start : {pre : MutBor Model → ℕ → ClassId → Bor (List Step) → Bor (List ℕ) → Type 0}
    {post : MutBor Model → ℕ → ClassId → Bor (List Step) → Bor (List ℕ) → Result Array EvalFault → MutBor Model → Type 0}
    (links steps : ℕ) → Leads (weight links steps) pre post → Leads (weight links 0) pre post
leads_start links steps l = leads_less (weight links steps) (weight links 0) (no_more_steps links steps 0 (omega arith)) l
