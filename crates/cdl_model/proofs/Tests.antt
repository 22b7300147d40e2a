-- The tests of names tell.
use Rattle.std.proofs.Common.{◌≡◌, ℕ, Bool, true, false, List, [], ◌∷◌, refl, ap, ◌∙◌}
use Rattle.std.specs.Prelude.{◌&&◌}
use Rattle.std.specs.Str.{bytes_eq}
use Rattle.std.proofs.lemmas.Bool.{false≢true, and_parts, and_from}
use Rattle.cdl_source.proofs.Cases.{by_bool}
use Rattle.cdl_source.proofs.Options.{bytes_eq-true, bytes_eq-same}
use Rattle.cdl_network.specs.Lists.{Tells}
use Rattle.cdl_paths.specs.declared.path.Step.{Step}
use Rattle.cdl_walk.specs.Events.{same_step, same_steps}
use Rattle.cdl_model.specs.Names.{ElementName}
use Rattle.cdl_model.specs.Networks.{same_name}

abbrev step : List ℕ → List ℕ → Step
step n i = record { name = n; indices = i }

step_yes : (s t : Step) → same_step s t ≡ true → s ≡ t
step_yes s t h =
    let p = and_parts (bytes_eq s.name t.name) (bytes_eq s.indices t.indices) h in
    ap (λ n. step n s.indices) (bytes_eq-true s.name t.name p.0) ∙ ap (λ i. step t.name i) (bytes_eq-true s.indices t.indices p.1)

step_self : (s : Step) → same_step s s ≡ true
step_self s = and_from (bytes_eq s.name s.name) (bytes_eq s.indices s.indices) (bytes_eq-same s.name s.name refl) (bytes_eq-same s.indices s.indices refl)

pub steps_yes : (p q : List Step) → same_steps p q ≡ true → p ≡ q
steps_yes [] [] h = refl
steps_yes [] (t ∷ q) h = absurd (false≢true h)
steps_yes (s ∷ p) [] h = absurd (false≢true h)
steps_yes (s ∷ p) (t ∷ q) h =
    let both = and_parts (same_step s t) (same_steps p q) h in
    ap (λ (x : Step). x ∷ p) (step_yes s t both.0) ∙ ap (λ (r : List Step). t ∷ r) (steps_yes p q both.1)

steps_self : (p : List Step) → same_steps p p ≡ true
steps_self [] = refl
steps_self (s ∷ p) = and_from (same_step s s) (same_steps p p) (step_self s) (steps_self p)

pub steps_tell : Tells same_steps
steps_tell = record { yes = steps_yes; self = steps_self }

abbrev named : List Step → List ℕ → List ℕ → ElementName
named p n i = record { path = p; name = n; indices = i }

name_yes : (x y : ElementName) → same_name x y ≡ true → x ≡ y
name_yes x y h =
    let p = and_parts (same_steps x.path y.path) (bytes_eq x.name y.name && bytes_eq x.indices y.indices) h in
    let q = and_parts (bytes_eq x.name y.name) (bytes_eq x.indices y.indices) p.1 in
    ap (λ (z : List Step). named z x.name x.indices) (steps_yes x.path y.path p.0) ∙ ap (λ n. named y.path n x.indices) (bytes_eq-true x.name y.name q.0) ∙ ap (λ i. named y.path y.name i) (bytes_eq-true x.indices y.indices q.1)

name_self : (x : ElementName) → same_name x x ≡ true
name_self x = and_from (same_steps x.path x.path) (bytes_eq x.name x.name && bytes_eq x.indices x.indices) (steps_self x.path)
    (and_from (bytes_eq x.name x.name) (bytes_eq x.indices x.indices) (bytes_eq-same x.name x.name refl) (bytes_eq-same x.indices x.indices refl))

pub names_tell : Tells same_name
names_tell = record { yes = name_yes; self = name_self }

-- names that differ don't pass
pub differ : {A : Type 0} (same : A → A → Bool) (x y : A) → Tells same → (x ≡ y → ⊥) → same x y ≡ false
differ same x y t f = by_bool (same x y) (λ h. absurd (f (t.yes x y h))) (λ h. h)
