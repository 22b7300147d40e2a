-- The computing look-up and the one by scopes are the same.
use Rattle.std.proofs.lemmas.Option.{same_Some}
use Rattle.std.proofs.Common.{◌≡◌, ◌<◌, ◌≤◌, ℕ, zero, suc, List, [], ◌∷◌, take, length, Some, None, sym, ◌∙◌, ap, inl, inr, arith}
use Rattle.std.specs.Prelude.{◌↔◌}
use Rattle.std.proofs.lemmas.Bool.{cases_lt}
use Rattle.cdl_scopes.specs.declared.lookup.Sought.{Sought}
use Rattle.cdl_scopes.specs.Classes.{Full, Declared}
use Rattle.cdl_scopes.specs.Lookup.{Entity, has, seek, enters, leads, lookup}
use Rattle.cdl_scopes.specs.Scopes.{LeadsTo, Means}
use Rattle.cdl_scopes.proofs.Lists.{cases_option}
use Rattle.cdl_scopes.proofs.Finding.{seek_found, seek_further}
use Rattle.cdl_scopes.proofs.Walk.{then_some}

module _ (ds : List Declared) (sought : Sought) (outer : Full) (x : List ℕ) (e : Entity) where
  -- it is found among the first k scopes from the top
  abbrev FoundBelow : ℕ → Type 0
  FoundBelow k = (j : ℕ) × (j ≤ k) × (has ds sought (take j outer) x ≡ Some e) × ((m : ℕ) → j < m → m ≤ k → has ds sought (take m outer) x ≡ None)

  found_below : (k : ℕ) → seek ds sought outer k x ≡ Some e → FoundBelow k
  found_below zero h = (zero, omega arith, h, λ m l u. absurd (omega arith))
  found_below (suc k) h =
      elim (cases_option (has ds sought (take (suc k) outer) x)) [
        | inl none ↦
            let b = found_below k (sym (seek_further ds sought outer k x none) ∙ h) in (
              b.0,
              omega (arith, b.1),
              b.2,
              λ m l u.
                  elim (cases_lt m (suc k)) [
                    | inl lt ↦ b.3 m l (omega arith)
                    | inr le ↦
                        let same : m ≡ suc k = omega arith in
                        ap (λ i. has ds sought (take i outer) x) same ∙ none
                  ],
            )
        | inr some ↦
            let same : some.0 ≡ e = same_Some some.0 e (sym (seek_found ds sought outer (suc k) x some.0 some.1) ∙ h) in
            (suc k, omega arith, some.1 ∙ ap (λ f. Some f) same, λ m l u. absurd (omega arith))
      ]

  sought_from : (k j : ℕ) → j ≤ k → has ds sought (take j outer) x ≡ Some e → ((m : ℕ) → j < m → m ≤ k → has ds sought (take m outer) x ≡ None) → seek ds sought outer k x ≡ Some e
  sought_from zero j l h none = seek_found ds sought outer zero x e (ap (λ i. has ds sought (take i outer) x) (let z : 0 ≡ j = omega arith in z) ∙ h)
  sought_from (suc k) j l h none =
      elim (cases_lt j (suc k)) [
        | inl lt ↦ seek_further ds sought outer k x (none (suc k) lt (omega arith)) ∙ sought_from k j (omega arith) h (λ m a b. none m a (omega arith))
        | inr le ↦
            let same : suc k ≡ j = omega arith in
            seek_found ds sought outer (suc k) x e (ap (λ i. has ds sought (take i outer) x) same ∙ h)
      ]

leads_to : (ds : List Declared) (sought : Sought) (f e : Entity) (rest : Full) → leads ds sought f rest ≡ Some e → LeadsTo ds sought f rest e
leads_to ds sought f e [] h = same_Some f e h
leads_to ds sought f e (x ∷ rest) h =
    let g = then_some (λ g. leads ds sought g rest) (enters ds sought f x) e h in
    (g.0, g.1, leads_to ds sought g.0 e rest g.2)

leads_from : (ds : List Declared) (sought : Sought) (f e : Entity) (rest : Full) → LeadsTo ds sought f rest e → leads ds sought f rest ≡ Some e
leads_from ds sought f e [] h = ap (λ z. Some z) h
leads_from ds sought f e (x ∷ rest) h = rw h.1 (leads_from ds sought h.0 e rest h.2)

means_to : (ds : List Declared) (sought : Sought) (outer name : Full) (e : Entity) → lookup ds sought outer name ≡ Some e → Means ds sought outer name e
means_to ds sought outer [] e h = cc
means_to ds sought outer (x ∷ rest) e h =
    let f = then_some (λ f. leads ds sought f rest) (seek ds sought outer (length outer) x) e h in
    let b = found_below ds sought outer x f.0 (length outer) f.1 in
    (b.0, f.0, record { around = b.1; has_it = b.2; not_further_in = b.3 }, leads_to ds sought f.0 e rest f.2)

means_from : (ds : List Declared) (sought : Sought) (outer name : Full) (e : Entity) → Means ds sought outer name e → lookup ds sought outer name ≡ Some e
means_from ds sought outer [] e h = absurd h
means_from ds sought outer (x ∷ rest) e h =
    rw (sought_from ds sought outer x h.1 (length outer) h.0 (h.2).around (h.2).has_it (h.2).not_further_in) (leads_from ds sought h.1 e rest h.3)

pub first_scope : (ds : List Declared) (sought : Sought) (outer name : Full) (e : Entity) → (lookup ds sought outer name ≡ Some e) ↔ Means ds sought outer name e
first_scope ds sought outer name e = (means_to ds sought outer name e, means_from ds sought outer name e)
