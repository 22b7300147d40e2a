-- One instance more.
use Rattle.std.proofs.lemmas.Bool.{cases_eq}
use Rattle.std.proofs.lemmas.Option.{slice_get-get_or}
use Rattle.std.proofs.Common.{inl, inr, arith, length, get_or, ℕ, zero, suc, ◌≡◌, ◌+◌, ◌<◌, ◌∙◌, refl, sym, ap, cond, ◌==◌, List, [], ◌∷◌, ◌++◌, Some, slice_get, subst}
use Rattle.cdl_connect.specs.declared.net.NetInstance.{NetInstance}
use Rattle.cdl_kinds.specs.Ports.{PortRow}
use Rattle.cdl_connect.specs.declared.net.NetElement.{NetElement}
use Rattle.cdl_connect.specs.Paths.{IsIndexText}
use Rattle.cdl_connect.specs.declared.net.Net.{Net}
use Rattle.cdl_connect.specs.WellFormed.{FitsBody, IsPort}
use Rattle.cdl_run_tests.specs.Kept.{AreKept, IsKept}

pub kept_more : (ts : List NetInstance) (u : NetInstance) → AreKept ts → IsKept u.body → AreKept (ts ++ u ∷ [])
kept_more [] u a k zero t e = let q : u ≡ t = cc in subst (λ (x : NetInstance). IsKept x.body) q k
kept_more [] u a k (suc i) t e = absurd (cc)
kept_more (s ∷ ts) u a k zero t e = a zero t e
kept_more (s ∷ ts) u a k (suc i) t e = kept_more ts u (λ j. a (suc j)) k i t e

-- an element that is a port without an index
no_more : (xs : List ℕ) → xs ≡ xs ++ []
no_more [] = refl
no_more (x ∷ xs) = ap (λ ys. x ∷ ys) (no_more xs)

pub port_is : (p : PortRow) (e : NetElement) → p.index ≡ 0 → e.value_type ≡ p.value_type → e.input ≡ p.input → e.name ≡ p.name → IsPort p e
port_is p e i t d n = record {
  value_type = t;
  input = d;
  index = [];
  spelled = subst (λ k. IsIndexText (cond (k == 0) [] (k ∷ [])) []) (sym i) IsIndexText.none;
  name = n ∙ no_more p.name;
}

pub kept_none : (ts : List NetInstance) → ts ≡ [] → AreKept ts
kept_none [] e i t s = absurd (cc)
kept_none (u ∷ ts) e i t s = absurd (cc)

-- one instance more is of its kind
pub fits_more : (n : Net) (xs : List NetInstance) (k : ℕ) (d : NetInstance) → xs ≡ n.instances → k < length xs → FitsBody n (get_or xs k d) (get_or xs k d).body
    → ((i : ℕ) (t : NetInstance) → i < k → slice_get n.instances i ≡ Some t → FitsBody n t t.body) → (i : ℕ) (t : NetInstance) → i < k + 1 → slice_get n.instances i ≡ Some t → FitsBody n t t.body
fits_more n xs k d e h f g i t l s = elim (cases_eq i k) as (λ _. FitsBody n t t.body) [
  | inl q ↦
      let r : Some (get_or xs k d) ≡ Some t = sym (slice_get-get_or xs k d h) ∙ ap (λ (ys : List NetInstance). slice_get ys k) e ∙ ap (slice_get n.instances) (sym q) ∙ s in
      let same : get_or xs k d ≡ t = cc in
      subst (λ (u : NetInstance). FitsBody n u u.body) same f
  | inr q ↦ g i t (omega (arith, q)) s
]
