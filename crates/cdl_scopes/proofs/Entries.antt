-- Maps from identifiers.
use Rattle.std.proofs.Common.{◌≡◌, ℕ, Bool, true, cond, List, [], ◌∷◌, Some, Vec, refl, sym, ◌∙◌, ap, inl, inr}
use Rattle.std.specs.declared.alloc.Global.{Global}
use Rattle.std.specs.declared.cmp.Ordering.{Ordering}
use Rattle.std.specs.declared.cmp.Ordering.TheVariants.{Less, Equal, Greater}
use Rattle.std.specs.BTreeMap.{insert_entry}
use Rattle.std.specs.Cmp.Lexicographic.{slice_cmp}
use Rattle.std.specs.Map.{lookup}
use Rattle.std.specs.Ordering.{nat_cmp, is_eq, match_ordering}
use Rattle.std.specs.Str.{bytes_eq}
use Rattle.std.proofs.lemmas.Bool.{cases_Bool, false≢true}
use Rattle.std.proofs.lemmas.Map.Text.{is_eq-slice_cmp}
use Rattle.std.proofs.lemmas.Slice.Eq.{bytes_eq-Decides}

abbrev Key : Type 0
Key = Vec ℕ Global

abbrev pub order : Key → Key → Ordering
order a b = slice_cmp nat_cmp a.items b.items

abbrev pub at : List ℕ → Key → Bool
at x k = is_eq (slice_cmp nat_cmp x k.items)

same_items : (x y : List ℕ) → bytes_eq x y ≡ true → x ≡ y
same_items x y h = (bytes_eq-Decides x y).0 h

step : {V : Type 0} (o : Ordering) (es : List (Key × V)) (k : Key) (v : V) (e : Key × V) (y : List ℕ) → slice_cmp nat_cmp k.items e.0.items ≡ o
    → lookup (at y) (insert_entry order es k v) ≡ cond (bytes_eq y k.items) (Some v) (lookup (at y) es)
    → lookup (at y) (match_ordering o ((k, v) ∷ e ∷ es) ((e.0, v) ∷ es) (e ∷ insert_entry order es k v)) ≡ cond (bytes_eq y k.items) (Some v) (lookup (at y) (e ∷ es))
step Less es k v e y o ih = rw (is_eq-slice_cmp y k.items) refl
step Equal es k v e y o ih =
    let same : k.items ≡ e.0.items = same_items _ _ (sym (is_eq-slice_cmp k.items e.0.items) ∙ ap is_eq o) in
    rw (same, is_eq-slice_cmp y e.0.items)
    (elim (cases_Bool (bytes_eq y e.0.items)) [
      | inl hit ↦ rw hit refl
      | inr miss ↦ rw miss refl
    ])
step Greater es k v e y o ih =
    elim (cases_Bool (bytes_eq y e.0.items)) [
      | inl hit ↦
          elim (cases_Bool (bytes_eq y k.items)) [
            | inl both ↦
                let same : k.items ≡ e.0.items = sym (same_items _ _ both) ∙ same_items _ _ hit in
                let equal : bytes_eq k.items e.0.items ≡ true = (bytes_eq-Decides k.items e.0.items).1 same in
                absurd (false≢true (sym (ap is_eq o) ∙ is_eq-slice_cmp k.items e.0.items ∙ equal))
            | inr other ↦ rw (is_eq-slice_cmp y e.0.items, hit, other) refl
          ]
      | inr miss ↦ rw (is_eq-slice_cmp y e.0.items, miss) ih
    ]

-- after an insert the key has the value, and the others have theirs
pub lookup-insert : {V : Type 0} (es : List (Key × V)) (k : Key) (v : V) (y : List ℕ) → lookup (at y) (insert_entry order es k v) ≡ cond (bytes_eq y k.items) (Some v) (lookup (at y) es)
lookup-insert [] k v y = rw (is_eq-slice_cmp y k.items) refl
lookup-insert (e ∷ es) k v y = step (slice_cmp nat_cmp k.items e.0.items) es k v e y refl (lookup-insert es k v y)
