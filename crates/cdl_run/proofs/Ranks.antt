-- The elementary instances of a net, in preorder, and the number of each among them.
use Rattle.std.proofs.Common.{ℕ, suc, ◌+◌, ◌-◌, ◌<◌, ◌≡◌, refl, ap, ◌∙◌, arith, Bool, true, cond, List, [], ◌∷◌, ◌++◌, filter, length, Some, slice_get}
use Rattle.std.proofs.lemmas.List.Elements.{filter-append}
use Rattle.cdl_network.specs.Lists.{numbers}
use Rattle.cdl_network.proofs.Checking.{apart_filter, once}
use Rattle.cdl_network.proofs.Inside.{in_filter, in_slice, kept_true}
use Rattle.cdl_network.proofs.Places.{numbers_split}
use Rattle.cdl_connect.proofs.Networks.{apart_numbers, below_all}
use Rattle.cdl_connect.specs.declared.net.Net.{Net}
use Rattle.cdl_connect.specs.Nets.{network_of}
use Rattle.cdl_run.specs.Words.{elementary_below}
use Rattle.cdl_run.specs.inner.Laid.{rank}

seam : {A : Type 0} (xs : List A) (y : A) (ys : List A) → slice_get (xs ++ y ∷ ys) (length xs) ≡ Some y
seam [] y ys = refl
seam (x ∷ xs) y ys = seam xs y ys

-- those below a number, the number itself, and those above
pub split_at : (n : Net) (i top : ℕ) → (network_of n).elementary i ≡ true → i < top → (rest : List ℕ) × (elementary_below n top ≡ elementary_below n i ++ i ∷ rest)
split_at n i top e h =
    let f : ℕ → Bool = (network_of n).elementary in
    let q : top ≡ i + suc (top - (i + 1)) = omega (arith, h) in
    let z : 0 + i ≡ i = omega arith in (
      filter f (numbers (suc i) (top - (i + 1))),
      ap (filter f) (numbers_split 0 top i (suc (top - (i + 1))) q ∙ ap (λ x. numbers 0 i ++ numbers x (suc (top - (i + 1)))) z)
          ∙ filter-append f (numbers 0 i) (numbers i (suc (top - (i + 1))))
          ∙ ap (λ b. filter f (numbers 0 i) ++ cond b (i ∷ filter f (numbers (suc i) (top - (i + 1)))) (filter f (numbers (suc i) (top - (i + 1))))) e,
    )

pub rank_at : (n : Net) (i top : ℕ) → (network_of n).elementary i ≡ true → i < top → slice_get (elementary_below n top) (rank n i) ≡ Some i
rank_at n i top e h = let s = split_at n i top e h in ap (λ l. slice_get l (rank n i)) s.1 ∙ seam (elementary_below n i) i s.0

pub of_rank : (n : Net) (j i top : ℕ) → slice_get (elementary_below n top) j ≡ Some i → ((network_of n).elementary i ≡ true) × (i < top) × (rank n i ≡ j)
of_rank n j i top s =
    let m = in_slice (elementary_below n top) j i s in
    let e = kept_true (network_of n).elementary i (numbers 0 top) m in
    let h = below_all top i (in_filter (network_of n).elementary i (numbers 0 top) m) in
    (e, h, once (elementary_below n top) (rank n i) j i (apart_filter (network_of n).elementary (numbers 0 top) (apart_numbers 0 top)) (rank_at n i top e h) s)

pub longer : {A : Type 0} (xs : List A) (y : A) (ys : List A) → length xs < length (xs ++ y ∷ ys)
longer [] y ys = omega arith
longer (x ∷ xs) y ys = let r = longer xs y ys in omega (arith, r)

pub rank_rises : (n : Net) (i j : ℕ) → (network_of n).elementary i ≡ true → i < j → rank n i < rank n j
rank_rises n i j e h =
    let s = split_at n i j e h in
    let l = longer (elementary_below n i) i s.0 in
    let q : rank n j ≡ length (elementary_below n i ++ i ∷ s.0) = ap length s.1 in
    omega (arith, l, q)
