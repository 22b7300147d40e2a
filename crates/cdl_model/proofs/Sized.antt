-- Sizes: at most two, and elements with different numbers have different indices.
use Rattle.std.proofs.Common.{◌≡◌, ℕ, ◌+◌, ◌*◌, ◌/◌, ◌%◌, ◌<◌, ◌≤◌, Bool, true, false, cond, List, [], ◌∷◌, length, Option, Ok, Err, refl, sym, ap, ◌∙◌, subst, arith}
use Rattle.std.specs.Prelude.{nat_le}
use Rattle.std.proofs.lemmas.Bool.{leb-true}
use Rattle.std.proofs.Math.Nat.{div-add-mod}
use Rattle.cdl_source.specs.declared.rules.TheConstants.{WRONG_SHAPE}
use Rattle.cdl_source.specs.declared.limits.TheConstants.{MOST_LINKS}
use Rattle.cdl_values.specs.declared.value.Array.{Array}
use Rattle.cdl_values.specs.Values.{items_of as size_of}
use Rattle.cdl_array.specs.Outcomes.{Outcome, then_to}
use Rattle.cdl_array.specs.Sizes.{count_of}
use Rattle.cdl_tree.specs.declared.class.Dim.{Dim}
use Rattle.cdl_tree.specs.declared.class.Item.{Item}
use Rattle.cdl_tree.specs.declared.expr.Expr.{Expr}
use Rattle.cdl_paths.specs.declared.path.Step.{Step}
use Rattle.cdl_params.specs.Kept.{Model, classes}
use Rattle.cdl_worth.specs.Sizes.{dim_sizes, known, counted, sizes_of}
use Rattle.cdl_worth.specs.Values.{dims as dims_by, evaluate}
use Rattle.cdl_walk.specs.Elements.{indices_at}
use Rattle.cdl_walk.specs.Stations.{no_element}
use Rattle.cdl_walk.specs.Worth.{dims}
use Rattle.cdl_walk.specs.Instances.{elements}
use Rattle.cdl_walk.specs.Worth.{present}

tested : (b : Bool) (y : Outcome ℕ) (ws : List (Option ℕ)) (s : List ℕ) → nat_le (length (known ws)) 2 ≡ b
    → then_to (then_to (cond b y (Err WRONG_SHAPE)) (λ n. Ok ws)) (λ vs. Ok (known vs)) ≡ Ok s → length s ≤ 2
tested true (Ok n) ws s t e = let same : known ws ≡ s = cc in subst (λ (l : List ℕ). length l ≤ 2) same (leb-true (length (known ws)) 2 t)
tested true (Err r) ws s t e = absurd (cc)
tested false y ws s t e = absurd (cc)

few_known : (o : Outcome (List (Option ℕ))) (s : List ℕ) → then_to (then_to o (λ ws. then_to (counted (known ws)) (λ n. Ok ws))) (λ ws. Ok (known ws)) ≡ Ok s → length s ≤ 2
few_known (Err r) s e = absurd (cc)
few_known (Ok ws) s e = tested (nat_le (length (known ws)) 2) (count_of (known ws)) ws s refl e

sizes_few : (worth : Expr → Outcome Array) (ds : List Dim) (s : List ℕ) → sizes_of worth ds ≡ Ok s → length s ≤ 2
sizes_few worth ds s e = few_known (dim_sizes worth ds) s e

pub dims_few : (w : Model) (p : List Step) (item : Item) (s : List ℕ) → dims w p item ≡ Ok s → length s ≤ 2
unfolding dims_by
dims_few w p item s e = sizes_few (evaluate (classes w) MOST_LINKS w.root p []) item.dims s e

chosen_few : (o : Outcome Bool) (z : Outcome (List ℕ)) (s : List ℕ) → ((n : List ℕ) → z ≡ Ok n → length n ≤ 2) → then_to o (λ there. cond there z no_element) ≡ Ok s → length s ≤ 2
chosen_few (Err r) z s f e = absurd (cc)
chosen_few (Ok true) z s f e = f s e
chosen_few (Ok false) z s f e = let same : 0 ∷ [] ≡ s = cc in subst (λ (l : List ℕ). length l ≤ 2) same (omega arith)

pub elements_few : (w : Model) (p : List Step) (item : Item) (s : List ℕ) → elements w p item ≡ Ok s → length s ≤ 2
elements_few w p item s e = chosen_few (present w p item) (dims w p item) s (λ n g. dims_few w p item n g) e

heads : (x y : ℕ) (xs ys : List ℕ) → x ∷ xs ≡ y ∷ ys → x ≡ y
heads x y xs ys e = cc

pub indices_apart : (sizes : List ℕ) (x y : ℕ) → length sizes ≤ 2 → x < size_of sizes → y < size_of sizes → indices_at sizes x ≡ indices_at sizes y → x ≡ y
indices_apart [] x y f a b e = omega (arith, a, b)
indices_apart (n ∷ []) x y f a b e = let h : x + 1 ≡ y + 1 = heads (x + 1) (y + 1) [] [] e in omega (arith, h)
indices_apart (m ∷ n ∷ []) x y f a b e =
    let h : x / n + 1 ≡ y / n + 1 = heads (x / n + 1) (y / n + 1) ((x % n + 1) ∷ []) ((y % n + 1) ∷ []) e in
    let t : (x % n + 1) ∷ [] ≡ (y % n + 1) ∷ [] = cc in
    let g : x % n + 1 ≡ y % n + 1 = heads (x % n + 1) (y % n + 1) [] [] t in
    let q : x / n ≡ y / n = omega (arith, h) in
    let r : x % n ≡ y % n = omega (arith, g) in
    sym (div-add-mod x n) ∙ ap (λ z. n * z + x % n) q ∙ ap (λ z. n * (y / n) + z) r ∙ div-add-mod y n
indices_apart (m ∷ n ∷ o ∷ more) x y f a b e = absurd (omega (arith, f))
