-- The first place of a value among those that a function gives.
use Rattle.std.proofs.Common.{ℕ, ◌+◌, ◌≡◌, refl, Bool, cond, List, [], ◌∷◌}
use Rattle.std.specs.Prelude.{Some, None, map, nat_lt, not, position}
use Rattle.std.specs.List.{prefix_len}
use Rattle.std.proofs.lemmas.List.{length-map}

prefix_step : (b : Bool) (m n : ℕ) → m ≡ n → cond b (1 + m) 0 ≡ cond b (1 + n) 0
prefix_step b m n e = rw e refl

prefix_map : {X : Type 0} (p : Bool → Bool) (f : X → Bool) (xs : List X) → prefix_len p (map f xs) ≡ prefix_len (λ x. p (f x)) xs
prefix_map p f [] = refl
prefix_map p f (x ∷ xs) = prefix_step (p (f x)) _ _ (prefix_map p f xs)

same_place : (k l m n : ℕ) → k ≡ l → m ≡ n → cond (nat_lt k m) (Some k) None ≡ cond (nat_lt l n) (Some l) None
same_place k l m n e h = rw (e, h) refl

pub position_map : {X : Type 0} (p : Bool → Bool) (f : X → Bool) (xs : List X) → position p (map f xs) ≡ position (λ x. p (f x)) xs
position_map p f xs = same_place _ _ _ _ (prefix_map (λ b. not (p b)) f xs) (length-map xs f)
