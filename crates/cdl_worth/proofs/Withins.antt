-- What more links change goes through what is made of answers.
use Rattle.std.proofs.Common.{ℕ, refl, sym, ap, subst, Bool, true, false, cond, List, [], ◌∷◌, map, Option, Some, None, Ok, Err}
use Rattle.cdl_array.specs.Outcomes.{Outcome, then_to, some_or, holds_or}
use Rattle.cdl_values.specs.declared.value.Array.{Array}
use Rattle.cdl_worth.specs.Expressions.{all}
use Rattle.cdl_worth.specs.Links.{Within, too_deep, same}

pub then_within : {A B : Type 0} (x y : Outcome A) (f g : A → Outcome B) → Within x y → ((a : A) → Within (f a) (g a)) → Within (then_to x f) (then_to y g)
then_within x y f g (too_deep e) h = too_deep (ap (λ z. then_to z f) e)
then_within {A} {B} x y f g (same e) h = subst (λ z. Within (then_to z f) (then_to y g)) (sym e) (behind y)
  where
    behind : (y : Outcome A) → Within (then_to y f) (then_to y g)
    behind (Ok a) = h a
    behind (Err r) = same refl

-- behind the same
pub after_within : {A B : Type 0} (x : Outcome A) (f g : A → Outcome B) → ((a : A) → Within (f a) (g a)) → Within (then_to x f) (then_to x g)
after_within x f g h = then_within x x f g (same refl) h

-- before the same
pub before_within : {A B : Type 0} (x y : Outcome A) (f : A → Outcome B) → Within x y → Within (then_to x f) (then_to y f)
before_within x y f h = then_within x y f f h (λ a. same refl)

pub some_within : {A B : Type 0} (o : Option A) (rule : ℕ) (f g : A → Outcome B) → ((a : A) → Within (f a) (g a)) → Within (some_or o rule f) (some_or o rule g)
some_within None rule f g h = same refl
some_within (Some a) rule f g h = h a

pub holds_within : {A : Type 0} (b : Bool) (rule : ℕ) (x y : Outcome A) → Within x y → Within (holds_or b rule x) (holds_or b rule y)
holds_within true rule x y h = h
holds_within false rule x y h = same refl

pub cond_within : {A : Type 0} (b : Bool) (x y v w : Outcome A) → Within x y → Within v w → Within (cond b x v) (cond b y w)
cond_within true x y v w h k = h
cond_within false x y v w h k = k

pub all_within : {X : Type 0} (f g : X → Outcome Array) → ((x : X) → Within (f x) (g x)) → (xs : List X) → Within (all (map f xs)) (all (map g xs))
all_within f g h [] = same refl
all_within f g h (x ∷ xs) = then_within _ _ _ _ (h x) (λ a. before_within _ _ _ (all_within f g h xs))
