-- What holds of an outcome that is no rule goes through what is made of outcomes.
use Rattle.std.proofs.Common.{ℕ, ◌≡◌, refl, Bool, true, false, cond, Option, Some, None, Ok, Err}
use Rattle.std.specs.Prelude.{IfOk}
use Rattle.cdl_array.specs.Outcomes.{Outcome, then_to, some_or, holds_or}

pub record Gives {A : Type 0} (P : A → Type 0) (o : Outcome A) : Type 0 where
  pub held : IfOk o P

pub then_gives : {A B : Type 0} (x : Outcome A) (f : A → Outcome B) (P : A → Type 0) (Q : B → Type 0) → Gives P x → ((a : A) → P a → Gives Q (f a)) → Gives Q (then_to x f)
then_gives (Ok a) f P Q h k = k a h.held
then_gives (Err r) f P Q h k = record { held = tt }

-- whatever comes first
pub any_gives : {A B : Type 0} (x : Outcome A) (f : A → Outcome B) (Q : B → Type 0) → ((a : A) → Gives Q (f a)) → Gives Q (then_to x f)
any_gives (Ok a) f Q k = k a
any_gives (Err r) f Q k = record { held = tt }

pub some_gives : {A B : Type 0} (o : Option A) (rule : ℕ) (f : A → Outcome B) (Q : B → Type 0) → ((a : A) → o ≡ Some a → Gives Q (f a)) → Gives Q (some_or o rule f)
some_gives None rule f Q k = record { held = tt }
some_gives (Some a) rule f Q k = k a refl

pub holds_gives : {A : Type 0} (b : Bool) (rule : ℕ) (x : Outcome A) (P : A → Type 0) → (b ≡ true → Gives P x) → Gives P (holds_or b rule x)
holds_gives true rule x P k = k refl
holds_gives false rule x P k = record { held = tt }

pub cond_gives : {A : Type 0} (b : Bool) (x y : Outcome A) (P : A → Type 0) → Gives P x → Gives P y → Gives P (cond b x y)
cond_gives true x y P h k = h
cond_gives false x y P h k = k
