-- Names, through links.
use Rattle.std.proofs.Common.{ℕ, zero, suc, ◌-◌, ◌≤◌, ◌≡◌, refl, sym, ap, subst, arith, Bool, true, false, cond, List, [], Option, Some, Result, Ok, Err}
use Rattle.cdl_source.specs.declared.rules.TheConstants.{PARAMETERS_TOO_DEEP}
use Rattle.cdl_values.specs.declared.value.Array.{Array}
use Rattle.cdl_tree.specs.declared.class.Item.{Item}
use Rattle.cdl_array.specs.Outcomes.{Answers, Outcome, then_to}
use Rattle.cdl_array.specs.declared.fault.EvalFault.{EvalFault}
use Rattle.cdl_array.specs.declared.fault.EvalFault.TheVariants.{Rule, OutOfMemory}
use Rattle.cdl_tree.specs.declared.class.FileTree.{FileTree}
use Rattle.cdl_scopes.specs.Classes.{Declared, declared}
use Rattle.cdl_scopes.specs.Lookup.{item_name}
use Rattle.cdl_worth.specs.Values.{Steps, StepSizes, constant, link, sizes, value}

link_is : (ds : List Declared) (d r : ℕ) (p : Steps) (n : List ℕ) → 1 ≤ d → value ds (d - 1) r p n ≡ link ds d r (sizes ds r p) p n
unfolding value
link_is ds zero r p n h = absurd (omega (arith, h))
link_is ds (suc d) r p n h = let same : suc d - 1 ≡ d = omega arith in rw same refl

-- what one more link leads to
pub at_link : (fs files : List FileTree) (d r : ℕ) (p : Steps) (n : List ℕ) (x : Result Array EvalFault) → fs ≡ files → 1 ≤ d → Answers (value (declared fs) (d - 1) r p n) x → Answers (link (declared files) d r (sizes (declared files) r p) p n) x
at_link fs files d r p n x e h a =
    subst (λ (o : Outcome Array). Answers o x) (link_is (declared files) d r p n h) (subst (λ (f : List FileTree). Answers (value (declared f) (d - 1) r p n) x) e a)

pub no_link : (ds : List Declared) (d r : ℕ) (ss : StepSizes) (p : Steps) (n : List ℕ) → d ≡ 0 → link ds d r ss p n ≡ Err PARAMETERS_TOO_DEEP
no_link ds d r ss p n h = rw h refl

-- a constant of a package
pub at_constant : (ds : List Declared) (d q : ℕ) (o : Option Item) (x : Item) (a : Result Array EvalFault) → Some x ≡ o → Answers (link ds d q (sizes ds q []) [] (item_name x)) a → Answers (constant (link ds d) q o) a
unfolding sizes
at_constant ds d q o x a e h = subst (λ (o : Option Item). Answers (constant (link ds d) q o) a) e h

-- what stands behind a value, and behind a fault
pub then_value : {A B : Type 0} (o : Outcome A) (f : A → Outcome B) (v : A) (x : Result B EvalFault) → o ≡ Ok v → Answers (f v) x → Answers (then_to o f) x
then_value {A} {B} o f v x e h = subst (λ (o : Outcome A). Answers (then_to o f) x) (sym e) h

pub then_fault : {A B : Type 0} (o : Outcome A) (f : A → Outcome B) (fault : EvalFault) → Answers {A = A} o (Err fault) → Answers {A = B} (then_to o f) (Err fault)
then_fault o f OutOfMemory h = tt
then_fault o f (Rule r) h = rw h refl

-- the branch that a condition chooses
pub branch_true : {A B : Type 0} (o : Outcome A) (f : A → Outcome Bool) (x y : Outcome B) (a : Result B EvalFault) → then_to o f ≡ Ok true → Answers x a → Answers (then_to o (λ v. then_to (f v) (λ b. cond b x y))) a
branch_true (Err r) f x y a e h = cc
branch_true {A} {B} (Ok v) f x y a e h = subst (λ (t : Outcome Bool). Answers {A = B} (then_to t (λ b. cond b x y)) a) (sym e) h

pub branch_false : {A B : Type 0} (o : Outcome A) (f : A → Outcome Bool) (x y : Outcome B) (a : Result B EvalFault) → then_to o f ≡ Ok false → Answers y a → Answers (then_to o (λ v. then_to (f v) (λ b. cond b x y))) a
branch_false (Err r) f x y a e h = cc
branch_false {A} {B} (Ok v) f x y a e h = subst (λ (t : Outcome Bool). Answers {A = B} (then_to t (λ b. cond b x y)) a) (sym e) h

pub branch_fault : {A B : Type 0} (o : Outcome A) (f : A → Outcome Bool) (x y : Outcome B) (fault : EvalFault) → Answers {A = Bool} (then_to o f) (Err fault) → Answers {A = B} (then_to o (λ v. then_to (f v) (λ b. cond b x y))) (Err fault)
branch_fault o f x y OutOfMemory h = tt
branch_fault (Err s) f x y (Rule r) h = let same : s ≡ r = cc in ap Err same
branch_fault {A} {B} (Ok v) f x y (Rule r) h = ap (λ (t : Outcome Bool). then_to {B = B} t (λ b. cond b x y)) h
