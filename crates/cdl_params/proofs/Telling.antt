-- What is said of the same files.
use Rattle.std.proofs.Common.{ℕ, ◌≡◌, refl, sym, ap, subst, zero, suc, ◌≤◌, arith, length, take, ◌∷◌, List, Result, Ok, []}
use Rattle.cdl_values.specs.declared.value.Array.{Array}
use Rattle.cdl_tree.specs.declared.class.FileTree.{FileTree}
use Rattle.cdl_tree.specs.declared.class.Item.{Item}
use Rattle.cdl_tree.specs.declared.expr.Expr.{Expr}
use Rattle.cdl_array.specs.Outcomes.{Answers, Outcome, then_to}
use Rattle.cdl_array.specs.declared.fault.EvalFault.{EvalFault}
use Rattle.cdl_scopes.specs.Classes.{declared}
use Rattle.cdl_paths.specs.declared.path.Local.{Local}
use Rattle.cdl_worth.specs.Sizes.{sizes_of}
use Rattle.cdl_worth.specs.Units.{through, unit}
use Rattle.cdl_worth.specs.Values.{Steps, value, evaluate, dims}

pub same_value : (fs files : List FileTree) (d r : ℕ) (p : Steps) (n : List ℕ) (x : Result Array EvalFault) → fs ≡ files → Answers (value (declared fs) d r p n) x → Answers (value (declared files) d r p n) x
same_value fs files d r p n x e h = subst (λ (f : List FileTree). Answers (value (declared f) d r p n) x) e h

pub same_worth : (fs files : List FileTree) (d q r : ℕ) (p : Steps) (locals : List Local) (y : Expr) (x : Result Array EvalFault) → fs ≡ files → q ≡ r → Answers (evaluate (declared fs) d q p locals y) x → Answers (evaluate (declared files) d r p locals y) x
same_worth fs files d q r p locals y x e k h = subst (λ (f : List FileTree). Answers (evaluate (declared f) d r p locals y) x) e (subst (λ (s : ℕ). Answers (evaluate (declared fs) d s p locals y) x) k h)

pub same_dims : (fs files : List FileTree) (d q r : ℕ) (p : Steps) (y : Item) (x : Result (List ℕ) EvalFault) → fs ≡ files → q ≡ r → Answers (sizes_of (evaluate (declared fs) d q p []) y.dims) x → Answers (dims (declared files) d r p y) x
unfolding dims
same_dims fs files d q r p y x e k h = subst (λ (f : List FileTree). Answers (sizes_of (evaluate (declared f) d r p []) y.dims) x) e (subst (λ (s : ℕ). Answers (sizes_of (evaluate (declared fs) d s p []) y.dims) x) k h)

pub same_unit : (fs files : List FileTree) (d r : ℕ) (p : Steps) (n : List ℕ) (x : Result Array EvalFault) → fs ≡ files → Answers (unit (declared fs) d r p n) x → Answers (unit (declared files) d r p n) x
same_unit fs files d r p n x e h = subst (λ (f : List FileTree). Answers (unit (declared f) d r p n) x) e h

-- what stands behind a value
pub then_value : {A B : Type 0} (o : Outcome A) (f : A → Outcome B) (v : A) (x : Result B EvalFault) → o ≡ Ok v → Answers (f v) x → Answers (then_to o f) x
then_value {A} {B} o f v x e h = subst (λ (o : Outcome A). Answers (then_to o f) x) (sym e) h

-- a path begins as it does with a connector behind it
pub take_through : (k : ℕ) (p : Steps) (n : List ℕ) → k ≤ length p → take k (through p n) ≡ take k p
take_through zero [] n h = refl
take_through zero (s ∷ p) n h = refl
take_through (suc k) [] n h = absurd (omega (arith, h))
take_through (suc k) (s ∷ p) n h = ap (λ (q : Steps). s ∷ q) (take_through k p n (omega (arith, h)))
