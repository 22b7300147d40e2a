-- What is given to one of many instances is given to each.
use Rattle.std.proofs.Common.{ℕ, zero, suc, ◌+◌, ◌≡◌, refl, sym, ap, ◌∙◌, subst, List, [], ◌∷◌, map, take, Option, Some, None, Ok}
use Rattle.std.specs.Prelude.{option_and_then}
use Rattle.cdl_values.specs.declared.value.Array.{Array}
use Rattle.cdl_tree.specs.declared.expr.Expr.{Expr}
use Rattle.cdl_tree.specs.declared.class.FileTree.{FileTree}
use Rattle.cdl_tree.specs.declared.class.Modifier.{Modifier}
use Rattle.cdl_scopes.specs.Classes.{Declared, declared}
use Rattle.cdl_classes.specs.declared.found.Found.{Found}
use Rattle.cdl_paths.specs.Members.{Declaration, inside}
use Rattle.cdl_paths.specs.Modifiers.{args_of, first, given as given_in}
use Rattle.cdl_paths.specs.Bindings.{Bound, Given, binding_of, by_text, given_or, the_given}
use Rattle.cdl_worth.specs.Expressions.{eval}
use Rattle.cdl_worth.specs.Values.{Steps, StepSizes, evaluate, link, names, sizes, the_class, written}
use Rattle.cdl_eval.specs.Families.{Binds, cleared, family}
use Rattle.cdl_eval.specs.Kept.{bound_worth, given}
use Rattle.cdl_eval.proofs.StepSizes.{sizes_take}

then_same : {A B : Type 0} (f g : A → Option B) (o : Option A) → ((a : A) → f a ≡ g a) → option_and_then f o ≡ option_and_then g o
then_same f g None h = refl
then_same f g (Some a) h = h a

-- what arguments give doesn't rest on indices
given_cleared : (args : List Modifier) (p : Steps) (n : List ℕ) → given_in args (map cleared p) n ≡ given_in args p n
given_cleared args [] n = refl
given_cleared args (s ∷ p) n = then_same (λ (m : Modifier). given_in (args_of m) (map cleared p) n) (λ (m : Modifier). given_in (args_of m) p n) (first s.name args) (λ m. given_cleared (args_of m) p n)

given_family : (args : List Modifier) (k : ℕ) (p : Steps) (n : List ℕ) → given_in args (family k p) n ≡ given_in args p n
given_family args zero [] n = refl
given_family args (suc k) [] n = refl
given_family args zero (s ∷ p) n = given_cleared args (s ∷ p) n
given_family args (suc k) (s ∷ p) n = then_same (λ (m : Modifier). given_in (args_of m) (family k p) n) (λ (m : Modifier). given_in (args_of m) p n) (first s.name args) (λ m. given_family (args_of m) k p n)

-- nor does what binds a parameter
binding_cleared : (ds : List Declared) (f : Found) (i : ℕ) (p : Steps) (n : List ℕ) → binding_of ds f i (map cleared p) n ≡ binding_of ds f i p n
binding_cleared ds f i [] n = refl
binding_cleared ds f i (s ∷ p) n =
    then_same (λ (m : Declaration). given_or i m.item.args (given_in m.item.args (map cleared p) n) (binding_of ds m.class (i + 1) (map cleared p) n)) (λ (m : Declaration). given_or i m.item.args (given_in m.item.args p n) (binding_of ds m.class (i + 1) p n)) (inside ds f s.name)
    (λ m. rw (given_cleared m.item.args p n, binding_cleared ds m.class (i + 1) p n) refl)

binding_family : (ds : List Declared) (f : Found) (i k : ℕ) (p : Steps) (n : List ℕ) → binding_of ds f i (family k p) n ≡ binding_of ds f i p n
binding_family ds f i zero [] n = refl
binding_family ds f i (suc k) [] n = refl
binding_family ds f i zero (s ∷ p) n = binding_cleared ds f i (s ∷ p) n
binding_family ds f i (suc k) (s ∷ p) n =
    then_same (λ (m : Declaration). given_or i m.item.args (given_in m.item.args (family k p) n) (binding_of ds m.class (i + 1) (family k p) n)) (λ (m : Declaration). given_or i m.item.args (given_in m.item.args p n) (binding_of ds m.class (i + 1) p n)) (inside ds f s.name)
    (λ m. rw (given_family m.item.args k p n, binding_family ds m.class (i + 1) k p n) refl)

take_family : (k : ℕ) (p : Steps) → take k (family k p) ≡ take k p
take_family zero [] = refl
take_family (suc k) [] = refl
take_family zero (s ∷ p) = refl
take_family (suc k) (s ∷ p) = ap (λ (q : Steps). s ∷ q) (take_family k p)

given_is : (ds : List Declared) (d r : ℕ) (p q : Steps) (n : List ℕ) (g : Given) → binding_of ds (the_class r) 0 p n ≡ Some (by_text g) → take g.steps p ≡ take g.steps q → given ds d r (family g.steps p) n ≡ written ds (link ds d) r (sizes ds r q) q g
given_is ds d r p q n g b t =
    let binds : binding_of ds (the_class r) 0 (family g.steps p) n ≡ Some (by_text g) = binding_family ds (the_class r) 0 g.steps p n ∙ b in
    let place : take g.steps (family g.steps p) ≡ take g.steps q = take_family g.steps p ∙ t in
    ap (λ (o : Option Bound). bound_worth ds d r (family g.steps p) o) binds ∙ (ap (λ (x : Steps). evaluate ds d r x [] g.value) place ∙ ap (λ (ss : StepSizes). eval (names ds (link ds d) r ss (take g.steps q) []) g.value) (sizes_take ds r q g.steps))

-- what was kept for all of them is the value for one
pub shared_known : (fs files : List FileTree) (d r k : ℕ) (p q all : Steps) (n : List ℕ) (args : List Modifier) (e : Expr) (v : Array) → fs ≡ files → Binds files r p n (the_given k args e) → take k p ≡ take k q → all ≡ family k p
    → given (declared fs) d r all n ≡ Ok v → written (declared files) (link (declared files) d) r (sizes (declared files) r q) q (the_given k args e) ≡ Ok v
shared_known fs files d r k p q all n args e v same b t f h =
    let here : given (declared files) d r (family k p) n ≡ Ok v = subst (λ (x : Steps). given (declared files) d r x n ≡ Ok v) f (subst (λ (x : List FileTree). given (declared x) d r all n ≡ Ok v) same h) in
    sym (given_is (declared files) d r p q n (the_given k args e) b t) ∙ here

-- and the value for one may be kept for all of them
pub shared_keeps : (fs files : List FileTree) (d r k : ℕ) (p q all : Steps) (n : List ℕ) (args : List Modifier) (e : Expr) (v : Array) → fs ≡ files → Binds files r p n (the_given k args e) → take k p ≡ take k q → all ≡ family k p
    → written (declared files) (link (declared files) d) r (sizes (declared files) r q) q (the_given k args e) ≡ Ok v → given (declared fs) d r all n ≡ Ok v
shared_keeps fs files d r k p q all n args e v same b t f h =
    let here : given (declared files) d r (family k p) n ≡ Ok v = given_is (declared files) d r p q n (the_given k args e) b t ∙ h in
    subst (λ (x : List FileTree). given (declared x) d r all n ≡ Ok v) (sym same) (subst (λ (x : Steps). given (declared files) d r x n ≡ Ok v) (sym f) here)
