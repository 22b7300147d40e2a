-- What a function that parses ensures: the parser's outcome, unless memory fails. After a fault the cursor stands at its place.
use Rattle.std.specs.Prelude.{◌≡◌, ℕ, true, List, Result, Ok, Err}
use Rattle.std.specs.declared.alloc.Global.{Global}
use denote.Ref.{MutBor}
use Rattle.cdl_tree.specs.declared.terminal.Terminal.{Terminal}
use Rattle.cdl_tree.specs.Words.{Word}
use Rattle.cdl_reading.specs.declared.cursor.Fault.{Fault}
use Rattle.cdl_reading.specs.declared.cursor.Fault.TheVariants.{OutOfMemory, Syntax}
use Rattle.cdl_reading.specs.Reading.{Outcome, Parser, sees, text, next}

abbrev pub Gives : {A : Type 0} → Outcome A → Result A Fault → Word → Type 0
Gives outcome (Ok a) new = outcome ≡ Ok (a, new)
Gives outcome (Err OutOfMemory) new = Unit {0}
Gives outcome (Err Syntax) new = outcome ≡ Err new

-- What a function that takes a literal ensures, by what texts mean: where the next token is of this terminal and means a value, it gives
-- that value and takes the token, unless memory fails; else it is a fault, and the token stays next.
abbrev pub GivesMeaning : {A : Type 0} → Terminal → (List ℕ → A → Type 0) → Word → Result A Fault → Word → Type 0
GivesMeaning terminal Means old (Ok a) new = (sees terminal old ≡ true) × Means (text old) a × (new ≡ next old)
GivesMeaning terminal Means old (Err OutOfMemory) new = Unit {0}
GivesMeaning {A} terminal Means old (Err Syntax) new = ((a : A) → sees terminal old ≡ true → Means (text old) a → ⊥) × (new ≡ old)

-- A function value that parses as a rule does to this depth.
pub record Nests {A : Type 0} (rule : ℕ → Parser A) (depth : ℕ) (pre : Global → MutBor Word → ℕ → Type 0)
    (post : Global → MutBor Word → ℕ → Result A Fault → MutBor Word → Type 0) : Type 0 where
  pub callable : (alloc : Global) (old : MutBor Word) → pre alloc old depth
  pub gives : (alloc : Global) (old new : MutBor Word) (r : Result A Fault) → post alloc old depth r new → Gives (rule depth old.now) r new.now

-- A function value that parses as a rule does.
pub record ReadsAs {A : Type 0} (rule : Parser A) (pre : MutBor Word → Type 0) (post : MutBor Word → Result A Fault → MutBor Word → Type 0) : Type 0 where
  pub callable : (old : MutBor Word) → pre old
  pub gives : (old new : MutBor Word) (r : Result A Fault) → post old r new → Gives (rule old.now) r new.now
