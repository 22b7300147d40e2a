-- What parameters are worth, with more links.
use Rattle.std.proofs.Common.{ℕ, ◌≤◌, List, []}
use Rattle.cdl_tree.specs.declared.expr.Expr.{Expr}
use Rattle.cdl_tree.specs.declared.class.Item.{Item}
use Rattle.cdl_scopes.specs.Classes.{Declared}
use Rattle.cdl_paths.specs.declared.path.Local.{Local}
use Rattle.cdl_worth.specs.Links.{Within, Lasts}
use Rattle.cdl_worth.specs.Values.{Steps, value, evaluate, dims, present, sizes, link}
use Rattle.cdl_worth.proofs.Worths.{value_by_within, link_within, eval_at_within, sizes_within, present_within}

pub value_lasts : (ds : List Declared) (r : ℕ) (p : Steps) (n : List ℕ) → Lasts (λ d. value ds d r p n)
unfolding value
value_lasts ds r p n = record { more = λ k d h. value_by_within ds (link ds k) (link ds d) (link_within ds k d h) r (sizes ds r p) p n }

evaluate_within : (ds : List Declared) (k d : ℕ) → k ≤ d → (r : ℕ) (p : Steps) (locals : List Local) (e : Expr) → Within (evaluate ds k r p locals e) (evaluate ds d r p locals e)
evaluate_within ds k d h r p locals e = eval_at_within ds (link ds k) (link ds d) (link_within ds k d h) r (sizes ds r p) p locals e

pub evaluate_lasts : (ds : List Declared) (r : ℕ) (p : Steps) (locals : List Local) (e : Expr) → Lasts (λ d. evaluate ds d r p locals e)
evaluate_lasts ds r p locals e = record { more = λ k d h. evaluate_within ds k d h r p locals e }

pub dims_last : (ds : List Declared) (r : ℕ) (p : Steps) (x : Item) → Lasts (λ d. dims ds d r p x)
unfolding dims
dims_last ds r p x = record { more = λ k d h. sizes_within (evaluate ds k r p []) (evaluate ds d r p []) (evaluate_within ds k d h r p []) x.dims }

pub present_lasts : (ds : List Declared) (r : ℕ) (p : Steps) (x : Item) → Lasts (λ d. present ds d r p x)
unfolding present
present_lasts ds r p x = record { more = λ k d h. present_within (evaluate ds k r p []) (evaluate ds d r p []) (evaluate_within ds k d h r p []) x.condition }
