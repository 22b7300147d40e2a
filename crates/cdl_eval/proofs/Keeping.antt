-- Values that are kept.
use Rattle.std.proofs.Common.{ℕ, ◌≡◌, ◌≤◌, sym, ap, ◌∙◌, Bool, true, false, List, [], ◌∷◌, take, Option, Some, None, Ok}
use Rattle.cdl_values.specs.declared.value.Array.{Array}
use Rattle.cdl_array.specs.Outcomes.{Outcome}
use Rattle.cdl_scopes.specs.Classes.{Declared}
use Rattle.cdl_paths.specs.declared.path.Local.{Local}
use Rattle.cdl_paths.specs.declared.path.Step.{Step}
use Rattle.cdl_paths.specs.Bindings.{Bound, binding_of, by_kind, by_text}
use Rattle.cdl_tree.specs.declared.expr.Expr.{Expr}
use Rattle.cdl_worth.specs.Links.{Lasts, Within, too_deep, same}
use Rattle.cdl_worth.specs.Values.{Steps, evaluate, the_class, value}
use Rattle.cdl_eval.specs.declared.kept.Entry.{Entry}
use Rattle.cdl_eval.specs.Kept.{IsKept, bound_worth, kept}

pub step_is : (a b : Step) → a.name ≡ b.name → a.indices ≡ b.indices → a ≡ b
step_is a b p q =
    let first : a ≡ record { name = b.name; indices = a.indices } = ap (λ (n : List ℕ). let s : Step = record { name = n; indices = a.indices } in s) p in
    let second : record { name = b.name; indices = a.indices } ≡ b = ap (λ (i : List ℕ). let s : Step = record { name = b.name; indices = i } in s) q in
    first ∙ second

pub steps_are : (xs ys as' bs : List Step) (a b : Step) → xs ≡ a ∷ as' → ys ≡ b ∷ bs → a ≡ b → as' ≡ bs → xs ≡ ys
steps_are xs ys as' bs a b p q e h = cc

lasting : (x y : Outcome Array) (v : Array) → Within x y → x ≡ Ok v → y ≡ Ok v
lasting x y v (too_deep t) e = cc
lasting x y v (same s) e = sym s ∙ e

given_lasting : (ds : List Declared) (k d r : ℕ) (p : Steps) (o : Option Bound) (v : Array) → ((r : ℕ) (p : Steps) (locals : List Local) (e : Expr) → Lasts (λ d. evaluate ds d r p locals e)) → k ≤ d → bound_worth ds k r p o ≡ Ok v → bound_worth ds d r p o ≡ Ok v
given_lasting ds k d r p None v l le h = cc
given_lasting ds k d r p (Some (by_kind b)) v l le h = cc
given_lasting ds k d r p (Some (by_text g)) v l le h = lasting (evaluate ds k r (take g.steps p) [] g.value) (evaluate ds d r (take g.steps p) [] g.value) v ((l r (take g.steps p) [] g.value).more k d le) h

kept_lasting : (b : Bool) (ds : List Declared) (k d r : ℕ) (p : Steps) (n : List ℕ) (v : Array) → ((r : ℕ) (p : Steps) (n : List ℕ) → Lasts (λ d. value ds d r p n)) → ((r : ℕ) (p : Steps) (locals : List Local) (e : Expr) → Lasts (λ d. evaluate ds d r p locals e)) → k ≤ d → kept b ds k r p n ≡ Ok v → kept b ds d r p n ≡ Ok v
kept_lasting false ds k d r p n v l m le h = lasting (value ds k r p n) (value ds d r p n) v ((l r p n).more k d le) h
kept_lasting true ds k d r p n v l m le h = given_lasting ds k d r p (binding_of ds (the_class r) 0 p n) v m le h

pub served : (ds : List Declared) (x : Entry) (b : Bool) (k r : ℕ) (p : Steps) (n : List ℕ) → ((r : ℕ) (p : Steps) (n : List ℕ) → Lasts (λ d. value ds d r p n)) → ((r : ℕ) (p : Steps) (locals : List Local) (e : Expr) → Lasts (λ d. evaluate ds d r p locals e)) → IsKept ds x → x.is_given ≡ b → x.links ≤ k → x.start.index ≡ r → x.steps ≡ p → x.name ≡ n → kept b ds k r p n ≡ Ok x.value
served ds x b k r p n l m h g le a s t =
    let here : kept x.is_given ds k x.start.index x.steps x.name ≡ Ok x.value = kept_lasting x.is_given ds x.links k x.start.index x.steps x.name x.value l m le h.worth in
    rw (sym g, sym a, sym s, sym t) here
