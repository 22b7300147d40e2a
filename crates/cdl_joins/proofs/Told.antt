-- Numbers that expressions are worth, as ranges and bounds tell them.
use Rattle.std.proofs.Common.{◌≡◌, ℕ, List, sym, ap, ◌∙◌, Option}
use Rattle.std.specs.Prelude.{ℤ}
use Rattle.cdl_tree.specs.declared.class.Loop.{Loop}
use Rattle.cdl_tree.specs.declared.class.Sub.{Sub}
use Rattle.cdl_tree.specs.declared.class.Sub.TheVariants as sub
use Rattle.cdl_tree.specs.declared.expr.Expr.{Expr}
use Rattle.cdl_paths.specs.declared.path.Local.{Local}
use Rattle.cdl_paths.specs.declared.path.Step.{Step}
use Rattle.cdl_params.specs.Kept.{Model}
use Rattle.cdl_joins.specs.declared.picks.Pick.{Pick}
use Rattle.cdl_joins.specs.Integers.{integer}
use Rattle.cdl_joins.specs.Picks.{ranged, pick}
use Rattle.cdl_joins.specs.Verdicts.{both, bounds}

-- the second is told where nothing of the model changed
told_later : (w w' : Model) (p : List Step) (ls : List Local) (x : Expr) (b : Option ℤ) → w' ≡ w → b ≡ integer w' p ls x → b ≡ integer w p ls x
told_later w w' p ls x b e h = h ∙ ap (λ (z : Model). integer z p ls x) e

pub range_told : (w w' : Model) (p : List Step) (ls : List Local) (n : ℕ) (s : Sub) (x y : Expr) (a b : Option ℤ) (r : Option Pick) → s ≡ sub.Range x y → w' ≡ w → a ≡ integer w p ls x → b ≡ integer w' p ls y → r ≡ ranged n a b
    → r ≡ pick (integer w p ls) n s
range_told w w' p ls n s x y a b r e q f g h =
    h ∙ ap (λ (z : Option ℤ). ranged n z b) f ∙ ap (λ (z : Option ℤ). ranged n (integer w p ls x) z) (told_later w w' p ls y b q g) ∙ ap (pick (integer w p ls) n) (sym e)

pub bounds_told : (w w' : Model) (p : List Step) (ls : List Local) (l : Loop) (a b : Option ℤ) (r : Option (ℤ × ℤ)) → w' ≡ w → a ≡ integer w p ls l.low → b ≡ integer w' p ls l.high → r ≡ both a b → r ≡ bounds w p ls l
bounds_told w w' p ls l a b r q f g h = h ∙ ap (λ (z : Option ℤ). both z b) f ∙ ap (both (integer w p ls l.low)) (told_later w w' p ls l.high b q g)
