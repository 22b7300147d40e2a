-- A formed expression is proper.
use Rattle.std.proofs.Common.{◌≡◌, true}
use Rattle.std.proofs.lemmas.Bool.{and_parts}
use Rattle.cdl_tree.specs.declared.expr.Expr.{Expr}
use Rattle.cdl_tree.specs.Proper.{is_proper}
use Rattle.cdl_tree.specs.Formed.{is_written, is_formed}

pub formed_proper : (e : Expr) → is_formed e ≡ true → is_proper e ≡ true
unfolding is_formed
formed_proper e h = (and_parts (is_proper e) (is_written e) h).0
