use Rattle.std.proofs.Common.{◌≤◌, ◌<◌, Some, sym, ap, ◌∙◌, arith, w32}
use Rattle.std.proofs.lemmas.Int.{to_z_pos}
use Rattle.cdl_tree.proofs.Integers.{integer_some, integer_none}
use Rattle.cdl_tree.proofs.literal.integer.Goals as goal

pub returns-in-Some : goal.returns-in-Some
returns-in-Some c = let l : c.in-Some.value ≤ 2147483647 = c.in-Some.ensures.limit in let h : c.in-Some.value < 2147483648 = omega arith in ap (λ z. Some z) (to_z_pos w32 c.in-Some.value h) ∙ integer_some c.args.text.now c.in-Some.value (sym c.in-Some.ensures.value)

pub returns-in-None : goal.returns-in-None
returns-in-None c = integer_none c.args.text.now (sym c.in-None.ensures.value)
