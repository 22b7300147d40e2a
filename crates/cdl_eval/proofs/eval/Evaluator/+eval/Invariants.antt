use Rattle.std.proofs.Common.{◌≡◌, drop, map}
use Rattle.cdl_worth.specs.Expressions.{all}
use Rattle.cdl_eval.specs.Places.{worth_at}
use Rattle.cdl_eval.proofs.Rows.{with}
use Rattle.cdl_eval.proofs.eval.Evaluator.+eval.Given as goal

abbrev pub invariant-all-loop-i : goal.invariant-all-loop-i
invariant-all-loop-i g l = (l.e ≡ l.fn.e) × (with l.values (all (map (worth_at l.self.table.now l.place l.locals) (drop l.i l.exprs))) ≡ all (map (worth_at l.self.table.now l.place l.locals) l.exprs))
