use Rattle.std.proofs.Common.{◌≡◌, [], drop}
use Rattle.cdl_worth.specs.Sizes.{dim_sizes}
use Rattle.cdl_eval.specs.Places.{worth_at}
use Rattle.cdl_eval.proofs.Rows.{with}
use Rattle.cdl_eval.proofs.eval.Evaluator.dim_sizes.Given as goal

abbrev pub invariant-loop-i : goal.invariant-loop-i
invariant-loop-i g l = (l.e ≡ l.fn.e) × (with l.sizes (dim_sizes (worth_at l.self.table.now l.place []) (drop l.i l.dims)) ≡ dim_sizes (worth_at l.self.table.now l.place []) l.dims)
