use Rattle.std.proofs.Common.{◌≡◌, drop}
use Rattle.std.specs.List.{list_all}
use Rattle.cdl_classes.specs.Rules.{is_sized}
use Rattle.cdl_classes.proofs.item_classes.all_sized.Given as goal

abbrev pub invariant-loop-dim : goal.invariant-loop-dim
invariant-loop-dim l = list_all is_sized (drop l.dim-index l.dims) ≡ list_all is_sized l.dims
