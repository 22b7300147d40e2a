-- Maps from identifiers.
use Rattle.std.specs.Prelude.{ℕ, List, Option, Vec}
use Rattle.std.specs.declared.alloc.Global.{Global}
use Rattle.std.specs.BTreeMap.{BTreeMap, get_by}
use Rattle.std.specs.Cmp.Lexicographic.{slice_cmp}
use Rattle.std.specs.Ordering.{nat_cmp}

-- what a map from identifiers has for this one
abbrev pub entry : {V : Type 0} → BTreeMap (Vec ℕ Global) V → List ℕ → Option V
entry m x = get_by (λ k. slice_cmp nat_cmp x k.items) m
