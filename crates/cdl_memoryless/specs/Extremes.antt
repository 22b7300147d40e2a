-- The greatest and the least of many.
use Rattle.std.specs.Prelude.{ℤ, List}
use Rattle.cdl_values.specs.Extremes.{greatest, least}
use Rattle.cdl_memoryless.specs.declared.extremes.ExtremeOp.{ExtremeOp}
use Rattle.cdl_memoryless.specs.declared.extremes.ExtremeOp.TheVariants.{Max, Min}

abbrev pub extreme_function : ExtremeOp → List ℤ → ℤ
extreme_function Max = greatest
extreme_function Min = least
