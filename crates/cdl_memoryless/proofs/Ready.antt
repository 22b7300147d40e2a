-- Where each input is direct, each has a value.
use Rattle.std.proofs.Common.{ℤ, List, refl}
use Rattle.cdl_values.specs.History.{Signature, AreReady, AreValues}
use Rattle.cdl_memoryless.specs.AtOnce.{all_direct}

pub all_values : (p : Signature) (xs : List ℤ) → AreReady (all_direct p) xs → AreValues p xs
all_values p xs r = record { size = r.size; each = λ i l. r.each i l refl }
