-- Declarations that are lent.
use Rattle.std.specs.Prelude.{List, map}
use Rattle.std.proofs.Common.{Bor}
use Rattle.cdl_tree.specs.declared.class.Item.{Item}

abbrev pub items : List (Bor Item) → List Item
items xs = map (λ (x : Bor Item). x.now) xs
