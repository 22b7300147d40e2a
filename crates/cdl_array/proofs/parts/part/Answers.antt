use Rattle.std.proofs.Common.{◌<◌, length, refl}
use Rattle.cdl_array.proofs.Places.{place_past}
use Rattle.cdl_array.proofs.parts.part.Goals as goal

pub returns-then-indices-shape : goal.returns-then-indices-shape
returns-then-indices-shape c =
    let few : length c.args.array.now.shape < length c.args.indices.now = rw c.items-shape.ensures at c.if-indices-shape.true in
    rw (place_past c.args.array.now.shape c.args.indices.now few) refl
