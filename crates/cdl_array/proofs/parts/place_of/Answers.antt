use Rattle.std.proofs.Common.{◌<◌, length, map, sym, arith}
use Rattle.std.proofs.lemmas.List.{length-map}
use Rattle.cdl_array.specs.Parts.{index_of}
use Rattle.cdl_array.proofs.Places.{place_many}
use Rattle.cdl_array.proofs.parts.place_of.Goals as goal

pub returns-then-subs-gt2 : goal.returns-then-subs-gt2
returns-then-subs-gt2 c =
    let many : 2 < length (map index_of c.args.subs.now) = rw length-map (omega arith) in
    sym (place_many c.args.shape.now (map index_of c.args.subs.now) many)
