use Rattle.std.proofs.Common.{arith, ◌<◌}
use Rattle.cdl_decimal.proofs.TextLaws.{top_digit}
use Rattle.cdl_decimal.proofs.canonical.+push_places.Goals as goal

pub push_digit-requires : goal.push_digit-requires
push_digit-requires t c =
    let some : 0 < c.args.rest = omega arith in
    top_digit c.args.rest c.args.places c.power_of_ten-unit.result some c.requires.small c.power_of_ten-unit.ensures.value
