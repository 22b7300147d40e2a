use Rattle.std.proofs.Common.{rules, sym, ◌<◌, unsigned_abs}
use Rattle.cdl_decimal.proofs.ScaleLaws.{far_power, far_number}
use Rattle.cdl_decimal.proofs.scale.scaled_up.Goals as goal

pub returns-then-k-gt16 : goal.returns-then-k-gt16
returns-then-k-gt16 c = sym (far_power c.args.n c.args.k (search rules) (search rules))

pub returns-then-unsigned_abs : goal.returns-then-unsigned_abs
returns-then-unsigned_abs c =
    let far : 10000000000000000 < unsigned_abs c.args.n = search rules in
    sym (far_number c.args.n c.args.k far)
