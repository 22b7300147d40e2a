use Rattle.std.proofs.Common.{arith, rules, sym, ap, ◌∙◌, pos, ◌≡◌, ◌*ℤ◌, ◌-◌, ◌^◌}
use Rattle.cdl_decimal.specs.Near.{in_range, near}
use Rattle.cdl_decimal.proofs.ScaleLaws.{near_exact, near_shifted}
use Rattle.cdl_decimal.proofs.scale.scaled.Goals as goal

pub returns-then-down-up : goal.returns-then-down-up
returns-then-down-up c =
    let e : c.scaled_up.result ≡ in_range (c.args.n *ℤ pos (10 ^ (c.args.up - c.args.down))) = search rules in
    e ∙ ap in_range (sym (near_exact c.args.n c.args.up c.args.down (omega arith)))

pub returns-else-down-up : goal.returns-else-down-up
returns-else-down-up c =
    let e : c.scaled_down.result ≡ in_range (near c.args.n (10 ^ (c.args.down - c.args.up))) = search rules in
    e ∙ ap in_range (sym (near_shifted c.args.n c.args.up c.args.down (omega arith)))
