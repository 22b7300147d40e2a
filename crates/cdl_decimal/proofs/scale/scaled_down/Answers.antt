use Rattle.std.proofs.Common.{rules, sym, ap, ◌∙◌, pos, ◌≡◌}
use Rattle.cdl_decimal.specs.Near.{in_range}
use Rattle.cdl_decimal.proofs.ScaleLaws.{near_nothing}
use Rattle.cdl_decimal.proofs.scale.scaled_down.Goals as goal

pub returns-then-k-gt30 : goal.returns-then-k-gt30
returns-then-k-gt30 c =
    let e : c.from_count.result ≡ in_range (pos 0) = search rules in
    e ∙ ap in_range (sym (near_nothing c.args.n c.args.k c.requires (search rules)))
