use Rattle.std.proofs.Common.{rules, refl, ◌≡◌, ◌≤◌, ◌*◌, ◌∙◌, Some, length, unsigned_abs}
use Rattle.cdl_decimal.specs.Near.{near, in_range}
use Rattle.cdl_decimal.specs.Counts.{total}
use Rattle.cdl_decimal.proofs.NearLaws.{mean_in_range, rounds_to}
use Rattle.cdl_decimal.proofs.real.mean.Goals.{After-rounded}
use Rattle.cdl_decimal.proofs.real.mean.Goals as goal

value : (c : After-rounded) → c.rounded.result ≡ in_range (near (total c.args.u.now) (length c.args.u.now))
value c = search rules

pub returns-clause-always : goal.returns-clause-always
returns-clause-always c =
    let s : unsigned_abs (total c.args.u.now) ≤ 10000000000000000 * length c.args.u.now = rw c.sum_of_counts.ensures.value at c.sum_of_counts.ensures.small in
    let e : c.rounded.result ≡ Some (near (total c.args.u.now) (length c.args.u.now)) = value c ∙ mean_in_range (total c.args.u.now) (length c.args.u.now) c.requires.some s in
    rw e refl

pub returns-clause-rounded : goal.returns-clause-rounded
returns-clause-rounded c = rounds_to (total c.args.u.now) (length c.args.u.now) c.rounded.result c.requires.some (value c)
