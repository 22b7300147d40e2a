use Rattle.std.proofs.Common.{ℕ, ◌≡◌, ◌-◌, ◌<◌, refl, ap, arith}
use Rattle.cdl_kinds.specs.Ports.{port_row, ports_count, nin_or_nout}
use Rattle.cdl_kinds.specs.Table.{Row, row}
use Rattle.cdl_kinds.proofs.Listing.{among_as, same_count}
use Rattle.cdl_kinds.proofs.port_list.port.Goals as goal

pub returns-then-i-count-clause-input : goal.returns-then-i-count-clause-input
returns-then-i-count-clause-input c h =
    among_as (port_row c.port_among.result) _ _ _ _ _ _ _ _ _ c.size-n.ensures.size
    (ap (λ (p : Row). p.ins) c.kind_row-row.ensures.entry)
    (ap (λ (p : Row). p.direct) c.kind_row-row.ensures.entry)
    refl c.port_among.ensures h

pub returns-else-i-count-clause-output : goal.returns-else-i-count-clause-output
returns-else-i-count-clause-output c h =
    let count : c.count_all-count.result ≡ ports_count (nin_or_nout c.args.params.now) (row c.args.kind).ins = same_count _ _ _ _ _ c.size-n.ensures.size (ap (λ (p : Row). p.ins) c.kind_row-row.ensures.entry) c.count_all-count.ensures.count in
    let within : c.args.i - ports_count (nin_or_nout c.args.params.now) (row c.args.kind).ins < ports_count (nin_or_nout c.args.params.now) (row c.args.kind).outs = omega arith in
    let r = among_as (port_row c.port_among-else-i-count.result) _ _ _ _ _ _ (row c.args.kind).outs _ (c.args.i - ports_count (nin_or_nout c.args.params.now) (row c.args.kind).ins) c.size-n.ensures.size
    (ap (λ (p : Row). p.outs) c.kind_row-row.ensures.entry) refl
    (ap (λ (n : ℕ). c.args.i - n) count) c.port_among-else-i-count.ensures within in
    (r.0, r.1)
