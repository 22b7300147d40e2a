use Rattle.std.proofs.Common.{◌+◌, ap, arith, below_more, length, subst, sym}
use Rattle.cdl_kinds.specs.Ports.{PortRow, port_row}
use Rattle.cdl_connect.specs.declared.net.NetElement.{NetElement}
use Rattle.cdl_connect.specs.Nets.{element}
use Rattle.cdl_connect.specs.WellFormed.{IsPort}
use Rattle.cdl_run.proofs.Building.{element_is}
use Rattle.cdl_run_tests.proofs.kinds.has_ports.Goals as goal

pub loop-j-preserved : goal.loop-j-preserved
loop-j-preserved c =
    let x = c.args.t.now.first + c.loop-j.j in
    let e = ap length c.items-elements.ensures in
    let is = element_is c.args.net.now c.items-elements.result.now x c.index-elements-first.result c.items-elements.ensures (omega (arith, e, c.loop-j-test.true, c.if-elements-first.false)) c.index-elements-first.is in
    below_more _ _ c.loop-j.invariant
    (subst (λ (p : PortRow). IsPort p (element c.args.net.now x)) c.port.ensures.row
    (subst (λ (y : NetElement). IsPort (port_row c.port.result) y) (sym is) (c.is_port.ensures c.if-not-is_port.false)))
