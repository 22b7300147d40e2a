use Rattle.std.proofs.Common.{List, ◌++◌, arith, sym, ap, ◌∙◌}
use Rattle.std.proofs.lemmas.List.{append-nil}
use Rattle.cdl_connect.specs.declared.net.RawWire.{RawWire}
use Rattle.cdl_statements.proofs.Wires.{raw_end}
use Rattle.cdl_statements.proofs.net.wires_between.Goals as goal

pub returns : goal.returns
returns c = sym (append-nil c.loop-i.wires)
    ∙ ap (λ (zs : List RawWire). c.loop-i.wires ++ zs) (sym (raw_end c.args.scope c.args.left.now c.args.right.now c.loop-i.i (omega (arith, c.loop-i-test.false, c.shorter-count.ensures)))) ∙ c.loop-i.invariant
