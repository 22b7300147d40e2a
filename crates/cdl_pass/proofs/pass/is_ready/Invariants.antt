use Rattle.std.proofs.Common.{◌≡◌, ◌+◌, ◌-◌}
use Rattle.cdl_values.specs.History.{word}
use Rattle.cdl_pass.specs.Tick.{ready}
use Rattle.cdl_pass.proofs.pass.is_ready.Given as goal

abbrev pub invariant-loop-i : goal.invariant-loop-i
invariant-loop-i l = record {
  left : ready (word l.words) l.node.ins l.node.reads ≡ ready (word l.words) (l.node.ins + l.i) (l.node.reads - l.i);
}
