use Rattle.std.proofs.Common.{arith, ◌≡◌, ◌+◌, ◌∙◌, sym, false}
use Rattle.cdl_values.specs.History.{word}
use Rattle.cdl_pass.specs.Tick.{is_none}
use Rattle.cdl_pass.proofs.Ready.{ready_at}
use Rattle.cdl_pass.proofs.pass.is_ready.Goals as goal

pub loop-i-preserved : goal.loop-i-preserved
loop-i-preserved c =
    let n = c.args.node.now in
    let s = ready_at (word c.args.words.now) n.ins n.reads c.loop-i.i (omega (arith, c.loop-i-test.true)) in
    let e : is_none (word c.args.words.now (n.ins + c.loop-i.i)) ≡ false = sym c.is_none.ensures ∙ c.if-is_none.false in
    record { left = c.loop-i.invariant.left ∙ rw e at s }
