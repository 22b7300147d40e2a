use Rattle.std.proofs.Common.{◌<◌, arith, below_more}
use Rattle.cdl_values.specs.History.{IsValue, word}
use Rattle.cdl_kinds.specs.Ports.{inputs}
use Rattle.cdl_block_tests.proofs.blocks.are_ready.Goals as goal

pub loop-i-preserved : goal.loop-i-preserved
loop-i-preserved c =
    let here : c.loop-i.i < (inputs c.args.kind c.args.params.now).count = c.is_input.ensures.within c.if-not-is_input.false in
    let value : IsValue ((inputs c.args.kind c.args.params.now).value_type c.loop-i.i) (word c.args.ins.now c.loop-i.i) = c.is_input.ensures.value c.if-not-is_input.false in
    record { within = omega arith; each = below_more _ _ c.loop-i.invariant.each value }
