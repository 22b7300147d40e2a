use Rattle.std.proofs.Common.{◌≡◌, ◌+◌, ◌&&◌, ◌==◌, false, get_or, drop, arith}
use Rattle.cdl_lex.specs.Steps.{begins}
use Rattle.cdl_lex.proofs.Closed.{close_here, no_close_here, other_byte, other_second, no_second, unclosed_block}
use Rattle.cdl_lex.proofs.sizes.block_size.Goals as goal
use Rattle.cdl_lex.proofs.sizes.block_size.Goals.{else-bytes-at-eq42-via-then-bytes-at-eq42+then-at-bytes+else-bytes-at-eq47, else-bytes-at-eq42-via-then-bytes-at-eq42+else-at-bytes, else-bytes-at-eq42-via-else-bytes-at-eq42}

pub returns-then-bytes-at-eq47-clause-size : goal.returns-then-bytes-at-eq47-clause-size
returns-then-bytes-at-eq47-clause-size c =
    close_here c.args.bytes.now c.loop-at.at _ c.if-at-bytes.true c.if-bytes-at-eq42.true c.if-bytes-at-eq47.true c.loop-at.invariant.same

pub loop-at-preserved : goal.loop-at-preserved
loop-at-preserved c =
    let no : (get_or c.args.bytes.now c.loop-at.at 0 == 42 && begins 47 (drop (c.loop-at.at + 1) c.args.bytes.now)) ≡ false =
    elim c.else-bytes-at-eq42.branch [
      | else-bytes-at-eq42-via-then-bytes-at-eq42+then-at-bytes+else-bytes-at-eq47 w ↦ other_second c.args.bytes.now c.loop-at.at w.if-at-bytes.true w.if-bytes-at-eq47.false
      | else-bytes-at-eq42-via-then-bytes-at-eq42+else-at-bytes w ↦ no_second c.args.bytes.now c.loop-at.at w.if-at-bytes.false
      | else-bytes-at-eq42-via-else-bytes-at-eq42 w ↦ other_byte c.args.bytes.now c.loop-at.at w.if-bytes-at-eq42.false
    ] in
    record { same = no_close_here c.args.bytes.now c.loop-at.at _ c.loop-at-test.true no c.loop-at.invariant.same; within = omega arith }

pub returns-clause-size : goal.returns-clause-size
returns-clause-size c = unclosed_block c.args.bytes.now c.loop-at.at _ c.loop-at-test.false c.loop-at.invariant.same
