use Rattle.std.proofs.Common.{sym, ◌∙◌, arith}
use Rattle.cdl_lex.proofs.Closed.{wrong_escape, right_escape, quote_here, plain_here, unclosed}
use Rattle.cdl_lex.proofs.sizes.inside_size.Goals as goal

pub returns-then-not-is_escape-clause-size : goal.returns-then-not-is_escape-clause-size
returns-then-not-is_escape-clause-size c =
    wrong_escape c.loop-at.escape c.args.bytes.now c.loop-at.at _ c.loop-at-test.true c.if-escape.true (sym c.is_escape.ensures ∙ c.if-not-is_escape.true) c.loop-at.invariant.same

pub loop-at-preserved-then-escape : goal.loop-at-preserved-then-escape
loop-at-preserved-then-escape c =
    record {
      same = right_escape c.loop-at.escape c.args.bytes.now c.loop-at.at _ c.loop-at-test.true c.if-escape.true (sym c.is_escape.ensures ∙ c.if-not-is_escape.false) c.loop-at.invariant.same;
      within = omega arith;
    }

pub returns-then-byte-eq34-clause-size : goal.returns-then-byte-eq34-clause-size
returns-then-byte-eq34-clause-size c =
    quote_here c.loop-at.escape c.args.bytes.now c.loop-at.at _ c.loop-at-test.true c.if-escape.false c.if-byte-eq34.true c.loop-at.invariant.same

pub loop-at-preserved : goal.loop-at-preserved
loop-at-preserved c =
    record {
      same = plain_here c.loop-at.escape c.args.bytes.now c.loop-at.at _ c.loop-at-test.true c.if-escape.false c.if-byte-eq34.false c.loop-at.invariant.same;
      within = omega arith;
    }

pub returns-clause-size : goal.returns-clause-size
returns-clause-size c = unclosed c.loop-at.escape c.args.bytes.now c.loop-at.at _ c.loop-at-test.false c.loop-at.invariant.same
