use Rattle.std.proofs.Common.{drop, subst, ap, arith, length-drop, length}
use Rattle.std.proofs.lemmas.List.{take_rest}
use Rattle.cdl_lex.specs.Splits.{mark, NothingBegins}
use Rattle.cdl_lex.specs.Steps.{BeginsWith}
use Rattle.cdl_lex.proofs.Continues.{stays, one_more, stuck, whole}
use Rattle.cdl_lex.proofs.split.split.Goals as goal

pub loop-at-init : goal.loop-at-init
loop-at-init c =
    record {
      within = c.mark_size-at.ensures.within;
      reached = rw (c.new-found.ensures, c.mark_size-at.ensures.size) (stays (mark c.args.bytes.now) (drop (mark c.args.bytes.now) c.args.bytes.now));
    }

pub returns-in_default : goal.returns-in_default
returns-in_default c =
    stuck c.args.bytes.now c.loop-at.found c.loop-at.at c.loop-at.invariant.reached (subst NothingBegins (take_rest c.args.bytes.now c.loop-at.at) c.in_default.ensures.none)

pub loop-at-preserved : goal.loop-at-preserved
loop-at-preserved c =
    record {
      within = omega (arith, c.in-Some.ensures.within, ap length (take_rest c.args.bytes.now c.loop-at.at), length-drop c.loop-at.at c.args.bytes.now);
      reached = rw c.in_ok-keep.ensures.ok
          (one_more (mark c.args.bytes.now) c.loop-at.at c.in-Some.piece.size (drop (mark c.args.bytes.now) c.args.bytes.now) c.args.bytes.now c.loop-at.found c.in-Some.piece.sort
          c.loop-at.invariant.reached (subst (λ z. BeginsWith z c.in-Some.piece.sort c.in-Some.piece.size) (take_rest c.args.bytes.now c.loop-at.at) c.in-Some.ensures.piece));
    }

pub returns : goal.returns
returns c = whole c.args.bytes.now c.loop-at.found c.loop-at.at c.loop-at.invariant.reached c.loop-at-test.false
