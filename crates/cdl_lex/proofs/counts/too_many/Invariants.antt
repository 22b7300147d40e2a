use Rattle.std.proofs.Common.{◌≤◌, reverse, take}
use Rattle.cdl_lex.specs.Limits.{IsTooMany}
use Rattle.cdl_lex.proofs.AtTokens.{NoneAt}
use Rattle.cdl_lex.proofs.Nested.{AreCounts}
use Rattle.cdl_lex.proofs.counts.too_many.Given as goal

abbrev pub invariant-loop-token : goal.invariant-loop-token
invariant-loop-token l =
    record {
      state : AreCounts l.bytes (reverse (take l.token-index l.tokens)) l.counts;
      few_ifs : l.counts.ifs ≤ 64;
      few_operators : l.counts.operators ≤ 1024;
      none : NoneAt (IsTooMany l.bytes) (take l.token-index l.tokens);
    }
