use Rattle.std.proofs.Common.{◌+◌, ◌≤◌, reverse, take}
use Rattle.cdl_lex.specs.Limits.{IsTooDeep}
use Rattle.cdl_lex.proofs.AtTokens.{NoneAt}
use Rattle.cdl_lex.proofs.Nested.{IsDepth}
use Rattle.cdl_lex.proofs.depth.too_deep.Given as goal

abbrev pub invariant-loop-token : goal.invariant-loop-token
invariant-loop-token l =
    record {
      state : IsDepth l.bytes (reverse (take l.token-index l.tokens)) l.depth;
      small : l.depth.brackets + l.depth.classes ≤ 64;
      none : NoneAt (IsTooDeep l.bytes) (take l.token-index l.tokens);
    }
