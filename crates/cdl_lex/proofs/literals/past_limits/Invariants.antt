use Rattle.std.proofs.Common.{take}
use Rattle.cdl_lex.specs.Limits.{IsPastLimits}
use Rattle.cdl_lex.proofs.AtTokens.{NoneAt}
use Rattle.cdl_lex.proofs.literals.past_limits.Given as goal

abbrev pub invariant-loop-token : goal.invariant-loop-token
invariant-loop-token l = NoneAt (λ before t. IsPastLimits l.bytes t) (take l.token-index l.tokens)
