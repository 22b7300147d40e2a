use Rattle.std.proofs.Common.{◌≡◌, ap, arith}
use Rattle.cdl_clauses.specs.Statements.{statement}
use Rattle.cdl_reading.proofs.Turns.{deeper}
use Rattle.cdl_clauses.proofs.statement.+statement.Goals as goal

pub returns-then-depth-eq0 : goal.returns-then-depth-eq0
unfolding statement
returns-then-depth-eq0 t c = let none : c.args.depth ≡ 0 = omega arith in ap (λ n. statement n c.args.tokens.now) none

pub returns : goal.returns
unfolding statement
returns t c = rw (deeper (λ n. statement n c.args.tokens.now) c.args.depth (omega arith)) c.any.ensures
