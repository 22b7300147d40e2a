use Rattle.std.proofs.Common.{◌≡◌, ◌-◌}
use Rattle.cdl_clauses.specs.Statements.{statement, body, body_from}
use Rattle.cdl_clauses.proofs.statement.Statements.body.Given as goal

abbrev pub invariant-loop-turn : goal.invariant-loop-turn
invariant-loop-turn g l = body l.self.depth (statement l.self.depth) l.fn.tokens ≡ body_from l.self.depth (statement l.self.depth) (l._turn-end - l._turn) l.found l.tokens
