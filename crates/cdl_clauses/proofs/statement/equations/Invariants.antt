use Rattle.std.proofs.Common.{◌≡◌, ◌-◌, []}
use Rattle.cdl_clauses.specs.Statements.{equations_from}
use Rattle.cdl_clauses.proofs.statement.equations.Given as goal

abbrev pub invariant-loop-turn : goal.invariant-loop-turn
invariant-loop-turn l = equations_from l.fn.most l.fn.most [] l.fn.tokens ≡ equations_from l.fn.most (l.fn.most - l._turn) l.found l.tokens
