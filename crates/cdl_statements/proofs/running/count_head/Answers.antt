use Rattle.std.proofs.Common.{rules, arith}
use Rattle.std.proofs.lemmas.Int.{to_z-of_z}
use Rattle.cdl_statements.specs.inner.Seen.{made, scope_seen, seen}
use Rattle.cdl_statements.specs.Places.{spot}
use Rattle.cdl_statements.proofs.Told.{head_fails}
use Rattle.cdl_statements.proofs.running.count_head.Goals as goal

pub returns-in-Err-clause-takes : goal.returns-in-Err-clause-takes
returns-in-Err-clause-takes c = λ d. head_fails (spot (scope_seen c.args.scope) c.args.byte) c.args.bounds c.in-Some.low c.in-Some.high c.turns.result (made d c.args.net.now) (seen (scope_seen c.args.scope) c.in-Err.broken) c.in-Some.is
    (first_of (search rules, search (rules, to_z-of_z), grind (arith, rules))) (c.in-Err.ensures.takes d)
