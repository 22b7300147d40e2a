use Rattle.std.proofs.Common.{rules, arith, refl, ap, ◌∙◌, Ok, Err, w32}
use Rattle.std.specs.Prelude.{ℤ}
use Rattle.std.proofs.lemmas.Int.{to_z-of_z}
use Rattle.cdl_joins.specs.Verdicts.{with_local}
use Rattle.cdl_statements.specs.inner.Seen.{made, scope_seen, seen}
use Rattle.cdl_statements.proofs.Steps as at
use Rattle.cdl_statements.proofs.running.+body.Goals as goal

-- ---- bodies

pub body-loop-i-init : goal.body-loop-i-init
body-loop-i-init t c = record { kept = refl; same = refl; went = at.body_starts c.args.e.now (scope_seen c.args.scope) c.args.locals.now c.args.statements.now (made c.args.directory.now c.args.net.now) }

pub body-returns-in-Err-clause-runs : goal.body-returns-in-Err-clause-runs
body-returns-in-Err-clause-runs t c = at.body_stops c.args.e.now c.loop-i.e (scope_seen c.args.scope) c.args.locals.now c.loop-i.locals c.args.statements.now c.loop-i.i c.index-statements-i.result
    (made c.args.directory.now c.args.net.now) (made c.args.directory.now c.loop-i.net) (seen (scope_seen c.args.scope) c.in-Err.broken)
    c.loop-i.invariant.kept c.loop-i.invariant.same c.loop-i-test.true c.index-statements-i.is c.loop-i.invariant.went c.in-Err.ensures.runs

pub body-loop-i-preserved : goal.body-loop-i-preserved
body-loop-i-preserved t c = record {
  kept = c.statement.ensures.kept ∙ c.loop-i.invariant.kept;
  same = c.in-Ok.ensures.same ∙ c.loop-i.invariant.same;
  went = at.body_next c.args.e.now c.loop-i.e (scope_seen c.args.scope) c.args.locals.now c.loop-i.locals c.args.statements.now c.loop-i.i c.index-statements-i.result
      (made c.args.directory.now c.args.net.now) (made c.args.directory.now c.loop-i.net) (made c.args.directory.now c.statement.new.net)
      c.loop-i.invariant.kept c.loop-i.invariant.same c.loop-i-test.true c.index-statements-i.is c.loop-i.invariant.went c.in-Ok.ensures.runs;
}

pub body-returns-clause-runs : goal.body-returns-clause-runs
body-returns-clause-runs t c = at.body_all c.args.e.now (scope_seen c.args.scope) c.args.locals.now c.args.statements.now c.loop-i.i (made c.args.directory.now c.args.net.now) (made c.args.directory.now c.loop-i.net)
    (omega arith) c.loop-i.invariant.went

-- ---- statements

pub statement-returns-in-Connect-clause-runs : goal.statement-returns-in-Connect-clause-runs
statement-returns-in-Connect-clause-runs t c = at.at_connect _ _ (seen (scope_seen c.args.scope)) c.args.e.now (scope_seen c.args.scope) c.args.locals.now c.items.result.now c.args.statement.now c.in-Connect.connect
    (made c.args.directory.now c.args.net.now) (made c.args.directory.now c.occurrence.new.net) c.occurrence.result c.in-Connect.is c.items.ensures c.occurrence.ensures.takes

pub statement-returns-in-Loop-clause-runs : goal.statement-returns-in-Loop-clause-runs
statement-returns-in-Loop-clause-runs t c = at.at_loop _ _ (seen (scope_seen c.args.scope)) c.args.e.now (scope_seen c.args.scope) c.args.locals.now c.args.statement.now c.in-Loop.head
    (made c.args.directory.now c.args.net.now) (made c.args.directory.now c.looped.new.net) c.looped.result c.in-Loop.is c.looped.ensures.runs

-- ---- loops

pub looped-returns-in-Err-clause-runs : goal.looped-returns-in-Err-clause-runs
looped-returns-in-Err-clause-runs t c = at.head_stops c.args.e.now (scope_seen c.args.scope) c.args.locals.now c.items.result.now c.args.outer.now (made c.args.directory.now c.args.net.now) (seen (scope_seen c.args.scope) c.in-Err.broken)
    c.items.ensures (c.in-Err.ensures.takes c.args.directory.now)

pub looped-loop-t-init : goal.looped-loop-t-init
looped-loop-t-init t c = record {
  kept = c.head.ensures.kept;
  same = refl;
  went = at.head_goes c.args.e.now (scope_seen c.args.scope) c.args.locals.now c.items.result.now c.args.outer.now (made c.args.directory.now c.args.net.now) (made c.args.directory.now c.head.new.net)
      c.items.ensures (c.in-Ok.ensures.takes c.args.directory.now);
}

pub looped-returns-in-Err-turn-clause-runs : goal.looped-returns-in-Err-turn-clause-runs
looped-returns-in-Err-turn-clause-runs t c = at.loop_stops c.args.e.now c.loop-t.e (scope_seen c.args.scope) c.args.locals.now c.loop-t.locals c.args.outer.now c.in-Ok.bounds c.loop-t.t _
    (made c.args.directory.now c.args.net.now) (made c.args.directory.now c.loop-t.net) (seen (scope_seen c.args.scope) c.in-Err-turn.broken)
    (search rules) (search rules) (to_z-of_z w32 c.value_in-value.result (record { sfits = c.value_in-value.type_inv }) ∙ search rules) c.loop-t.invariant.kept c.loop-t.invariant.same c.loop-t.invariant.went c.in-Err-turn.ensures.runs

pub looped-loop-t-preserved : goal.looped-loop-t-preserved
looped-loop-t-preserved t c = record {
  kept = c.turn.ensures.kept ∙ c.loop-t.invariant.kept;
  same = c.in-Ok-turn.ensures.same ∙ c.loop-t.invariant.same;
  went = at.loop_next c.args.e.now c.loop-t.e (scope_seen c.args.scope) c.args.locals.now c.loop-t.locals c.args.outer.now c.in-Ok.bounds c.loop-t.t _
      (made c.args.directory.now c.args.net.now) (made c.args.directory.now c.loop-t.net) (made c.args.directory.now c.turn.new.net)
      (search rules) (search rules) (to_z-of_z w32 c.value_in-value.result (record { sfits = c.value_in-value.type_inv }) ∙ search rules) c.loop-t.invariant.kept c.loop-t.invariant.same c.loop-t.invariant.went c.in-Ok-turn.ensures.runs;
}

pub looped-returns-clause-runs : goal.looped-returns-clause-runs
looped-returns-clause-runs t c = at.loop_all c.args.e.now (scope_seen c.args.scope) c.args.locals.now c.args.outer.now c.in-Ok.bounds c.loop-t.t (made c.args.directory.now c.args.net.now) (made c.args.directory.now c.loop-t.net)
    (search rules) (search rules) c.loop-t.invariant.went

-- ---- turns

pub turn-returns-in-Err-body-clause-runs : goal.turn-returns-in-Err-body-clause-runs
turn-returns-in-Err-body-clause-runs t c = at.turn_moved (Unit {0}) _ (seen (scope_seen c.args.scope)) c.args.e.now (scope_seen c.args.scope) c.args.locals.now c.enter.new.locals c.args.outer.now c.args.value c.items.result.now
    (made c.args.directory.now c.args.net.now) (made c.args.directory.now c.body.new.net) (Err c.in-Err-body.broken) (c.in-Ok.ensures ∙ ap (λ (z : ℤ). with_local c.args.locals.now c.args.outer.now z) (to_z-of_z w32 c.args.value c.ranges.value)) c.items.ensures c.in-Err-body.ensures.runs

pub turn-returns-clause-same : goal.turn-returns-clause-same
turn-returns-clause-same t c = c.leave.ensures c.args.locals.now c.args.outer.now c.args.value (c.in-Ok-body.ensures.same ∙ c.in-Ok.ensures ∙ ap (λ (z : ℤ). with_local c.args.locals.now c.args.outer.now z) (to_z-of_z w32 c.args.value c.ranges.value))

pub turn-returns-clause-runs : goal.turn-returns-clause-runs
turn-returns-clause-runs t c = at.turn_moved (Unit {0}) _ (seen (scope_seen c.args.scope)) c.args.e.now (scope_seen c.args.scope) c.args.locals.now c.enter.new.locals c.args.outer.now c.args.value c.items.result.now
    (made c.args.directory.now c.args.net.now) (made c.args.directory.now c.body.new.net) (Ok tt) (c.in-Ok.ensures ∙ ap (λ (z : ℤ). with_local c.args.locals.now c.args.outer.now z) (to_z-of_z w32 c.args.value c.ranges.value)) c.items.ensures c.in-Ok-body.ensures.runs
