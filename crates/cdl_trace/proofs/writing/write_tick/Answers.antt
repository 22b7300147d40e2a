use Rattle.std.proofs.Common.{◌≡◌, ◌∙◌, ◌<◌, ◌<ℤ◌, ◌++◌, ◌∷◌, [], Some, arith, length, of_z, rules, slice_get, subst, sym, take, to_z, w64, ℕ, ℤ}
use mir.Val.{SFits}
use Rattle.std.proofs.lemmas.Int.{ints}
use Rattle.std.proofs.lemmas.Result.{err_from_is_err_and}
use Rattle.cdl_values.specs.History.{IsTime, IsValue, word}
use Rattle.cdl_connect.specs.declared.net.Net.{Net}
use Rattle.cdl_connect.specs.declared.net.NetInstance.{NetInstance}
use Rattle.cdl_connect.specs.Nets.{network_of}
use Rattle.cdl_run.specs.Running.{Stands}
use Rattle.cdl_table.specs.TableRow.{row_at}
use Rattle.cdl_table.specs.Values.{AreValues}
use Rattle.cdl_trace.specs.Columns.{input_columns, labelled, output_columns, root_outputs}
use Rattle.cdl_trace.specs.Ends.{tick_of, ticks_of}
use Rattle.cdl_trace.proofs.Sinks.{faulted_answered, stop_answered, tick_stops}
use Rattle.cdl_trace.proofs.Ticking.{fault_within, is_later, path_is, row_fault, row_is, sole_net, tick_faulted, tick_is, tick_record}
use Rattle.cdl_trace.proofs.writing.write_tick.Goals as goal

pub tick-requires-clause-time : goal.tick-requires-clause-time
tick-requires-clause-time g c =
    let fits : SFits w64 c.time-time.result = search rules in
    let same : to_z w64 (of_z w64 c.time-time.result) ≡ c.time-time.result = omega (arith, ints) in
    subst IsTime (sym (same ∙ c.time-time.ensures)) (c.requires.values c.args.number c.requires.within).0

pub tick-requires-clause-later : goal.tick-requires-clause-later
tick-requires-clause-later g c =
    let fits : SFits w64 c.time-time.result = search rules in
    let same : to_z w64 (of_z w64 c.time-time.result) ≡ c.time-time.result = omega (arith, ints) in
    subst (λ (t : ℤ). c.args.runner.now.last <ℤ t) (sym (same ∙ c.time-time.ensures)) (is_later c.args.runner.now c.args.table.now c.args.number c.requires.stands c.requires.rising c.requires.within)

pub tick-requires-clause-row : goal.tick-requires-clause-row
tick-requires-clause-row g c =
    row_is c.args.runner.now.net c.row.result.now (subst (AreValues (input_columns (labelled c.args.runner.now.net))) (sym c.row.ensures) (c.requires.values c.args.number c.requires.within).1)

pub write_record-requires-clause-size : goal.write_record-requires-clause-size
write_record-requires-clause-size g c = subst (λ (n : Net). length c.args.words.now ≡ length (root_outputs (network_of n))) (sym c.in-Ok.ensures.net) c.requires.size

pub write_record-requires-clause-writer : goal.write_record-requires-clause-writer
write_record-requires-clause-writer g c = subst (λ (n : Net). c.args.writer.now ≡ output_columns (labelled n)) (sym c.in-Ok.ensures.net) c.requires.writer

pub write_record-requires-clause-values : goal.write_record-requires-clause-values
write_record-requires-clause-values g c =
    subst (λ (n : Net). (e : ℕ) → e < length n.elements → IsValue ((network_of n).value_type e) (word c.tick.new.self.words e)) (sym c.in-Ok.ensures.net) c.in-Ok.ensures.values

pub path-requires : goal.path-requires
path-requires g c =
    let n = c.args.runner.now.net in
    let f = c.in-Err.ensures.fault (ticks_of (take c.args.number c.args.table.now)) c.requires.stands in
    subst (λ (m : Net). c.in-Err.field-0.instance < length m.instances) (sym c.in-Err.ensures.net)
    (fault_within n (ticks_of (take c.args.number c.args.table.now)) _ c.in-Err.field-0.instance (sole_net n c.requires.checked c.requires.kinds c.requires.no_loop) f)

pub returns-in_ok-write_record-in-Ok-clause-stands : goal.returns-in_ok-write_record-in-Ok-clause-stands
returns-in_ok-write_record-in-Ok-clause-stands g c =
    let fits : SFits w64 c.time-time.result = search rules in
    let same : to_z w64 (of_z w64 c.time-time.result) ≡ c.time-time.result = omega (arith, ints) in
    let row = row_at c.args.table.now c.args.number in
    let ts = ticks_of (take c.args.number c.args.table.now) in
    subst (λ t. Stands c.tick.new.self (ts ++ t ∷ [])) (tick_is row (to_z w64 (of_z w64 c.time-time.result)) c.row.result.now (same ∙ c.time-time.ensures) c.row.ensures) (c.in-Ok.ensures.ok ts c.requires.stands)

pub returns-in_ok-write_record-in-Ok-clause-ok : goal.returns-in_ok-write_record-in-Ok-clause-ok
returns-in_ok-write_record-in-Ok-clause-ok g c =
    let fits : SFits w64 c.time-time.result = search rules in
    let same : to_z w64 (of_z w64 c.time-time.result) ≡ c.time-time.result = omega (arith, ints) in
    let row = row_at c.args.table.now c.args.number in
    let ts = ticks_of (take c.args.number c.args.table.now) in
    let gives = tick_record c.args.runner.now.net c.tick.new.self ts row (to_z w64 (of_z w64 c.time-time.result)) c.row.result.now c.args.writer.now c.in-Ok.ensures.net (same ∙ c.time-time.ensures) c.row.ensures c.requires.writer
    (c.in-Ok.ensures.ok ts c.requires.stands) c.in-Ok.ensures.values in
    (_, gives, c.in_ok-write_record-in-Ok.ensures.ok)

pub returns-in_err-write_record-in-Ok-clause-err : goal.returns-in_err-write_record-in-Ok-clause-err
returns-in_err-write_record-in-Ok-clause-err g c =
    let p = err_from_is_err_and c.from_residual.result c.from_residual.ensures.1 in
    let fits : SFits w64 c.time-time.result = search rules in
    let same : to_z w64 (of_z w64 c.time-time.result) ≡ c.time-time.result = omega (arith, ints) in
    let row = row_at c.args.table.now c.args.number in
    let ts = ticks_of (take c.args.number c.args.table.now) in
    let gives = tick_record c.args.runner.now.net c.tick.new.self ts row (to_z w64 (of_z w64 c.time-time.result)) c.row.result.now c.args.writer.now c.in-Ok.ensures.net (same ∙ c.time-time.ensures) c.row.ensures c.requires.writer
    (c.in-Ok.ensures.ok ts c.requires.stands) c.in-Ok.ensures.values in
    rw (p.1, p.2) (tick_stops c.args.runner.now.net ts (tick_of row) _ _ _ c.in_err-write_record-in-Ok.field-0.0 gives c.in_err-write_record-in-Ok.ensures.err)

pub returns-in-Err-clause-err : goal.returns-in-Err-clause-err
returns-in-Err-clause-err g c =
    let fits : SFits w64 c.time-time.result = search rules in
    let same : to_z w64 (of_z w64 c.time-time.result) ≡ c.time-time.result = omega (arith, ints) in
    let n = c.args.runner.now.net in
    let row = row_at c.args.table.now c.args.number in
    let ts = ticks_of (take c.args.number c.args.table.now) in
    let time = to_z w64 (of_z w64 c.time-time.result) in
    let f = row_fault n ts row time c.row.result.now c.in-Err.field-0.instance (same ∙ c.time-time.ensures) c.row.ensures (c.in-Err.ensures.fault ts c.requires.stands) in
    let within = fault_within n ts (tick_of row) c.in-Err.field-0.instance (sole_net n c.requires.checked c.requires.kinds c.requires.no_loop) f in
    let path = path_is n c.in-Err.field-0.instance c.path.result.now within
    (subst (λ (m : Net). (t : NetInstance) → slice_get m.instances c.in-Err.field-0.instance ≡ Some t → c.path.result.now ≡ t.path) c.in-Err.ensures.net c.path.ensures) in
    tick_faulted n ts (tick_of row) c.in-Err.field-0.instance time c.path.result.now _ c.faulted.result f path (sym (same ∙ c.time-time.ensures)) c.faulted.ensures

pub returns-in_err-write_record-in-Ok-clause-answered : goal.returns-in_err-write_record-in-Ok-clause-answered
returns-in_err-write_record-in-Ok-clause-answered g c =
    let p = err_from_is_err_and c.from_residual.result c.from_residual.ensures.1 in
    rw (p.1, p.2) (stop_answered _ _ c.in_err-write_record-in-Ok.field-0.0 c.in_err-write_record-in-Ok.ensures.answered)

pub returns-in-Err-clause-answered : goal.returns-in-Err-clause-answered
returns-in-Err-clause-answered g c = faulted_answered _ _ _ c.faulted.result c.faulted.ensures
