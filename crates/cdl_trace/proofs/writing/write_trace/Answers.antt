use Rattle.std.proofs.Common.{None, OnOk, IfErr, subst, sym}
use Rattle.std.proofs.lemmas.Result.{err_from_is_err_and}
use Rattle.cdl_network.specs.Dependence.{NoLoop}
use Rattle.cdl_connect.specs.declared.net.Net.{Net}
use Rattle.cdl_connect.specs.Nets.{network_of}
use Rattle.cdl_table.specs.Values.{HaveValues}
use Rattle.cdl_trace.specs.Columns.{input_columns, labelled}
use Rattle.cdl_trace.specs.Prints.{Prints, Stops}
use Rattle.cdl_trace.proofs.Sinks.{nothing}
use Rattle.cdl_trace.proofs.Ticking.{sole_net}
use Rattle.cdl_trace.proofs.writing.write_trace.Goals as goal

pub write_all-requires-clause-no_loop : goal.write_all-requires-clause-no_loop
write_all-requires-clause-no_loop g c = subst (λ (n : Net). NoLoop (network_of n)) (sym c.in_ok-parts.ensures.net) c.parts_of.ensures.no_loop

pub write_all-requires-clause-values : goal.write_all-requires-clause-values
write_all-requires-clause-values g c = subst (λ (n : Net). HaveValues (input_columns (labelled n)) c.args.table.now) (sym c.in_ok-parts.ensures.net) c.requires.values

pub returns-in_err-parts-clause-err : goal.returns-in_err-parts-clause-err
returns-in_err-parts-clause-err g c =
    let p = err_from_is_err_and c.from_residual.result c.from_residual.ensures.1 in
    let n = c.args.plan.net in
    rw (p.1, p.2) (nothing (labelled n) c.args.table.now _ (sole_net n c.parts_of.ensures.checked c.requires.kinds c.parts_of.ensures.no_loop))

pub returns-clause-ok : goal.returns-clause-ok
returns-clause-ok g c =
    subst (λ (n : Net). OnOk c.write_all.result (Prints (labelled n) c.args.table.now None (g.O.Sink.written c.args.out.now) (g.O.Sink.written c.write_all.new.out))) c.in_ok-parts.ensures.net c.write_all.ensures.ok

pub returns-clause-err : goal.returns-clause-err
returns-clause-err g c =
    subst (λ (n : Net). IfErr c.write_all.result (Stops (labelled n) c.args.table.now (g.O.Sink.written c.args.out.now) (g.O.Sink.written c.write_all.new.out))) c.in_ok-parts.ensures.net c.write_all.ensures.err
