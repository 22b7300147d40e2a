use Rattle.cdl_schedule.proofs.Loops.{rows_read, rows_count, order_to, fault_to, no_loop}
use Rattle.std.proofs.lemmas.Result.{IfOk-weaker, IfErr-weaker, on_ok_weaker}
use Rattle.cdl_schedule.proofs.plans.ordered.Goals as goal

pub returns-clause-order : goal.returns-clause-order
returns-clause-order c =
    let r = rows_read _ _ _ _ _ _ c.as_slice.result.now c.as_slice-2.result.now c.requires.rows c.as_slice.ensures.value c.as_slice-2.ensures.value in
    IfOk-weaker c.order_of.result _ _ (λ v h. order_to c.args._net.now _ _ v.items _ (rows_count c.args._net.now _ _ r) c.requires.checked r h) c.order_of.ensures.order

pub returns-clause-none : goal.returns-clause-none
returns-clause-none c =
    let r = rows_read _ _ _ _ _ _ c.as_slice.result.now c.as_slice-2.result.now c.requires.rows c.as_slice.ensures.value c.as_slice-2.ensures.value in
    on_ok_weaker c.order_of.result (λ h. no_loop c.args._net.now _ _ _ (rows_count c.args._net.now _ _ r) c.requires.checked r h) c.order_of.ensures.none

pub returns-clause-fault : goal.returns-clause-fault
returns-clause-fault c =
    let r = rows_read _ _ _ _ _ _ c.as_slice.result.now c.as_slice-2.result.now c.requires.rows c.as_slice.ensures.value c.as_slice-2.ensures.value in
    IfErr-weaker c.order_of.result _ _ (λ f h. fault_to c.args._net.now _ _ _ f (rows_count c.args._net.now _ _ r) c.requires.checked r h) c.order_of.ensures.fault
