use Rattle.std.proofs.Common.{◌≡◌, true, false, map, Ok}
use Rattle.cdl_array.specs.Outcomes.{then_to}
use Rattle.cdl_array.specs.Operators.{condition}
use Rattle.cdl_worth.specs.Expressions.{all, eval}
use Rattle.cdl_eval.specs.Places.{names_of, worth_at}
use Rattle.cdl_eval.proofs.Nodes.{at_integer, at_real, at_boolean, at_refer, at_call, at_array, at_unary, binary_value, binary_fault, if_true, if_false, if_fault}
use Rattle.cdl_eval.proofs.Rows.{all_fault}
use Rattle.cdl_eval.proofs.eval.Evaluator.+eval.Goals as goal

pub all-returns-in-Err-clause-answers : goal.all-returns-in-Err-clause-answers
all-returns-in-Err-clause-answers g t c =
    let worth = worth_at c.args.self.now.table.now c.args.place.now c.args.locals.now in
    all_fault worth c.args.exprs.now c.loop-i.i c.index-exprs-i.result c.loop-i.values (all (map worth c.args.exprs.now)) c.in-Err.fault c.loop-i-test.true c.index-exprs-i.is c.in-Err.ensures.answers c.loop-i.invariant.1

pub eval-returns-in-Refer-clause-answers : goal.eval-returns-in-Refer-clause-answers
eval-returns-in-Refer-clause-answers g t c =
    at_refer (names_of c.args.self.now.table.now c.args.place.now c.args.locals.now) c.args.expr.now c.in-Refer.name c.in-Refer.subs c.subscripted.result c.in-Refer.is (rw c.items.ensures at c.subscripted.ensures.answers)

pub eval-returns-in-Call-clause-answers : goal.eval-returns-in-Call-clause-answers
eval-returns-in-Call-clause-answers g t c =
    at_call (names_of c.args.self.now.table.now c.args.place.now c.args.locals.now) c.args.expr.now c.in-Call.function c.in-Call.args c.called.result c.in-Call.is (rw (c.bytes.ensures, c.items-in-Call.ensures) at c.called.ensures.answers)

pub eval-returns-in-Array-clause-answers : goal.eval-returns-in-Array-clause-answers
eval-returns-in-Array-clause-answers g t c =
    at_array (names_of c.args.self.now.table.now c.args.place.now c.args.locals.now) c.args.expr.now c.in-Array.items c.listed.result c.in-Array.is (rw c.items-in-Array.ensures at c.listed.ensures.answers)

pub eval-returns-in-Unary-clause-answers : goal.eval-returns-in-Unary-clause-answers
eval-returns-in-Unary-clause-answers g t c =
    at_unary (names_of c.args.self.now.table.now c.args.place.now c.args.locals.now) c.args.expr.now c.in-Unary.op c.in-Unary.operand c.applied.result c.in-Unary.is (rw c.get.ensures at c.applied.ensures.answers)

pub eval-returns-in-Ok-clause-answers : goal.eval-returns-in-Ok-clause-answers
eval-returns-in-Ok-clause-answers g t c =
    binary_value (names_of c.args.self.now.table.now c.args.place.now c.args.locals.now) c.args.expr.now c.in-Binary.op c.in-Binary.left c.in-Binary.right c.get-in-Binary.result.now c.get-in-Ok.result.now c.in-Ok.left c.with_right.result
    c.in-Binary.is c.get-in-Binary.ensures c.get-in-Ok.ensures c.in-Ok.ensures.answers c.with_right.ensures.answers

pub eval-returns-in-Err-clause-answers : goal.eval-returns-in-Err-clause-answers
eval-returns-in-Err-clause-answers g t c =
    binary_fault (names_of c.args.self.now.table.now c.args.place.now c.args.locals.now) c.args.expr.now c.in-Binary.op c.in-Binary.left c.in-Binary.right c.get-in-Binary.result.now c.in-Err.fault
    c.in-Binary.is c.get-in-Binary.ensures c.in-Err.ensures.answers

pub eval-returns-in-Ok-true-clause-answers : goal.eval-returns-in-Ok-true-clause-answers
eval-returns-in-Ok-true-clause-answers g t c =
    let names = names_of c.args.self.now.table.now c.args.place.now c.args.locals.now in
    let told : then_to (eval names c.get-in-If.result.now) condition ≡ Ok c.in-Ok-true.field-0 = c.in-Ok-true.ensures.answers in
    let holds : then_to (eval names c.get-in-If.result.now) condition ≡ Ok true = cc in
    if_true names c.args.expr.now c.in-If.test c.in-If.then c.in-If.other c.get-in-If.result.now c.get-in-Ok-true.result.now c.eval-in-Ok-true.result
    c.in-If.is c.get-in-If.ensures c.get-in-Ok-true.ensures holds c.eval-in-Ok-true.ensures.answers

pub eval-returns-in-Ok-false-clause-answers : goal.eval-returns-in-Ok-false-clause-answers
eval-returns-in-Ok-false-clause-answers g t c =
    let names = names_of c.args.self.now.table.now c.args.place.now c.args.locals.now in
    let told : then_to (eval names c.get-in-If.result.now) condition ≡ Ok c.in-Ok-false.field-0 = c.in-Ok-false.ensures.answers in
    let fails : then_to (eval names c.get-in-If.result.now) condition ≡ Ok false = cc in
    if_false names c.args.expr.now c.in-If.test c.in-If.then c.in-If.other c.get-in-If.result.now c.get-in-Ok-false.result.now c.eval-in-Ok-false.result
    c.in-If.is c.get-in-If.ensures c.get-in-Ok-false.ensures fails c.eval-in-Ok-false.ensures.answers

pub eval-returns-in-Err-holds-clause-answers : goal.eval-returns-in-Err-holds-clause-answers
eval-returns-in-Err-holds-clause-answers g t c =
    if_fault (names_of c.args.self.now.table.now c.args.place.now c.args.locals.now) c.args.expr.now c.in-If.test c.in-If.then c.in-If.other c.get-in-If.result.now c.in-Err-holds.fault
    c.in-If.is c.get-in-If.ensures c.in-Err-holds.ensures.answers

pub eval-returns-in-Integer-clause-answers : goal.eval-returns-in-Integer-clause-answers
eval-returns-in-Integer-clause-answers g t c =
    at_integer (names_of c.args.self.now.table.now c.args.place.now c.args.locals.now) c.args.expr.now _ c.integer.result c.in-Integer.is c.integer.ensures

pub eval-returns-in-Real-clause-answers : goal.eval-returns-in-Real-clause-answers
eval-returns-in-Real-clause-answers g t c =
    at_real (names_of c.args.self.now.table.now c.args.place.now c.args.locals.now) c.args.expr.now _ c.scalar.result c.in-Real.is c.scalar.ensures

pub eval-returns-in-Boolean-clause-answers : goal.eval-returns-in-Boolean-clause-answers
eval-returns-in-Boolean-clause-answers g t c =
    at_boolean (names_of c.args.self.now.table.now c.args.place.now c.args.locals.now) c.args.expr.now _ c.scalar-in-Boolean.result c.in-Boolean.is c.scalar-in-Boolean.ensures
