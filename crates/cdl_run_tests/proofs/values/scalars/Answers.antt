use Rattle.std.specs.Prelude.{ℤ}
use Rattle.cdl_run_tests.proofs.Fitting.{scalars_more}
use Rattle.cdl_run_tests.proofs.values.scalars.Goals as goal

pub loop-i-preserved : goal.loop-i-preserved
loop-i-preserved c = λ (nin : ℤ).
    scalars_more nin c.parameters-rows.result.now c.loop-i.i _ c.loop-i.values c.in_ok-scalar.field-0 c.push.new.self
    c.loop-i-test.true (c.loop-i.invariant nin) (c.in_ok-scalar.ensures nin c.if-rows-i.false) c.in_ok-push.ensures.ok
