use Rattle.std.proofs.Common.{ap, arith, length, subst}
use Rattle.std.proofs.lemmas.Option.{slice_get_within}
use Rattle.cdl_connect.specs.declared.net.NetInstance.{NetInstance}
use Rattle.cdl_connect.specs.WellFormed.{FitsBody}
use Rattle.cdl_run_tests.proofs.Keeping.{fits_more}
use Rattle.cdl_run_tests.proofs.kinds.are_of_kinds.Goals as goal

pub loop-i-preserved : goal.loop-i-preserved
loop-i-preserved c =
    fits_more c.args.net.now c.items-instances.result.now c.loop-i.i c.index-instances-i.result c.items-instances.ensures c.loop-i-test.true
    (subst (λ (t : NetInstance). FitsBody c.args.net.now t t.body) c.index-instances-i.is (c.is_of_kind.ensures c.if-not-is_of_kind.false))
    c.loop-i.invariant

pub returns : goal.returns
returns c = λ h. record {
  each = λ i t s.
      let l = slice_get_within c.args.net.now.instances i t s in
      let e = ap length c.items-instances.ensures in
      c.loop-i.invariant i t (omega (arith, l, e, c.loop-i-test.false)) s;
}
