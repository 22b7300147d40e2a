use Rattle.std.proofs.Common.{List, length, sym, ap, subst, arith, length-append}
use Rattle.cdl_scopes.specs.declared.scopes.Outwards.{Outwards}
use Rattle.cdl_scopes.proofs.Passing.{Lower, lower_more, Passed, passed_more}
use Rattle.cdl_scopes.proofs.scopes.all_outwards.Goals as goal

pub loop-scope-preserved : goal.loop-scope-preserved
loop-scope-preserved c =
    let P : List Outwards → Type 0 = λ os. Lower os in
    let Q : List Outwards → Type 0 = λ os. Passed c.args.files.now c.args.all.now os in (
      omega (arith, c.loop-scope.invariant.0, ap length c.in_ok-push.ensures.items, length-append {A = Outwards}),
      subst P (sym c.in_ok-push.ensures.items)
          (lower_more c.loop-scope.each.items c.loop-scope.scope c.in_ok-outwards_of.field-0 c.loop-scope.invariant.0 c.loop-scope.invariant.1 c.in_ok-outwards_of.ensures.lower),
      subst Q (sym c.in_ok-push.ensures.items)
          (passed_more c.args.files.now c.args.all.now c.loop-scope.each.items c.loop-scope.scope c.in_ok-outwards_of.field-0 c.loop-scope.invariant.0 c.loop-scope.invariant.2 c.in_ok-outwards_of.ensures.passes),
    )
