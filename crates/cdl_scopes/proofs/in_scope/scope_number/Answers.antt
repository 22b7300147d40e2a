use Rattle.std.proofs.Common.{◌∙◌, ap, sym, refl}
use Rattle.cdl_scopes.specs.Classes.{declared}
use Rattle.cdl_scopes.specs.Table.{scope_name}
use Rattle.cdl_scopes.proofs.InScope.{around_is, none_around, of_is, none_of}
use Rattle.cdl_scopes.proofs.in_scope.scope_number.Goals as goal

pub returns-in-Some : goal.returns-in-Some
returns-in-Some c = λ files h q e. (
  c.in-Some.kept.now.outer,
  refl,
  around_is files c.args.all.now h c.in-Around.class c.in-Some.kept.now q c.in-Some.ensures.some (ap (scope_name (declared files)) (sym c.in-Around.is) ∙ e),
)

pub returns-in-None : goal.returns-in-None
returns-in-None c = λ files h q e. absurd (none_around files c.args.all.now h c.in-Around.class q c.in-None.ensures.none (ap (scope_name (declared files)) (sym c.in-Around.is) ∙ e))

pub returns-in-Some-class_at : goal.returns-in-Some-class_at
returns-in-Some-class_at c = λ files h q e. (
  c.in-Some-class_at.kept.now.name,
  refl,
  of_is files c.args.all.now h c.in-Of.class c.in-Some-class_at.kept.now q c.in-Some-class_at.ensures.some (ap (scope_name (declared files)) (sym c.in-Of.is) ∙ e),
)

pub returns-in-None-class_at : goal.returns-in-None-class_at
returns-in-None-class_at c = λ files h q e. absurd (none_of files c.args.all.now h c.in-Of.class q c.in-None-class_at.ensures.none (ap (scope_name (declared files)) (sym c.in-Of.is) ∙ e))
