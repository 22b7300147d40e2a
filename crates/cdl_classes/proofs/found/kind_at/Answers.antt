use Rattle.std.proofs.Common.{◌∙◌, ℕ, List, sym, ap}
use Rattle.cdl_kinds.specs.Names.{kinds, found}
use Rattle.cdl_classes.proofs.KindNames.{kind_is, no_long_kind, no_other_kind}
use Rattle.cdl_classes.proofs.found.kind_at.Goals as goal

pub returns-in_default : goal.returns-in_default
returns-in_default c = sym (no_long_kind _ c.in_default.ensures.none)

pub returns-in-Ok : goal.returns-in-Ok
returns-in-Ok c =
    kind_is _ c.find.result c.find.ensures
    ∙ ap (λ (x : List ℕ). found x kinds) (c.in-Ok.ensures.cases.0 ∙ c.as_slice.ensures.value ∙ c.in-Some.ensures.some)

pub returns-in-Err : goal.returns-in-Err
returns-in-Err c =
    sym (ap (λ (x : List ℕ). found x kinds) (sym (c.as_slice.ensures.value ∙ c.in-Some.ensures.some)) ∙ no_other_kind _ c.in-Err.ensures.cases.0)
