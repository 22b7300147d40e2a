use Rattle.std.proofs.Common.{◌∙◌, ap, sym}
use Rattle.std.specs.Prelude.{option_and_then}
use Rattle.cdl_scopes.specs.declared.lookup.Sought.TheVariants as sought
use Rattle.cdl_classes.specs.Found.{value_of}
use Rattle.cdl_classes.proofs.Answers.{same_meaning}
use Rattle.cdl_classes.proofs.declarations.Declarations.resolve_value.Goals as goal

pub returns-in-Some : goal.returns-in-Some
returns-in-Some c =
    let m = c.in-Some.ensures.some in
    c.value_found.ensures m.0 m.2
    ∙ sym (ap (option_and_then value_of) (same_meaning c.self.inside.classes c.args.self.now sought.Value c.args.scope.index c.args.name.now c.items.result.now c.self.view_is c.items.ensures ∙ m.1))

pub returns-in-None : goal.returns-in-None
returns-in-None c =
    sym (ap (option_and_then value_of) (same_meaning c.self.inside.classes c.args.self.now sought.Value c.args.scope.index c.args.name.now c.items.result.now c.self.view_is c.items.ensures ∙ c.in-None.ensures.none))
