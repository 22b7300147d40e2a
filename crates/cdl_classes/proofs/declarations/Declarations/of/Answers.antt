use Rattle.std.proofs.Common.{◌∙◌, List, refl, subst, sym, inl, inr}
use Rattle.cdl_tree.specs.declared.class.FileTree.{FileTree}
use Rattle.cdl_scopes.specs.Classes.{declared}
use Rattle.cdl_classes.specs.Rules.{broken_10, broken_11}
use Rattle.cdl_classes.proofs.Firstly.{first_as, none_as, free}
use Rattle.cdl_classes.proofs.declarations.Declarations.of.Goals as goal

pub returns-in-Ok-Some-clause-err : goal.returns-in-Ok-Some-clause-err
returns-in-Ok-Some-clause-err c = inl (refl, first_as broken_10 c.args.files c.in-Ok.classes c.in-Ok.ensures c.in-Ok-Some.field-0 c.in-Ok-Some.place c.in-Ok-Some.ensures c.in-Ok-Some.field-0-is)

pub returns-in-Some-clause-err : goal.returns-in-Some-clause-err
returns-in-Some-clause-err c =
    let twice = none_as broken_10 c.args.files c.in-Ok.classes c.in-Ok.ensures c.in-Ok-None.field-0 c.in-Ok-None.ensures c.in-Ok-None.field-0-is in
    inr (inl (refl, twice, first_as broken_11 c.args.files c.in-Ok.classes c.in-Ok.ensures c.first_taken.result c.in-Some.place c.first_taken.ensures c.in-Some.is))

pub invariant_of-result : goal.invariant_of-result
invariant_of-result c = free (declared c.in-Ok.classes) (none_as broken_11 c.in-Ok.classes c.in-Ok.classes refl c.first_taken.result c.first_taken.ensures c.in_default.is)

pub returns-clause-ok : goal.returns-clause-ok
returns-clause-ok c =
    let twice = none_as broken_10 c.args.files c.in-Ok.classes c.in-Ok.ensures c.in-Ok-None.field-0 c.in-Ok-None.ensures c.in-Ok-None.field-0-is in
    let taken = none_as broken_11 c.args.files c.in-Ok.classes c.in-Ok.ensures c.first_taken.result c.first_taken.ensures c.in_default.is in
    (c.in-Ok.ensures, (twice, taken))
