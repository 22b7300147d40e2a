use Rattle.std.proofs.Common.{◌≡◌, ◌∙◌, ◌++◌, ◌∷◌, [], sym, ap, Option, is_some}
use Rattle.cdl_values.specs.declared.value.ValueType.{ValueType}
use Rattle.cdl_scopes.specs.Classes.{declared}
use Rattle.cdl_scopes.specs.Lookup.{in_library, is_needed}
use Rattle.cdl_classes.specs.Rules.{is_type}
use Rattle.cdl_scopes.proofs.Needs.{taken_inside, taken_package, taken_needed, taken_type}
use Rattle.cdl_classes.proofs.free_names.is_taken.Goals as goal

pub returns-then-is_in_library : goal.returns-then-is_in_library
returns-then-is_in_library c = λ q e.
    let x = c.args.part.now in
    taken_inside (in_library (q ++ x ∷ [])) (is_needed (declared c.args.classes.now) (q ++ x ∷ [])) (is_type x) c.args.is_package (sym (c.is_in_library.ensures q e) ∙ c.if-is_in_library.true)

pub returns-then-is_package : goal.returns-then-is_package
returns-then-is_package c = λ q e.
    let x = c.args.part.now in
    c.is_some.ensures ∙ ap (λ (o : Option ValueType). is_some o) c.scalar_named.ensures
    ∙ taken_package (in_library (q ++ x ∷ [])) (is_needed (declared c.args.classes.now) (q ++ x ∷ [])) (is_type x) c.args.is_package (sym (c.is_in_library.ensures q e) ∙ c.if-is_in_library.false) c.if-is_package.true

pub returns-then-is_needed : goal.returns-then-is_needed
returns-then-is_needed c = λ q e.
    let x = c.args.part.now in
    taken_needed (in_library (q ++ x ∷ [])) (is_needed (declared c.args.classes.now) (q ++ x ∷ [])) (is_type x) c.args.is_package (sym (c.is_in_library.ensures q e) ∙ c.if-is_in_library.false) c.if-is_package.false
    (sym (c.is_needed.ensures q e) ∙ c.if-is_needed.true)

pub returns : goal.returns
returns c = λ q e.
    let x = c.args.part.now in
    c.is_some-2.ensures ∙ ap (λ (o : Option ValueType). is_some o) c.scalar_named-2.ensures
    ∙ taken_type (in_library (q ++ x ∷ [])) (is_needed (declared c.args.classes.now) (q ++ x ∷ [])) (is_type x) c.args.is_package (sym (c.is_in_library.ensures q e) ∙ c.if-is_in_library.false)
    (sym (c.is_needed.ensures q e) ∙ c.if-is_needed.false)
