use Rattle.std.proofs.Common.{◌∙◌, sym, ap}
use Rattle.std.specs.Prelude.{option_map}
use Rattle.std.specs.Option.{option_copied}
use Rattle.cdl_scopes.specs.Lookup.{a_constant}
use Rattle.cdl_scopes.specs.declared.lookup.ClassSort.TheVariants as sort
use Rattle.cdl_scopes.proofs.StandingLaws.{shown_at, no_class, constant_is}
use Rattle.cdl_scopes.proofs.lookup.constant.Goals as goal

pub returns-in_default-class_at : goal.returns-in_default-class_at
returns-in_default-class_at c = λ h q at.
    sym (no_class c.args.files.now c.args.all.now h c.args.scope c.in-Some.number q c.args.part.now at (sym c.first_at.ensures ∙ c.in-Some.is) c.in_default-class_at.ensures.none)

pub tree_of-requires : goal.tree_of-requires
tree_of-requires c =
    let d = shown_at c.args.files.now c.args.all.now c.requires c.in-Some.number c.in-Some-class_at.class.now c.in-Some-class_at.ensures.some in
    ((d.0).tree, (d.2).tree)

pub returns-in-Some-get : goal.returns-in-Some-get
returns-in-Some-get c = λ h q at.
    sym (constant_is c.args.files.now c.args.all.now h c.args.scope c.in-Some.number q c.args.part.now c.in-Some-class_at.class.now c.tree_of.result.now sort.Package at
    (sym c.first_at.ensures ∙ c.in-Some.is) c.in-Some-class_at.ensures.some c.tree_of.ensures (sym c.in-Package.is ∙ c.sort_of.ensures)
    ∙ ap (option_map (a_constant c.in-Some.number)) (sym c.get.ensures.value ∙ ap option_copied c.in-Some-get.is))

pub returns-in-None : goal.returns-in-None
returns-in-None c = λ h q at.
    sym (constant_is c.args.files.now c.args.all.now h c.args.scope c.in-Some.number q c.args.part.now c.in-Some-class_at.class.now c.tree_of.result.now sort.Package at
    (sym c.first_at.ensures ∙ c.in-Some.is) c.in-Some-class_at.ensures.some c.tree_of.ensures (sym c.in-Package.is ∙ c.sort_of.ensures)
    ∙ ap (option_map (a_constant c.in-Some.number)) (sym c.get.ensures.value ∙ ap option_copied c.in-None.is))

pub returns-in-Block : goal.returns-in-Block
returns-in-Block c = λ h q at.
    sym (constant_is c.args.files.now c.args.all.now h c.args.scope c.in-Some.number q c.args.part.now c.in-Some-class_at.class.now c.tree_of.result.now sort.Block at
    (sym c.first_at.ensures ∙ c.in-Some.is) c.in-Some-class_at.ensures.some c.tree_of.ensures (sym c.in-Block.is ∙ c.sort_of.ensures))

pub returns-in-Enumeration : goal.returns-in-Enumeration
returns-in-Enumeration c = λ h q at.
    sym (constant_is c.args.files.now c.args.all.now h c.args.scope c.in-Some.number q c.args.part.now c.in-Some-class_at.class.now c.tree_of.result.now sort.Enumeration at
    (sym c.first_at.ensures ∙ c.in-Some.is) c.in-Some-class_at.ensures.some c.tree_of.ensures (sym c.in-Enumeration.is ∙ c.sort_of.ensures))
