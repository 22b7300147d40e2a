use Rattle.std.proofs.Common.{◌∙◌, sym}
use Rattle.cdl_scopes.specs.declared.lookup.ClassSort.TheVariants as sort
use Rattle.cdl_scopes.specs.Classes.{declared, full}
use Rattle.cdl_scopes.proofs.StandingLaws.{shown_at, enters_class, enters_none, literal_any, not_library}
use Rattle.cdl_scopes.proofs.Finding.{finds_as}
use Rattle.cdl_scopes.proofs.lookup.class_enters.Goals as goal

pub returns-in_default-clause-found : goal.returns-in_default-clause-found
returns-in_default-clause-found c = λ h. (enters_none c.args.files.now c.args.all.now h c.args.sought c.args.number c.args.part.now c.in_default.ensures.none)

pub tree_of-requires : goal.tree_of-requires
tree_of-requires c =
    let d = shown_at c.args.files.now c.args.all.now c.requires c.args.number c.in-Some.class.now c.in-Some.ensures.some in
    ((d.0).tree, (d.2).tree)

pub returns-in-Package-clause-found : goal.returns-in-Package-clause-found
returns-in-Package-clause-found c = λ h.
    let e = enters_class c.args.files.now c.args.all.now h c.args.sought c.args.number c.args.part.now c.in-Some.class.now c.tree_of.result.now sort.Package
    c.in-Some.ensures.some c.tree_of.ensures (sym c.in-Package.is ∙ c.sort_of.ensures) in
    let own = not_library (full e.0) e.2 in
    finds_as h.gathered.names.paths _ _ _ (c.member.ensures.found h (full e.0) (e.1).name own.0 own.1) (sym e.3)

pub returns-in-Enumeration-clause-found : goal.returns-in-Enumeration-clause-found
returns-in-Enumeration-clause-found c = λ h.
    let e = enters_class c.args.files.now c.args.all.now h c.args.sought c.args.number c.args.part.now c.in-Some.class.now c.tree_of.result.now sort.Enumeration
    c.in-Some.ensures.some c.tree_of.ensures (sym c.in-Enumeration.is ∙ c.sort_of.ensures) in
    finds_as h.gathered.names.paths _ _ _ (c.literal.ensures.found h.gathered.names.paths e.0 ((e.1).members c.args.part.now)) (literal_any (declared c.args.files.now) c.args.sought c.args.number e.0 c.args.part.now ∙ sym e.3)

pub returns-in-Block-clause-found : goal.returns-in-Block-clause-found
returns-in-Block-clause-found c = λ h.
    let e = enters_class c.args.files.now c.args.all.now h c.args.sought c.args.number c.args.part.now c.in-Some.class.now c.tree_of.result.now sort.Block
    c.in-Some.ensures.some c.tree_of.ensures (sym c.in-Block.is ∙ c.sort_of.ensures) in
    e.3
