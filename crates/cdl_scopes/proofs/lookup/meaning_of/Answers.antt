use Rattle.std.proofs.Common.{◌∙◌, map, sym}
use Rattle.cdl_scopes.specs.Classes.{full, text_of}
use Rattle.cdl_scopes.specs.declared.lookup.ClassSort.TheVariants as sort
use Rattle.cdl_scopes.proofs.StandingLaws.{shown_at}
use Rattle.cdl_scopes.proofs.Finding.{finds_as}
use Rattle.cdl_scopes.proofs.Meanings.{scoped_name, scoped_outer, meaning_is, meaning_none}
use Rattle.cdl_scopes.proofs.lookup.meaning_of.Goals as goal

pub returns-in_default : goal.returns-in_default
returns-in_default c = λ h. meaning_none c.args.files.now c.args.all.now h c.args.sought c.args.number (map text_of c.args.name.now) c.in_default.ensures.none

pub tree_of-requires : goal.tree_of-requires
tree_of-requires c =
    let d = shown_at c.args.files.now c.args.all.now c.requires.known c.args.number c.in-Some.class.now c.in-Some.ensures.some in
    ((d.0).tree, (d.2).tree)

pub lookup-requires : goal.lookup-requires
lookup-requires c = record {
  scoped = scoped_name c.args.files.now c.args.all.now c.requires.known c.args.number c.in-Some.class.now c.in-Some.ensures.some;
  outwards = c.requires.outwards;
}

pub lookup-requires-in-Block : goal.lookup-requires-in-Block
lookup-requires-in-Block c = record {
  scoped = scoped_outer c.args.files.now c.args.all.now c.requires.known c.args.number c.in-Some.class.now c.in-Some.ensures.some;
  outwards = c.requires.outwards;
}

pub lookup-requires-in-Enumeration : goal.lookup-requires-in-Enumeration
lookup-requires-in-Enumeration c = record {
  scoped = scoped_outer c.args.files.now c.args.all.now c.requires.known c.args.number c.in-Some.class.now c.in-Some.ensures.some;
  outwards = c.requires.outwards;
}

pub returns-in-Package : goal.returns-in-Package
returns-in-Package c = λ h.
    let m = meaning_is c.args.files.now c.args.all.now h c.args.number c.in-Some.class.now c.in-Some.ensures.some c.args.sought c.tree_of.result.now sort.Package (map text_of c.args.name.now)
    c.tree_of.ensures (sym c.in-Package.is ∙ c.sort_of.ensures) in
    finds_as h.gathered.names.paths c.lookup.result _ _ (c.lookup.ensures h (full m.0) (m.1).name m.2) (sym m.4)

pub returns-in-Block : goal.returns-in-Block
returns-in-Block c = λ h.
    let m = meaning_is c.args.files.now c.args.all.now h c.args.number c.in-Some.class.now c.in-Some.ensures.some c.args.sought c.tree_of.result.now sort.Block (map text_of c.args.name.now)
    c.tree_of.ensures (sym c.in-Block.is ∙ c.sort_of.ensures) in
    finds_as h.gathered.names.paths c.lookup-in-Block.result _ _ (c.lookup-in-Block.ensures h (m.0).outer (m.1).outer m.3) (sym m.4)

pub returns-in-Enumeration : goal.returns-in-Enumeration
returns-in-Enumeration c = λ h.
    let m = meaning_is c.args.files.now c.args.all.now h c.args.number c.in-Some.class.now c.in-Some.ensures.some c.args.sought c.tree_of.result.now sort.Enumeration (map text_of c.args.name.now)
    c.tree_of.ensures (sym c.in-Enumeration.is ∙ c.sort_of.ensures) in
    finds_as h.gathered.names.paths c.lookup-in-Enumeration.result _ _ (c.lookup-in-Enumeration.ensures h (m.0).outer (m.1).outer m.3) (sym m.4)
