use Rattle.std.proofs.Common.{◌∙◌, List, map, ap, sym}
use Rattle.cdl_tree.specs.declared.class.FileTree.{FileTree}
use Rattle.cdl_scopes.specs.Classes.{declared, text_of}
use Rattle.cdl_scopes.specs.Lookup.{meaning}
use Rattle.cdl_scopes.proofs.Kept.{few_as, known_as, outwards_as}
use Rattle.cdl_scopes.proofs.Meanings.{small}
use Rattle.cdl_scopes.proofs.table.DeclaredClasses.meaning.Goals as goal

pub meaning_of-requires-clause-known : goal.meaning_of-requires-clause-known
meaning_of-requires-clause-known c = known_as c.self.inside.files c.items.result.now c.args.self.now c.self.inside.classes c.items.ensures c.self.view_is c.self.invariant.gathered c.requires.free

pub meaning_of-requires-clause-outwards : goal.meaning_of-requires-clause-outwards
meaning_of-requires-clause-outwards c =
    outwards_as c.self.inside.files c.items.result.now c.self.inside.classes c.self.inside.outwards.items c.as_slice.result.now c.items.ensures c.as_slice.ensures.value c.self.invariant.outwards

pub meaning_from-requires : goal.meaning_from-requires
meaning_from-requires c =
    let h = known_as c.self.inside.files c.items.result.now c.args.self.now c.self.inside.classes c.items.ensures c.self.view_is c.self.invariant.gathered c.requires.free in
    let m = c.in-Some.ensures h in
    small (declared c.items.result.now) h.gathered.names.paths c.in-Some.standing m.0 c.args.sought c.args.class _ (few_as c.self.inside.files c.items.result.now c.items.ensures c.self.invariant.few) m.1 m.2

pub returns-in-Some-clause-some : goal.returns-in-Some-clause-some
returns-in-Some-clause-some c =
    let h = known_as c.self.inside.files c.items.result.now c.args.self.now c.self.inside.classes c.items.ensures c.self.view_is c.self.invariant.gathered c.requires.free in
    let m = c.in-Some.ensures h in
    (m.0, ap (λ (fs : List FileTree). meaning (declared fs) c.args.sought c.args.class (map text_of c.args.name.now)) (sym (c.items.ensures ∙ c.self.view_is)) ∙ m.2, c.meaning_from.ensures h.gathered.names.paths m.0 m.1)

pub returns-in-None-clause-none : goal.returns-in-None-clause-none
returns-in-None-clause-none c =
    let h = known_as c.self.inside.files c.items.result.now c.args.self.now c.self.inside.classes c.items.ensures c.self.view_is c.self.invariant.gathered c.requires.free in
    ap (λ (fs : List FileTree). meaning (declared fs) c.args.sought c.args.class (map text_of c.args.name.now)) (sym (c.items.ensures ∙ c.self.view_is)) ∙ c.in-None.ensures h
