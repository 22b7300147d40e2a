use Rattle.std.proofs.Common.{◌∙◌, ap, sym, refl, arith}
use Rattle.std.specs.Prelude.{option_and_then}
use Rattle.std.proofs.lemmas.Option.{slice_get_read}
use Rattle.cdl_scopes.specs.Classes.{Declared}
use Rattle.cdl_scopes.specs.Lookup.{first_named, member_names}
use Rattle.cdl_scopes.proofs.Kept.{kept_within, kept_at}
use Rattle.cdl_scopes.proofs.table.DeclaredClasses.member.Goals as goal

pub index-requires : goal.index-requires
index-requires c =
    let small = kept_within c.self.inside.files c.args.self.now c.self.inside.classes c.self.invariant.gathered c.self.view_is c.args.class c.requires in
    omega arith

pub returns : goal.returns
returns c =
    let small = kept_within c.self.inside.files c.args.self.now c.self.inside.classes c.self.invariant.gathered c.self.view_is c.args.class c.requires in
    let here = slice_get_read c.self.inside.classes.list.items _ c.args.class c.index.result.now refl small c.index.ensures in
    let d = kept_at c.self.inside.files c.args.self.now c.self.inside.classes c.self.invariant.gathered c.self.view_is c.args.class c.index.result.now here in
    let x = c.args.name.now in
    c.copied.ensures ∙ c.get.ensures.value ∙ (d.2).members x ∙ sym (ap (option_and_then (λ (e : Declared). first_named x (member_names e.tree))) d.1)
