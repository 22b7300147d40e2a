use Rattle.std.proofs.Common.{◌∙◌, Some, ap, sym, refl, arith}
use Rattle.std.specs.Prelude.{option_map}
use Rattle.std.proofs.lemmas.Option.{slice_get_read}
use Rattle.cdl_scopes.specs.Classes.{Declared}
use Rattle.cdl_scopes.proofs.Kept.{kept_within, kept_at}
use Rattle.cdl_scopes.proofs.table.DeclaredClasses.file.Goals as goal

pub index-requires : goal.index-requires
index-requires c =
    let small = kept_within c.self.inside.files c.args.self.now c.self.inside.classes c.self.invariant.gathered c.self.view_is c.args.class c.requires in
    omega arith

pub returns : goal.returns
returns c =
    let small = kept_within c.self.inside.files c.args.self.now c.self.inside.classes c.self.invariant.gathered c.self.view_is c.args.class c.requires in
    let here = slice_get_read c.self.inside.classes.list.items _ c.args.class c.index.result.now refl small c.index.ensures in
    let d = kept_at c.self.inside.files c.args.self.now c.self.inside.classes c.self.invariant.gathered c.self.view_is c.args.class c.index.result.now here in
    ap (option_map (λ (d : Declared). d.file)) d.1 ∙ ap (λ f. Some f) (sym (d.2).file)
