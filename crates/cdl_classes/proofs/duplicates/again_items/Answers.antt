use Rattle.std.proofs.Common.{◌≡◌, ◌∙◌, Some, map, take, length, sym, ap, refl, arith}
use Rattle.std.specs.Prelude.{option_map}
use Rattle.std.specs.List.{slice_get}
use Rattle.std.proofs.lemmas.List.{length-map, length-take-le}
use Rattle.std.proofs.lemmas.Option.{slice_get_read, slice_get-map}
use Rattle.cdl_scopes.specs.Classes.{text_of}
use Rattle.cdl_scopes.specs.Entries.{entry}
use Rattle.cdl_classes.specs.Rules.{name_ident}
use Rattle.cdl_classes.proofs.MarkLaws.{next_again}
use Rattle.cdl_classes.proofs.duplicates.again_items.Goals as goal

pub loop-i-preserved : goal.loop-i-preserved
loop-i-preserved c =
    let is = map name_ident c.args.items.now in
    let here : slice_get c.args.items.now c.loop-i.i ≡ Some c.index-items-i.result = slice_get_read c.args.items.now _ c.loop-i.i c.index-items-i.result refl (omega arith) c.index-items-i.is in
    let there : slice_get is c.loop-i.i ≡ Some (name_ident c.index-items-i.result) = slice_get-map name_ident c.args.items.now c.loop-i.i ∙ ap (option_map name_ident) here in
    let size : c.loop-i.i ≡ length (map text_of (take c.loop-i.i is)) =
    sym (length-map (take c.loop-i.i is) text_of ∙ length-take-le c.loop-i.i is (omega (arith, length-map c.args.items.now name_ident))) in
    let a = c.in_ok-first.ensures (map text_of (take c.loop-i.i is)) size c.loop-i.invariant.0 in
    next_again c.args.file is c.loop-i.i (name_ident c.index-items-i.result) _ c.loop-i.first c.in_ok-first.first (entry c.again.new.seen) there a.0 a.1 c.loop-i.invariant.1
