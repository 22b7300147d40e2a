use Rattle.std.proofs.Common.{◌≡◌, ◌∙◌, ◌+◌, List, Bool, Option, false, drop, sym, ap, arith}
use Rattle.std.specs.Prelude.{option_map}
use Rattle.cdl_source.specs.declared.place.Place.{Place}
use Rattle.cdl_tree.specs.declared.class.Item.{Item}
use Rattle.cdl_scopes.specs.Classes.{declared, full}
use Rattle.cdl_classes.specs.Places.{least}
use Rattle.cdl_classes.specs.Rules.{place, is_taken, if_broken, taken_constants}
use Rattle.cdl_scopes.proofs.Lists.{none_dropped}
use Rattle.cdl_classes.proofs.TakenClasses.{next_constant}
use Rattle.cdl_classes.proofs.free_names.with_constants.Goals as goal

pub loop-item-preserved : goal.loop-item-preserved
loop-item-preserved c = λ d at.
    let ds = declared c.args.classes.now in
    let q = full d in
    let x = c.item-item.result in
    let own : c.with_broken-first.result ≡ least c.loop-item.first (if_broken (is_taken ds false q x.name.text) (place c.args.file x.name)) =
    c.with_broken-first.ensures
    ∙ ap (λ (p : Place). least c.loop-item.first (if_broken c.is_taken.result p)) c.place_of.ensures
    ∙ ap (λ (b : Bool). least c.loop-item.first (if_broken b (place c.args.file x.name))) (c.is_taken.ensures q (ap (option_map full) at) ∙ ap (is_taken ds false q) c.bytes.ensures) in
    ap (λ (f : Option Place). least f (taken_constants ds c.args.file q (drop (c.loop-item.item-index + 1) c.args.items.now))) own
    ∙ next_constant ds c.args.file q c.args.items.now c.loop-item.item-index x c.loop-item.first (omega arith) c.item-item.is
    ∙ c.loop-item.invariant d at

pub returns : goal.returns
returns c = λ d at.
    ap (λ (xs : List Item). least c.loop-item.first (taken_constants (declared c.args.classes.now) c.args.file (full d) xs)) (sym (none_dropped c.args.items.now c.loop-item.item-index (omega arith)))
    ∙ c.loop-item.invariant d at
