use Rattle.std.proofs.Common.{◌≡◌, ◌∙◌, ◌+◌, List, Option, drop, length, sym, ap, arith}
use Rattle.cdl_source.specs.declared.place.Place.{Place}
use Rattle.cdl_scopes.specs.Classes.{Declared, declared}
use Rattle.cdl_classes.specs.Places.{least}
use Rattle.cdl_classes.specs.Rules.{taken_of}
use Rattle.cdl_scopes.proofs.Lists.{get_at, none_dropped}
use Rattle.cdl_classes.proofs.TakenClasses.{next_taken}
use Rattle.cdl_classes.proofs.free_names.first_taken.Goals as goal

pub loop-class-preserved : goal.loop-class-preserved
loop-class-preserved c =
    let ds = declared c.args.classes.now in
    let d = get_at ds c.loop-class.class (omega (arith, c.len-class-end.ensures.count)) in
    ap (λ (f : Option Place). least f (taken_of ds (drop (c.loop-class.class + 1) ds))) (c.with_class-first.ensures d.0 d.1) ∙ next_taken ds ds c.loop-class.class d.0 c.loop-class.first d.1 ∙ c.loop-class.invariant

pub returns : goal.returns
returns c =
    let ds = declared c.args.classes.now in
    ap (λ (xs : List Declared). least c.loop-class.first (taken_of ds xs)) (sym (none_dropped ds c.loop-class.class (omega (arith, c.len-class-end.ensures.count)))) ∙ c.loop-class.invariant
