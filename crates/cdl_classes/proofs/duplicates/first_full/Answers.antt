use Rattle.std.proofs.Common.{◌≡◌, ◌∙◌, [], List, None, take, length, ap, refl, arith}
use Rattle.cdl_scopes.specs.Classes.{Declared, declared}
use Rattle.cdl_classes.specs.Places.{least}
use Rattle.cdl_classes.specs.Rules.{named_of, named_in, twice_from}
use Rattle.cdl_scopes.proofs.Lists.{get_at}
use Rattle.cdl_scopes.proofs.Walk.{take_whole}
use Rattle.cdl_classes.proofs.TwiceClasses.{compose, step_as, named_more}
use Rattle.cdl_classes.proofs.duplicates.first_full.Goals as goal

pub loop-class-init : goal.loop-class-init
loop-class-init c = (c.in_ok-places.ensures (declared c.args.classes.now) c.len.ensures.count, refl)

pub loop-class-preserved : goal.loop-class-preserved
loop-class-preserved c =
    let ds = declared c.args.classes.now in
    let d = get_at ds c.loop-class.class (omega (arith, c.len-class-end.ensures.count)) in
    let m = c.in_ok-first.ensures (named_of (take c.loop-class.class ds)) d.0 c.loop-class.invariant.0 d.1 in
    step_as ds c.mark_class.new.places.classes.items c.mark_class.new.places.constants.items _ c.in_ok-first.first [] _ _ (named_more ds c.loop-class.class d.0 d.1)
    (compose ds c.mark_class.new.places.classes.items c.mark_class.new.places.constants.items _ c.loop-class.first c.in_ok-first.first [] (named_of (take c.loop-class.class ds)) (named_in d.0) c.loop-class.invariant.1 m)

pub returns : goal.returns
returns c =
    let ds = declared c.args.classes.now in
    c.loop-class.invariant.1 ∙ ap (λ (xs : List Declared). least None (twice_from [] (named_of xs))) (take_whole c.loop-class.class ds (omega (arith, c.len-class-end.ensures.count)))
