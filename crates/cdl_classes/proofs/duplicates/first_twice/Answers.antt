use Rattle.std.proofs.Common.{◌≡◌, ◌∙◌, ◌+◌, [], List, Option, None, drop, length, sym, ap, arith}
use Rattle.cdl_source.specs.declared.place.Place.{Place}
use Rattle.cdl_scopes.specs.Classes.{Declared, declared}
use Rattle.cdl_classes.specs.Places.{least}
use Rattle.cdl_classes.specs.Rules.{named_of, twice_from, again_of}
use Rattle.cdl_classes.proofs.Items.{least-append}
use Rattle.cdl_scopes.proofs.Lists.{get_at, none_dropped}
use Rattle.cdl_classes.proofs.TwiceClasses.{next_own}
use Rattle.cdl_classes.proofs.duplicates.first_twice.Goals as goal

pub loop-class-init : goal.loop-class-init
loop-class-init c =
    let ds = declared c.args.classes.now in
    ap (λ (f : Option Place). least f (again_of ds)) c.in_ok-first.ensures ∙ sym (least-append None (twice_from [] (named_of ds)) (again_of ds))

pub loop-class-preserved : goal.loop-class-preserved
loop-class-preserved c =
    let ds = declared c.args.classes.now in
    let d = get_at ds c.loop-class.class (omega (arith, c.len-class-end.ensures.count)) in
    ap (λ (f : Option Place). least f (again_of (drop (c.loop-class.class + 1) ds))) (c.in_ok-first-2.ensures d.0 d.1)
    ∙ next_own ds c.loop-class.class d.0 c.loop-class.first d.1 ∙ c.loop-class.invariant

pub returns : goal.returns
returns c =
    let ds = declared c.args.classes.now in
    ap (λ (xs : List Declared). least c.loop-class.first (again_of xs)) (sym (none_dropped ds c.loop-class.class (omega (arith, c.len-class-end.ensures.count)))) ∙ c.loop-class.invariant
