use Rattle.std.proofs.Common.{◌≡◌, ◌+◌, drop, length, ap, arith}
use Rattle.cdl_scopes.specs.Classes.{declared}
use Rattle.cdl_scopes.specs.inner.Gathered.{IsShown}
use Rattle.cdl_scopes.specs.inner.Kept.{name_count, names_of, names_in}
use Rattle.cdl_scopes.proofs.Lists.{none_dropped, drop_at}
use Rattle.cdl_scopes.proofs.Lists.{zip_length}
use Rattle.cdl_scopes.proofs.Listing.{listed_at}
use Rattle.cdl_scopes.proofs.count.count_names.Goals as goal

pub with_class-requires : goal.with_class-requires
with_class-requires c =
    let d = listed_at c.args.files.now c.args.all.now c.requires c.deref-class-items.result.now c.loop-class.class-index c.class-item.result c.deref-class-items.ensures.value (omega arith) c.class-item.is in
    ((d.0).tree, (d.2).tree)

pub loop-class-preserved : goal.loop-class-preserved
loop-class-preserved c =
    let d = listed_at c.args.files.now c.args.all.now c.requires c.deref-class-items.result.now c.loop-class.class-index c.class-item.result c.deref-class-items.ensures.value (omega arith) c.class-item.is in
    let ds = declared c.args.files.now in
    let more : c.in-Some.more ≡ c.loop-class.count + names_in d.0 = c.in-Some.ensures.number c.requires.names.paths d.0 d.2 in
    let here : names_of (drop c.loop-class.class-index ds) ≡ names_in d.0 + names_of (drop (c.loop-class.class-index + 1) ds) = ap names_of (drop_at ds c.loop-class.class-index d.0 d.1) in
    let inv : c.loop-class.count + names_of (drop c.loop-class.class-index ds) ≡ name_count c.args.files.now = c.loop-class.invariant.1 in
    (c.in-Some.ensures.few, omega (arith, more, here, inv))

pub returns-clause-number : goal.returns-clause-number
returns-clause-number c =
    let ds = declared c.args.files.now in
    let size = zip_length (IsShown c.requires.names.paths c.args.files.now) c.args.all.now.list.items ds c.requires.shown in
    let same : length c.deref-class-items.result.now ≡ length c.args.all.now.list.items = ap length c.deref-class-items.ensures.value in
    let none : names_of (drop c.loop-class.class-index ds) ≡ 0 = ap names_of (none_dropped ds c.loop-class.class-index (omega arith)) in
    let inv : c.loop-class.count + names_of (drop c.loop-class.class-index ds) ≡ name_count c.args.files.now = c.loop-class.invariant.1 in
    omega (arith, none, inv)
