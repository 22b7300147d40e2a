use Rattle.std.proofs.Common.{◌≡◌, ap, refl, Some}
use Rattle.std.specs.List.{slice_get}
use Rattle.std.specs.Map.{lookup}
use Rattle.std.proofs.lemmas.Option.{slice_get_read}
use Rattle.cdl_scopes.specs.Entries.{entry}
use Rattle.cdl_scopes.proofs.Entries.{at}
use Rattle.cdl_scopes.proofs.Passing.{lower_begun, lower_further, row_begun, row_further, smaller}
use Rattle.cdl_scopes.proofs.scopes.outwards_of.Goals as goal

pub returns-then-is_some-clause-passes : goal.returns-then-is_some-clause-passes
returns-then-is_some-clause-passes c = λ h q here up own sought x none.
    let node : slice_get c.args.all.now.nodes.items c.args.scope ≡ Some c.index.result.now =
    slice_get_read c.args.all.now.nodes.items _ c.args.scope c.index.result.now refl c.requires.within c.index.ensures in
    row_begun c.args.files.now c.args.all.now h q x sought c.args.scope c.index.result.now (entry c.new-row.result x) (ap (lookup (at x)) c.new-row.ensures.empty) node up here none

pub returns-then-is_some-clause-lower : goal.returns-then-is_some-clause-lower
returns-then-is_some-clause-lower c = λ x up.
    let node : slice_get c.args.all.now.nodes.items c.args.scope ≡ Some c.index.result.now =
    slice_get_read c.args.all.now.nodes.items _ c.args.scope c.index.result.now refl c.requires.within c.index.ensures in
    lower_begun c.args.files.now c.args.all.now c.requires.gathered c.args.scope c.index.result.now (entry c.new-row.result x) (ap (lookup (at x)) c.new-row.ensures.empty) node up

pub loop-name-init : goal.loop-name-init
loop-name-init c = (
  λ x up.
      let node : slice_get c.args.all.now.nodes.items c.args.scope ≡ Some c.index.result.now =
      slice_get_read c.args.all.now.nodes.items _ c.args.scope c.index.result.now refl c.requires.within c.index.ensures in
      lower_begun c.args.files.now c.args.all.now c.requires.gathered c.args.scope c.index.result.now (entry c.new-row.result x) (ap (lookup (at x)) c.new-row.ensures.empty) node up,
  λ h q here up own sought x none.
      let node : slice_get c.args.all.now.nodes.items c.args.scope ≡ Some c.index.result.now =
      slice_get_read c.args.all.now.nodes.items _ c.args.scope c.index.result.now refl c.requires.within c.index.ensures in
      row_begun c.args.files.now c.args.all.now h q x sought c.args.scope c.index.result.now (entry c.new-row.result x) (ap (lookup (at x)) c.new-row.ensures.empty) node up here none,
)

pub loop-name-smaller : goal.loop-name-smaller
loop-name-smaller c =
    let node : slice_get c.args.all.now.nodes.items c.loop-name.next ≡ Some c.index-in-Some.result.now =
    slice_get_read c.args.all.now.nodes.items _ c.loop-name.next c.index-in-Some.result.now refl c.in-Some.ensures.within.1 c.index-in-Some.ensures in
    smaller c.args.files.now c.args.all.now c.requires.gathered c.loop-name.next c.index-in-Some.result.now node c.in-Some.ensures.within.0

pub loop-name-preserved : goal.loop-name-preserved
loop-name-preserved c =
    let node : slice_get c.args.all.now.nodes.items c.loop-name.next ≡ Some c.index-in-Some.result.now =
    slice_get_read c.args.all.now.nodes.items _ c.loop-name.next c.index-in-Some.result.now refl c.in-Some.ensures.within.1 c.index-in-Some.ensures in (
      λ x up.
          lower_further c.args.files.now c.args.all.now c.requires.gathered x c.args.scope c.loop-name.next c.index-in-Some.result.now c.in-Some.name.now (entry c.loop-name.row x) (entry c.note_scope.new.row x)
          node c.in-Some.ensures.within.0 (c.in_ok-note_scope.ensures x) (c.loop-name.invariant.0 x up),
      λ h q here up own sought x none.
          row_further c.args.files.now c.args.all.now h q x sought c.loop-name.next c.index-in-Some.result.now c.in-Some.name.now (entry c.loop-name.row x) (entry c.note_scope.new.row x)
          node c.in-Some.ensures.within.0 own (λ p there free miss. c.in-Some.ensures.lacks c.args.files.now h p there free sought x miss) (c.in_ok-note_scope.ensures x)
          (c.loop-name.invariant.1 h q here up own sought x none),
    )
