use Rattle.std.proofs.Common.{◌≡◌, ◌∙◌, ◌<◌, ◌≤◌, ℕ, [], List, take, length, sym, refl, ap, Some, None, false, arith}
use Rattle.std.specs.List.{slice_get}
use Rattle.std.proofs.Math.Seq.{take-length}
use Rattle.std.proofs.lemmas.Option.{slice_get_read, slice_get_within, same_Some}
use Rattle.cdl_tree.specs.declared.class.FileTree.{FileTree}
use Rattle.cdl_scopes.specs.declared.scopes.Outwards.{Outwards}
use Rattle.cdl_scopes.specs.inner.Outwards.{AreOutwards, next_for}
use Rattle.cdl_scopes.proofs.Passing.{free_front}
use Rattle.std.proofs.lemmas.List.{length-take-le}
use Rattle.cdl_scopes.specs.declared.gather.Classes.{Classes}
use Rattle.cdl_scopes.specs.declared.lookup.Sought.{Sought}
use Rattle.cdl_scopes.specs.Classes.{Full, declared}
use Rattle.cdl_scopes.specs.Lookup.{has, seek, in_library}
use Rattle.cdl_scopes.specs.inner.Known.{Known}
use Rattle.cdl_scopes.proofs.Finding.{finds_as, seek_found, none_taken, not_front, take_less, seek_front}
use Rattle.cdl_scopes.proofs.lookup.seek.Goals as goal

-- the scope at which the name is sought next
further : (files : List FileTree) (all : Classes) (h : Known files all) (os : List Outwards) (kept : AreOutwards files all os) (sought : Sought) (q : Full) (x : List ℕ) (scope k : ℕ) (o : Outwards)
    → slice_get os scope ≡ Some o → 0 < scope → in_library q ≡ false → k ≤ length q → slice_get h.gathered.names.paths scope ≡ Some (take k q) → has (declared files) sought (take k q) x ≡ None
    → (j : ℕ) × (j ≤ length q) × (slice_get h.gathered.names.paths (next_for o x) ≡ Some (take j q)) × (seek (declared files) sought q j x ≡ seek (declared files) sought q k x)
further files all h os kept sought q x scope k o n up own l at none =
    let s = kept.each h.gathered scope o (take k q) n at up (free_front q k own) sought x none in
    let size : length (take k q) ≡ k = length-take-le k q l in
    let j : s.0 ≤ k = omega (arith, s.1) in (
      s.0,
      omega (arith, j),
      s.2 ∙ ap (λ r. Some r) (take_less q s.0 k j),
      sym (seek_front (declared files) sought q x s.0 k j) ∙ sym s.3 ∙ ap (λ i. seek (declared files) sought (take k q) i x) size ∙ seek_front (declared files) sought q x k k (omega arith),
    )

pub loop-scope-init : goal.loop-scope-init
loop-scope-init c = λ h q at own. (length q, omega arith, at ∙ ap (λ r. Some r) (sym (take-length q)), refl)

pub returns-in-Some-clause-found : goal.returns-in-Some-clause-found
returns-in-Some-clause-found c = λ h q at own.
    let k = c.loop-scope.invariant h q at own in
    let apart = not_front q k.0 own in
    let f = c.in-Some.ensures.found h (take k.0 q) k.2 apart.0 apart.1 in
    (f.0, f.1, sym k.3 ∙ seek_found (declared c.args.files.now) c.args.sought q k.0 c.args.part.now f.0 f.2)

pub bounds-outwards-scope : goal.bounds-outwards-scope
bounds-outwards-scope c =
    let r = c.requires.scoped in
    let k = c.loop-scope.invariant r.known r.name r.at r.own in
    omega (arith, slice_get_within r.known.gathered.names.paths c.loop-scope.scope (take k.0 r.name) k.2, r.known.gathered.names.numbers.size, c.requires.outwards.size)

pub loop-scope-smaller : goal.loop-scope-smaller
loop-scope-smaller c =
    let r = c.requires.scoped in
    let k = c.loop-scope.invariant r.known r.name r.at r.own in
    let small = slice_get_within r.known.gathered.names.paths c.loop-scope.scope (take k.0 r.name) k.2 in
    let here : slice_get c.args.outwards.now c.loop-scope.scope ≡ Some c.index-outwards-scope.result =
    slice_get_read c.args.outwards.now _ c.loop-scope.scope c.index-outwards-scope.result refl (omega (arith, small, r.known.gathered.names.numbers.size, c.requires.outwards.size)) c.index-outwards-scope.is in
    let low = c.requires.outwards.lower c.loop-scope.scope c.index-outwards-scope.result c.args.part.now here (omega arith) in
    omega (arith, low, c.next_for-scope.ensures)

pub loop-scope-preserved : goal.loop-scope-preserved
loop-scope-preserved c = λ h q at own.
    let k = c.loop-scope.invariant h q at own in
    let apart = not_front q k.0 own in
    let small = slice_get_within h.gathered.names.paths c.loop-scope.scope (take k.0 q) k.2 in
    let here : slice_get c.args.outwards.now c.loop-scope.scope ≡ Some c.index-outwards-scope.result =
    slice_get_read c.args.outwards.now _ c.loop-scope.scope c.index-outwards-scope.result refl (omega (arith, small, h.gathered.names.numbers.size, c.requires.outwards.size)) c.index-outwards-scope.is in
    let o = further c.args.files.now c.args.all.now h c.args.outwards.now c.requires.outwards c.args.sought q c.args.part.now c.loop-scope.scope k.0 c.index-outwards-scope.result here (omega arith) own k.1 k.2
    (c.in_default.ensures.found h (take k.0 q) k.2 apart.0 apart.1) in
    (o.0, o.1, ap (λ i. slice_get h.gathered.names.paths i) c.next_for-scope.ensures ∙ o.2, o.3 ∙ k.3)

pub returns-clause-found : goal.returns-clause-found
returns-clause-found c = λ h q at own.
    let k = c.loop-scope.invariant h q at own in
    let here : take k.0 q ≡ [] = same_Some (take k.0 q) [] (sym k.2 ∙ ap (λ i. slice_get h.gathered.names.paths i) c.loop-scope-test.false ∙ h.gathered.names.numbers.top) in
    let zero_is : k.0 ≡ 0 = none_taken q k.0 k.1 here in
    finds_as h.gathered.names.paths c.has-2.result _ _ (c.has-2.ensures.found h [] h.gathered.names.numbers.top refl refl)
    (ap (λ j. seek (declared c.args.files.now) c.args.sought q j c.args.part.now) (sym zero_is) ∙ k.3)
