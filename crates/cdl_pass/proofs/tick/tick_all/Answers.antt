use Rattle.std.proofs.Common.{◌≡◌, ◌<◌, ℕ, length, ◌∙◌, sym, ℤ, List}
use Rattle.std.proofs.lemmas.Int.{to_z-of_z}
use Rattle.std.specs.Int.{w64}
use Rattle.cdl_values.specs.History.{word}
use Rattle.cdl_pass.proofs.Passing.{resized, state_kept}
use Rattle.cdl_pass.proofs.Absorbing.{word_kept, solves_kept, no_fault_kept, may_absorb, stood_of}
use Rattle.cdl_pass.proofs.tick.tick_all.Goals as goal

pub absorb_all-requires-clause-sound : goal.absorb_all-requires-clause-sound
absorb_all-requires-clause-sound g c =
    let t = to_z-of_z w64 c.args.now c.ranges.now in
    (c.requires.sound.0, rw t c.requires.sound.1, λ j b p hb hp. rw (state_kept c.args.words.now c.emit_all.new.words (c.requires.laid.each j b p hb hp) c.emit_all.ensures.states) (c.requires.sound.2 j b p hb hp))

pub returns-in-Some-clause-solves : goal.returns-in-Some-clause-solves
returns-in-Some-clause-solves g c =
    let t = to_z-of_z w64 c.args.now c.ranges.now in
    λ r s. rw t at (c.emit_all.ensures.solves r (rw t s))

pub returns-in-Some-clause-only : goal.returns-in-Some-clause-only
returns-in-Some-clause-only g c =
    let t = to_z-of_z w64 c.args.now c.ranges.now in
    λ r s v f. c.emit_all.ensures.only r (rw t s) v (rw t f)

pub returns-in-Some-clause-fault : goal.returns-in-Some-clause-fault
returns-in-Some-clause-fault g c =
    let t = to_z-of_z w64 c.args.now c.ranges.now in
    λ r s. rw t at (c.in-Some.ensures.fault r (rw t s))

pub returns-in-None-clause-solves : goal.returns-in-None-clause-solves
returns-in-None-clause-solves g c =
    let t = to_z-of_z w64 c.args.now c.ranges.now in
    let law = g.met.B.Elementary.direct_only in
    let mid : List ℤ = c.emit_all.new.words in
    let new : List ℤ = c.absorb_all.new.words in
    let eq : (e : ℕ) → e < length c.args.kinds.now → word mid e ≡ word new e = λ e h. sym (word_kept mid new (length c.args.kinds.now) e c.absorb_all.ensures.kept h) in
    λ r s. solves_kept c.args.now c.args.row.now r (word mid) (word new) law c.requires.laid eq (rw t at (c.emit_all.ensures.solves r (rw t s)))

pub returns-in-None-clause-only : goal.returns-in-None-clause-only
returns-in-None-clause-only g c =
    let t = to_z-of_z w64 c.args.now c.ranges.now in
    let law = g.met.B.Elementary.direct_only in
    let mid : List ℤ = c.emit_all.new.words in
    let new : List ℤ = c.absorb_all.new.words in
    let eq : (e : ℕ) → e < length c.args.kinds.now → word mid e ≡ word new e = λ e h. sym (word_kept mid new (length c.args.kinds.now) e c.absorb_all.ensures.kept h) in
    λ r s v f e h. c.emit_all.ensures.only r (rw t s) v (rw t f) e h ∙ eq e h

pub returns-in-None-clause-ok : goal.returns-in-None-clause-ok
returns-in-None-clause-ok g c =
    let t = to_z-of_z w64 c.args.now c.ranges.now in
    let law = g.met.B.Elementary.direct_only in
    let mid : List ℤ = c.emit_all.new.words in
    let new : List ℤ = c.absorb_all.new.words in
    let eq : (e : ℕ) → e < length c.args.kinds.now → word mid e ≡ word new e = λ e h. sym (word_kept mid new (length c.args.kinds.now) e c.absorb_all.ensures.kept h) in
    λ r s.
    let nf = rw t at (c.emit_all.ensures.none r (rw t s) c.in-None.is) in
    let ma = may_absorb c.args.now r c.args.words.now mid (resized {k = length mid} c.requires.laid c.emit_all.ensures.size) c.requires.time s c.emit_all.ensures.states (c.emit_all.ensures.values c.in-None.is) nf in
    let st = rw t at (c.absorb_all.ensures.stands r (rw t ma)) in
    (no_fault_kept c.args.now r (word mid) (word new) law c.requires.laid eq nf, stood_of c.args.now r mid new c.requires.laid c.absorb_all.ensures.kept ma st)

pub returns-in-None-clause-typed : goal.returns-in-None-clause-typed
returns-in-None-clause-typed g c =
    let mid : List ℤ = c.emit_all.new.words in
    let new : List ℤ = c.absorb_all.new.words in
    λ e h. rw (word_kept mid new (length c.args.kinds.now) e c.absorb_all.ensures.kept h) (c.emit_all.ensures.typed e h)

pub returns-in-None-clause-values : goal.returns-in-None-clause-values
returns-in-None-clause-values g c =
    let mid : List ℤ = c.emit_all.new.words in
    let new : List ℤ = c.absorb_all.new.words in
    λ e h. rw (word_kept mid new (length c.args.kinds.now) e c.absorb_all.ensures.kept h) (c.emit_all.ensures.values c.in-None.is e h)

pub returns-in-Some-clause-lacks : goal.returns-in-Some-clause-lacks
returns-in-Some-clause-lacks g c =
    let t = to_z-of_z w64 c.args.now c.ranges.now in
    rw t at c.in-Some.ensures.lacks
