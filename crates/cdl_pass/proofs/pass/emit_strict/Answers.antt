use Rattle.std.proofs.Common.{◌≡◌, ◌∙◌, true, false, inl}
use Rattle.std.proofs.lemmas.Int.{to_z-of_z}
use Rattle.std.specs.Int.{w64}
use Rattle.cdl_values.specs.History.{word}
use Rattle.cdl_pass.specs.Tick.{ready}
use Rattle.cdl_pass.proofs.Ready.{ready_is, others_of, drop_later, blank_outs, gives_value, gives_none, gives_missing}
use Rattle.cdl_pass.proofs.pass.emit_strict.Goals as goal

pub emit_one-requires-clause-ready : goal.emit_one-requires-clause-ready
emit_one-requires-clause-ready g c =
    let r : ready (word c.args.words.now) c.args.node.now.ins c.args.node.now.reads ≡ true = cc in
    ready_is c.args.words.now c.requires.fits c.requires.typed r

pub returns-in-Ok-clause-others : goal.returns-in-Ok-clause-others
returns-in-Ok-clause-others g c = λ e f. others_of c.args.node.now c.args.words.now c.emit_one.new.words c.emit_one.ensures.only e f

pub returns-in-Ok-clause-states : goal.returns-in-Ok-clause-states
returns-in-Ok-clause-states g c = drop_later c.args.words.now c.emit_one.new.words _ _ c.emit_one.ensures.only.after c.requires.fits.elements

pub returns-in-Ok-clause-gives : goal.returns-in-Ok-clause-gives
returns-in-Ok-clause-gives g c = λ h a b s.
    let t = to_z-of_z w64 c.args.now c.ranges.now in
    let r : ready (word c.args.words.now) c.args.node.now.ins c.args.node.now.reads ≡ true = cc in
    (gives_value h c.args.now c.args.words.now c.emit_one.new.words c.requires.fits r (rw t at (c.in-Ok.ensures.gives h a (rw t b) s))).0

pub returns-in-Ok-clause-fault : goal.returns-in-Ok-clause-fault
returns-in-Ok-clause-fault g c = λ h a b s.
    let t = to_z-of_z w64 c.args.now c.ranges.now in
    let r : ready (word c.args.words.now) c.args.node.now.ins c.args.node.now.reads ≡ true = cc in
    (gives_value h c.args.now c.args.words.now c.emit_one.new.words c.requires.fits r (rw t at (c.in-Ok.ensures.gives h a (rw t b) s))).1

pub returns-in-Err-clause-others : goal.returns-in-Err-clause-others
returns-in-Err-clause-others g c = λ e f. others_of c.args.node.now _ c.blank.new.words c.blank.ensures.only e f ∙ others_of c.args.node.now c.args.words.now _ c.emit_one.ensures.only e f

pub returns-in-Err-clause-states : goal.returns-in-Err-clause-states
returns-in-Err-clause-states g c = drop_later _ c.blank.new.words _ _ c.blank.ensures.only.after c.requires.fits.elements ∙ drop_later c.args.words.now _ _ _ c.emit_one.ensures.only.after c.requires.fits.elements

pub returns-in-Err-clause-typed : goal.returns-in-Err-clause-typed
returns-in-Err-clause-typed g c = λ k l. inl (blank_outs c.args.node.now c.blank.new.words c.blank.ensures.none k l)

pub returns-in-Err-clause-gives : goal.returns-in-Err-clause-gives
returns-in-Err-clause-gives g c = λ h a b s.
    let t = to_z-of_z w64 c.args.now c.ranges.now in
    let r : ready (word c.args.words.now) c.args.node.now.ins c.args.node.now.reads ≡ true = cc in
    (gives_none h c.args.now c.args.words.now c.blank.new.words c.requires.fits r (rw t at (c.in-Err.ensures.gives h a (rw t b) s)) c.blank.ensures.none).0

pub returns-in-Err-clause-fault : goal.returns-in-Err-clause-fault
returns-in-Err-clause-fault g c = λ h a b s.
    let t = to_z-of_z w64 c.args.now c.ranges.now in
    let r : ready (word c.args.words.now) c.args.node.now.ins c.args.node.now.reads ≡ true = cc in
    (gives_none h c.args.now c.args.words.now c.blank.new.words c.requires.fits r (rw t at (c.in-Err.ensures.gives h a (rw t b) s)) c.blank.ensures.none).1

pub returns-else-may_emit-clause-others : goal.returns-else-may_emit-clause-others
returns-else-may_emit-clause-others g c = λ e f. others_of c.args.node.now c.args.words.now c.blank-else-may_emit.new.words c.blank-else-may_emit.ensures.only e f

pub returns-else-may_emit-clause-states : goal.returns-else-may_emit-clause-states
returns-else-may_emit-clause-states g c = drop_later c.args.words.now c.blank-else-may_emit.new.words _ _ c.blank-else-may_emit.ensures.only.after c.requires.fits.elements

pub returns-else-may_emit-clause-typed : goal.returns-else-may_emit-clause-typed
returns-else-may_emit-clause-typed g c = λ k l. inl (blank_outs c.args.node.now c.blank-else-may_emit.new.words c.blank-else-may_emit.ensures.none k l)

pub returns-else-may_emit-clause-gives : goal.returns-else-may_emit-clause-gives
returns-else-may_emit-clause-gives g c = λ h a b s.
    let t = to_z-of_z w64 c.args.now c.ranges.now in
    let r : ready (word c.args.words.now) c.args.node.now.ins c.args.node.now.reads ≡ false = cc in
    (gives_missing h c.args.now c.args.words.now c.blank-else-may_emit.new.words c.requires.fits r c.blank-else-may_emit.ensures.none).0

pub returns-in-Err-clause-lacks : goal.returns-in-Err-clause-lacks
returns-in-Err-clause-lacks g c = λ e.
    let t = to_z-of_z w64 c.args.now c.ranges.now in
    rw t at c.in-Err.ensures.lacks

pub returns-in-Err-clause-none : goal.returns-in-Err-clause-none
returns-in-Err-clause-none g c = λ e k l. blank_outs c.args.node.now c.blank.new.words c.blank.ensures.none k l
