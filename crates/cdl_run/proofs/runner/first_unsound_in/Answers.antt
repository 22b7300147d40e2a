use Rattle.std.proofs.Common.{arith, length}
use Rattle.std.proofs.lemmas.Int.{to_z-of_z}
use Rattle.std.specs.Int.{w64}
use Rattle.cdl_run.proofs.Resuming.{all_stand, first_is, some_none}
use Rattle.cdl_run.proofs.Ticking.{fault_at, laid_at}
use Rattle.cdl_run.proofs.runner.first_unsound_in.Goals as goal

pub first_unsound-requires : goal.first_unsound-requires
first_unsound-requires c = record { laid = rw (c.deref.ensures.value, c.deref-2.ensures.value, c.deref-3.ensures.value, c.deref-4.ensures.value, c.deref-5.ensures.value) (laid_at (length c.args.words.now) c.requires.fixed.set c.requires.size) }

pub returns-clause-first : goal.returns-clause-first
returns-clause-first c =
    let t = to_z-of_z w64 c.args.last c.ranges.last in
    let f = rw (t, c.deref.ensures.value, c.deref-2.ensures.value, c.deref-3.ensures.value, c.deref-4.ensures.value, c.deref-5.ensures.value) at c.in_ok-block.ensures.first in
    let a = f.within in
    let d = c.requires.fixed.set.placed.nodes in
    let i = fault_at _ _ c.in_ok-block.block c.index.result.now (omega (arith, a, d)) c.requires.fixed.instances c.index.ensures in
    first_is c.args.words.now c.args.last c.in_ok-block.block c.index.result.now c.requires.fixed.set i f

pub returns-clause-standing : goal.returns-clause-standing
returns-clause-standing c = λ ts r.
    let t = to_z-of_z w64 c.args.last c.ranges.last in
    absurd (some_none (c.in_ok-block.ensures.standing (rw (t, c.deref.ensures.value, c.deref-2.ensures.value) (all_stand c.requires.fixed.set r))))
