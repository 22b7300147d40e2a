use Rattle.std.proofs.Common.{ℕ, ◌≡◌, length, take}
use Rattle.cdl_pass.specs.Net.{blocks_of, net_of}
use Rattle.cdl_pass.specs.Tick.{Past}
use Rattle.cdl_pass.specs.Absorb.{MayAbsorb, Absorbed, Moved, Upto}
use Rattle.cdl_pass.proofs.absorb.absorb_all.Given as goal

abbrev pub invariant-loop-k : goal.invariant-loop-k
invariant-loop-k g l =
    let m = blocks_of g.B.Elementary.inputs g.B.Elementary.results g.B.Elementary.width g.B.Elementary.meaning g.B.Elementary.stands g.B.Elementary.is_sound g.B.Elementary.may_lack in
    let n = net_of l.blocks l.nodes l._actions l._kinds l._rows in
    record {
      size : length l.words ≡ length l.initial.words;
      kept : take (length l._kinds) l.words ≡ take (length l._kinds) l.initial.words;
      place : ℕ;
      upto : Upto l.stateful l.k place;
      moved : Moved m n l.now place l.initial.words l.words;
      so_far : (r : Past) → MayAbsorb m n l.now r l.initial.words → Absorbed m n l.now r place l.initial.words l.words;
    }
