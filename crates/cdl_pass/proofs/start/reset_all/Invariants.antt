use Rattle.std.proofs.Common.{◌≡◌, length}
use Rattle.cdl_pass.specs.Net.{blocks_of, net_of}
use Rattle.cdl_pass.specs.Absorb.{Began}
use Rattle.cdl_pass.proofs.start.reset_all.Given as goal

abbrev pub invariant-loop-i : goal.invariant-loop-i
invariant-loop-i g l =
    let m = blocks_of g.B.Elementary.inputs g.B.Elementary.results g.B.Elementary.width g.B.Elementary.meaning g.B.Elementary.stands g.B.Elementary.is_sound g.B.Elementary.may_lack in
    let n = net_of l.blocks l.nodes l._actions l._kinds l._rows in
    record {
      size : length l.words ≡ length l.initial.words;
      began : Began m n l.i l.words;
    }
