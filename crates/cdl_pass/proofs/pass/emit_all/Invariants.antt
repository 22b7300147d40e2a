use Rattle.std.proofs.Common.{◌≡◌, ◌+◌, ◌<◌, ◌≤◌, length, drop, None}
use Rattle.std.specs.Prelude.{IfSome}
use Rattle.cdl_values.specs.History.{word}
use Rattle.cdl_pass.specs.Net.{blocks_of, net_of}
use Rattle.cdl_pass.specs.Tick.{Past, Starts, Tried, Typed, Passed, spent_in}
use Rattle.cdl_pass.proofs.pass.emit_all.Given as goal

abbrev pub invariant-loop-action : goal.invariant-loop-action
invariant-loop-action g l =
    let m = blocks_of g.B.Elementary.inputs g.B.Elementary.results g.B.Elementary.width g.B.Elementary.meaning g.B.Elementary.stands g.B.Elementary.is_sound g.B.Elementary.may_lack in
    let n = net_of l.blocks l.nodes l.actions l.kinds l.rows in
    record {
      size : length l.words ≡ length l.initial.words;
      states : drop (length l.kinds) l.words ≡ drop (length l.kinds) l.initial.words;
      few : l.steps ≤ l.initial.steps + spent_in l.actions l.action-index;
      step : l.least ≡ None → l.steps ≡ l.initial.steps + spent_in l.actions l.action-index;
      inside : IfSome l.least (λ j. j < length l.nodes);
      typed : Typed n l.action-index (word l.words) l.least;
      tried : Tried m n l.now l.action-index (word l.words) l.least;
      so_far : (r : Past) → Starts m n l.now r l.initial.words → Passed m n l.now l.row r l.action-index (word l.words) l.least;
    }
