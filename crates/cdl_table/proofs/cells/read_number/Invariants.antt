use Rattle.std.proofs.Common.{◌≡◌, ◌≤◌, ◌<◌, ◌^◌, drop, length}
use Rattle.cdl_table.specs.Cells.{digits_after}
use Rattle.cdl_table.proofs.cells.read_number.Given as goal

abbrev pub invariant-loop-digit : goal.invariant-loop-digit
invariant-loop-digit l =
    record {
      rest : digits_after 0 l.text ≡ digits_after l.number (drop l.digit-index l.text);
      size : l.number < 10 ^ l.digit-index;
      short : length l.text ≤ l.most;
      few : l.most ≤ 14;
    }
