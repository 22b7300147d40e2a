use Rattle.std.proofs.Common.{◌≡◌, ◌-◌, []}
use Rattle.cdl_parse.specs.Classes.{block_parts_from}
use Rattle.cdl_parse.proofs.class.block_parts.Given as goal

abbrev pub invariant-loop-turn : goal.invariant-loop-turn
invariant-loop-turn l = block_parts_from l.fn.most l.fn.most [] l.fn.tokens ≡ block_parts_from l.fn.most (l.fn.most - l._turn) l.found l.tokens
