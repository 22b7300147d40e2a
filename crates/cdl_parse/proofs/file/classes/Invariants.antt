use Rattle.std.proofs.Common.{◌≡◌, ◌-◌}
use Rattle.cdl_parse.specs.Classes.{file_classes, file_from}
use Rattle.cdl_parse.proofs.file.classes.Given as goal

abbrev pub invariant-loop-turn : goal.invariant-loop-turn
invariant-loop-turn l = file_classes l.fn.most l.fn.tokens ≡ file_from l.fn.most (l.fn.most - l._turn) l.found l.tokens
