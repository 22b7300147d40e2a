use Rattle.std.proofs.Common.{◌≡◌, ap, arith}
use Rattle.cdl_parse.specs.Classes.{class}
use Rattle.cdl_reading.proofs.Turns.{deeper}
use Rattle.cdl_parse.proofs.class.+class.Goals as goal

pub returns-then-depth-eq0 : goal.returns-then-depth-eq0
unfolding class
returns-then-depth-eq0 t c = let none : c.args.depth ≡ 0 = omega arith in ap (λ n. class n c.args.tokens.now) none

pub returns : goal.returns
unfolding class
returns t c = rw (deeper (λ n. class n c.args.tokens.now) c.args.depth (omega arith)) c.any.ensures
