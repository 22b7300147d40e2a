use Rattle.std.proofs.Common.{◌∙◌, ap, arith, length}
use Rattle.cdl_parse.proofs.Top.{begin_at, begin_end}
use Rattle.cdl_parse.proofs.begin.Goals as goal

pub returns-then-number-len : goal.returns-then-number-len
returns-then-number-len c = begin_at c.args.tokens.now.bytes c.args.tokens.now.items c.args.number c.token.result c.token.ensures.token

pub returns-else-number-len : goal.returns-else-number-len
returns-else-number-len c =
    ap length c.bytes.ensures.bytes ∙ begin_end c.args.tokens.now.bytes c.args.tokens.now.items c.args.number (omega arith)
