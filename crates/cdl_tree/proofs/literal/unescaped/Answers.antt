use Rattle.std.proofs.Common.{ne_eqb}
use Rattle.cdl_tree.proofs.Strings.{plain_byte}
use Rattle.cdl_tree.proofs.literal.unescaped.Goals as goal

pub loop-rest-preserved : goal.loop-rest-preserved
loop-rest-preserved c = plain_byte c.loop-rest.rest.now c.loop-rest.bytes _ c.loop-rest.escape _ c.in-len1-up.len_at_least c.if-escape.false (ne_eqb _ _ c.if-byte-eq-QUOTE.false) (ne_eqb _ _ c.if-byte-eq-BACKSLASH.false) ((c.in_ok-push-2.ensures).ok) c.loop-rest.invariant
