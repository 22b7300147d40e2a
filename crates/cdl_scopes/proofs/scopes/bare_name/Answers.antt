use Rattle.std.proofs.Common.{◌∙◌, sym, arith}
use Rattle.cdl_scopes.proofs.Passing.{bare_lacks, none_is}
use Rattle.cdl_scopes.proofs.scopes.bare_name.Goals as goal

pub returns-clause-lacks : goal.returns-clause-lacks
returns-clause-lacks c = λ files h q at own sought x miss.
    bare_lacks files c.args.all.now h c.args.scope c.in-Some.node.now q x sought c.in-Some.ensures.some at (omega arith) own
    (sym c.first_at.ensures ∙ none_is c.first_at.result (sym c.is_some.ensures ∙ c.if-is_some.false)) (c.in-Some-only_name.ensures x miss)
