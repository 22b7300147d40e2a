use Rattle.std.proofs.Common.{sym, ap, subst}
use Rattle.cdl_scopes.specs.Classes.{Full, within_of}
use Rattle.cdl_scopes.specs.inner.Numbered.{WithinAdded}
use Rattle.cdl_scopes.proofs.Within.{within_none}
use Rattle.cdl_scopes.proofs.names.number_within.Goals as goal

pub returns-in-None : goal.returns-in-None
returns-in-None c = λ whole h.
    subst (λ (q : Full). WithinAdded h.paths c.args.nodes.now.items whole 0 q) (sym (ap within_of c.in-None.is)) (within_none c.args.nodes.now.items whole h)
