use Rattle.cdl_scopes.proofs.Needs.{some_child, not_both}
use Rattle.cdl_scopes.proofs.in_scope.has_names.Goals as goal

pub returns-clause-some : goal.returns-clause-some
returns-clause-some c = λ t. some_child c.args.node.now (λ e. not_both c.is_empty.result t (c.is_empty.ensures.1 e))
