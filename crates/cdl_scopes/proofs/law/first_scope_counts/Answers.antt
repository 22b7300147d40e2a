use Rattle.cdl_scopes.proofs.FirstScope.{first_scope}
use Rattle.cdl_scopes.proofs.law.first_scope_counts.Goals as goal

pub returns : goal.returns
returns c = first_scope
