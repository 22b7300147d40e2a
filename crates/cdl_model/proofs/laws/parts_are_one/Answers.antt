use Rattle.cdl_model.proofs.Corresponding.{instances_same, elements_same}
use Rattle.cdl_model.proofs.Listed.{parts_apart}
use Rattle.cdl_model.proofs.laws.parts_are_one.Goals as goal

pub returns-clause-instances : goal.returns-clause-instances
returns-clause-instances c w u v a b = instances_same w u v a b

pub returns-clause-elements : goal.returns-clause-elements
returns-clause-elements c w u v a b = elements_same w u v a b

pub returns-clause-once : goal.returns-clause-once
returns-clause-once c w u a b = parts_apart w u a b
