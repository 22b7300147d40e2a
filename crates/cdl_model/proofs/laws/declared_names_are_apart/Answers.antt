use Rattle.cdl_model.proofs.Declaring.{names_apart}
use Rattle.cdl_model.proofs.laws.declared_names_are_apart.Goals as goal

pub returns : goal.returns
returns c w h = names_apart w h
