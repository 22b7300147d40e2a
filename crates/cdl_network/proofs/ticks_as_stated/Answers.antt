use Rattle.cdl_network.proofs.Stated.{stated, stated_back}
use Rattle.cdl_network.proofs.ticks_as_stated.Goals as goal

pub returns : goal.returns
returns g c n ts vs = (λ h. stated n ts vs h, λ s. stated_back n ts vs s)
