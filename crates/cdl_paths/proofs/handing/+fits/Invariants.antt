use Rattle.std.proofs.Common.{length}
use Rattle.cdl_paths.proofs.handing.+fits.Given as goal

abbrev pub decreases-fits : goal.decreases-fits
decreases-fits l = length l.wanted.now
