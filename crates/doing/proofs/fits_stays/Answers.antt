use Rattle.doing.proofs.Keeping.{fits_stays}
use Rattle.doing.proofs.fits_stays.Goals as goal

pub returns : goal.returns
returns c = fits_stays
