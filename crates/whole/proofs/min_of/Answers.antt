-- `whole::min_of` meets its contract. Assumes nothing.
use Rattle.whole.proofs.Wholes.{min_whole}
use Rattle.whole.proofs.min_of.Goals as goal

pub returns : goal.returns
returns c m n v w = min_whole v w c.min.ensures.value
