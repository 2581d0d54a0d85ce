-- `whole::max_of` meets its contract. Assumes nothing.
use Rattle.whole.proofs.Wholes.{max_whole}
use Rattle.whole.proofs.max_of.Goals as goal

pub returns : goal.returns
returns c m n v w = max_whole v w c.max.ensures.value
