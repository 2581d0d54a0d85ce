-- `whole::same` meets its contract. Assumes nothing.
use Rattle.whole.proofs.Wholes.{eq_whole}
use Rattle.whole.proofs.same.Goals as goal

pub returns : goal.returns
returns c m n v w = eq_whole v w
