-- `whole::bits_of` meets its contract. Assumes nothing.
use Rattle.whole.proofs.Wholes.{not_nan}
use Rattle.whole.proofs.bits_of.Goals as goal

pub float_to_bits-result : goal.float_to_bits-result
float_to_bits-result c = not_nan c.requires.whole
