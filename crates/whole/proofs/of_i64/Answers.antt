-- `whole::of_i64` meets its contract. Assumes nothing.
use Rattle.whole.proofs.Wholes.{whole_in_float, read_back, whole}
use Rattle.whole.proofs.of_i64.Goals as goal

pub int_to_float-result : goal.int_to_float-result
int_to_float-result c = rw (read_back c.requires) (whole_in_float c.requires)

pub returns : goal.returns
returns c = rw (read_back c.requires) (whole c.requires)
