-- Part by part. Assumes nothing.
use Rattle.std.proofs.Common.{rules}
use Rattle.keymove_c.proofs.Sessions.{unpacked}
use Rattle.keymove_c.proofs.state.unpack.Goals as goal

pub returns : goal.returns
returns c = λ net. unpacked net c.args.state.now c.copy_from_slice.new.self c.take_counters.new.to c.take_pieces.new.to (search rules) (search rules) (search rules)
