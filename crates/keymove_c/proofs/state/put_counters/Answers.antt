-- Numbers of so many bits are their own rest. Assumes nothing.
use Prim.Native.Nat.{◌^◌}
use Rattle.keymove_c.proofs.Sessions.{rests}
use Rattle.keymove_c.proofs.state.put_counters.Goals as goal

pub returns-clause-back : goal.returns-clause-back
returns-clause-back c = rests (2 ^ 32) c.args.from.now c.fits-from
