-- The numbers done so far. Assumes nothing.
use mathlib.Core.Path.{◌≡◌}
use lib.ListN.{length, take}
use Prim.Native.Nat.{◌%◌, ◌^◌}
use Rattle.std.specs.Prelude.{map}
use Rattle.keymove_c.proofs.state.take_counters.Given as goal

abbrev pub invariant-loop-i : goal.invariant-loop-i
invariant-loop-i l = (length l.to ≡ 256) × (take l.i l.to ≡ map (λ w. w % 2 ^ 32) (take l.i l.from))
