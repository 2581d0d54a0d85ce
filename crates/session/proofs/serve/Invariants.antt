-- What is in the buffer fits there. Assumes nothing.
use Rattle.std.proofs.Common.{◌≤◌}
use Rattle.session.proofs.serve.Given as goal

abbrev pub invariant-loop : goal.invariant-loop
invariant-loop g l = l.n ≤ 256
