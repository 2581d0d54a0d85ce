-- What is left of a part stays within it. Assumes nothing.
use Rattle.std.proofs.Common.{◌≤◌, length}
use Rattle.fixed_list.proofs.all.Given as goal

abbrev pub invariant-loop : goal.invariant-loop
invariant-loop g l = l.left ≤ length l.part
