-- The hash of what is left, from the hash so far, is that of the whole. Assumes nothing.
use Rattle.std.proofs.Common.{◌≡◌, drop}
use Rattle.test_cases.specs.Hash.{fnv}
use Rattle.test_cases.proofs.hashed_bytes.Given as goal

abbrev pub invariant-loop-b : goal.invariant-loop-b
invariant-loop-b l = fnv l.h (drop l.b-index l.bytes) ≡ fnv l.initial.hash l.bytes
