-- The hash of what is left, from the hash so far, is that of the whole. Assumes nothing.
use Rattle.std.proofs.Common.{◌≡◌, drop}
use Rattle.test_cases.specs.Hash.{fnv_words}
use Rattle.test_cases.proofs.hashed_words.Given as goal

abbrev pub invariant-loop-w : goal.invariant-loop-w
invariant-loop-w l = fnv_words l.h (drop l.w-index l.words) ≡ fnv_words l.initial.hash l.words
