-- Assumes nothing.
use Rattle.std.proofs.Common.{sym}
use Rattle.test_cases.specs.Hash.{fnv_words}
use Rattle.test_cases.proofs.hashed.Goals as goal

pub returns : goal.returns
unfolding fnv_words
returns c = rw (sym c.to_le_bytes.ensures) (c.hashed_bytes.ensures)
