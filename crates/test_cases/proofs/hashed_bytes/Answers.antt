-- Assumes nothing.
use Rattle.std.proofs.Common.{sym, ◌∙◌}
use Rattle.std.proofs.lemmas.List.{at_drop_all}
use Rattle.test_cases.specs.Hash.{fnv}
use Rattle.test_cases.proofs.Folds.{fnv_next}
use Rattle.test_cases.proofs.hashed_bytes.Goals as goal

pub loop-b-preserved : goal.loop-b-preserved
loop-b-preserved c = rw c.from.ensures (fnv_next c.args.bytes.now c.loop-b.b-index c.loop-b.h c.loop-b-test.true ∙ c.loop-b.invariant)

pub returns : goal.returns
unfolding fnv
returns c = sym (at_drop_all (fnv c.loop-b.h) c.args.bytes.now c.loop-b.b-index c.loop-b-test.false) ∙ c.loop-b.invariant
