-- Assumes nothing.
use Rattle.std.proofs.Common.{sym, ◌∙◌}
use Rattle.std.proofs.lemmas.List.{at_drop_all}
use Rattle.test_cases.specs.Hash.{fnv_words}
use Rattle.test_cases.proofs.Folds.{words_next}
use Rattle.test_cases.proofs.hashed_words.Goals as goal

pub loop-w-preserved : goal.loop-w-preserved
unfolding fnv_words
loop-w-preserved c = rw c.hashed-h.ensures (words_next c.args.words.now c.loop-w.w-index c.loop-w.h c.loop-w-test.true ∙ c.loop-w.invariant)

pub returns : goal.returns
unfolding fnv_words
returns c = sym (at_drop_all (fnv_words c.loop-w.h) c.args.words.now c.loop-w.w-index c.loop-w-test.false) ∙ c.loop-w.invariant
