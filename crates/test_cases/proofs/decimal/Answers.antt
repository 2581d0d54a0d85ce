-- Assumes nothing.
use Rattle.std.proofs.Common.{sym, ◌∙◌, arith}
use Rattle.std.proofs.lemmas.List.{at_drop_all}
use Rattle.test_cases.specs.Sheet.{decimal}
use Rattle.test_cases.proofs.Builds.{decimal_next}
use Rattle.test_cases.proofs.decimal.Goals as goal

pub loop-b-preserved : goal.loop-b-preserved
loop-b-preserved c = (omega arith, rw c.from.ensures (decimal_next c.args.text.now c.loop-b.b-index c.loop-b.n c.loop-b-test.true ∙ c.loop-b.invariant.1))

pub returns : goal.returns
unfolding decimal
returns c = sym (at_drop_all (decimal c.loop-b.n) c.args.text.now c.loop-b.b-index c.loop-b-test.false) ∙ c.loop-b.invariant.1
