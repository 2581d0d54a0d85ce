-- The number so far with the digits that are left gives the whole. Assumes nothing.
use Rattle.std.proofs.Common.{◌≡◌, ◌<◌, drop}
use Rattle.test_cases.specs.Sheet.{decimal}
use Rattle.test_cases.proofs.decimal.Given as goal

abbrev pub invariant-loop-b : goal.invariant-loop-b
invariant-loop-b l = (l.n < 100_000) × (decimal l.n (drop l.b-index l.text) ≡ decimal 0 l.text)
