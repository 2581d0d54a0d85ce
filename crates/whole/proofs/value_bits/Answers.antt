-- Assumes nothing.
use Rattle.std.proofs.Common.{◌≡◌, true, false, sym, refl, ◌∙◌, true≢false}
use lib.Ieee.{Float, nan, inf, fin, is_nan, binary64, to_bits}
use Rattle.whole.specs.Bits.{value_bits}
use Rattle.whole.proofs.value_bits.Goals as goal

none : (v : Float) → is_nan v ≡ true → 0 ≡ value_bits v
unfolding is_nan
none nan e = refl
none (inf s) e = absurd (true≢false (sym e))
none (fin s m d) e = absurd (true≢false (sym e))

some : (v : Float) → is_nan v ≡ false → to_bits binary64 v ≡ value_bits v
unfolding is_nan
some nan e = absurd (true≢false e)
some (inf s) e = refl
some (fin s m d) e = refl

pub returns-then-is_nan : goal.returns-then-is_nan
returns-then-is_nan c = none c.args.v (sym c.is_nan.ensures.value ∙ c.if-is_nan.true)

pub returns-else-is_nan : goal.returns-else-is_nan
returns-else-is_nan c = some c.args.v (sym c.is_nan.ensures.value ∙ c.if-is_nan.false)
