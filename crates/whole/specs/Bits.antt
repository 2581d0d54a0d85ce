-- The bits of any f64. Assumes nothing: these are definitions.
use Rattle.std.specs.Prelude.{ℕ, Float}
use Rattle.std.specs.Float.{nan, inf, fin, binary64}
use Rattle.std.specs.Float.Ieee.{to_bits}

-- the bits of a value, 0 for a NaN, which no call answers
abbrev pub value_bits : Float → ℕ
value_bits nan = 0
value_bits (inf s) = to_bits binary64 (inf s)
value_bits (fin s m e) = to_bits binary64 (fin s m e)
