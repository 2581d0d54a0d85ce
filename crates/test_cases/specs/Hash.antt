-- FNV-1a, 64 bits, of bytes and of words as eight bytes each, low first. Assumes nothing: these are definitions.
use Rattle.std.specs.Prelude.{List, [], ◌∷◌, ℕ, ◌*◌, ◌%◌, ◌^◌}
use Rattle.std.specs.Int.Bits.{bit_xor}
use Rattle.std.specs.Int.{w64, to_le_bytes}

unfoldable pub fnv : ℕ → List ℕ → ℕ
fnv h [] = h
fnv h (b ∷ l) = fnv (bit_xor h b * 0x100_0000_01B3 % 2 ^ 64) l

unfoldable pub fnv_words : ℕ → List ℕ → ℕ
fnv_words h [] = h
fnv_words h (w ∷ l) = fnv_words (fnv h (to_le_bytes w64 w)) l
