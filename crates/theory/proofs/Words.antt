-- Words: hashes are below 2^64, so a bucket is one of the memo's; the fields of a meta word read back.
-- Assumes nothing.
use mathlib.Core.Path.{◌≡◌}
use mathlib.Core.Bool.{Bool, true, false, cond}
use mathlib.Core.List.{List}
use Prim.Native.Nat.{ℕ, zero, suc, ◌+◌, ◌*◌, ◌/◌, ◌^◌, ◌≤◌, ◌<◌}
use native.Mathlib.Omega.{arith}
use native.Mathlib.Nat.{mod-lt, mul_comm, mul-lt-mul_of_pos_right, div-lt_iff_lt-mul}
use lib.Dec.{eqb, lit<}
use lib.Bits.{bit_xor, xor_lt}
use Rattle.words.specs.Words.{wrap, rotate, field, bit_length}
use Rattle.rules.specs.Memo.{blend, fold, mix, remix}

wrap_lt : (x y : ℕ) → wrap x y < 2 ^ 64
wrap_lt x y = mod-lt (x * y) (lit< tt)

fold_lt : (g : ℕ) → g < 2 ^ 64 → fold g < 2 ^ 64
unfolding fold
fold_lt g h = xor_lt 64 g (g / 2 ^ 32) h (omega arith)

pub mix_lt : (k : List ℕ) → mix k < 2 ^ 64
unfolding mix
mix_lt k = fold_lt (wrap (bit_xor (blend k) (blend k / 2 ^ 29)) 0xBF58_476D_1CE4_E5B9) (wrap_lt _ _)

pub remix_lt : (h : ℕ) → remix h < 2 ^ 64
unfolding remix
remix_lt h = wrap_lt (rotate 32 h) 0x94D0_49BB_1331_11EB

-- the high half of a product
pub share_lt : (h n : ℕ) → h < 2 ^ 64 → 0 < n → h * n / 2 ^ 64 < n
share_lt h n l k = (div-lt_iff_lt-mul (lit< tt)).1 (rw (mul_comm n (2 ^ 64)) (mul-lt-mul_of_pos_right l k))

pub bit-length_le : (k n : ℕ) → bit_length k n ≤ k
unfolding bit_length
bit-length_le zero n = omega arith
bit-length_le (suc k) n = go (bit-length_le k (n / 2)) (eqb n 0)
  where
    go : bit_length k (n / 2) ≤ k → (x : Bool) → cond x 0 (suc (bit_length k (n / 2))) ≤ suc k
    go h true = omega arith
    go h false = omega arith

-- the fields of a meta word
module _ (t lo hi work gen : ℕ) (ht : t < 2 ^ 32) (hl : lo < 256) (hh : hi < 256) (hw : work < 256) (hg : gen < 128) where
  abbrev meta : ℕ
  meta = t + lo * 2 ^ 32 + hi * 2 ^ 40 + work * 2 ^ 48 + gen * 2 ^ 56

  pub meta_best : field 0 32 meta ≡ t
  meta_best = omega arith

  pub meta_lo : field 32 8 meta ≡ lo
  meta_lo = omega arith

  pub meta_hi : field 40 8 meta ≡ hi
  meta_hi = omega arith
