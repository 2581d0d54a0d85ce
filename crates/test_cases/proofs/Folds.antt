-- A hash by what is left of bytes or words. Assumes nothing.
use Rattle.std.proofs.Common.{◌≡◌, ◌∷◌, ◌<◌, ◌+◌, ◌*◌, ◌%◌, ◌^◌, ℕ, List, length, get_or, drop, refl, suc, add-one, drop-cons}
use Rattle.std.specs.Int.Bits.{bit_xor}
use Rattle.std.specs.Int.{w64, to_le_bytes}
use Rattle.test_cases.specs.Hash.{fnv, fnv_words}

pub fnv_next : (l : List ℕ) (i h : ℕ) → i < length l → fnv (bit_xor h (get_or l i 0) * 0x100_0000_01B3 % 2 ^ 64) (drop (i + 1) l) ≡ fnv h (drop i l)
unfolding fnv
fnv_next l i h b = rw (add-one i) (let e : drop i l ≡ get_or l i 0 ∷ drop (suc i) l = drop-cons l i 0 b in rw e refl)

pub words_next : (l : List ℕ) (i h : ℕ) → i < length l → fnv_words (fnv h (to_le_bytes w64 (get_or l i 0))) (drop (i + 1) l) ≡ fnv_words h (drop i l)
unfolding fnv_words
words_next l i h b = rw (add-one i) (let e : drop i l ≡ get_or l i 0 ∷ drop (suc i) l = drop-cons l i 0 b in rw e refl)
