-- The sheet that the lines of a list build. Assumes nothing: these are definitions.
use Rattle.std.specs.Prelude.{List, [], ◌∷◌, ◌++◌, ℕ, zero, suc, ◌+◌, ◌*◌, ◌%◌, ◌≤◌, ◌==◌, cond, ltb, length, take, drop, position, Option, Some, None}
use Rattle.test_cases.specs.declared.sheet.Sheet.{Sheet}

-- the bytes so far
abbrev pub text_of : Sheet → List ℕ
text_of s = take s.len s.bytes.now

-- there is room for `n` bytes more
abbrev pub HasRoom : Sheet → ℕ → Type 0
HasRoom s n = s.len + n ≤ length s.bytes.now

-- the value of a hexadecimal digit; a number below 16 of any other byte
abbrev pub hex : ℕ → ℕ
hex c = cond (ltb c 58) (c % 16) ((c % 16 + 9) % 16)

-- the bytes that `xHH...` adds, of two digits each
unfoldable pub hex_bytes : List ℕ → List ℕ
hex_bytes [] = []
hex_bytes (a ∷ []) = []
hex_bytes (a ∷ b ∷ l) = (hex a * 16 + hex b) ∷ hex_bytes l

-- the number of the decimal digits `l`, written behind those of `n`, modulo 100,000
unfoldable pub decimal : ℕ → List ℕ → ℕ
decimal n [] = n
decimal n (c ∷ l) = decimal ((n * 10 + c % 16) % 100_000) l

-- a text and byte 10, `n` times
unfoldable pub lines : ℕ → List ℕ → List ℕ
lines zero text = []
lines (suc n) text = text ++ 10 ∷ lines n text

-- what `*N text` adds, by the place of the byte 32 between
abbrev pub times : Option ℕ → List ℕ → List ℕ
times None l = []
times (Some i) l = lines (decimal 0 (take i l)) (drop (i + 1) l)

abbrev pub repeated_text : List ℕ → List ℕ
repeated_text l = times (position (λ b. b == 32) l) l
