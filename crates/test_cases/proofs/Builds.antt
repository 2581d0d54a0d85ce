-- What is left of a line's digits, of its bytes in hexadecimal and of its repeated text, by one step. Assumes nothing.
use Rattle.std.proofs.Common.{◌≡◌, [], ◌∷◌, ◌++◌, ◌<◌, ◌≤◌, ◌+◌, ◌-◌, ◌*◌, ◌%◌, ℕ, zero, suc, List, length, get_or, drop, refl, add-one, drop-cons, arith}
use Rattle.test_cases.specs.Sheet.{hex, hex_bytes, decimal, lines}

pub decimal_next : (l : List ℕ) (i n : ℕ) → i < length l → decimal ((n * 10 + get_or l i 0 % 16) % 100_000) (drop (i + 1) l) ≡ decimal n (drop i l)
unfolding decimal
decimal_next l i n b = rw (add-one i) (let e : drop i l ≡ get_or l i 0 ∷ drop (suc i) l = drop-cons l i 0 b in rw e refl)

pub hex_next : (a l : List ℕ) → length a ≡ 2 → hex_bytes (a ++ l) ≡ (hex (get_or a 0 0) * 16 + hex (get_or a 1 0)) ∷ hex_bytes l
unfolding hex_bytes
hex_next (x ∷ y ∷ []) l e = refl
hex_next [] l e = absurd (omega (arith, e))
hex_next (x ∷ []) l e = absurd (omega (arith, e))
hex_next (x ∷ y ∷ z ∷ a) l e = absurd (omega (arith, e))

pub hex_end : (l : List ℕ) → length l < 2 → hex_bytes l ≡ []
unfolding hex_bytes
hex_end [] b = refl
hex_end (x ∷ []) b = refl
hex_end (x ∷ y ∷ l) b = absurd (omega (arith, b))

pub lines_next : (n i : ℕ) (text : List ℕ) → i < n → lines (n - i) text ≡ text ++ 10 ∷ lines (n - (i + 1)) text
unfolding lines
lines_next n i text b = let e : n - i ≡ suc (n - (i + 1)) = omega (arith, b) in rw e refl

pub lines_end : (n i : ℕ) (text : List ℕ) → n ≤ i → lines (n - i) text ≡ []
unfolding lines
lines_end n i text b = let e : n - i ≡ zero = omega (arith, b) in rw e refl
