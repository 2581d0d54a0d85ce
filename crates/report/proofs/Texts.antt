-- An answer's line as the pieces that are written: numbers in decimal by the library's definition. Assumes nothing.
use Rattle.std.proofs.Common.{◌≡◌, length, length-append, ℕ, zero, suc, ◌+◌, ◌/◌, ◌^◌, ◌<◌, ◌≤◌, ltb, ltb-true, ltb-false, List, [], ◌∷◌, ◌++◌, ℤ, pos, negsuc, ap, sym, ◌∙◌, refl, pow-suc, arith, append_assoc, w64, to_z, of_z, to_z-of_z}
use Rattle.std.proofs.lemmas.Fmt.{decimal_digit, decimal_step}
use Rattle.std.specs.Fmt.{decimal, signed_decimal}
use mathlib.Core.Option.{Option, none, some}
use lib.Ieee.{Float, to_signed}
use lib.Signed.{mag}
use lib.Ieee.Casts.{to_signed_in}
use Rattle.words.proofs.Lists.{by_test}
use Rattle.rules.specs.declared.Refusal.{Refusal}
use Rattle.rules.specs.declared.Answer.{Answer}
use Rattle.rules.specs.declared.Answer.TheVariants.{Exact, None, Spent, Refused}
use Rattle.rules.specs.Text.{bytes}
use Rattle.rules.specs.Answer.{refusal_number, columns, digits, shown, answer_line, report}

pub digits_decimal : (k n : ℕ) → n < 10 ^ suc k → n < 2 ^ 64 → digits k n ≡ decimal n
unfolding digits
digits_decimal zero n h f = ap (λ (x : ℕ). (48 + x) ∷ []) (native.Mathlib.Nat.mod-eq_of_lt h) ∙ sym (decimal_digit n h)
digits_decimal (suc k) n h f =
    by_test (ltb n 10) (λ e. rw e (sym (decimal_digit n (ltb-true n 10 e))))
    (λ e. rw e (rw (digits_decimal k (n / 10) (omega (arith, pow-suc 10 (suc k))) (omega arith)) (sym (decimal_step n (ltb-false n 10 e) f))))

pub shown_decimal : (n : ℕ) → n < 2 ^ 64 → shown (some (pos n)) ≡ decimal n
unfolding shown
shown_decimal n f = digits_decimal 19 n (omega arith) f

pub shown_signed : (z : ℤ) → mag z < 2 ^ 63 → shown (some z) ≡ signed_decimal z
unfolding shown
shown_signed (pos n) f = digits_decimal 19 n (omega arith) (omega arith)
shown_signed (negsuc n) f = ap (λ (l : List ℕ). 45 ∷ l) (digits_decimal 19 (suc n) (omega arith) (omega arith))

pub exact_text : (t n : ℕ) (v : Float) → t < 2 ^ 64 → n < 2 ^ 64 → mag (to_signed 63 v) < 2 ^ 63
    → answer_line (Exact t v n) ≡ bytes "exact " ++ (decimal t ++ (bytes " " ++ (signed_decimal (to_signed 63 v) ++ (bytes " " ++ (decimal n ++ bytes "\n")))))
unfolding answer_line
exact_text t n v a b f = rw (sym (shown_decimal t a), sym (shown_decimal n b), sym (shown_signed (to_signed 63 v) f)) (simp append_assoc)

pub none_text : answer_line None ≡ bytes "none - - 0\n"
unfolding answer_line shown digits
none_text = refl

pub spent_text : (n : ℕ) → n < 2 ^ 64 → answer_line (Spent n) ≡ bytes "spent - - " ++ (decimal n ++ bytes "\n")
unfolding answer_line shown
spent_text n b = rw (sym (shown_decimal n b)) (simp append_assoc)

pub refused_text : (x : Refusal) (l n k : ℕ) → k ≡ refusal_number x → k < 2 ^ 64 → l < 2 ^ 64 → n < 2 ^ 64
    → answer_line (Refused x l n) ≡ bytes "refused " ++ (decimal k ++ (bytes " " ++ (decimal l ++ (bytes " " ++ (decimal n ++ bytes "\n")))))
unfolding answer_line
refused_text x l n k e a b f = rw (sym (shown_decimal k a), sym (shown_decimal l b), sym (shown_decimal n f), e) (simp append_assoc)

-- a whole part, as it is handed on
pub passed : {z : ℤ} (v : Float) → z ≡ to_signed 63 v → to_z w64 (of_z w64 z) ≡ to_signed 63 v
passed {z} v e = ap (λ (y : ℤ). to_z w64 (of_z w64 y)) e ∙ to_z-of_z {w = w64} (record { sfits = to_signed_in 63 v })

-- ---- a report has at most 128 bytes

digits_length : (k n : ℕ) → length (digits k n) ≤ suc k
unfolding digits
digits_length zero n = omega arith
digits_length (suc k) n =
    by_test (ltb n 10)
    (λ e. rw e (omega arith))
    (λ e. rw e (simp length-append (omega (arith, digits_length k (n / 10)))))

shown_length : (z : Option ℤ) → length (shown z) ≤ 21
unfolding shown
shown_length none = omega arith
shown_length (some (pos n)) = omega (arith, digits_length 19 n)
shown_length (some (negsuc n)) = omega (arith, digits_length 19 (suc n))

word_length : (a : Answer) → length (columns a).word ≤ 7
word_length (Exact t v n) = omega arith
word_length None = omega arith
word_length (Spent n) = omega arith
word_length (Refused x l n) = omega arith

pub fits : (a : Answer) → length (report a) ≤ 128
unfolding report answer_line
fits a =
    simp length-append (omega (arith, word_length a, shown_length (columns a).move, shown_length (columns a).value, shown_length (some (pos (columns a).nodes))))
