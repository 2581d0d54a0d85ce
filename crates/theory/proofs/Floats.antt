-- f64 AND INTEGERS: a call over f64 runs in step with the same call over integers, with the same memo, where scores and bounds are whole.
-- Assumes nothing.
use mathlib.Core.Path.{◌≡◌, refl, sym, ap, ◌∙◌}
use mathlib.Core.Bool.{true, false}
use mathlib.Core.Option.{some}
use mathlib.Core.List.{List}
use Prim.Native.Nat.{ℕ, ◌^◌}
use native.Mathlib.Omega.{arith}
use lib.Dec.{eqb}
use lib.IntN.{ℤ}
use lib.Signed.{le_z}
use lib.Ieee.{Float, binary64, of_bits, to_bits}
use borrow.Author.Tests.{eq-eqb}
use Rattle.whole.specs.Whole.{whole_f, Small, Whole}
use Rattle.whole.proofs.Wholes.{whole, bits_back, neg_zero_bits, neg_zero_back, not_neg_zero, whole_to_signed, le_whole, midpoint_lt}
use Rattle.std.proofs.lemmas.Bool.{ne_eqb}
use Rattle.rules.specs.Game.{Game, Values, valued, max, min}
use Rattle.rules.specs.Memo.{Shape, memory}
use Rattle.rules.specs.Codes.{float_number, float_code, int_bits, int_number, int_code, int_values, float_values, int_above, float_above}
use Rattle.theory.specs.Ends.{End, bound, scored}
use Rattle.theory.proofs.Answer.{end_inside}
use Rattle.theory.proofs.Memo.{Fitted}
use Rattle.theory.proofs.Simulation.{Related, InStep}
use Rattle.theory.proofs.InStep.{Scales}
use Rattle.theory.proofs.MemoInStep.{Codes, SameMemo, memo_in_step}
use Rattle.theory.proofs.Laws.{Rules}

-- between two integers, and small
pub record SmallBetween (low high z : ℤ) : Type 0 where
  pub is_small : Small z
  pub from_low : le_z low z ≡ true
  pub to_high : le_z z high ≡ true

-- a word that is the bits of such an integer reads as it, and as its f64

pub int_reads : {low high z : ℤ} → SmallBetween low high z → int_number low high (int_bits z) ≡ some z
unfolding int_number int_bits
int_reads {z} h =
    let w = whole h.is_small in
    rw (bits_back w, whole_to_signed w, eq-eqb (to_bits binary64 (whole_f z)) (to_bits binary64 (whole_f z)) refl, h.from_low, h.to_high) refl

-- no such word is -0.0's
not_neg_zero_bits : {z : ℤ} → Small z → eqb (int_bits z) (2 ^ 63) ≡ false
unfolding int_bits
not_neg_zero_bits {z} h = ne_eqb _ _ (λ e. not_neg_zero z (omega (arith, h.size)) (sym (bits_back (whole h)) ∙ ap (of_bits binary64) (e ∙ sym neg_zero_bits) ∙ neg_zero_back))

float_reads : {low high z : ℤ} {x y : Float} → Whole x low → Whole y high → SmallBetween low high z → float_number x y (int_bits z) ≡ some (whole_f z)
unfolding float_number int_bits
float_reads v u h =
    let w = whole h.is_small in
    rw (not_neg_zero_bits h.is_small, bits_back w, le_whole v w, le_whole w u, h.from_low, h.to_high) refl

-- Play `P`, integer scores and bounds, and the f64 that they are.
module _ (P : Game) (score : P.Pos → ℤ) (low high : ℤ) (float_score : P.Pos → Float) (float_low float_high : Float)
    (score_whole : (p : P.Pos) → Whole (float_score p) (score p)) (low_whole : Whole float_low low) (high_whole : Whole float_high high) where
  abbrev pub Z : Game
  Z = valued P (int_values score low high)

  abbrev pub W : Values P.Pos
  W = float_values float_score float_low float_high

  -- `x` is the integer `z`, which lies between the bounds
  pub record Stands (z : ℤ) (x : Float) : Type 0 where
    pub is_whole : Whole x z
    pub ranged : SmallBetween low high z

  module _ (R : Rules Z) where
    end_small : {z : ℤ} → End Z z → Small z
    end_small (bound max) = low_whole.small
    end_small (bound min) = high_whole.small
    end_small (scored p) = (score_whole p).small

    pub end_ranged : {z : ℤ} → End Z z → SmallBetween low high z
    end_ranged e = record { is_small = end_small e; from_low = (end_inside Z R e max).holds; to_high = (end_inside Z R e min).holds }

    floats_related : Related Z W Stands
    floats_related = record {
      leb_same = λ a b x y h k. sym (le_whole h.is_whole k.is_whole);
      low_rel = record { is_whole = low_whole; ranged = end_ranged (bound max) };
      high_rel = record { is_whole = high_whole; ranged = end_ranged (bound min) };
      score_rel = λ p. record { is_whole = score_whole p; ranged = end_ranged (scored p) };
    }

    bits_of : (z : ℤ) (x : Float) → Stands z x → int_bits z ≡ to_bits binary64 x
    unfolding int_bits
    bits_of z x h = ap (to_bits binary64) (sym h.is_whole.is)

    -- scout's and MTD's values, and the tests of their middles
    pub floats_scaled : (gaps : ℕ) (at : ℕ → ℤ) (FloatAt : ℕ → Float) → ((n : ℕ) → Stands (at n) (FloatAt n)) →
        Scales Z W Stands (record { gaps = gaps; at = at; above = int_above }) (record { gaps = gaps; at = FloatAt; above = float_above })
    floats_scaled gaps at FloatAt h = record { gaps_same = refl; at_rel = h; above_same = λ a b v x y u k l n. sym (midpoint_lt k.is_whole l.is_whole n.is_whole) }

    module _ (s : Shape) (key : P.Pos → List ℕ) where
      pub floats_coded : Codes s Z W (int_code low high) (float_code float_low float_high) key (SmallBetween low high) Stands
      floats_coded = record {
        rel_ok = λ z x h. h.ranged;
        bits_same = bits_of;
        number_rel = λ z h. (whole_f z, float_reads low_whole high_whole h, record { is_whole = whole h.is_small; ranged = h });
      }

      -- The memo is the same over integers and over f64.
      pub floats_in_step : (Real : P.Pos → Type 0) → Fitted s Z (int_code low high) key (SmallBetween low high) Real →
          InStep Z W (memory s Z (int_code low high) key) (memory s (valued Z W) (float_code float_low float_high) key) Stands
          (SameMemo s Z (int_code low high) key (SmallBetween low high)) Real
      floats_in_step Real F = memo_in_step s Z W (int_code low high) (float_code float_low float_high) key (SmallBetween low high) Stands floats_related floats_coded Real F R
