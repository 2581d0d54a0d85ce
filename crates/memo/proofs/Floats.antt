-- f64 that are no NaN. Assumes nothing.
use mathlib.Core.Path.{◌≡◌, refl}
use mathlib.Core.Bool.{true, false}
use lib.Ieee.{Float, nan, inf, fin, lt, le, eq, is_nan}
use Rattle.words.proofs.Lists.{not_both}
use Rattle.memo.specs.Facts.{Real}

-- no order with a NaN
le_nan : (x : Float) → le x nan ≡ false
unfolding le lt eq
le_nan nan = refl
le_nan (inf s) = refl
le_nan (fin s m e) = refl

nan_le : (x : Float) → le nan x ≡ false
unfolding le lt eq
nan_le x = refl

pub real_left : (x y : Float) → le x y ≡ true → Real x
unfolding is_nan
real_left nan y e = absurd (not_both (le nan y) e (nan_le y))
real_left (inf s) y e = tt
real_left (fin s m d) y e = tt

pub real_right : (x y : Float) → le x y ≡ true → Real y
unfolding is_nan
real_right x nan e = absurd (not_both (le x nan) e (le_nan x))
real_right x (inf s) e = tt
real_right x (fin s m d) e = tt
