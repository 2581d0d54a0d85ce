-- What tests joined by `&&` and `||` say where they fail.
-- Assumes nothing.
use mathlib.Core.Path.{◌≡◌, refl}
use mathlib.Core.Bool.{Bool, true, false, ◌&&◌, ◌||◌}
use mathlib.Core.Logic.{◌⊎◌, inl, inr}

pub or_false : (x y : Bool) → x || y ≡ false → (x ≡ false) × (y ≡ false)
or_false true y e = (e, cc)
or_false false y e = (refl, e)

pub and_false : (x y : Bool) → x && y ≡ false → (x ≡ false) ⊎ (y ≡ false)
and_false true y e = inr e
and_false false y e = inl refl
