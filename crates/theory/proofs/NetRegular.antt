-- The premises on play, in 01's words, are those of the theory: at most 64 moves to a line are fewer than 65.
-- Assumes nothing.
use mathlib.Core.Path.{◌≡◌, refl}
use mathlib.Core.Bool.{true, true≢false}
use mathlib.Core.Option.{Option, none, some}
use mathlib.Core.List.{List, [], ◌∷◌}
use mathlib.Core.Logic.{◌⊎◌, inl, inr}
use Prim.Native.Nat.{ℕ, zero, suc}
use Rattle.rules.specs.Net.{Net}
use Rattle.rules.specs.Game.{Side}
use Rattle.rules.specs.Play.{Marking, moves, mover}
use Rattle.rules.specs.Premises.{Premises}
use Rattle.rules.specs.NetGame.{int_game, levels}
use Rattle.theory.specs.Regular.{Turn, Regular}
use Rattle.theory.proofs.Fits.{sided, fits, Playable, fit, premises_fits}

module _ (net : Net) where
  fits_regular : (d : ℕ) (m : Marking) → fits net d m ≡ true → Regular (int_game net) d m
  unfolding fits
  fits_regular zero m e = absurd (true≢false (cc))
  fits_regular (suc d) m e = let f = fit net d m e in record { narrow = f.narrow; turn = go f (fits_regular d) (moves net m) refl (mover net m) refl f.side }
    where
      go : Playable net d m → ((q : Marking) → fits net d q ≡ true → Regular (int_game net) d q) → (l : List ℕ) → moves net m ≡ l → (o : Option Side) → mover net m ≡ o → sided l o ≡ true
          → (moves net m ≡ []) ⊎ Turn (int_game net) (Regular (int_game net) d) m
      go f below [] k o h s = inl k
      go f below (t ∷ l) k none h s = absurd (true≢false (cc))
      go f below (t ∷ l) k (some o) h s = inr (record { side = o; moves_of = h; next = λ u i. let (q, p, x) = f.next u i in (q, p, below q x) })

  pub premises_regular : (m : Marking) → Premises net m → Regular (int_game net) levels m
  premises_regular m P = fits_regular levels m (premises_fits net m P)
