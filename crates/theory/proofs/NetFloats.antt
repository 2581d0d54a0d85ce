-- Over f64 every score, bound and listed value of a net within the limits is a small whole number: at most 64 rewards of at most 1,000,000.
-- So the drivers over f64 and over the integers go by the same values.
-- Assumes nothing.
use mathlib.Core.Path.{◌≡◌, refl, subst}
use mathlib.Core.Bool.{Bool, true, false, cond, ◌||◌}
use mathlib.Core.List.Memᴰ
use mathlib.Core.List.{List}
use mathlib.Core.Logic.{⊎_elim}
use Prim.Native.Nat.{ℕ, ◌*◌, ◌≤◌}
use native.Mathlib.Omega.{arith}
use native.Mathlib.Nat.{mul-suc, mul-le-mul_left}
use lib.Dec.{eqb, ltb}
use lib.IntN.{ℤ, nat_abs}
use lib.Ieee.{Float}
use lib.ListN.{length, get_or, length-map, get_or-eq_default}
use borrow.Author.Tests.{ltb-true, ltb-false}
use Rattle.words.proofs.Lists.{mem_get_d, by_test, filter_in, filter_passes}
use Rattle.whole.specs.Whole.{whole_f, Small, Whole}
use Rattle.whole.proofs.Ints.{ints, parts, nat_abs_add}
use Rattle.whole.proofs.Wholes.{whole}
use Rattle.rules.specs.Limits.{max_rows, max_number}
use Rattle.rules.specs.Net.{Net, Row, pay, is, rows_of, rewards}
use Rattle.rules.specs.Game.{Values, ◌∈◌}
use Rattle.rules.specs.Play.{Marking, score}
use Rattle.rules.specs.Rewards.{values}
use Rattle.rules.specs.Codes.{float_values}
use Rattle.rules.specs.Drivers.{single, scout, mtd}
use Rattle.rules.specs.NetGame.{low, high, int_game, int_scale, float_game, float_scale, driver_of}
use Rattle.theory.proofs.InStep.{Scales, Drivers}
use Rattle.theory.proofs.Floats.{SmallBetween, Stands, floats_scaled}
use Rattle.theory.proofs.Integers.{le_le_z}
use Rattle.theory.proofs.Sums.{Sum, none, without, with, lowest_sum, sum_highest, sum_lowest, sum_of_highest}
use Rattle.theory.proofs.Values.{values_listed}
use Rattle.theory.proofs.NetRules.{score_sum, net_rules}
use Rattle.theory.proofs.NetLimits.{NetLimits}
use Rattle.theory.proofs.SheetLimits.{is_kind}

-- a sum of rewards of size at most `n`
sum_size : (n : ℕ) {rs : List ℤ} {z : ℤ} → Sum rs z → ((r : ℤ) → r ∈ rs → nat_abs r ≤ n) → nat_abs z ≤ n * length rs
sum_size n none h = omega arith
sum_size n (without {rs} s) h = omega (arith, mul-suc n (length rs), sum_size n s (λ r i. h r (Memᴰ.tail i)))
sum_size n (with {r} {z} {rs} s) h =
    omega (arith, mul-suc n (length rs), nat_abs_add r z, h r (Memᴰ.head refl), sum_size n s (λ r i. h r (Memᴰ.tail i)))

module _ (net : Net) (L : NetLimits net) where
  reward_size : (r : ℤ) → r ∈ rewards net → nat_abs r ≤ max_number
  unfolding rows_of
  reward_size z i =
      let (r, j, e) = Memᴰ.of_map (λ (r : Row). r.n) (rows_of net pay) i in
      let kind : r.kind ≡ pay = is_kind pay r (filter_passes (is pay) net.rows j) in
      let (t, p, b) = rw kind at (L.part.row_limits r (filter_in (is pay) net.rows j)) in
      subst (λ (z : ℤ). nat_abs z ≤ max_number) e (omega (ints, parts r.n))

  pub sum_small : {z : ℤ} → Sum (rewards net) z → Small z
  sum_small {z} s =
      let few : length (rewards net) ≤ max_rows = rw (length-map (rows_of net pay) (λ r. r.n)) L.few_pays in
      record { size = omega (arith, sum_size max_number s reward_size, mul-le-mul_left max_number few) }

  pub sum_ranged : {z : ℤ} → Sum (rewards net) z → SmallBetween (low net) (high net) z
  sum_ranged s = record { is_small = sum_small s; from_low = le_le_z (lowest_sum s); to_high = le_le_z (sum_highest s) }

  pub score_whole : (m : Marking) → Whole (whole_f (score net m)) (score net m)
  score_whole m = whole (sum_small (score_sum net m))

  pub low_whole : Whole (whole_f (low net)) (low net)
  low_whole = whole (sum_small (sum_lowest (rewards net)))

  pub high_whole : Whole (whole_f (high net)) (high net)
  high_whole = whole (sum_small (sum_of_highest (rewards net)))

  -- what the drivers go by is a sum of rewards, also past the last
  at_sum : (n : ℕ) → Sum (rewards net) (get_or (values (rewards net)) n (high net))
  at_sum n =
      ⊎_elim (λ e. rw e (sum_of_highest (rewards net)))
      (λ h. by_test (ltb n (length (values (rewards net))))
      (λ l. h.is_sum (get_or (values (rewards net)) n (high net)) (mem_get_d (values (rewards net)) n (high net) (ltb-true _ _ l)))
      (λ l. rw (get_or-eq_default (values (rewards net)) (high net) (ltb-false n _ l)) (sum_of_highest (rewards net))))
      (values_listed (rewards net))

  -- `x` is the integer `z` between the bounds
  abbrev pub NetStands : ℤ → Float → Type 0
  NetStands = Stands (int_game net) (score net) (low net) (high net) (λ m. whole_f (score net m)) (whole_f (low net)) (whole_f (high net)) score_whole low_whole high_whole

  abbrev NetValues : Values Marking
  NetValues = float_values (λ m. whole_f (score net m)) (whole_f (low net)) (whole_f (high net))

  net_scales : Scales (int_game net) NetValues NetStands (int_scale net) (float_scale net)
  net_scales =
      floats_scaled (int_game net) (score net) (low net) (high net) (λ m. whole_f (score net m)) (whole_f (low net)) (whole_f (high net)) score_whole low_whole high_whole (net_rules net) _ _ _
      (λ n. record { is_whole = whole (sum_small (at_sum n)); ranged = sum_ranged (at_sum n) })

  pub net_drivers : (d : ℕ) → Drivers (int_game net) NetValues NetStands (driver_of (int_game net) (int_scale net) (values (rewards net)) d) (driver_of (float_game net) (float_scale net) (values (rewards net)) d)
  unfolding driver_of
  net_drivers d = go (eqb d 0 || ltb (length (values (rewards net))) 3) (eqb d 1)
    where
      go : (a b : Bool) → Drivers (int_game net) NetValues NetStands (cond a single (cond b (scout (int_scale net)) (mtd (int_scale net)))) (cond a single (cond b (scout (float_scale net)) (mtd (float_scale net))))
      go true b = tt
      go false true = net_scales
      go false false = net_scales
