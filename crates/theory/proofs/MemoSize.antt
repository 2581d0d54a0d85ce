-- The memo never grows at this size (01, "The memo"): memo.rs starts with as many buckets as it may ever have, for every number of entries that 01 allows.
-- Assumes nothing.
use mathlib.Core.Path.{◌≡◌}
use Prim.Native.Nat.{ℕ, ◌/◌, ◌≤◌, ◌<◌, max as maxℕ, min as minℕ}
use native.Mathlib.Omega.{arith}
use native.Mathlib.Nat.{le-div_iff_mul-le, div-mul-le_self}
use Rattle.rules.specs.Limits.{max_entries, max_ways}

-- the slots that memo.rs starts with, at most (START)
abbrev start_slots : ℕ
start_slots = 1024

-- the buckets of memo.rs at its start are the most that it grows to, for ways as 01 has them
pub never_grows : (entries : ℕ) → 1 ≤ entries → entries ≤ max_entries →
    maxℕ (minℕ (entries / minℕ max_ways entries) (start_slots / minℕ max_ways entries)) 1 ≡ entries / minℕ max_ways entries
never_grows entries some few = go (minℕ max_ways entries) (omega arith) (omega arith)
  where
    go : (w : ℕ) → 0 < w → w ≤ entries → maxℕ (minℕ (entries / w) (start_slots / w)) 1 ≡ entries / w
    go w p l =
        let one : 1 ≤ entries / w = (le-div_iff_mul-le p).1 (omega arith) in
        let most : entries / w ≤ start_slots / w = (le-div_iff_mul-le p).1 (omega (arith, div-mul-le_self entries w)) in
        omega arith
