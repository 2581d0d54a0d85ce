-- The scale of values: what lies between neighbouring rungs, and where a value falls.
-- Assumes nothing.
use mathlib.Core.Path.{◌≡◌, refl, sym, ap, ◌∙◌}
use mathlib.Core.Bool.{Bool, true, false, not, cond}
use mathlib.Core.Logic.{◌⊎◌, inl, inr}
use Prim.Native.Nat.{ℕ, zero, suc, ◌+◌, ◌-◌, ◌≤◌, ◌<◌}
use native.Mathlib.Omega.{arith}
use native.Mathlib.Nat.{eq-or-lt_of_le, lt_of_not-le}
use borrow.Author.Tests.{not-true, not-false}
use Rattle.rules.specs.Game.{Game, Side, max, min, opp, Le, worst}
use Rattle.rules.specs.Search.{window}
use Rattle.rules.specs.Drivers.{Scale, rung, onward, point, below, upto}
use Rattle.rules.specs.Forces.{Forces}
use Rattle.theory.specs.Ends.{Lt, End, bound, scored}
use Rattle.theory.proofs.Order.{le_refl, le_trans, lt_le, lt_not_le, lt_le_trans, flip_le, flip_lt}
use Rattle.theory.proofs.Forces.{round}
use Rattle.theory.proofs.Laws.{Rules, Scaled}

module _ (G : Game) (R : Rules G) (σ : Scale G) (T : Scaled G σ) where
  open G use {Value, leb}
  open σ use {gaps, at}
  open T use {at_low, at_high, ascending, at_score, above_low, above_high}

  -- the rungs of a side's scale

  pub rung_lt : (s : Side) (i j : ℕ) → i < j → j ≤ gaps → Lt G s (rung G σ s i) (rung G σ s j)
  unfolding rung
  rung_lt max i j h k = ascending i j h k
  rung_lt min i j h k = flip_lt G R (ascending (gaps - j) (gaps - i) (omega arith) (omega arith))

  rung_le : (s : Side) (i j : ℕ) → i ≤ j → j ≤ gaps → Le G s (rung G σ s i) (rung G σ s j)
  rung_le s i j h k = go (eq-or-lt_of_le h)
    where
      go : (i ≡ j) ⊎ (i < j) → Le G s (rung G σ s i) (rung G σ s j)
      go (inl e) = rw e (le_refl G R)
      go (inr l) = lt_le G R (rung_lt s i j l k)

  -- an order of rungs is one of their numbers
  pub rung_le_inv : (s : Side) (i j : ℕ) → i ≤ gaps → Le G s (rung G σ s i) (rung G σ s j) → i ≤ j
  rung_le_inv s i j k h = let l : i < suc j = lt_of_not-le (λ (x : suc j ≤ i). lt_not_le G R (rung_lt s j i x k) h) in omega arith

  rung_lt_inv : (s : Side) (i j : ℕ) → i ≤ gaps → Lt G s (rung G σ s i) (rung G σ s j) → i < j
  rung_lt_inv s i j k h = lt_of_not-le (λ (x : j ≤ i). lt_not_le G R h (rung_le s j i x k))

  pub rung_worst : (s : Side) → rung G σ s 0 ≡ worst G s
  unfolding rung
  rung_worst max = at_low
  rung_worst min = let e : gaps - 0 ≡ gaps = omega arith in ap at e ∙ at_high

  pub rung_best : (s : Side) → rung G σ s gaps ≡ worst G (opp s)
  unfolding rung
  rung_best max = at_high
  rung_best min = let e : gaps - gaps ≡ 0 = omega arith in ap at e ∙ at_low

  -- every end of play is a rung
  pub end_rung : (s : Side) (c : Value) → End G c → (n : ℕ) × (n ≤ gaps) × (c ≡ rung G σ s n)
  unfolding rung
  end_rung s c e = go s (here e)
    where
      here : {c : Value} → End G c → (n : ℕ) × (n ≤ gaps) × (c ≡ at n)
      here (bound max) = (0, omega arith, sym at_low)
      here (bound min) = (gaps, omega arith, sym at_high)
      here (scored p) = at_score p

      go : (s : Side) → (n : ℕ) × (n ≤ gaps) × (c ≡ at n) → (n : ℕ) × (n ≤ gaps) × (c ≡ rung G σ s n)
      go max x = x
      go min (n, h, e) = let k : gaps - (gaps - n) ≡ n = omega arith in (gaps - n, omega arith, e ∙ sym (ap at k))

  -- no end of play lies between neighbours

  pub next_rung : (s : Side) (n : ℕ) (c : Value) → suc n ≤ gaps → End G c → Lt G s (rung G σ s n) c → Le G s (rung G σ s (suc n)) c
  next_rung s n c h e l =
      let (m, k, x) = end_rung s c e in
      rw x (rung_le s (suc n) m (rung_lt_inv s n m (omega arith) (rw x at l)) k)

  pub previous_rung : (s : Side) (n : ℕ) (c : Value) → suc n ≤ gaps → End G c → Lt G s c (rung G σ s (suc n)) → Le G s c (rung G σ s n)
  previous_rung s n c h e l =
      let (m, k, x) = end_rung s c e in
      let i = rung_lt_inv s m (suc n) k (rw x at l) in
      rw x (rung_le s m n (omega arith) (omega arith))

  -- the test of scout says which side of the gap a value is on

  pub onward_low : (s : Side) (α β v : Value) → Lt G s α β → Le G s v α → onward G σ s (window s α β) v ≡ false
  unfolding onward
  onward_low max α β v h l = above_low α β v h l
  onward_low min α β v h l = ap not (above_high β α v (flip_lt G R h) (flip_le G R l))

  pub onward_high : (s : Side) (α β v : Value) → Lt G s α β → Le G s β v → onward G σ s (window s α β) v ≡ true
  unfolding onward
  onward_high max α β v h l = above_high α β v h l
  onward_high min α β v h l = ap not (above_low β α v (flip_lt G R h) (flip_le G R l))

  -- where a value falls on the scale: `point` is the first value that fails the test, of those that are looked at

  record Point (test : Value → Bool) (from end m : ℕ) : Type 0 where
    least : from ≤ m
    most : m ≤ end
    passed : (i : ℕ) → from ≤ i → i < m → test (at i) ≡ true
    failed : m < end → test (at m) ≡ false

  point_spec : (test : Value → Bool) (r n : ℕ) → Point test n (r + n) (point G σ test r n)
  unfolding point
  point_spec test zero n = record { least = omega arith; most = omega arith; passed = λ i h k. absurd (omega arith); failed = λ h. absurd (omega arith) }
  point_spec test (suc r) n = go (point_spec test r (suc n)) (test (at n)) refl
    where
      go : Point test (suc n) (r + suc n) (point G σ test r (suc n)) → (x : Bool) → test (at n) ≡ x → Point test n (suc r + n) (cond x (point G σ test r (suc n)) n)
      go h false e = record { least = omega arith; most = omega arith; passed = λ i k l. absurd (omega arith); failed = λ k. e }
      go h true e = record { least = omega (arith, h.least); most = omega (arith, h.most); passed = λ i k l. first i (eq-or-lt_of_le k) l; failed = λ k. h.failed (omega arith) }
        where
          first : (i : ℕ) → (n ≡ i) ⊎ (n < i) → i < point G σ test r (suc n) → test (at i) ≡ true
          first i (inl y) l = rw (← y) e
          first i (inr y) l = h.passed i y l

  -- what is below `v` comes before `below v`
  pub below_spec : (v : Value) (n : ℕ) → n ≤ gaps → (Lt G max (at n) v → n < below G σ v) × (Le G max v (at n) → below G σ v ≤ n)
  unfolding below rung
  below_spec v n h = (before, after)
    where
      x : Point (λ y. not (leb v y)) 0 (suc gaps + 0) (below G σ v)
      x = point_spec (λ y. not (leb v y)) (suc gaps) 0

      before : Lt G max (at n) v → n < below G σ v
      before l = lt_of_not-le (λ (k : below G σ v ≤ n).
          let y : Le G max v (at (below G σ v)) = record { holds = not-false _ (x.failed (omega arith)) } in
          lt_not_le G R l (le_trans G R y (rung_le max (below G σ v) n k h)))

      after : Le G max v (at n) → below G σ v ≤ n
      after l =
          let k : below G σ v < suc n = lt_of_not-le (λ (k : suc n ≤ below G σ v).
          let y : Lt G max (at n) v = record { holds = not-true _ (x.passed n (omega arith) k) } in lt_not_le G R y l) in
          omega arith

  -- what is at most `v` comes before `upto v`
  pub upto_spec : (v : Value) (n : ℕ) → n ≤ gaps → (Le G max (at n) v → n < upto G σ v) × (Lt G max v (at n) → upto G σ v ≤ n)
  unfolding upto rung
  upto_spec v n h = (before, after)
    where
      x : Point (λ y. leb y v) 0 (suc gaps + 0) (upto G σ v)
      x = point_spec (λ y. leb y v) (suc gaps) 0

      before : Le G max (at n) v → n < upto G σ v
      before l = lt_of_not-le (λ (k : upto G σ v ≤ n).
          let y : Lt G max v (at (upto G σ v)) = record { holds = x.failed (omega arith) } in
          lt_not_le G R (lt_le_trans G R y (rung_le max (upto G σ v) n k h)) l)

      after : Lt G max v (at n) → upto G σ v ≤ n
      after l =
          let k : upto G σ v < suc n = lt_of_not-le (λ (k : suc n ≤ upto G σ v).
          let y : Le G max (at n) v = record { holds = x.passed n (omega arith) k } in lt_not_le G R l y) in
          omega arith

  pub upto_most : (v : Value) → upto G σ v ≤ suc gaps
  unfolding upto
  upto_most v = let x = point_spec (λ y. leb y v) (suc gaps) 0 in omega (arith, x.most)

  -- a bound below moves up to the next value, and a bound above down to the one before
  pub rise : (v : Value) (n : ℕ) {p : G.Pos} → n ≤ below G σ v → n ≤ gaps → Forces G max v p → Forces G max (at n) p
  unfolding rung
  rise v n h k = round G R up
    where
      up : (c : Value) → End G c → Le G max v c → Le G max (at n) c
      up c e l =
          let (m, i, x) = end_rung max c e in
          let y = (below_spec v m i).1 (rw x at l) in
          rw x (rung_le max n m (omega arith) i)

  pub fall : (v : Value) (n : ℕ) {p : G.Pos} → upto G σ v ≤ suc n → n ≤ gaps → Forces G min v p → Forces G min (at n) p
  unfolding rung
  fall v n h k = round G R down
    where
      down : (c : Value) → End G c → Le G min v c → Le G min (at n) c
      down c e l =
          let (m, i, x) = end_rung max c e in
          let y = (upto_spec v m i).0 (rw x at (flip_le G R l)) in
          rw x (flip_le G R (rung_le max m n (omega arith) k))
