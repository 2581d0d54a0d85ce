-- THEOREM 3: each driver finds the value that both sides force.
-- Assumes nothing.
use mathlib.Core.Path.{◌≡◌, refl}
use mathlib.Core.Bool.{Bool, true, false, true≢false}
use mathlib.Core.Option.{Option, none, some}
use mathlib.Core.List.{List, [], ◌∷◌}
use mathlib.Core.Logic.{◌⊎◌, inl, inr}
use Prim.Native.Nat.{ℕ, zero, suc, ◌+◌, ◌-◌, ◌/◌, ◌≤◌, ◌<◌, max as maxℕ, min as minℕ}
use native.Mathlib.Omega.{arith}
use native.Mathlib.Nat.{le_trans}
use lib.Dec.{ltb}
use borrow.Author.Tests.{ltb-true, ltb-false}
use Rattle.rules.specs.Game.{Game, Side, max, min, opp, Le, worst}
use Rattle.rules.specs.Search.{Entry, window, Settings, State, Run, Search}
use Rattle.rules.specs.Drivers.{Scale, Driver, single, scout, mtd, rung, onward, below, upto, sided, begun, stepped, scout_from, mtd_next, mtd_test, mtd_from, mtd_begin, run}
use Rattle.rules.specs.Forces.{Forces, floor, final, Exact}
use Rattle.theory.specs.Ends.{Lt}
use Rattle.theory.proofs.Order.{le_refl, le_or_lt, le_lt_trans, lt_le_trans, flip_le, unflip_le, flip_lt}
use Rattle.theory.proofs.Forces.{round, consistent, exact_of}
use Rattle.theory.proofs.Answer.{Certified, WindowSays, open_window, answer_own, answer_other, Sound, get_certified, Fine, fine_map, fine_then, SoundSearch}
use Rattle.theory.proofs.Scale.{rung_lt, rung_le_inv, rung_worst, rung_best, next_rung, previous_rung, onward_low, onward_high, below_spec, upto_spec, upto_most, rise, fall}
use Rattle.theory.proofs.Laws.{Lawful, Scaled, Driven}

-- the arithmetic of a test of MTD(f) at gap `k` between `i` and `j`

middle : (i j : ℕ) → i < j → suc (i + (j - i - 1) / 2) ≤ j
middle i j h = omega arith

rise_to : (i j k b r : ℕ) → i ≤ k → suc k ≤ j → k < b → j - i ≤ suc r → (maxℕ i (minℕ b j) ≤ j) × (j - maxℕ i (minℕ b j) ≤ r) × (maxℕ i (minℕ b j) ≤ b)
rise_to i j k b r ik kj kb ji = (omega arith, omega arith, omega arith)

fall_to : (i j k u r : ℕ) → i ≤ k → suc k ≤ j → u ≤ suc k → j - i ≤ suc r → (maxℕ i (minℕ j (maxℕ u 1 - 1)) ≤ j) × (maxℕ i (minℕ j (maxℕ u 1 - 1)) - i ≤ r) × (u ≤ suc (maxℕ i (minℕ j (maxℕ u 1 - 1))))
fall_to i j k u r ik kj uk ji = (omega arith, omega arith, omega arith)

module _ (G : Game) (S : Settings G) (M : Lawful G S) where
  open G use {Value, leb, Pos, moves, mover, low, high}
  open S.memory use {get}
  open M use {rules as R}
  open M.table use {Real}

  -- what a run is to give
  abbrev pub ExactRun : Pos → Run G S Value → Type 0
  ExactRun p r = (st : State S) → Sound G S M st.memo → Fine G S M (λ v. Exact G v p) (r st)

  module _ (σ : Scale G) (T : Scaled G σ) (f : Search G S) (ih : SoundSearch G S M f) (p : Pos) (real : Real p) where
    open σ use {gaps, at}

    -- Scout. Invariant: `s` forces the rung that it stands on.
    scout_exact : (s : Side) (r n : ℕ) → r + n ≡ gaps → Forces G s (rung G σ s n) p → ExactRun p (scout_from G S σ f p s r n)
    unfolding scout_from stepped
    scout_exact s zero n e h st sound = record { sound = sound; gives = exact_of G R s h (floor top) }
      where
        top : Le G (opp s) (rung G σ s n) (worst G (opp s))
        top = let k : n ≡ gaps = omega arith in rw (k, rung_best G R σ T s) (le_refl G R)
    scout_exact s (suc r) n e h st sound =
        fine_then G S M _ _ st (ih p (window s α β) st real sound (open_window G R s α β (inl αβ))) (λ v z k a. go (scout_exact s r (suc n) (omega arith)) v z k a (onward G σ s (window s α β) v) refl)
      where
        α : Value
        α = rung G σ s n

        β : Value
        β = rung G σ s (suc n)

        here : suc n ≤ gaps
        here = omega arith

        αβ : Lt G s α β
        αβ = rung_lt G R σ T s n (suc n) (omega arith) here

        go : (Forces G s β p → ExactRun p (scout_from G S σ f p s r (suc n))) → (v : Value) (z : State S) → Sound G S M z.memo → WindowSays G (window s α β) p v → (x : Bool) → onward G σ s (window s α β) v ≡ x →
            Fine G S M (λ u. Exact G u p) (stepped G S x α (scout_from G S σ f p s r (suc n)) z)
        go rest v z k a true o = rest (round G R (λ c end l. next_rung G R σ T s n c here end (lt_le_trans G R (passed (le_or_lt G R s v α)) l)) (answer_own G R s α β a (passed (le_or_lt G R s v α)))) z k
          where
            passed : Le G s v α ⊎ Lt G s α v → Lt G s α v
            passed (inl l) = let x = onward_low G R σ T s α β v αβ l in absurd (true≢false (cc))
            passed (inr l) = l
        go rest v z k a false o = record { sound = k; gives = exact_of G R s h (round G R (λ c end l. flip_le G R (previous_rung G R σ T s n c here end (le_lt_trans G R (unflip_le G R l) (short (le_or_lt G R s β v))))) (answer_other G R s α β a (short (le_or_lt G R s β v)))) }
          where
            short : Le G s β v ⊎ Lt G s v β → Lt G s v β
            short (inl l) = let x = onward_high G R σ T s α β v αβ l in absurd (true≢false (cc))
            short (inr l) = l

    -- MTD(f). Invariant: `max` forces `at i`, and `min` forces `at j`.
    mtd_exact : (r i j : ℕ) → i ≤ j → j ≤ gaps → j - i ≤ r → Forces G max (at i) p → Forces G min (at j) p → ExactRun p (mtd_from G S σ f p r i j)
    unfolding mtd_from mtd_test mtd_next rung
    mtd_exact zero i j ij jg jr hi hj st sound = let e : i ≡ j = omega arith in record { sound = sound; gives = exact_of G R max hi (rw e hj) }
    mtd_exact (suc r) i j ij jg jr hi hj st sound = test (ltb i j) refl (mtd_exact r)
      where
        Rest : Type 0
        Rest = (i j : ℕ) → i ≤ j → j ≤ gaps → j - i ≤ r → Forces G max (at i) p → Forces G min (at j) p → ExactRun p (mtd_from G S σ f p r i j)

        next : Rest → (k : ℕ) → i ≤ k → suc k ≤ j → (v : Value) (z : State S) → Sound G S M z.memo → WindowSays G (record { lo = at k; hi = at (suc k) }) p v → (x : Bool) → leb (at (suc k)) v ≡ x →
            Fine G S M (λ u. Exact G u p) (mtd_next G S σ x v i j (mtd_from G S σ f p r) z)
        next rest k ik kj v z sd a true e =
            let kv : Lt G max (at k) v = lt_le_trans G R (rung_lt G R σ T max k (suc k) (omega arith) (omega arith)) (record { holds = e }) in
            let (x, y, b) = rise_to i j k (below G σ v) r ik kj ((below_spec G R σ T v k (omega arith)).0 kv) jr in
            rest _ j x jg y (rise G R σ T v _ b (le_trans x jg) (a.forced max kv)) hj z sd
        next rest k ik kj v z sd a false e =
            let vk : Lt G max v (at (suc k)) = record { holds = e } in
            let (x, y, u) = fall_to i j k (upto G σ v) r ik kj ((upto_spec G R σ T v (suc k) (omega arith)).1 vk) jr in
            rest i _ (omega arith) (le_trans x jg) y hi (fall G R σ T v _ u (le_trans x jg) (a.forced min (flip_lt G R vk))) z sd

        test : (x : Bool) → ltb i j ≡ x → Rest → Fine G S M (λ u. Exact G u p) (mtd_test G S σ f p x i j (mtd_from G S σ f p r) st)
        test false x rest = let l = ltb-false i j x in let e : i ≡ j = omega arith in record { sound = sound; gives = exact_of G R max hi (rw e hj) }
        test true x rest =
            let k = i + (j - i - 1) / 2 in
            let kj = middle i j (ltb-true i j x) in
            fine_then G S M _ _ st (ih p (record { lo = at k; hi = at (suc k) }) st real sound (inl (rung_lt G R σ T max k (suc k) (omega arith) (le_trans kj jg))))
            (λ v z sd a. next rest k (omega arith) kj v z sd a (leb (at (suc k)) v) refl)

    mtd_begin_exact : (o : Option (Entry Value)) (st : State S) → get st.memo p ≡ o → Sound G S M st.memo → Fine G S M (λ v. Exact G v p) (mtd_begin G S σ f p o st)
    unfolding mtd_begin rung
    mtd_begin_exact none st g sound =
        mtd_exact gaps 0 gaps (omega arith) (omega arith) (omega arith) (floor (rw (rung_worst G R σ T max) (le_refl G R))) (floor (rw (rung_best G R σ T max) (le_refl G R))) st sound
    mtd_begin_exact (some e) st g sound = mtd_exact gaps i j (rung_le_inv G R σ T max i j (omega arith) (consistent G R up down)) jg (omega arith) up down st sound
      where
        i : ℕ
        i = minℕ (below G σ e.bounds.lo) gaps

        j : ℕ
        j = maxℕ 1 (minℕ (upto G σ e.bounds.hi) (suc gaps)) - 1

        jg : j ≤ gaps
        jg = omega arith

        c : Certified G p e.bounds
        c = get_certified G S M sound real g

        up : Forces G max (at i) p
        up = rise G R σ T e.bounds.lo i (omega arith) (omega arith) (c.forced max)

        down : Forces G min (at j) p
        down = fall G R σ T e.bounds.hi j (omega (arith, upto_most G R σ T e.bounds.hi)) jg (c.forced min)

  module _ (p : Pos) (real : Real p) where
    -- an answer to the window of the bounds is exact
    answer_whole : (v : Value) → WindowSays G (record { lo = low; hi = high }) p v → Exact G v p
    answer_whole v a = λ s. go s
      where
        at_max : Le G max v low ⊎ Lt G max low v → Forces G max v p
        at_max (inl h) = floor h
        at_max (inr h) = a.forced max h

        at_min : Le G min v high ⊎ Lt G min high v → Forces G min v p
        at_min (inl h) = floor h
        at_min (inr h) = a.forced min h

        go : (s : Side) → Forces G s v p
        go max = at_max (le_or_lt G R max v low)
        go min = at_min (le_or_lt G R min v high)

    begun_exact : (b : Bool) (l : List ℕ) (k : Side → Run G S Value) → moves p ≡ l → ((s : Side) → ExactRun p (k s)) → ExactRun p (begun G S p b l k)
    unfolding begun sided
    begun_exact true l k e h st sound = record { sound = sound; gives = tt }
    begun_exact false [] k e h st sound = record { sound = sound; gives = λ s. final e (le_refl G R) }
    begun_exact false (t ∷ l) k e h st sound = go (mover p)
      where
        go : (o : Option Side) → Fine G S M (λ v. Exact G v p) (sided G S o k st)
        go none = record { sound = sound; gives = tt }
        go (some s) = h s st sound

    -- THEOREM 3 (drivers). Whatever value a run gives, both sides force.
    pub run_exact : (δ : Driver G) → Driven G δ → (f : Search G S) → SoundSearch G S M f → ExactRun p (run G S δ f p)
    unfolding run
    run_exact single t f ih st sound = fine_map G S M answer_whole (ih p (record { lo = low; hi = high }) st real sound (go (le_or_lt G R max high low)))
      where
        go : Le G max high low ⊎ Lt G max low high → Lt G max low high ⊎ Le G max high low
        go (inl h) = inr h
        go (inr h) = inl h
    run_exact (scout σ) t f ih st sound =
        begun_exact _ (moves p) _ refl (λ s. scout_exact σ t f ih p real s σ.gaps 0 (omega arith) (floor (rw (rung_worst G R σ t s) (le_refl G R)))) st sound
    run_exact (mtd σ) t f ih st sound =
        begun_exact _ (moves p) _ refl (λ s z k. mtd_begin_exact σ t f ih p real (get z.memo p) z refl k) st sound
