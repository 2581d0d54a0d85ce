-- THEOREM 1: fail-soft alpha-beta is sound. Whatever value it gives is forced by the sides whose alpha it passes, and every row that
-- it leaves in the transposition table is certified. Nothing is assumed of the play, the order, the filters or the budget.
-- Assumes nothing.
use mathlib.Core.Path.{◌≡◌, refl}
use mathlib.Core.Bool.{Bool, true, false, true≢false, ◌||◌}
use mathlib.Core.Option.{Option, none, some}
use mathlib.Core.List.{List, [], ◌∷◌}
use mathlib.Core.Logic.{◌⊎◌, inl, inr}
use Prim.Native.Nat.{ℕ, zero, suc}
use Rattle.rules.specs.Game.{Game, Side, max, min, opp, ◌∈◌, Le, worst, eqv}
use Rattle.rules.specs.Search.{Interval, Entry, Child, Best, meet, edge, Settings, State, Search, tick, recalled, recall, Expanded, halted, won, children, proved, finish, searched, turned, listed, opened, node, passes, budgeted, ticked, counted, too_deep, alpha_beta}
use Rattle.rules.specs.Forces.{Forces, floor, final, own, Exact}
use Rattle.theory.specs.Ends.{Lt, End, bound, scored}
use Rattle.theory.proofs.Order.{le_refl, le_antisym, lt_not_le, le_lt_trans, flip_lt}
use Rattle.theory.proofs.Forces.{consistent, exact_of}
use Rattle.theory.proofs.Answer.{Certified, WindowSays, Open, end_inside, flat_forces, open_edge, certified_exact, answer_of, answer_exact, answer_meet, open_meet, Sound, get_certified, store_sound, Fine, fine_map, fine_then, SoundSearch}
use Rattle.theory.proofs.Tests.{or_false, and_false}
use Rattle.theory.proofs.Children.{Children, Prepared, expand_prepared, filtered_prepared, children_cap}
use Rattle.theory.proofs.Row.{Rowed, row_sound}
use Rattle.theory.proofs.Laws.{Lawful}
use Rattle.words.proofs.Lists.{and_true, or_true}

module _ (G : Game) (S : Settings G) (M : Lawful G S) where
  open G use {Value, leb, Pos, moves, mover, score, low, high}
  open S.memory use {get}
  open S.policy use {arrange, non_losing}
  open M use {rules as R}
  open M.table use {Real}
  open M.order use {arranged}

  module _ (p : Pos) (real : Real p) where
    -- the bounds that a value proves are certified
    proved_certified : (w : Interval Value) (v : Value) → Open G w → WindowSays G w p v → Certified G p (proved G S (leb v w.lo) (leb w.hi v) v)
    unfolding proved
    proved_certified w v o a = go (leb v w.lo) refl (leb w.hi v) refl
      where
        capped : Open G w → Le G max v w.lo → Forces G min v p
        capped (inl h) l = a.forced min (flip_lt G R (le_lt_trans G R l h))
        capped (inr h) l = flat_forces G R h min a.ends

        low_forced : Forces G min v p → (s : Side) → Forces G s (edge (record { lo = low; hi = v }) s) p
        low_forced f max = floor (le_refl G R)
        low_forced f min = f

        high_forced : Forces G max v p → (s : Side) → Forces G s (edge (record { lo = v; hi = high }) s) p
        high_forced f max = f
        high_forced f min = floor (le_refl G R)

        low_ends : (s : Side) → End G (edge (record { lo = low; hi = v }) s)
        low_ends max = bound max
        low_ends min = a.ends

        high_ends : (s : Side) → End G (edge (record { lo = v; hi = high }) s)
        high_ends max = a.ends
        high_ends min = bound min

        go : (x : Bool) → leb v w.lo ≡ x → (y : Bool) → leb w.hi v ≡ y → Certified G p (proved G S x y v)
        go true e y f = record { forced = low_forced (capped o (record { holds = e })); ends = low_ends }
        go false e true f = record { forced = high_forced (a.forced max (record { holds = e })); ends = high_ends }
        go false e false f = certified_exact G R (exact_of G R max (a.forced max (record { holds = e })) (a.forced min (record { holds = f }))) a.ends

    finish_sound : (s : Side) (c l : List (Child Pos)) (w : Interval Value) (n : ℕ) (b : Option (Best Value)) (st : State S) → mover p ≡ some s → Open G w →
        Children G S M s p (moves p) c → ((k : Child Pos) → k ∈ c → k ∈ l) → Sound G S M st.memo → Rowed G S M s p (edge w s) (edge w (opp s)) l none b →
        Fine G S M (WindowSays G w p) (finish G S p w s n b st)
    unfolding finish
    finish_sound s c l w n none st m ow h i sound g = record { sound = store_sound G S M _ sound real (certified_exact G R exact (bound s)) (λ t e. absurd (true≢false (cc))); gives = answer_exact G R exact (bound s) }
      where
        -- every child was dropped
        exact : Exact G (worst G s) p
        exact = exact_of G R s (floor (le_refl G R)) (children_cap G S M s p c (worst G s) m h (le_refl G R) (λ k j. absurd (g.caps k (i k j))))
    finish_sound s c l w n (some b) st m ow h i sound g = record { sound = store_sound G S M _ sound real (proved_certified w v ow answer) (λ t e. let z : b.best_move ≡ t = cc in rw (← z) g.held.2); gives = answer }
      where
        v : Value
        v = b.best_value

        answer : WindowSays G w p v
        answer = answer_of G R s w p v g.held.0 (λ x. children_cap G S M s p c v m h (end_inside G R g.held.1 s) (λ k j. g.caps k (i k j) x)) g.held.1

    module _ (f : Search G S) (ih : SoundSearch G S M f) where
      searched_sound : (w : Interval Value) (first : Option ℕ) (s : Side) (x : Expanded Pos) (st : State S) → mover p ≡ some s → Open G w → Prepared G S M s p (moves p) x → Sound G S M st.memo → Fine G S M (WindowSays G w p) (searched G S f p w first s x st)
      unfolding searched
      searched_sound w first s (halted r) st m o h sound = record { sound = sound; gives = tt }
      searched_sound w first s (won t) st m o h sound = record { sound = store_sound G S M _ sound real (certified_exact G R exact (bound (opp s))) (λ u e. let z : t ≡ u = cc in rw (← z) h.here); gives = answer_exact G R exact (bound (opp s)) }
        where
          exact : Exact G (worst G (opp s)) p
          exact = exact_of G R s (own m h.here h.plays (final h.ends (rw h.best (le_refl G R)))) (floor (le_refl G R))
      searched_sound w first s (children c) st m o h sound =
          let a = arrange st.history first s c in
          let order = arranged st.history first s c in
          fine_then G S M _ _ st
          (row_sound G S M s p (edge w s) (edge w (opp s)) m real f ih a (λ k i. h.real k ((order k).1 i)) (edge w s) none st sound (open_edge G R w s o) (λ y k _. k) tt)
          (λ b z. finish_sound s c a w st.nodes b z m o h (λ k i. (order k).0 i))

      turned_sound : (w : Interval Value) (first : Option ℕ) (o : Option Side) (st : State S) → mover p ≡ o → Open G w → Sound G S M st.memo → Fine G S M (WindowSays G w p) (turned G S f p w first o st)
      unfolding turned
      turned_sound w first none st m o sound = record { sound = sound; gives = tt }
      turned_sound w first (some s) st m o sound = searched_sound w first s _ st m o (filtered_prepared G S M s p non_losing (moves p) _ (expand_prepared G S M s p (moves p))) sound

      listed_sound : (w : Interval Value) (first : Option ℕ) (b : Bool) (l : List ℕ) (st : State S) → moves p ≡ l → Open G w → Sound G S M st.memo → Fine G S M (WindowSays G w p) (listed G S f p w first b l st)
      unfolding listed
      listed_sound w first true l st e o sound = record { sound = sound; gives = tt }
      listed_sound w first false [] st e o sound = record { sound = store_sound G S M _ sound real (certified_exact G R exact (scored p)) (λ t e. absurd (true≢false (cc))); gives = answer_exact G R exact (scored p) }
        where
          exact : Exact G (score p) p
          exact s = final e (le_refl G R)
      listed_sound w first false (t ∷ l) st e o sound = turned_sound w first (mover p) st refl o sound

      opened_sound : (w : Interval Value) (o : Option (Entry Value)) (st : State S) → get st.memo p ≡ o → Open G w → Sound G S M st.memo → Fine G S M (WindowSays G w p) (opened G S f p (recall G S w o) st)
      unfolding opened recall recalled
      opened_sound w none st g o sound = listed_sound w none _ (moves p) st refl o sound
      opened_sound w (some e) st g o sound = go (eqv G lo hi || leb w.hi lo) refl (leb hi w.lo) refl
        where
          lo : Value
          lo = e.bounds.lo

          hi : Value
          hi = e.bounds.hi

          c : Certified G p e.bounds
          c = get_certified G S M sound real g

          -- the low bound answers where it is the high bound too, or is past the window
          low_answer : (eqv G lo hi ≡ true) ⊎ (leb w.hi lo ≡ true) → (s : Side) → Lt G s (edge w s) lo → Forces G s lo p
          low_answer x max h = c.forced max
          low_answer (inl x) min h =
              let (a, b) = and_true (leb lo hi) (leb hi lo) x in
              rw (le_antisym G R {s = max} {a = lo} {b = hi} (record { holds = a }) (record { holds = b })) (c.forced min)
          low_answer (inr x) min h = absurd (lt_not_le G R h (record { holds = x }))

          high_answer : leb hi w.lo ≡ true → (s : Side) → Lt G s (edge w s) hi → Forces G s hi p
          high_answer x max h = absurd (lt_not_le G R h (record { holds = x }))
          high_answer x min h = c.forced min

          open_bounds : (leb lo hi ≡ false) ⊎ (leb hi lo ≡ false) → Lt G max lo hi
          open_bounds (inl x) = let h : Lt G max hi lo = record { holds = x } in absurd (lt_not_le G R h (consistent G R (c.forced max) (c.forced min)))
          open_bounds (inr x) = record { holds = x }

          narrowed : leb hi w.lo ≡ false → (eqv G lo hi || leb w.hi lo) ≡ false → Open G w → Open G (meet G w e.bounds)
          narrowed k x (inr h) = inr h
          narrowed k x (inl h) =
              let (a, b) = or_false (eqv G lo hi) (leb w.hi lo) x in
              inl (open_meet G R h (open_bounds (and_false (leb lo hi) (leb hi lo) a)) (record { holds = k }) (record { holds = b }))

          go : (x : Bool) → (eqv G lo hi || leb w.hi lo) ≡ x → (y : Bool) → leb hi w.lo ≡ y → Fine G S M (WindowSays G w p) (opened G S f p (recalled G S x y w e) st)
          go true x y k = record { sound = sound; gives = record { forced = low_answer (or_true _ _ x); ends = c.ends max } }
          go false x true k = record { sound = sound; gives = record { forced = high_answer k; ends = c.ends min } }
          go false x false k = fine_map G S M (λ v. answer_meet G R c) (listed_sound (meet G w e.bounds) e.best _ (moves p) st refl (narrowed k x o) sound)

  node_sound : (f : Search G S) → SoundSearch G S M f → SoundSearch G S M (node G S f)
  unfolding node
  node_sound f ih p w st real sound o = opened_sound p real f ih w (get st.memo p) st refl o sound

  counted_sound : (b : Option ℕ) (f : Search G S) → SoundSearch G S M f → SoundSearch G S M (counted G S b f)
  unfolding counted ticked budgeted
  counted_sound b f h p w st real sound o = go (passes G S b (suc st.nodes))
    where
      go : (x : Bool) → Fine G S M (WindowSays G w p) (budgeted G S x (f p w) (tick G S st))
      go true = record { sound = sound; gives = tt }
      go false = h p w (tick G S st) real sound o

  -- THEOREM 1 (soundness).
  pub alpha_beta_sound : (b : Option ℕ) (d : ℕ) → SoundSearch G S M (alpha_beta G S b d)
  unfolding alpha_beta too_deep
  alpha_beta_sound b zero = counted_sound b (too_deep G S) (λ p w st real sound o. record { sound = sound; gives = tt })
  alpha_beta_sound b (suc d) = counted_sound b (node G S (alpha_beta G S b d)) (node_sound (alpha_beta G S b d) (alpha_beta_sound b d))
