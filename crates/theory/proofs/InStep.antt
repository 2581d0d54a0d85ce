-- Runs and the choice of the key run in step: see Simulation.
-- Assumes nothing.
use mathlib.Core.Path.{◌≡◌, refl, ap, subst, ◌∙◌}
use mathlib.Core.Bool.{Bool, true, false, not}
use mathlib.Core.Option.{Option, none, some}
use mathlib.Core.List.{List, [], ◌∷◌, ◌++◌}
use Prim.Native.Nat.{ℕ, zero, suc, ◌+◌, ◌-◌, ◌/◌, max as maxℕ, min as minℕ}
use native.Mathlib.Omega.{arith}
use lib.Dec.{ltb}
use Rattle.rules.specs.Game.{Game, Values, valued, Side, max, min, Played, to, stopped, eqv}
use Rattle.rules.specs.Search.{Interval, Entry, window, Memory, Policy, Settings, Run, Search, passes}
use Rattle.rules.specs.Drivers.{Scale, Driver, single, scout, mtd, rung, onward, point, below, upto, sided, begun, stepped, mtd_next, scout_from, mtd_test, mtd_from, mtd_begin, run}
use Rattle.rules.specs.Choose.{Choice, no_move, no_child, key, known_move, remembered, matched, child_run, played_value, check, root, started, chosen, choose}
use Rattle.theory.proofs.Simulation.{Both, Intervals, Entries, window_rel, InStep, Closed, S, T, Ends, Steps, StepSearch, steps_then, eqv_same, steps_value, Budgets, alpha_beta_steps}

module _ (G : Game) (W : Values G.Pos) (Rel : G.Value → W.Value → Type 0) where
  -- scales of related values, whose middles are tested alike
  pub record Scales (σ : Scale G) (τ : Scale (valued G W)) : Type 0 where
    pub gaps_same : σ.gaps ≡ τ.gaps
    pub at_rel : (n : ℕ) → Rel (σ.at n) (τ.at n)
    pub above_same : (a b v : G.Value) (x y u : W.Value) → Rel a x → Rel b y → Rel v u → σ.above a b v ≡ τ.above x y u

  abbrev pub Drivers : Driver G → Driver (valued G W) → Type 0
  Drivers single single = Unit {0}
  Drivers single (scout τ) = ⊥
  Drivers single (mtd τ) = ⊥
  Drivers (scout σ) single = ⊥
  Drivers (scout σ) (scout τ) = Scales σ τ
  Drivers (scout σ) (mtd τ) = ⊥
  Drivers (mtd σ) single = ⊥
  Drivers (mtd σ) (scout τ) = ⊥
  Drivers (mtd σ) (mtd τ) = Scales σ τ

  -- the same choice, and of related values
  abbrev pub Choices : Choice G.Value → Choice W.Value → Type 0
  Choices no_move no_move = Unit {0}
  Choices no_move no_child = ⊥
  Choices no_move (key u x) = ⊥
  Choices no_child no_move = ⊥
  Choices no_child no_child = Unit {0}
  Choices no_child (key u x) = ⊥
  Choices (key t v) no_move = ⊥
  Choices (key t v) no_child = ⊥
  Choices (key t v) (key u x) = (t ≡ u) × Rel v x

module _ (G : Game) (W : Values G.Pos) (μ : Memory G) (ν : Memory (valued G W)) (π : Policy G.Pos) (Rel : G.Value → W.Value → Type 0) (Alike : μ.Memo → ν.Memo → Type 0)
    (Real : G.Pos → Type 0) (I : InStep G W μ ν Rel Alike Real) (K : Closed G Real π) (off : ℕ) where
  open I use {get_rel}
  open K use {play_real}
  open I.values use {leb_same, low_rel, high_rel, score_rel}

  abbrev SG : Settings G
  SG = S G W μ ν π Rel Alike

  abbrev Th : Settings (valued G W)
  Th = T G W μ ν π Rel Alike

  abbrev HW : Game
  HW = valued G W

  abbrev InStepRun : {A C : Type 0} → (A → C → Type 0) → Run G SG A → Run HW Th C → Type 0
  InStepRun P f g = Steps G W μ ν π Rel Alike off P f g

  module _ (σ : Scale G) (τ : Scale HW) (scales : Scales G W Rel σ τ) where
    open scales use {gaps_same, at_rel, above_same}

    rung_rel : (s : Side) (n : ℕ) → Rel (rung G σ s n) (rung HW τ s n)
    unfolding rung
    rung_rel max n = at_rel n
    rung_rel min n = subst (λ (g : ℕ). Rel (σ.at (σ.gaps - n)) (τ.at (g - n))) gaps_same (at_rel (σ.gaps - n))

    onward_same : (s : Side) (w : Interval G.Value) (x : Interval W.Value) (v : G.Value) (u : W.Value) → Intervals Rel w x → Rel v u → onward G σ s w v ≡ onward HW τ s x u
    unfolding onward
    onward_same max w x v u h k = above_same _ _ _ _ _ _ h.lo_rel h.hi_rel k
    onward_same min w x v u h k = ap not (above_same _ _ _ _ _ _ h.lo_rel h.hi_rel k)

    point_same : (f : G.Value → Bool) (g : W.Value → Bool) → ((n : ℕ) → f (σ.at n) ≡ g (τ.at n)) → (r n : ℕ) → point G σ f r n ≡ point HW τ g r n
    unfolding point
    point_same f g e zero n = refl
    point_same f g e (suc r) n = rw (e n, point_same f g e r (suc n)) refl

    below_same : (v : G.Value) (x : W.Value) → Rel v x → below G σ v ≡ below HW τ x
    unfolding below
    below_same v x h = point_same _ (λ y. not (W.leb x y)) (λ n. ap not (leb_same _ _ _ _ h (at_rel n))) (suc σ.gaps) 0 ∙ ap (λ (g : ℕ). point HW τ (λ y. not (W.leb x y)) (suc g) 0) gaps_same

    upto_same : (v : G.Value) (x : W.Value) → Rel v x → upto G σ v ≡ upto HW τ x
    unfolding upto
    upto_same v x h = point_same _ (λ y. W.leb y x) (λ n. leb_same _ _ _ _ (at_rel n) h) (suc σ.gaps) 0 ∙ ap (λ (g : ℕ). point HW τ (λ y. W.leb y x) (suc g) 0) gaps_same

    module _ (f : Search G SG) (g : Search HW Th) (ih : StepSearch G W μ ν π Rel Alike Real off f g) (p : G.Pos) (real : Real p) where
      scout_steps : (s : Side) (r n : ℕ) → InStepRun Rel (scout_from G SG σ f p s r n) (scout_from HW Th τ g p s r n)
      unfolding scout_from stepped
      scout_steps s zero n = steps_value G W μ ν π Rel Alike Real I K off Rel (rung G σ s n) (rung HW τ s n) (rung_rel s n)
      scout_steps s (suc r) n =
          steps_then G W μ ν π Rel Alike off Rel Rel (f p w) (g p x) _ _ (ih p w x real wx) (λ v u h. rw (onward_same s w x v u wx h) (go (scout_steps s r (suc n)) (onward HW τ s x u)))
        where
          w : Interval G.Value
          w = window s (rung G σ s n) (rung G σ s (suc n))

          x : Interval W.Value
          x = window s (rung HW τ s n) (rung HW τ s (suc n))

          wx : Intervals Rel w x
          wx = window_rel Rel s (rung_rel s n) (rung_rel s (suc n))

          go : InStepRun Rel (scout_from G SG σ f p s r (suc n)) (scout_from HW Th τ g p s r (suc n)) → (y : Bool) →
              InStepRun Rel (stepped G SG y (rung G σ s n) (scout_from G SG σ f p s r (suc n))) (stepped HW Th y (rung HW τ s n) (scout_from HW Th τ g p s r (suc n)))
          go rest true st z k = rest st z k
          go rest false st z k = record { agree = rung_rel s n; near = k }

      mtd_steps : (r i j : ℕ) → InStepRun Rel (mtd_from G SG σ f p r i j) (mtd_from HW Th τ g p r i j)
      unfolding mtd_from mtd_test mtd_next
      mtd_steps zero i j = steps_value G W μ ν π Rel Alike Real I K off Rel (σ.at i) (τ.at i) (at_rel i)
      mtd_steps (suc r) i j = go (mtd_steps r) (ltb i j)
        where
          next : ((i j : ℕ) → InStepRun Rel (mtd_from G SG σ f p r i j) (mtd_from HW Th τ g p r i j)) → (v : G.Value) (u : W.Value) → Rel v u → (y : Bool) →
              InStepRun Rel (mtd_next G SG σ y v i j (mtd_from G SG σ f p r)) (mtd_next HW Th τ y u i j (mtd_from HW Th τ g p r))
          next rest v u h true = rw (below_same v u h) (rest (maxℕ i (minℕ (below HW τ u) j)) j)
          next rest v u h false = rw (upto_same v u h) (rest i (maxℕ i (minℕ j (maxℕ (upto HW τ u) 1 - 1))))

          go : ((i j : ℕ) → InStepRun Rel (mtd_from G SG σ f p r i j) (mtd_from HW Th τ g p r i j)) → (y : Bool) →
              InStepRun Rel (mtd_test G SG σ f p y i j (mtd_from G SG σ f p r)) (mtd_test HW Th τ g p y i j (mtd_from HW Th τ g p r))
          go rest false = steps_value G W μ ν π Rel Alike Real I K off Rel (σ.at i) (τ.at i) (at_rel i)
          go rest true =
              let k = i + (j - i - 1) / 2 in
              steps_then G W μ ν π Rel Alike off Rel Rel _ _ _ _ (ih p (record { lo = σ.at k; hi = σ.at (suc k) }) (record { lo = τ.at k; hi = τ.at (suc k) }) real (record { lo_rel = at_rel k; hi_rel = at_rel (suc k) }))
              (λ v u h. rw (leb_same _ _ _ _ (at_rel (suc k)) h) (next rest v u h (W.leb (τ.at (suc k)) u)))

      -- from the same numbers
      mtd_steps_at : (r r' i i' j j' : ℕ) → r ≡ r' → i ≡ i' → j ≡ j' → InStepRun Rel (mtd_from G SG σ f p r i j) (mtd_from HW Th τ g p r' i' j')
      mtd_steps_at r r' i i' j j' e h k = rw (e, h, k) (mtd_steps r' i' j')

      mtd_begin_steps : (e : Option (Entry G.Value)) (o : Option (Entry W.Value)) → Both (Entries Rel) e o → InStepRun Rel (mtd_begin G SG σ f p e) (mtd_begin HW Th τ g p o)
      unfolding mtd_begin
      mtd_begin_steps none none h = mtd_steps_at σ.gaps τ.gaps 0 0 σ.gaps τ.gaps gaps_same refl gaps_same
      mtd_begin_steps none (some o) h = absurd h
      mtd_begin_steps (some e) none h = absurd h
      mtd_begin_steps (some e) (some o) h =
          mtd_steps_at σ.gaps τ.gaps _ _ _ _ gaps_same
          (ap (λ (k : ℕ). minℕ k σ.gaps) (below_same _ _ h.bounds_rel.lo_rel) ∙ ap (λ (k : ℕ). minℕ (below HW τ o.bounds.lo) k) gaps_same)
          (ap (λ (k : ℕ). maxℕ 1 (minℕ k (suc σ.gaps)) - 1) (upto_same _ _ h.bounds_rel.hi_rel) ∙ ap (λ (k : ℕ). maxℕ 1 (minℕ (upto HW τ o.bounds.hi) (suc k)) - 1) gaps_same)

      scout_steps_at : (s : Side) (r r' : ℕ) → r ≡ r' → InStepRun Rel (scout_from G SG σ f p s r 0) (scout_from HW Th τ g p s r' 0)
      scout_steps_at s r r' e = rw e (scout_steps s r' 0)

  begun_steps : (p : G.Pos) (b : Bool) (l : List ℕ) (f : Side → Run G SG G.Value) (g : Side → Run HW Th W.Value) → ((s : Side) → InStepRun Rel (f s) (g s)) → InStepRun Rel (begun G SG p b l f) (begun HW Th p b l g)
  unfolding begun sided
  begun_steps p true l f g h st z n = record { agree = refl; near = n }
  begun_steps p false [] f g h st z n = record { agree = score_rel p; near = n }
  begun_steps p false (t ∷ l) f g h st z n = go (G.mover p)
    where
      go : (o : Option Side) → Ends G W μ ν π Rel Alike off Rel (sided G SG o f st) (sided HW Th o g z)
      go none = record { agree = refl; near = n }
      go (some s) = h s st z n

  pub run_steps : (δ : Driver G) (ε : Driver HW) → Drivers G W Rel δ ε → (f : Search G SG) (g : Search HW Th) → StepSearch G W μ ν π Rel Alike Real off f g → (p : G.Pos) → Real p → InStepRun Rel (run G SG δ f p) (run HW Th ε g p)
  unfolding run
  run_steps single single d f g ih p real st z n = ih p _ _ real (record { lo_rel = low_rel; hi_rel = high_rel }) st z n
  run_steps single (scout τ) d f g ih p real st z n = absurd d
  run_steps single (mtd τ) d f g ih p real st z n = absurd d
  run_steps (scout σ) single d f g ih p real st z n = absurd d
  run_steps (scout σ) (scout τ) d f g ih p real st z n = begun_steps p _ (G.moves p) _ _ (λ s. scout_steps_at σ τ d f g ih p real s σ.gaps τ.gaps d.gaps_same) st z n
  run_steps (scout σ) (mtd τ) d f g ih p real st z n = absurd d
  run_steps (mtd σ) single d f g ih p real st z n = absurd d
  run_steps (mtd σ) (scout τ) d f g ih p real st z n = absurd d
  run_steps (mtd σ) (mtd τ) d f g ih p real st z n = begun_steps p _ (G.moves p) _ _ (λ s a b k. mtd_begin_steps σ τ d f g ih p real _ _ (get_rel a.memo b.memo p real k.memo_alike) a b k) st z n

  -- The choice of the key, over runs in step.

  remembered_same : (l : List ℕ) (e : Option (Entry G.Value)) (o : Option (Entry W.Value)) → Both (Entries Rel) e o → remembered G SG l e ≡ remembered HW Th l o
  unfolding remembered
  remembered_same l none none h = refl
  remembered_same l none (some o) h = absurd h
  remembered_same l (some e) none h = absurd h
  remembered_same l (some e) (some o) h = ap (known_move l) h.best_same

  module _ (f : G.Pos → Run G SG G.Value) (g : G.Pos → Run HW Th W.Value) (ih : (p : G.Pos) → Real p → InStepRun Rel (f p) (g p)) (p : G.Pos) (real : Real p) where
    child_steps : (q : G.Pos) → Real q → (l : List ℕ) → InStepRun Rel (child_run G SG f q l) (child_run HW Th g q l)
    unfolding child_run
    child_steps q r [] st z n = record { agree = score_rel q; near = n }
    child_steps q r (t ∷ l) st z n = ih q r st z n

    played_steps : (t : ℕ) (y : Played G.Pos) → G.play p t ≡ y → InStepRun Rel (played_value G SG f y) (played_value HW Th g y)
    unfolding played_value
    played_steps t (stopped x) e st z n = record { agree = refl; near = n }
    played_steps t (to q) e st z n = child_steps q (play_real p t q real e) (G.moves q) st z n

    check_steps : (v : G.Value) (x : W.Value) → Rel v x → (l : List ℕ) → InStepRun (Choices G W Rel) (check G SG f p v l) (check HW Th g p x l)
    unfolding check matched
    check_steps v x h [] st z n = record { agree = tt; near = n }
    check_steps v x h (t ∷ l) st z n =
        steps_then G W μ ν π Rel Alike off Rel (Choices G W Rel) _ _ _ _ (played_steps t (G.play p t) refl) (λ u w k. rw (eqv_same G W Rel I.values u v w x k h) (match (check_steps v x h l) (eqv HW w x))) st z n
      where
        match : InStepRun (Choices G W Rel) (check G SG f p v l) (check HW Th g p x l) → (y : Bool) → InStepRun (Choices G W Rel) (matched G SG y t v (check G SG f p v l)) (matched HW Th y t x (check HW Th g p x l))
        match rest true st z n = record { agree = (refl, h); near = n }
        match rest false st z n = rest st z n

    check_steps_at : (v : G.Value) (x : W.Value) → Rel v x → (l m : List ℕ) → l ≡ m → InStepRun (Choices G W Rel) (check G SG f p v l) (check HW Th g p x m)
    check_steps_at v x h l m e = rw e (check_steps v x h m)

    started_steps : {A C : Type 0} (P : A → C → Type 0) (a : A) (c : C) → P a c → (h : G.Value → Run G SG A) (k : W.Value → Run HW Th C) → ((v : G.Value) (x : W.Value) → Rel v x → InStepRun P (h v) (k x)) →
        (b : Bool) (l : List ℕ) → InStepRun P (started G SG f a h p b l) (started HW Th g c k p b l)
    unfolding started root
    started_steps P a c pac h k e b [] st z n = record { agree = pac; near = n }
    started_steps P a c pac h k e true (t ∷ l) st z n = record { agree = refl; near = n }
    started_steps P a c pac h k e false (t ∷ l) st z n = go (G.mover p)
      where
        go : (o : Option Side) → Ends G W μ ν π Rel Alike off P (root G SG f h p o st) (root HW Th g k p o z)
        go none = record { agree = refl; near = n }
        go (some s) = steps_then G W μ ν π Rel Alike off Rel P (f p) (g p) _ _ (ih p real) e st z n

    chosen_steps : InStepRun (Choices G W Rel) (chosen G SG f p) (chosen HW Th g p)
    unfolding chosen
    chosen_steps = started_steps (Choices G W Rel) no_move no_move tt _ _
        (λ v x h a b k. check_steps_at v x h _ _ (ap (λ (y : List ℕ). y ++ G.moves p) (remembered_same (G.moves p) _ _ (get_rel a.memo b.memo p real k.memo_alike))) a b k) _ (G.moves p)

-- The whole call, with one budget, runs in step.
module _ (G : Game) (W : Values G.Pos) (μ : Memory G) (ν : Memory (valued G W)) (π : Policy G.Pos) (Rel : G.Value → W.Value → Type 0) (Alike : μ.Memo → ν.Memo → Type 0)
    (Real : G.Pos → Type 0) (I : InStep G W μ ν Rel Alike Real) (K : Closed G Real π) where
  same_budget : (b : Option ℕ) → Budgets G W μ ν π Rel Alike Real I K 0 b b
  unfolding passes
  same_budget none k = refl
  same_budget (some b) k = let e : 0 + k ≡ k = omega arith in ap (ltb b) e

  pub choose_steps : (δ : Driver G) (ε : Driver (valued G W)) → Drivers G W Rel δ ε → (b : Option ℕ) (d : ℕ) (p : G.Pos) → Real p →
      Steps G W μ ν π Rel Alike 0 (Choices G W Rel) (choose G (S G W μ ν π Rel Alike) δ b d p) (choose (valued G W) (T G W μ ν π Rel Alike) ε b d p)
  unfolding choose
  choose_steps δ ε h b d p real =
      chosen_steps G W μ ν π Rel Alike Real I K 0 _ _ (λ q r. run_steps G W μ ν π Rel Alike Real I K 0 δ ε h _ _ (alpha_beta_steps G W μ ν π Rel Alike Real I K 0 b b (same_budget b) d) q r) p real
