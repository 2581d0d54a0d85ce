-- Counting as 01 has it, a run at a time with the budget that is left, is the same as one count and one budget for the whole call.
-- Assumes nothing.
use mathlib.Core.Path.{◌≡◌, refl, sym, ap}
use mathlib.Core.Bool.{Bool, true, false}
use mathlib.Core.Option.{Option, none, some}
use mathlib.Core.List.{List, [], ◌∷◌, ◌++◌}
use Prim.Native.Nat.{ℕ, ◌+◌, ◌-◌, ◌≤◌}
use native.Mathlib.Omega.{arith}
use lib.Dec.{ltb}
use borrow.Author.Tests.{ltb-true, ltb-false, lt-ltb, le-ltb}
use Rattle.rules.specs.Game.{Game, Values, Side, Played, to, stopped, eqv}
use Rattle.rules.specs.Search.{Entry, Outcome, value, spent, refused, Memory, Policy, Settings, State, Run, follow, then, passes, alpha_beta}
use Rattle.rules.specs.Drivers.{Driver, single, scout, mtd, run}
use Rattle.rules.specs.Choose.{no_move, remembered, matched, child_run, played_value, check, root, started, chosen, choose}
use Rattle.rules.specs.Net.{Net, rewards}
use Rattle.rules.specs.Play.{Marking}
use Rattle.rules.specs.Rewards.{values}
use Rattle.rules.specs.NetGame.{float_game, float_scale, driver_of, levels}
use Rattle.rules.specs.Call.{Options, settings_of, choice}
use Rattle.theory.specs.Counted.{left, recount, anew, choose_anew, choice_anew}
use Rattle.theory.proofs.Simulation.{Both, Agree, Entries, InStep, Closed, Ends, alpha_beta_steps}
use Rattle.theory.proofs.InStep.{Drivers, run_steps}
use Rattle.theory.proofs.Answer.{Gives}
use Rattle.theory.proofs.Budget.{InBudget, same, short, alpha_beta_budgeted}
use Rattle.theory.proofs.Runs.{run_budgeted}

-- a count within a budget
abbrev pub Fits : Option ℕ → ℕ → Type 0
Fits none n = Unit {0}
Fits (some b) n = n ≤ b

module _ (G : Game) where
  -- a game's own values
  abbrev pub own : Values G.Pos
  own = record { Value = G.Value; leb = G.leb; score = G.score; low = G.low; high = G.high }

  -- A search runs in step with itself.

  entries_refl : (o : Option (Entry G.Value)) → Both (Entries ◌≡◌) o o
  entries_refl none = tt
  entries_refl (some e) = record { bounds_rel = record { lo_rel = refl; hi_rel = refl }; best_same = refl }

  pub itself : (μ : Memory G) → InStep G own μ μ ◌≡◌ ◌≡◌ (λ p. Unit {0})
  itself μ = record {
    values = record { leb_same = λ a b x y h k. rw (h, k) refl; low_rel = refl; high_rel = refl; score_rel = λ p. refl };
    get_rel = λ m n p r e. rw e (entries_refl (μ.get n p));
    store_alike = λ m n p e f work r h k. alike m n p e f work h k.bounds_rel.lo_rel k.bounds_rel.hi_rel k.best_same;
  }
    where
      alike : (m n : μ.Memo) (p : G.Pos) (e f : Entry G.Value) (work : ℕ) → m ≡ n → e.bounds.lo ≡ f.bounds.lo → e.bounds.hi ≡ f.bounds.hi → e.best ≡ f.best → μ.store m p e work ≡ μ.store n p f work
      alike m n p e f work h a b c = λ i. μ.store (h i) p (record { bounds = record { lo = a i; hi = b i }; best = c i }) work

  pub closed : (π : Policy G.Pos) → Closed G (λ p. Unit {0}) π
  closed π = record { play_real = λ p t q r e. tt; arrange_real = λ h b s l a c i. tt }

  pub driver_itself : (δ : Driver G) → Drivers G own ◌≡◌ δ δ
  driver_itself single = tt
  driver_itself (scout σ) = record { gaps_same = refl; at_rel = λ n. refl; above_same = λ a b v x y u h k l. rw (h, k, l) refl }
  driver_itself (mtd σ) = record { gaps_same = refl; at_rel = λ n. refl; above_same = λ a b v x y u h k l. rw (h, k, l) refl }

agree_same : {A : Type 0} (x y : Outcome A) → Agree ◌≡◌ x y → x ≡ y
agree_same (value a) (value c) h = ap value h
agree_same (value a) spent h = absurd h
agree_same (value a) (refused r) h = absurd h
agree_same spent (value c) h = absurd h
agree_same spent spent h = refl
agree_same spent (refused r) h = absurd h
agree_same (refused q) (value c) h = absurd h
agree_same (refused q) spent h = absurd h
agree_same (refused q) (refused r) h = ap refused h

-- whether a count passes what is left of a budget
left_test : (b n k : ℕ) → n ≤ b → ltb b (n + k) ≡ ltb (b - n) k
left_test b n k h = go (ltb (b - n) k) refl
  where
    go : (x : Bool) → ltb (b - n) k ≡ x → ltb b (n + k) ≡ x
    go true e = let l = ltb-true (b - n) k e in lt-ltb b (n + k) (omega arith)
    go false e = let l = ltb-false (b - n) k e in le-ltb b (n + k) (omega arith)

module _ (G : Game) (S : Settings G) where
  open G use {Value, Pos, moves, mover, play}
  open S.memory use {get}

  module _ (δ : Driver G) (b : Option ℕ) (d : ℕ) where
    -- a run of its own, and one that goes on counting

    left_budget : (c : Option ℕ) (n : ℕ) → Fits c n → (k : ℕ) → passes G S c (n + k) ≡ passes G S (left c n) k
    unfolding passes left
    left_budget none n h k = refl
    left_budget (some c) n h k = left_test c n k h

    anew_same : (p : Pos) (st : State S) → Fits b st.nodes → anew G S (λ c. run G S δ (alpha_beta G S c d) p) b st ≡ run G S δ (alpha_beta G S b d) p st
    unfolding anew
    anew_same p st h = λ i. (sym (agree_same x.0 y.0 e.agree) i, record { memo = sym e.near.memo_alike i; history = sym e.near.history_same i; nodes = sym e.near.nodes_off i })
      where
        n : ℕ
        n = st.nodes

        x : Outcome Value × State S
        x = run G S δ (alpha_beta G S b d) p st

        y : Outcome Value × State S
        y = run G S δ (alpha_beta G S (left b n) d) p (recount G S 0 st)

        e : Ends G (own G) S.memory S.memory S.policy ◌≡◌ ◌≡◌ n ◌≡◌ x y
        e =
            run_steps G (own G) S.memory S.memory S.policy ◌≡◌ ◌≡◌ (λ p. Unit {0}) (itself G S.memory) (closed G S.policy) n δ δ (driver_itself G δ) (alpha_beta G S b d) (alpha_beta G S (left b n) d)
            (alpha_beta_steps G (own G) S.memory S.memory S.policy ◌≡◌ ◌≡◌ (λ p. Unit {0}) (itself G S.memory) (closed G S.policy) n b (left b n) (left_budget b n h) d) p tt st (recount G S 0 st)
            (record { memo_alike = refl; history_same = refl; nodes_off = omega arith })

    -- a run that gives a value stays within the budget
    run_fits : (c : Option ℕ) (p : Pos) (st : State S) → Fits c st.nodes → Gives (λ v. Fits c (run G S δ (alpha_beta G S c d) p st).1.nodes) (run G S δ (alpha_beta G S c d) p st).0
    run_fits none p st h = trivial (run G S δ (alpha_beta G S none d) p st).0
      where
        trivial : {A : Type 0} (o : Outcome A) → Gives (λ v. Unit {0}) o
        trivial (value a) = tt
        trivial spent = tt
        trivial (refused r) = tt
    run_fits (some B) p st h = go ((run_budgeted G S B (alpha_beta G S none d) (alpha_beta G S (some B) d) (alpha_beta_budgeted G S B d) p δ).within st h)
      where
        x : Outcome Value × State S
        x = run G S δ (alpha_beta G S none d) p st

        y : Outcome Value × State S
        y = run G S δ (alpha_beta G S (some B) d) p st

        inside : (o : Outcome Value) (z : State S) → z.nodes ≤ B → Gives (λ v. z.nodes ≤ B) o
        inside (value a) z l = l
        inside spent z l = tt
        inside (refused r) z l = tt

        go : InBudget G S B x y → Gives (λ v. y.1.nodes ≤ B) y.0
        go (same l e) = rw e (inside x.0 x.1 l)
        go (short l e c) = rw e tt

  -- runs that are equal from a count within the budget, and stay within it where they give a value
  record SameWithin {A : Type 0} (b : Option ℕ) (f g : Run G S A) : Type 0 where
    equal : (st : State S) → Fits b st.nodes → f st ≡ g st
    fits : (st : State S) → Fits b st.nodes → Gives (λ a. Fits b (g st).1.nodes) (g st).0

  module _ (b : Option ℕ) where
    level_then : {A C : Type 0} (f g : Run G S A) (h k : A → Run G S C) → SameWithin b f g → ((a : A) → SameWithin b (h a) (k a)) → SameWithin b (then G S f h) (then G S g k)
    unfolding then follow
    level_then {A} {C} f g h k l r = record { equal = λ st e. rw (l.equal st e) (go (g st).0 (g st).1 (l.fits st e)); fits = λ st e. gives (g st).0 (g st).1 (l.fits st e) }
      where
        go : (o : Outcome A) (z : State S) → Gives (λ a. Fits b z.nodes) o → follow G S o h z ≡ follow G S o k z
        go (value a) z e = (r a).equal z e
        go spent z e = refl
        go (refused q) z e = refl

        gives : (o : Outcome A) (z : State S) → Gives (λ a. Fits b z.nodes) o → Gives (λ a. Fits b (follow G S o k z).1.nodes) (follow G S o k z).0
        gives (value a) z e = (r a).fits z e
        gives spent z e = tt
        gives (refused q) z e = tt

    module _ (f g : Pos → Run G S Value) (ih : (p : Pos) → SameWithin b (f p) (g p)) (p : Pos) where
      child_level : (q : Pos) (l : List ℕ) → SameWithin b (child_run G S f q l) (child_run G S g q l)
      unfolding child_run
      child_level q [] = record { equal = λ st e. refl; fits = λ st e. e }
      child_level q (t ∷ l) = record { equal = (ih q).equal; fits = (ih q).fits }

      played_level : (y : Played Pos) → SameWithin b (played_value G S f y) (played_value G S g y)
      unfolding played_value
      played_level (stopped x) = record { equal = λ st e. refl; fits = λ st e. tt }
      played_level (to q) = record { equal = (child_level q (moves q)).equal; fits = (child_level q (moves q)).fits }

      check_level : (v : Value) (l : List ℕ) → SameWithin b (check G S f p v l) (check G S g p v l)
      unfolding check matched
      check_level v [] = record { equal = λ st e. refl; fits = λ st e. e }
      check_level v (t ∷ l) = level_then _ _ _ _ (played_level (play p t)) (λ x. match (check_level v l) (eqv G x v))
        where
          match : SameWithin b (check G S f p v l) (check G S g p v l) → (x : Bool) → SameWithin b (matched G S x t v (check G S f p v l)) (matched G S x t v (check G S g p v l))
          match rest true = record { equal = λ st e. refl; fits = λ st e. e }
          match rest false = record { equal = rest.equal; fits = rest.fits }

      started_level : {A : Type 0} (a : A) (h k : Value → Run G S A) → ((v : Value) → SameWithin b (h v) (k v)) → (c : Bool) (l : List ℕ) → SameWithin b (started G S f a h p c l) (started G S g a k p c l)
      unfolding started root
      started_level a h k e c [] = record { equal = λ st e. refl; fits = λ st e. e }
      started_level a h k e true (t ∷ l) = record { equal = λ st e. refl; fits = λ st e. tt }
      started_level {A} a h k e false (t ∷ l) = go (mover p)
        where
          go : (o : Option Side) → SameWithin b (root G S f h p o) (root G S g k p o)
          go none = record { equal = λ st e. refl; fits = λ st e. tt }
          go (some s) = level_then _ _ _ _ (ih p) e

      chosen_level : SameWithin b (chosen G S f p) (chosen G S g p)
      unfolding chosen
      chosen_level = started_level no_move _ _ (λ v. record {
        equal = λ z. (check_level v (remembered G S (moves p) (get z.memo p) ++ moves p)).equal z;
        fits = λ z. (check_level v (remembered G S (moves p) (get z.memo p) ++ moves p)).fits z;
      }) _ (moves p)

  -- COUNTING: a run at a time, or one count throughout.
  pub choose_anew_same : (δ : Driver G) (b : Option ℕ) (d : ℕ) (p : Pos) (st : State S) → Fits b st.nodes → choose_anew G S δ b d p st ≡ choose G S δ b d p st
  unfolding choose_anew choose
  choose_anew_same δ b d p st h =
      (chosen_level b _ _ (λ q. record { equal = anew_same δ b d q; fits = run_fits δ b d b q }) p).equal st h

-- and so of a choice on a net, a call's among them
pub choice_anew_same : (net : Net) (o : Options) (b : Option ℕ) (m : Marking) (st : State (settings_of net o)) → Fits b st.nodes → choice_anew net o b m st ≡ choice net o b m st
unfolding choice
choice_anew_same net o b m st = choose_anew_same (float_game net) (settings_of net o) (driver_of (float_game net) (float_scale net) (values (rewards net)) o.driver) b levels m st
