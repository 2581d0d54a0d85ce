-- Fail-soft alpha-beta as Knuth and Moore state it (D. E. Knuth, R. W. Moore, "An analysis of alpha-beta pruning", 1975), for the search with a transposition
-- table, filters and any order of moves: what it returns for a window is at most alpha, and then an upper bound of the minimax value; or strictly between alpha and beta, and
-- then that value; or at least beta, and then a lower bound of it.
-- Assumes nothing.
use mathlib.Core.Path.{◌≡◌}
use mathlib.Core.Option.{Option}
use mathlib.Core.Logic.{inl}
use Prim.Native.Nat.{ℕ}
use Rattle.rules.specs.Game.{Game, max, min, Le}
use Rattle.rules.specs.Minimax.{Worth}
use Rattle.rules.specs.Search.{Interval, value, Settings, State, alpha_beta}
use Rattle.theory.specs.Ends.{Lt}
use Rattle.theory.proofs.Forces.{consistent, exact_unique}
use Rattle.theory.proofs.Order.{unflip_le}
use Rattle.theory.proofs.Minimax.{worth_exact}
use Rattle.theory.proofs.Laws.{Lawful}
use Rattle.theory.proofs.Answer.{Sound, fail_soft}
use Rattle.theory.proofs.Sound.{alpha_beta_sound}

-- of the value `v` returned for the window `w`, where `p` is worth `u`
pub record Bounds (G : Game) (w : Interval G.Value) (u v : G.Value) : Type 0 where
  pub at_most_alpha : Le G max v w.lo → Le G max u v
  pub between : Lt G max w.lo v → Lt G max v w.hi → u ≡ v
  pub at_least_beta : Le G max w.hi v → Le G max v u

module _ (G : Game) (S : Settings G) (M : Lawful G S) where
  -- from any sound memo, with any budget and depth, for a window with alpha below beta
  pub knuth_moore : (b : Option ℕ) (d : ℕ) (p : G.Pos) (w : Interval G.Value) (st : State S) (u v : G.Value) → M.table.Real p → Sound G S M st.memo → Lt G max w.lo w.hi
      → (alpha_beta G S b d p w st).0 ≡ value v → Worth G p u → Bounds G w u v
  knuth_moore b d p w st u v real sound gap e worth =
      let R = M.rules in
      let f = fail_soft G R gap (rw e at (alpha_beta_sound G S M b d p w st real sound (inl gap)).gives) in
      let x = worth_exact G R worth in
      record {
        at_most_alpha = λ h. consistent G R (x max) (f.fails_low h);
        between = λ h k. exact_unique G R x (f.between h k);
        at_least_beta = λ h. unflip_le G R (consistent G R {s = min} (x min) (f.fails_high h));
      }
