-- The call as a whole, under the premises on play: with no budget it is not refused, and its key leads to a child of the same minimax
-- value as the root. With a budget it does the same if the count stays within it, and else is spent (`choose_budgeted`).
-- Assumes nothing.
use mathlib.Core.Path.{◌≡◌, refl}
use mathlib.Core.Option.{none, some}
use mathlib.Core.List.Memᴰ
use mathlib.Core.List.{[]}
use mathlib.Core.Logic.{◌⊎◌, inl, inr}
use Prim.Native.Nat.{ℕ, suc, ◌≤◌, ◌<◌}
use Rattle.rules.specs.Game.{Game, to, ◌∈◌}
use Rattle.rules.specs.Minimax.{Worth}
use Rattle.rules.specs.Search.{Outcome, value, spent, refused, Settings, State}
use Rattle.rules.specs.Drivers.{Driver}
use Rattle.rules.specs.Choose.{Choice, no_move, no_child, key, choose}
use Rattle.rules.specs.Promise.{Leads, IsKey}
use Rattle.rules.specs.Forces.{Exact}
use Rattle.theory.specs.Causes.{Cause}
use Rattle.theory.specs.Regular.{Turn, Regular}
use Rattle.theory.proofs.Forces.{exact_unique}
use Rattle.theory.proofs.Minimax.{worth_exact, minimax_worth, minimax_some}
use Rattle.theory.proofs.Answer.{Sound, Gives}
use Rattle.theory.proofs.Budget.{InBudget, same, short}
use Rattle.theory.proofs.Causes.{choose_blamed}
use Rattle.theory.proofs.Regular.{Valued, valued, regular_uncaused}
use Rattle.theory.proofs.Choose.{Chosen, choose_sound}
use Rattle.theory.proofs.Runs.{choose_budgeted}
use Rattle.theory.proofs.Laws.{Lawful, Driven}

module _ (G : Game) where
  open G use {Value, Pos, moves, play}

  -- the key of `p`: a move to a child that is worth what `p` is
  pub record MinimaxKey (p : Pos) (t : ℕ) (v : Value) : Type 0 where
    pub is_move : t ∈ moves p
    pub next : Pos
    pub plays : play p t ≡ to next
    pub root_worth : Worth G p v
    pub child_worth : Worth G next v

module _ (G : Game) (S : Settings G) where
  open G use {Value, Pos}

  -- How a call with budget `B` ends, `y`, beside the same call with none, `x`: exact, at the count N of `x`, if N is within the
  -- budget; else spent, at one past it.
  pub data Answered (B : ℕ) (p : Pos) (x y : Outcome (Choice Value) × State S) : Type 0 where
    exact : x.1.nodes ≤ B → y ≡ x → (t : ℕ) (v : Value) → y.0 ≡ value (key t v) → MinimaxKey G p t v → Answered B p x y
    over : B < x.1.nodes → y.0 ≡ spent → y.1.nodes ≡ suc B → Answered B p x y

module _ (G : Game) (S : Settings G) (M : Lawful G S) (d : ℕ) where
  open G use {Value, Pos, moves, play}
  open S.memory use {get}
  open M use {rules as R}
  open M.table use {Real}

  choose_valued : (δ : Driver G) (p : Pos) → Regular G (suc d) p → (st : State S) → Valued (choose G S δ none (suc d) p st).0
  choose_valued δ p h st =
      valued (Cause G (suc d) p) (choose G S δ none (suc d) p st).0 ((choose_budgeted G S 0 δ (suc d) p).unspent st) (choose_blamed G S M δ none (suc d) p st) (λ r c. regular_uncaused G (suc d) h c)

  minimax_key : (p : Pos) (m : ℕ) (v : Value) → Regular G (suc d) p → IsKey G p m v → MinimaxKey G p m v
  minimax_key p m v h x = go h.turn
    where
      lead : Leads G p m v
      lead = x.child_leads

      -- the exact value is what a regular position is worth
      same : (n : ℕ) (q : Pos) → Exact G v q → Regular G n q → Worth G q v
      same n q y r =
          let (u, e) = minimax_some G R n q r in
          let w = minimax_worth G R n q u e in
          rw (exact_unique G R y (worth_exact G R w)) w

      child : Turn G (Regular G d) p → Regular G d lead.next
      child t =
          let (q, e, r) = t.next m x.is_move in
          let f = lead.plays in
          let z : lead.next ≡ q = cc in
          rw z r

      go : (moves p ≡ []) ⊎ Turn G (Regular G d) p → MinimaxKey G p m v
      go (inl e) = absurd (Memᴰ.not-nil (rw e at x.is_move))
      go (inr t) = record {
        is_move = x.is_move;
        next = lead.next;
        plays = lead.plays;
        root_worth = same (suc d) p x.root_exact h;
        child_worth = same d lead.next lead.exact (child t);
      }

  -- THEOREM 4, under the premises on play.
  pub choose_minimax : (δ : Driver G) → Driven G δ → (p : Pos) (st : State S) → Regular G (suc d) p → (moves p ≡ [] → ⊥) → Real p → Sound G S M st.memo →
      (m : ℕ) × (v : Value) × ((choose G S δ none (suc d) p st).0 ≡ value (key m v)) × MinimaxKey G p m v
  choose_minimax δ t p st h ne real sound = go (choose G S δ none (suc d) p st).0 refl (choose_valued δ p h st) (choose_sound G S M δ t none (suc d) p st real sound).gives
    where
      go : (o : Outcome (Choice Value)) → (choose G S δ none (suc d) p st).0 ≡ o → Valued o → Gives (Chosen G p) o → (m : ℕ) × (v : Value) × ((choose G S δ none (suc d) p st).0 ≡ value (key m v)) × MinimaxKey G p m v
      go (value no_move) e v g = absurd (ne g)
      go (value no_child) e v g = absurd g
      go (value (key m x)) e v g = (m, x, e, minimax_key p m x h g)
      go spent e v g = absurd v
      go (refused x) e v g = absurd v

  -- The same with a budget, from a count within it.
  pub choose_answer : (δ : Driver G) → Driven G δ → (B : ℕ) (p : Pos) (st : State S) → Regular G (suc d) p → (moves p ≡ [] → ⊥) → Real p → Sound G S M st.memo → st.nodes ≤ B →
      Answered G S B p (choose G S δ none (suc d) p st) (choose G S δ (some B) (suc d) p st)
  choose_answer δ t B p st h ne real sound l = go ((choose_budgeted G S B δ (suc d) p).within st l)
    where
      go : InBudget G S B (choose G S δ none (suc d) p st) (choose G S δ (some B) (suc d) p st) → Answered G S B p (choose G S δ none (suc d) p st) (choose G S δ (some B) (suc d) p st)
      go (same n e) = let (m, v, x, y) = choose_minimax δ t p st h ne real sound in exact n e m v (rw e x) y
      go (short n e c) = over n e c
