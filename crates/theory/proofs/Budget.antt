-- THEOREM 2: the budget is exact. It changes nothing of a run that stays within it, and stops any other run at the first node past it.
-- Assumes nothing.
use mathlib.Core.Path.{◌≡◌, refl}
use mathlib.Core.Bool.{Bool, true, false}
use mathlib.Core.Option.{Option, none, some}
use mathlib.Core.List.{List, [], ◌∷◌}
use Prim.Native.Nat.{ℕ, zero, suc, ◌≤◌, ◌<◌}
use native.Mathlib.Omega.{arith}
use lib.Dec.{ltb}
use borrow.Author.Tests.{ltb-true, ltb-false}
use Rattle.rules.specs.Game.{Game, Side, opp, leq}
use Rattle.rules.specs.Minimax.{pick}
use Rattle.rules.specs.Search.{Interval, Child, Best, Outcome, value, spent, refused, edge, window, Settings, State, Run, Search, follow, then, tick, Recalled, known, unknown, recall, Expanded, halted, won, children, improve, ended, row, finish, searched, turned, listed, opened, node, passes, budgeted, ticked, counted, too_deep, alpha_beta}

-- an end other than `spent`
abbrev pub Unspent : {A : Type 0} → Outcome A → Type 0
Unspent (value a) = Unit {0}
Unspent spent = ⊥
Unspent (refused r) = Unit {0}

module _ (G : Game) (S : Settings G) (B : ℕ) where
  open G use {Value, Pos, moves, mover}
  open S.memory use {get}
  open S.policy use {arrange}

  -- How the end `y` of a run with budget `B` stands to the end `x` of the same run with none.
  pub data InBudget {A : Type 0} (x y : Outcome A × State S) : Type 0 where
    same : x.1.nodes ≤ B → y ≡ x → InBudget x y
    short : B < x.1.nodes → y.0 ≡ spent → y.1.nodes ≡ suc B → InBudget x y

  -- `f` has no budget, so it is never spent, and `g` is the same run with budget `B`.
  pub record Budgeted {A : Type 0} (f g : Run G S A) : Type 0 where
    pub unspent : (st : State S) → Unspent (f st).0
    pub grows : (st : State S) → st.nodes ≤ (f st).1.nodes
    pub within : (st : State S) → st.nodes ≤ B → InBudget (f st) (g st)

  -- a run that counts nothing
  pub budgeted_pure : {A : Type 0} (f : Run G S A) → ((st : State S) → (f st).1.nodes ≡ st.nodes) → ((st : State S) → Unspent (f st).0) → Budgeted f f
  budgeted_pure f e u = record { unspent = u; grows = λ st. omega (arith, e st); within = λ st h. same (omega (arith, e st)) refl }

  -- one run after another
  pub budgeted_then : {A C : Type 0} (f g : Run G S A) (h k : A → Run G S C) → Budgeted f g → ((a : A) → Budgeted (h a) (k a)) → Budgeted (then G S f h) (then G S g k)
  unfolding then follow
  budgeted_then {A} {C} f g h k r b = record { unspent = λ st. ends (f st).0 (f st).1 (r.unspent st); grows = λ st. omega (arith, r.grows st, longer (f st).0 (f st).1); within = λ st l. step (f st) (g st) (r.within st l) }
    where
      ends : (o : Outcome A) (z : State S) → Unspent o → Unspent (follow G S o h z).0
      ends (value a) z u = (b a).unspent z
      ends spent z u = u
      ends (refused x) z u = tt

      longer : (o : Outcome A) (z : State S) → z.nodes ≤ (follow G S o h z).1.nodes
      longer (value a) z = (b a).grows z
      longer spent z = omega arith
      longer (refused x) z = omega arith

      on : (o : Outcome A) (z : State S) → z.nodes ≤ B → InBudget (follow G S o h z) (follow G S o k z)
      on (value a) z l = (b a).within z l
      on spent z l = same l refl
      on (refused x) z l = same l refl

      step : (x y : Outcome A × State S) → InBudget x y → InBudget (follow G S x.0 h x.1) (follow G S y.0 k y.1)
      step x y (same l e) = rw e (on x.0 x.1 l)
      step x y (short l e n) = rw e (short (omega (arith, longer x.0 x.1)) refl n)

  abbrev pub BudgetedSearch : Search G S → Search G S → Type 0
  BudgetedSearch f g = (p : Pos) (w : Interval Value) → Budgeted (f p w) (g p w)

  module _ (f g : Search G S) (ih : BudgetedSearch f g) where
    row_budgeted : (s : Side) (β : Value) (l : List (Child Pos)) (α : Value) (b : Option (Best Value)) → Budgeted (row G S f s β l α b) (row G S g s β l α b)
    unfolding row ended
    row_budgeted s β [] α b = budgeted_pure _ (λ st. refl) (λ st. tt)
    row_budgeted s β (c ∷ l) α b = budgeted_then _ _ _ _ (ih c.pos (window s α β)) (λ v. go (row_budgeted s β l) (leq G s β (pick G s α v)) (pick G s α v) (improve G S s b v c.move))
      where
        go : ((α : Value) (b : Option (Best Value)) → Budgeted (row G S f s β l α b) (row G S g s β l α b)) → (x : Bool) (α : Value) (b : Option (Best Value)) →
            Budgeted (ended G S x c.move (row G S f s β l) α b) (ended G S x c.move (row G S g s β l) α b)
        go rest true α b = budgeted_pure _ (λ st. refl) (λ st. tt)
        go rest false α b = rest α b

    finish_budgeted : (p : Pos) (w : Interval Value) (s : Side) (n : ℕ) (b : Option (Best Value)) → Budgeted (finish G S p w s n b) (finish G S p w s n b)
    unfolding finish
    finish_budgeted p w s n none = budgeted_pure _ (λ st. refl) (λ st. tt)
    finish_budgeted p w s n (some b) = budgeted_pure _ (λ st. refl) (λ st. tt)

    module _ (p : Pos) where
      searched_budgeted : (w : Interval Value) (first : Option ℕ) (s : Side) (x : Expanded Pos) → Budgeted (searched G S f p w first s x) (searched G S g p w first s x)
      unfolding searched
      searched_budgeted w first s (halted r) = budgeted_pure _ (λ st. refl) (λ st. tt)
      searched_budgeted w first s (won t) = budgeted_pure _ (λ st. refl) (λ st. tt)
      searched_budgeted w first s (children c) = record { unspent = λ st. (at st).unspent st; grows = λ st. (at st).grows st; within = λ st. (at st).within st }
        where
          -- with the history and the count of the state `st` that the node began in
          at : (st : State S) → Budgeted
              (then G S (row G S f s (edge w (opp s)) (arrange st.history first s c) (edge w s) none) (finish G S p w s st.nodes))
              (then G S (row G S g s (edge w (opp s)) (arrange st.history first s c) (edge w s) none) (finish G S p w s st.nodes))
          at st = budgeted_then _ _ _ _ (row_budgeted s (edge w (opp s)) (arrange st.history first s c) (edge w s) none) (finish_budgeted p w s st.nodes)

      turned_budgeted : (w : Interval Value) (first : Option ℕ) (o : Option Side) → Budgeted (turned G S f p w first o) (turned G S g p w first o)
      unfolding turned
      turned_budgeted w first none = budgeted_pure _ (λ st. refl) (λ st. tt)
      turned_budgeted w first (some s) = searched_budgeted w first s _

      listed_budgeted : (w : Interval Value) (first : Option ℕ) (b : Bool) (l : List ℕ) → Budgeted (listed G S f p w first b l) (listed G S g p w first b l)
      unfolding listed
      listed_budgeted w first true l = budgeted_pure _ (λ st. refl) (λ st. tt)
      listed_budgeted w first false [] = budgeted_pure _ (λ st. refl) (λ st. tt)
      listed_budgeted w first false (t ∷ l) = turned_budgeted w first (mover p)

      opened_budgeted : (x : Recalled Value) → Budgeted (opened G S f p x) (opened G S g p x)
      unfolding opened
      opened_budgeted (known v) = budgeted_pure _ (λ st. refl) (λ st. tt)
      opened_budgeted (unknown w first) = listed_budgeted w first _ (moves p)

    node_budgeted : BudgetedSearch (node G S f) (node G S g)
    unfolding node
    node_budgeted p w = record {
      unspent = λ st. (opened_budgeted p (recall G S w (get st.memo p))).unspent st;
      grows = λ st. (opened_budgeted p (recall G S w (get st.memo p))).grows st;
      within = λ st. (opened_budgeted p (recall G S w (get st.memo p))).within st;
    }

    counted_budgeted : BudgetedSearch (counted G S none f) (counted G S (some B) g)
    unfolding counted ticked passes budgeted
    counted_budgeted p w = record { unspent = λ st. (ih p w).unspent (tick G S st); grows = λ st. omega (arith, (ih p w).grows (tick G S st)); within = λ st l. go st l (ltb B (suc st.nodes)) refl }
      where
        go : (st : State S) → st.nodes ≤ B → (x : Bool) → ltb B (suc st.nodes) ≡ x → InBudget (f p w (tick G S st)) (budgeted G S x (g p w) (tick G S st))
        go st l true e = short (omega (arith, ltb-true, (ih p w).grows (tick G S st))) refl (omega (arith, ltb-true))
        go st l false e = (ih p w).within (tick G S st) (ltb-false B (suc st.nodes) e)

  -- THEOREM 2 (the budget). Let N be the count that the search reaches with no budget, from a count of at most `B`. If N is at most
  -- `B`, the search with budget `B` ends the same, in outcome and state; else it is `spent`, at a count of `B + 1`.
  pub alpha_beta_budgeted : (d : ℕ) → BudgetedSearch (alpha_beta G S none d) (alpha_beta G S (some B) d)
  unfolding alpha_beta too_deep
  alpha_beta_budgeted zero = counted_budgeted (too_deep G S) (too_deep G S) (λ p w. budgeted_pure _ (λ st. refl) (λ st. tt))
  alpha_beta_budgeted (suc d) = counted_budgeted (node G S (alpha_beta G S none d)) (node G S (alpha_beta G S (some B) d)) (node_budgeted (alpha_beta G S none d) (alpha_beta G S (some B) d) (alpha_beta_budgeted d))
