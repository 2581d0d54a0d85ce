-- Runs and the choice of the key: their budget is exact.
-- Assumes nothing.
use mathlib.Core.Path.{refl}
use mathlib.Core.Bool.{Bool, true, false}
use mathlib.Core.Option.{Option, none, some}
use mathlib.Core.List.{List, [], ◌∷◌, ◌++◌}
use Prim.Native.Nat.{ℕ, zero, suc, ◌+◌, ◌-◌, ◌/◌}
use lib.Dec.{ltb}
use Rattle.rules.specs.Game.{Game, Side, Played, to, stopped, eqv}
use Rattle.rules.specs.Search.{Entry, window, Settings, Run, Search, alpha_beta}
use Rattle.rules.specs.Drivers.{Scale, Driver, single, scout, mtd, rung, sided, begun, stepped, scout_from, mtd_next, mtd_test, mtd_from, mtd_begin, run}
use Rattle.rules.specs.Choose.{no_move, child_run, matched, played_value, check, remembered, root, started, chosen, choose}
use Rattle.theory.proofs.Budget.{Budgeted, budgeted_pure, budgeted_then, BudgetedSearch, alpha_beta_budgeted}

-- The budget.

module _ (G : Game) (S : Settings G) (B : ℕ) where
  open G use {Value, leb, Pos, moves, mover, play}
  open S.memory use {get}

  module _ (f g : Search G S) (ih : BudgetedSearch G S B f g) (p : Pos) where
    stepped_budgeted : (x : Bool) (v : Value) (m n : Run G S Value) → Budgeted G S B m n → Budgeted G S B (stepped G S x v m) (stepped G S x v n)
    unfolding stepped
    stepped_budgeted true v m n h = record { unspent = h.unspent; grows = h.grows; within = h.within }
    stepped_budgeted false v m n h = budgeted_pure G S B _ (λ st. refl) (λ st. tt)

    scout_budgeted : (σ : Scale G) (s : Side) (r n : ℕ) → Budgeted G S B (scout_from G S σ f p s r n) (scout_from G S σ g p s r n)
    unfolding scout_from
    scout_budgeted σ s zero n = budgeted_pure G S B _ (λ st. refl) (λ st. tt)
    scout_budgeted σ s (suc r) n = budgeted_then G S B _ _ _ _ (ih p (window s (rung G σ s n) (rung G σ s (suc n)))) (λ v. stepped_budgeted _ _ _ _ (scout_budgeted σ s r (suc n)))

    mtd_budgeted : (σ : Scale G) (r i j : ℕ) → Budgeted G S B (mtd_from G S σ f p r i j) (mtd_from G S σ g p r i j)
    unfolding mtd_from mtd_test mtd_next
    mtd_budgeted σ zero i j = budgeted_pure G S B _ (λ st. refl) (λ st. tt)
    mtd_budgeted σ (suc r) i j = go (mtd_budgeted σ r) (ltb i j)
      where
        next : ((i j : ℕ) → Budgeted G S B (mtd_from G S σ f p r i j) (mtd_from G S σ g p r i j)) → (v : Value) (x : Bool) → Budgeted G S B (mtd_next G S σ x v i j (mtd_from G S σ f p r)) (mtd_next G S σ x v i j (mtd_from G S σ g p r))
        next rest v true = rest _ j
        next rest v false = rest i _

        go : ((i j : ℕ) → Budgeted G S B (mtd_from G S σ f p r i j) (mtd_from G S σ g p r i j)) → (x : Bool) → Budgeted G S B (mtd_test G S σ f p x i j (mtd_from G S σ f p r)) (mtd_test G S σ g p x i j (mtd_from G S σ g p r))
        go rest false = budgeted_pure G S B _ (λ st. refl) (λ st. tt)
        go rest true =
            let k = i + (j - i - 1) / 2 in
            budgeted_then G S B _ _ _ _ (ih p (record { lo = σ.at k; hi = σ.at (suc k) })) (λ v. next rest v (leb (σ.at (suc k)) v))

    mtd_begin_budgeted : (σ : Scale G) (o : Option (Entry Value)) → Budgeted G S B (mtd_begin G S σ f p o) (mtd_begin G S σ g p o)
    unfolding mtd_begin
    mtd_begin_budgeted σ none = mtd_budgeted σ _ _ _
    mtd_begin_budgeted σ (some e) = mtd_budgeted σ _ _ _

    begun_budgeted : (b : Bool) (l : List ℕ) (m n : Side → Run G S Value) → ((s : Side) → Budgeted G S B (m s) (n s)) → Budgeted G S B (begun G S p b l m) (begun G S p b l n)
    unfolding begun sided
    begun_budgeted true l m n h = budgeted_pure G S B _ (λ st. refl) (λ st. tt)
    begun_budgeted false [] m n h = budgeted_pure G S B _ (λ st. refl) (λ st. tt)
    begun_budgeted false (t ∷ l) m n h = go (mover p)
      where
        go : (o : Option Side) → Budgeted G S B (sided G S o m) (sided G S o n)
        go none = budgeted_pure G S B _ (λ st. refl) (λ st. tt)
        go (some s) = record { unspent = (h s).unspent; grows = (h s).grows; within = (h s).within }

    pub run_budgeted : (δ : Driver G) → Budgeted G S B (run G S δ f p) (run G S δ g p)
    unfolding run
    run_budgeted single = record { unspent = (ih p _).unspent; grows = (ih p _).grows; within = (ih p _).within }
    run_budgeted (scout σ) = begun_budgeted _ (moves p) _ _ (λ s. scout_budgeted σ s σ.gaps 0)
    run_budgeted (mtd σ) = begun_budgeted _ (moves p) _ _ (λ s. record {
      unspent = λ z. (mtd_begin_budgeted σ (get z.memo p)).unspent z;
      grows = λ z. (mtd_begin_budgeted σ (get z.memo p)).grows z;
      within = λ z. (mtd_begin_budgeted σ (get z.memo p)).within z;
    })

  module _ (f g : Pos → Run G S Value) (ih : (p : Pos) → Budgeted G S B (f p) (g p)) (p : Pos) where
    child_budgeted : (q : Pos) (l : List ℕ) → Budgeted G S B (child_run G S f q l) (child_run G S g q l)
    unfolding child_run
    child_budgeted q [] = budgeted_pure G S B _ (λ st. refl) (λ st. tt)
    child_budgeted q (t ∷ l) = record { unspent = (ih q).unspent; grows = (ih q).grows; within = (ih q).within }

    played_budgeted : (y : Played Pos) → Budgeted G S B (played_value G S f y) (played_value G S g y)
    unfolding played_value
    played_budgeted (stopped x) = budgeted_pure G S B _ (λ st. refl) (λ st. tt)
    played_budgeted (to q) = record { unspent = (child_budgeted q (moves q)).unspent; grows = (child_budgeted q (moves q)).grows; within = (child_budgeted q (moves q)).within }

    check_budgeted : (v : Value) (l : List ℕ) → Budgeted G S B (check G S f p v l) (check G S g p v l)
    unfolding check matched
    check_budgeted v [] = budgeted_pure G S B _ (λ st. refl) (λ st. tt)
    check_budgeted v (t ∷ l) = budgeted_then G S B _ _ _ _ (played_budgeted (play p t)) (λ x. match (check_budgeted v l) (eqv G x v))
      where
        match : Budgeted G S B (check G S f p v l) (check G S g p v l) → (x : Bool) → Budgeted G S B (matched G S x t v (check G S f p v l)) (matched G S x t v (check G S g p v l))
        match rest true = budgeted_pure G S B _ (λ st. refl) (λ st. tt)
        match rest false = record { unspent = rest.unspent; grows = rest.grows; within = rest.within }

    started_budgeted : {A : Type 0} (a : A) (h k : Value → Run G S A) → ((v : Value) → Budgeted G S B (h v) (k v)) → (b : Bool) (l : List ℕ) → Budgeted G S B (started G S f a h p b l) (started G S g a k p b l)
    unfolding started root
    started_budgeted {A} a h k e b [] = budgeted_pure G S B _ (λ st. refl) (λ st. tt)
    started_budgeted {A} a h k e true (t ∷ l) = budgeted_pure G S B _ (λ st. refl) (λ st. tt)
    started_budgeted {A} a h k e false (t ∷ l) = go (mover p)
      where
        go : (o : Option Side) → Budgeted G S B (root G S f h p o) (root G S g k p o)
        go none = budgeted_pure G S B _ (λ st. refl) (λ st. tt)
        go (some s) = budgeted_then G S B _ _ _ _ (ih p) e

    chosen_budgeted : Budgeted G S B (chosen G S f p) (chosen G S g p)
    unfolding chosen
    chosen_budgeted = started_budgeted no_move _ _ (λ v. record {
      unspent = λ z. (check_budgeted v (remembered G S (moves p) (get z.memo p) ++ moves p)).unspent z;
      grows = λ z. (check_budgeted v (remembered G S (moves p) (get z.memo p) ++ moves p)).grows z;
      within = λ z. (check_budgeted v (remembered G S (moves p) (get z.memo p) ++ moves p)).within z;
    }) _ (moves p)

  -- THEOREM 2 for the whole call: N is the count that it reaches with no budget.
  pub choose_budgeted : (δ : Driver G) (d : ℕ) (p : Pos) → Budgeted G S B (choose G S δ none d p) (choose G S δ (some B) d p)
  unfolding choose
  choose_budgeted δ d p = chosen_budgeted _ _ (λ q. run_budgeted (alpha_beta G S none d) (alpha_beta G S (some B) d) (alpha_beta_budgeted G S B d) q δ) p
