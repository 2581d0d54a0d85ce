-- A search, a run and the choice of the key refuse only where play gives a cause, whatever the budget, window and state.
-- Assumes nothing.
use mathlib.Core.Path.{◌≡◌, refl}
use mathlib.Core.Bool.{Bool, true, false, true≢false, ◌&&◌}
use mathlib.Core.Option.{Option, none, some}
use mathlib.Core.List.Memᴰ
use mathlib.Core.List.{List, [], ◌∷◌, ◌++◌}
use mathlib.Core.Logic.{⊎_elim}
use Prim.Native.Nat.{ℕ, zero, suc, ◌+◌, ◌-◌, ◌/◌, ◌≤◌}
use native.Mathlib.Omega.{arith}
use lib.Dec.{ltb}
use lib.ListN.{length}
use borrow.Author.Tests.{ltb-true}
use Rattle.rules.specs.declared.Refusal.{Refusal}
use Rattle.rules.specs.declared.Refusal.TheVariants.{Mixed}
use Rattle.rules.specs.Limits.{max_moves}
use Rattle.rules.specs.Game.{Game, Side, opp, Played, to, stopped, eqv, ◌∈◌, leq}
use Rattle.rules.specs.Minimax.{pick}
use Rattle.rules.specs.Filter.{Verdict, keep, drop, refuse, wins}
use Rattle.rules.specs.Search.{Interval, Entry, Child, Best, Outcome, value, spent, refused, edge, window, Settings, State, Run, Search, follow, then, tick, Recalled, known, unknown, recall, Expanded, halted, won, children, add, expanded, played, expand, sifted, sift, filtered, improve, ended, row, finish, searched, turned, listed, opened, node, passes, budgeted, ticked, counted, too_deep, alpha_beta}
use Rattle.rules.specs.Drivers.{Scale, Driver, single, scout, mtd, rung, onward, sided, begun, stepped, scout_from, mtd_next, mtd_test, mtd_from, mtd_begin, run}
use Rattle.rules.specs.Choose.{no_move, child_run, matched, played_value, check, remembered, root, started, chosen, choose}
use Rattle.theory.specs.Causes.{here, by, Cause, mixed, wide, stops, deep}
use Rattle.theory.proofs.Children.{Prepared, expand_prepared, filtered_prepared}
use Rattle.theory.proofs.Choose.{remembered_in}
use Rattle.theory.proofs.Laws.{Lawful}

-- a refusal is one of `P`
abbrev pub Blames : {A : Type 0} → (Refusal → Type 0) → Outcome A → Type 0
Blames P (value a) = Unit {0}
Blames P spent = Unit {0}
Blames P (refused r) = P r

blames_map : {A : Type 0} (P Q : Refusal → Type 0) (o : Outcome A) → ((r : Refusal) → P r → Q r) → Blames P o → Blames Q o
blames_map P Q (value a) f h = tt
blames_map P Q spent f h = tt
blames_map P Q (refused r) f h = f r h

-- a cause one move down
down : (G : Game) {d e : ℕ} {p q : G.Pos} {t : ℕ} {r : Refusal} → t ∈ G.moves p → G.play p t ≡ to q → e ≤ suc d → Cause G d q r → Cause G e p r
down G i e l (mixed b ne m) = mixed (by i e b) ne m
down G i e l (wide b w) = wide (by i e b) w
down G i e l (stops b j s) = stops (by i e b) j s
down G i e l (deep b n) = deep (by i e b) (omega arith)

module _ (G : Game) (S : Settings G) where
  open G use {Value, leb, Pos, moves, mover, play}
  open S.memory use {get}

  -- a run that refuses only with a cause in `P`
  abbrev pub Blamed : {A : Type 0} → (Refusal → Type 0) → Run G S A → Type 0
  Blamed P m = (st : State S) → Blames P (m st).0

  blamed_then : (P : Refusal → Type 0) {A C : Type 0} (m : Run G S A) (k : A → Run G S C) → Blamed P m → ((a : A) → Blamed P (k a)) → Blamed P (then G S m k)
  unfolding then follow
  blamed_then P {A} m k h f st = go (m st).0 (m st).1 (h st)
    where
      go : (o : Outcome A) (z : State S) → Blames P o → Blames P (follow G S o k z).0
      go (value a) z h = f a z
      go spent z h = tt
      go (refused r) z h = h

  -- a search over `d` levels
  abbrev BlamedSearch : ℕ → Search G S → Type 0
  BlamedSearch d f = (p : Pos) (w : Interval Value) → Blamed (Cause G d p) (f p w)

  -- a position with moves and no side
  no_side : (d : ℕ) (p : Pos) (t : ℕ) (l : List ℕ) → moves p ≡ t ∷ l → mover p ≡ none → Cause G d p Mixed
  no_side d p t l e m = mixed here (λ k. true≢false (cc)) m

  -- The drivers, over a search whose refusals have a cause.
  module _ (d : ℕ) (f : Search G S) (ih : BlamedSearch d f) (p : Pos) where
    scout_blamed : (σ : Scale G) (s : Side) (r n : ℕ) → Blamed (Cause G d p) (scout_from G S σ f p s r n)
    unfolding scout_from stepped
    scout_blamed σ s zero n st = tt
    scout_blamed σ s (suc r) n st = blamed_then (Cause G d p) _ _ (ih p _) (λ v. go (scout_blamed σ s r (suc n)) (onward G σ s _ v)) st
      where
        go : Blamed (Cause G d p) (scout_from G S σ f p s r (suc n)) → (x : Bool) → Blamed (Cause G d p) (stepped G S x (rung G σ s n) (scout_from G S σ f p s r (suc n)))
        go rest true z = rest z
        go rest false z = tt

    mtd_blamed : (σ : Scale G) (r i j : ℕ) → Blamed (Cause G d p) (mtd_from G S σ f p r i j)
    unfolding mtd_from mtd_test mtd_next
    mtd_blamed σ zero i j st = tt
    mtd_blamed σ (suc r) i j st = go (mtd_blamed σ r) (ltb i j)
      where
        next : ((i j : ℕ) → Blamed (Cause G d p) (mtd_from G S σ f p r i j)) → (v : Value) (x : Bool) → Blamed (Cause G d p) (mtd_next G S σ x v i j (mtd_from G S σ f p r))
        next rest v true = rest _ j
        next rest v false = rest i _

        go : ((i j : ℕ) → Blamed (Cause G d p) (mtd_from G S σ f p r i j)) → (x : Bool) → Blames (Cause G d p) (mtd_test G S σ f p x i j (mtd_from G S σ f p r) st).0
        go rest false = tt
        go rest true =
            let k = i + (j - i - 1) / 2 in
            blamed_then (Cause G d p) _ _ (ih p (record { lo = σ.at k; hi = σ.at (suc k) })) (λ v. next rest v (leb (σ.at (suc k)) v)) st

    mtd_begin_blamed : (σ : Scale G) (o : Option (Entry Value)) → Blamed (Cause G d p) (mtd_begin G S σ f p o)
    unfolding mtd_begin
    mtd_begin_blamed σ none = mtd_blamed σ _ _ _
    mtd_begin_blamed σ (some e) = mtd_blamed σ _ _ _

    begun_blamed : (k : Side → Run G S Value) → ((s : Side) → Blamed (Cause G d p) (k s)) → Blamed (Cause G d p) (begun G S p (ltb max_moves (length (moves p))) (moves p) k)
    unfolding begun sided
    begun_blamed k h st = go (ltb max_moves (length (moves p))) refl (moves p) refl
      where
        side : (t : ℕ) (l : List ℕ) → moves p ≡ t ∷ l → (o : Option Side) → mover p ≡ o → Blames (Cause G d p) (sided G S o k st).0
        side t l e none m = no_side d p t l e m
        side t l e (some s) m = h s st

        go : (b : Bool) → ltb max_moves (length (moves p)) ≡ b → (l : List ℕ) → moves p ≡ l → Blames (Cause G d p) (begun G S p b l k st).0
        go true w l e = wide here (ltb-true max_moves (length (moves p)) w)
        go false w [] e = tt
        go false w (t ∷ l) e = side t l e (mover p) refl

    run_blamed : (δ : Driver G) → Blamed (Cause G d p) (run G S δ f p)
    unfolding run
    run_blamed single st = ih p _ st
    run_blamed (scout σ) st = begun_blamed _ (λ s. scout_blamed σ s σ.gaps 0) st
    run_blamed (mtd σ) st = begun_blamed _ (λ s z. mtd_begin_blamed σ (get z.memo p) z) st

  -- Choosing, over runs whose refusals have a cause.
  module _ (d : ℕ) (r : Pos → Run G S Value) (ih : (q : Pos) → Blamed (Cause G d q) (r q)) (p : Pos) where
    child_blamed : (q : Pos) (l : List ℕ) → Blamed (Cause G d q) (child_run G S r q l)
    unfolding child_run
    child_blamed q [] st = tt
    child_blamed q (t ∷ l) st = ih q st

    played_blamed : (t : ℕ) → t ∈ moves p → (y : Played Pos) → play p t ≡ y → Blamed (Cause G d p) (played_value G S r y)
    unfolding played_value
    played_blamed t i (stopped x) e st = stops here i e
    played_blamed t i (to q) e st = blames_map (Cause G d q) (Cause G d p) (child_run G S r q (moves q) st).0 (λ x c. down G i e (omega arith) c) (child_blamed q (moves q) st)

    check_blamed : (v : Value) (l : List ℕ) → ((t : ℕ) → t ∈ l → t ∈ moves p) → Blamed (Cause G d p) (check G S r p v l)
    unfolding check matched
    check_blamed v [] h st = tt
    check_blamed v (t ∷ l) h st = blamed_then (Cause G d p) _ _ (played_blamed t (h t (Memᴰ.head refl)) (play p t) refl) (λ x. match (check_blamed v l (λ u i. h u (Memᴰ.tail i))) (eqv G x v)) st
      where
        match : Blamed (Cause G d p) (check G S r p v l) → (x : Bool) → Blamed (Cause G d p) (matched G S x t v (check G S r p v l))
        match rest true z = tt
        match rest false z = rest z

    started_blamed : {A : Type 0} (a : A) (k : Value → Run G S A) → ((v : Value) → Blamed (Cause G d p) (k v)) → Blamed (Cause G d p) (started G S r a k p (ltb max_moves (length (moves p))) (moves p))
    unfolding started root
    started_blamed {A} a k h st = go (ltb max_moves (length (moves p))) refl (moves p) refl
      where
        side : (t : ℕ) (l : List ℕ) → moves p ≡ t ∷ l → (o : Option Side) → mover p ≡ o → Blames (Cause G d p) (root G S r k p o st).0
        side t l e none m = no_side d p t l e m
        side t l e (some s) m = blamed_then (Cause G d p) _ _ (ih p) h st

        go : (b : Bool) → ltb max_moves (length (moves p)) ≡ b → (l : List ℕ) → moves p ≡ l → Blames (Cause G d p) (started G S r a k p b l st).0
        go b w [] e = tt
        go true w (t ∷ l) e = wide here (ltb-true max_moves (length (moves p)) w)
        go false w (t ∷ l) e = side t l e (mover p) refl

    chosen_blamed : Blamed (Cause G d p) (chosen G S r p)
    unfolding chosen
    chosen_blamed = started_blamed no_move _ (λ v z. check_blamed v _ (tries z) z)
      where
        tries : (z : State S) (u : ℕ) → u ∈ remembered G S (moves p) (get z.memo p) ++ moves p → u ∈ moves p
        tries z u i = ⊎_elim (remembered_in G S (moves p) (get z.memo p) u) (λ j. j) (Memᴰ.append_cases (remembered G S (moves p) (get z.memo p)) i)

-- The search.
module _ (G : Game) (S : Settings G) (M : Lawful G S) where
  open G use {Value, Pos, moves, mover, play}
  open S.memory use {get}
  open S.policy use {arrange, must_win, non_losing, lost}
  open M.order use {arranged, lost_cause}

  abbrev Halts : (Refusal → Type 0) → Expanded Pos → Type 0
  Halts P (halted r) = P r
  Halts P (won t) = Unit {0}
  Halts P (children c) = Unit {0}

  halts_add : (P : Refusal → Type 0) (c : Child Pos) (x : Expanded Pos) → Halts P x → Halts P (add c x)
  unfolding add
  halts_add P c (halted r) h = h
  halts_add P c (won t) h = tt
  halts_add P c (children l) h = tt

  module _ (d : ℕ) (p : Pos) where
    expand_halts : (s : Side) (l : List ℕ) → ((t : ℕ) → t ∈ l → t ∈ moves p) → Halts (Cause G (suc d) p) (expand G S s p l)
    unfolding expand played expanded
    expand_halts s [] h = tt
    expand_halts s (t ∷ l) h = go (play p t) refl (expand G S s p l) (expand_halts s l (λ u i. h u (Memᴰ.tail i)))
      where
        test : (q : Pos) (b : Bool) (x : Expanded Pos) → Halts (Cause G (suc d) p) x → Halts (Cause G (suc d) p) (expanded b t q x)
        test q true x k = tt
        test q false x k = halts_add (Cause G (suc d) p) (record { move = t; pos = q }) x k

        go : (y : Played Pos) → play p t ≡ y → (x : Expanded Pos) → Halts (Cause G (suc d) p) x → Halts (Cause G (suc d) p) (played G S s t y x)
        go (stopped r) e x k = stops here (h t (Memᴰ.head refl)) e
        go (to q) e x k = test q (must_win && wins G s q) x k

    -- children of `p`
    abbrev ChildrenOf : List (Child Pos) → Type 0
    ChildrenOf c = (k : Child Pos) → k ∈ c → (k.move ∈ moves p) × (play p k.move ≡ to k.pos)

    sift_halts : (s : Side) (c : List (Child Pos)) → ChildrenOf c → Halts (Cause G (suc d) p) (sift G S s c)
    unfolding sift sifted
    sift_halts s [] h = tt
    sift_halts s (k ∷ c) h = go (lost s k.pos) refl (sift G S s c) (sift_halts s c (λ j i. h j (Memᴰ.tail i)))
      where
        go : (v : Verdict) → lost s k.pos ≡ v → (x : Expanded Pos) → Halts (Cause G (suc d) p) x → Halts (Cause G (suc d) p) (sifted v k x)
        go keep e x u = halts_add (Cause G (suc d) p) k x u
        go drop e x u = u
        go (refuse r) e x u = let (i, f) = h k (Memᴰ.head refl) in down G i f (omega arith) (lost_cause d s k.pos r e)

    filtered_halts : (s : Side) (b : Bool) (x : Expanded Pos) → Prepared G S M s p (moves p) x → Halts (Cause G (suc d) p) x → Halts (Cause G (suc d) p) (filtered G S b s x)
    unfolding filtered
    filtered_halts s b (halted r) h u = u
    filtered_halts s b (won t) h u = tt
    filtered_halts s true (children c) h u = sift_halts s c h.real
    filtered_halts s false (children c) h u = tt

    module _ (f : Search G S) (ih : BlamedSearch G S d f) where
      row_blamed : (s : Side) (β : Value) (l : List (Child Pos)) → ChildrenOf l → (α : Value) (b : Option (Best Value)) → Blamed G S (Cause G (suc d) p) (row G S f s β l α b)
      unfolding row ended
      row_blamed s β [] h α b st = tt
      row_blamed s β (c ∷ l) h α b st =
          let (i, e) = h c (Memᴰ.head refl) in
          blamed_then G S (Cause G (suc d) p) _ _ (λ z. blames_map (Cause G d c.pos) (Cause G (suc d) p) (f c.pos (window s α β) z).0 (λ r k. down G i e (omega arith) k) (ih c.pos (window s α β) z))
          (λ v z. go (row_blamed s β l (λ j k. h j (Memᴰ.tail k))) (leq G s β (pick G s α v)) (pick G s α v) (improve G S s b v c.move) z) st
        where
          go : ((α : Value) (b : Option (Best Value)) → Blamed G S (Cause G (suc d) p) (row G S f s β l α b)) → (x : Bool) (α : Value) (b : Option (Best Value)) → Blamed G S (Cause G (suc d) p) (ended G S x c.move (row G S f s β l) α b)
          go rest true α b z = tt
          go rest false α b z = rest α b z

      finish_blamed : (w : Interval Value) (s : Side) (n : ℕ) (b : Option (Best Value)) → Blamed G S (Cause G (suc d) p) (finish G S p w s n b)
      unfolding finish
      finish_blamed w s n none st = tt
      finish_blamed w s n (some b) st = tt

      searched_blamed : (w : Interval Value) (first : Option ℕ) (s : Side) (x : Expanded Pos) → Prepared G S M s p (moves p) x → Halts (Cause G (suc d) p) x → Blamed G S (Cause G (suc d) p) (searched G S f p w first s x)
      unfolding searched
      searched_blamed w first s (halted r) h u st = u
      searched_blamed w first s (won m) h u st = tt
      searched_blamed w first s (children c) h u st =
          blamed_then G S (Cause G (suc d) p) _ _ (row_blamed s (edge w (opp s)) (arrange st.history first s c) (λ k i. h.real k ((arranged st.history first s c k).1 i)) (edge w s) none) (finish_blamed w s st.nodes) st

      opened_blamed : (x : Recalled Value) → Blamed G S (Cause G (suc d) p) (opened G S f p x)
      unfolding opened listed turned
      opened_blamed (known v) st = tt
      opened_blamed (unknown w first) st = go (ltb max_moves (length (moves p))) refl (moves p) refl
        where
          side : (t : ℕ) (l : List ℕ) → moves p ≡ t ∷ l → (o : Option Side) → mover p ≡ o → Blames (Cause G (suc d) p) (turned G S f p w first o st).0
          side t l e none m = no_side G S (suc d) p t l e m
          side t l e (some s) m =
              let h = expand_prepared G S M s p (moves p) in
              searched_blamed w first s _ (filtered_prepared G S M s p non_losing (moves p) _ h) (filtered_halts s non_losing _ h (expand_halts s (moves p) (λ u i. i))) st

          go : (b : Bool) → ltb max_moves (length (moves p)) ≡ b → (l : List ℕ) → moves p ≡ l → Blames (Cause G (suc d) p) (listed G S f p w first b l st).0
          go true b l e = wide here (ltb-true max_moves (length (moves p)) b)
          go false b [] e = tt
          go false b (t ∷ l) e = side t l e (mover p) refl

  counted_blamed : (b : Option ℕ) (d : ℕ) (f : Search G S) → BlamedSearch G S d f → BlamedSearch G S d (counted G S b f)
  unfolding counted ticked budgeted
  counted_blamed b d f h p w st = go (passes G S b (suc st.nodes))
    where
      go : (x : Bool) → Blames (Cause G d p) (budgeted G S x (f p w) (tick G S st)).0
      go true = tt
      go false = h p w (tick G S st)

  pub alpha_beta_blamed : (b : Option ℕ) (d : ℕ) → BlamedSearch G S d (alpha_beta G S b d)
  unfolding alpha_beta too_deep node
  alpha_beta_blamed b zero = counted_blamed b zero (too_deep G S) (λ p w st. deep here (omega arith))
  alpha_beta_blamed b (suc d) = counted_blamed b (suc d) (node G S (alpha_beta G S b d)) (λ p w st. opened_blamed d p (alpha_beta G S b d) (alpha_beta_blamed b d) (recall G S w (get st.memo p)) st)

  -- Choosing refuses only with a cause in play from the position, where a line of `d` moves is too long.
  pub choose_blamed : (δ : Driver G) (b : Option ℕ) (d : ℕ) (p : Pos) → Blamed G S (Cause G d p) (choose G S δ b d p)
  unfolding choose
  choose_blamed δ b d p = chosen_blamed G S d (run G S δ (alpha_beta G S b d)) (λ q. run_blamed G S d (alpha_beta G S b d) (alpha_beta_blamed b d) q δ) p
