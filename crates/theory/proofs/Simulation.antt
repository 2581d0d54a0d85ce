-- THE SIMULATION LAW: two searches of the same play run in step, if their values are related by a relation that the tests respect, their
-- scores and bounds are related, and related memos read related entries and keep them on a store. They end alike, with related values,
-- the same history, and the same count, or counts that are `off` apart where one began with `off` nodes and `off` more of a budget.
-- Assumes nothing.
use mathlib.Core.Path.{◌≡◌, refl, ap, ◌∙◌}
use mathlib.Core.Bool.{Bool, true, false, cond, ◌&&◌, ◌||◌}
use mathlib.Core.Option.{Option, none, some}
use mathlib.Core.List.Memᴰ
use mathlib.Core.List.{List, [], ◌∷◌}
use mathlib.Core.Logic.{◌⊎◌, inl, inr}
use Prim.Native.Nat.{ℕ, zero, suc, ◌+◌, ◌-◌}
use native.Mathlib.Omega.{arith}
use lib.Dec.{ltb}
use lib.ListN.{length}
use Rattle.rules.specs.Limits.{max_moves}
use Rattle.rules.specs.Game.{Game, Values, valued, Side, max, min, opp, Played, to, stopped, ◌∈◌, leq, worst, eqv}
use Rattle.rules.specs.Minimax.{pick}
use Rattle.rules.specs.Filter.{Verdict, keep, drop, refuse, over, wins, replied, reply_played, reply_wins, replies, replier, lost_listed, lost}
use Rattle.rules.specs.Search.{Interval, Entry, Child, Best, Recalled, known, unknown, Expanded, halted, won, children, add, expanded, sifted, Outcome, value, spent, refused, edge, window, meet, Memory, Policy, Settings, State, Run, Search, follow, then, tick, recalled, recall, played, expand, sift, filtered, improve, ended, row, proved, finish, searched, turned, listed, opened, node, passes, budgeted, ticked, counted, too_deep, alpha_beta}

-- two options, both none or both related
abbrev pub Both : {A C : Type 0} → (A → C → Type 0) → Option A → Option C → Type 0
Both P none none = Unit {0}
Both P none (some c) = ⊥
Both P (some a) none = ⊥
Both P (some a) (some c) = P a c

-- two outcomes of one kind, with related values
abbrev pub Agree : {A C : Type 0} → (A → C → Type 0) → Outcome A → Outcome C → Type 0
Agree P (value a) (value c) = P a c
Agree P (value a) spent = ⊥
Agree P (value a) (refused r) = ⊥
Agree P spent (value c) = ⊥
Agree P spent spent = Unit {0}
Agree P spent (refused r) = ⊥
Agree P (refused q) (value c) = ⊥
Agree P (refused q) spent = ⊥
Agree P (refused q) (refused r) = q ≡ r

module _ {A C : Type 0} (Rel : A → C → Type 0) where
  pub record Intervals (i : Interval A) (j : Interval C) : Type 0 where
    pub lo_rel : Rel i.lo j.lo
    pub hi_rel : Rel i.hi j.hi

  pub record Entries (e : Entry A) (f : Entry C) : Type 0 where
    pub bounds_rel : Intervals e.bounds f.bounds
    pub best_same : e.best ≡ f.best

  pub record Bests (b : Best A) (c : Best C) : Type 0 where
    pub value_rel : Rel b.best_value c.best_value
    pub move_same : b.best_move ≡ c.best_move

  abbrev pub Recalls : Recalled A → Recalled C → Type 0
  Recalls (known v) (known x) = Rel v x
  Recalls (known v) (unknown w f) = ⊥
  Recalls (unknown w f) (known x) = ⊥
  Recalls (unknown w f) (unknown z g) = Intervals w z × (f ≡ g)

  edge_rel : {i : Interval A} {j : Interval C} → Intervals i j → (s : Side) → Rel (edge i s) (edge j s)
  edge_rel h max = h.lo_rel
  edge_rel h min = h.hi_rel

  pub window_rel : (s : Side) {a b : A} {x y : C} → Rel a x → Rel b y → Intervals (window s a b) (window s x y)
  window_rel max h k = record { lo_rel = h; hi_rel = k }
  window_rel min h k = record { lo_rel = k; hi_rel = h }

-- What is asked of values, related by `Rel`.
pub record Related (G : Game) (W : Values G.Pos) (Rel : G.Value → W.Value → Type 0) : Type 0 where
  pub leb_same : (a b : G.Value) (x y : W.Value) → Rel a x → Rel b y → G.leb a b ≡ W.leb x y
  pub low_rel : Rel G.low W.low
  pub high_rel : Rel G.high W.high
  pub score_rel : (p : G.Pos) → Rel (G.score p) (W.score p)

module _ (G : Game) (W : Values G.Pos) (Rel : G.Value → W.Value → Type 0) (related : Related G W Rel) where
  open related use {leb_same, low_rel, high_rel, score_rel}

  leq_same : (s : Side) (a b : G.Value) (x y : W.Value) → Rel a x → Rel b y → leq G s a b ≡ leq (valued G W) s x y
  leq_same max a b x y h k = leb_same a b x y h k
  leq_same min a b x y h k = leb_same b a y x k h

  pub eqv_same : (a b : G.Value) (x y : W.Value) → Rel a x → Rel b y → eqv G a b ≡ eqv (valued G W) x y
  eqv_same a b x y h k = rw (leb_same a b x y h k, leb_same b a y x k h) refl

  worst_rel : (s : Side) → Rel (worst G s) (worst (valued G W) s)
  worst_rel max = low_rel
  worst_rel min = high_rel

  pick_rel : (s : Side) (a b : G.Value) (x y : W.Value) → Rel a x → Rel b y → Rel (pick G s a b) (pick (valued G W) s x y)
  unfolding pick
  pick_rel s a b x y h k = rw (leq_same s b a y x k h) (go (leq (valued G W) s y x))
    where
      go : (t : Bool) → Rel (cond t a b) (cond t x y)
      go true = h
      go false = k

  pub meet_rel : (i j : Interval G.Value) (u v : Interval W.Value) → Intervals Rel i u → Intervals Rel j v → Intervals Rel (meet G i j) (meet (valued G W) u v)
  unfolding meet
  meet_rel i j u v h k = record { lo_rel = pick_rel max _ _ _ _ h.lo_rel k.lo_rel; hi_rel = pick_rel min _ _ _ _ h.hi_rel k.hi_rel }

  pub wins_same : (s : Side) (q : G.Pos) → wins G s q ≡ wins (valued G W) s q
  unfolding wins
  wins_same s q = ap (λ t. over (G.moves q) && t) (eqv_same _ _ _ _ (score_rel q) (worst_rel (opp s)))

  -- So the filter `lost` is the same over both.
  module _ (candidates : Side → G.Pos → List ℕ) where
    reply_wins_same : (s : Side) (q : G.Pos) (l : List ℕ) → reply_wins G candidates s q l ≡ reply_wins (valued G W) candidates s q l
    unfolding reply_wins reply_played replied
    reply_wins_same s q [] = refl
    reply_wins_same s q (u ∷ l) = go (G.play q u) (reply_wins_same s q l)
      where
        test : (b : Bool) → reply_wins G candidates s q l ≡ reply_wins (valued G W) candidates s q l → replied G candidates b (reply_wins G candidates s q l) ≡ replied (valued G W) candidates b (reply_wins (valued G W) candidates s q l)
        test true e = refl
        test false e = e

        go : (x : Played G.Pos) → reply_wins G candidates s q l ≡ reply_wins (valued G W) candidates s q l → reply_played G candidates s x (reply_wins G candidates s q l) ≡ reply_played (valued G W) candidates s x (reply_wins (valued G W) candidates s q l)
        go (stopped r) e = refl
        go (to x) e = rw (wins_same (opp s) x) (test (wins (valued G W) (opp s) x) e)

    replies_same : (s o : Side) (q : G.Pos) → replies G candidates s o q ≡ replies (valued G W) candidates s o q
    unfolding replies
    replies_same max max q = refl
    replies_same max min q = reply_wins_same max q (candidates max q)
    replies_same min max q = reply_wins_same min q (candidates min q)
    replies_same min min q = refl

    pub lost_same : (s : Side) (q : G.Pos) → lost G candidates s q ≡ lost (valued G W) candidates s q
    unfolding lost lost_listed replier
    lost_same s q = go (ltb max_moves (length (G.moves q))) (G.moves q)
      where
        side : (o : Option Side) → replier G candidates s q o ≡ replier (valued G W) candidates s q o
        side none = refl
        side (some o) = replies_same s o q

        go : (b : Bool) (l : List ℕ) → lost_listed G candidates s q b l ≡ lost_listed (valued G W) candidates s q b l
        go true l = refl
        go false [] = refl
        go false (u ∷ l) = side (G.mover q)

-- And of memos, related by `Alike`, at the positions that are `Real`.
module _ (G : Game) (W : Values G.Pos) (μ : Memory G) (ν : Memory (valued G W)) where
  pub record InStep (Rel : G.Value → W.Value → Type 0) (Alike : μ.Memo → ν.Memo → Type 0) (Real : G.Pos → Type 0) : Type 0 where
    pub values : Related G W Rel
    pub get_rel : (m : μ.Memo) (n : ν.Memo) (p : G.Pos) → Real p → Alike m n → Both (Entries Rel) (μ.get m p) (ν.get n p)
    pub store_alike : (m : μ.Memo) (n : ν.Memo) (p : G.Pos) (e : Entry G.Value) (f : Entry W.Value) (work : ℕ) → Real p → Alike m n → Entries Rel e f → Alike (μ.store m p e work) (ν.store n p f work)

-- Play and the order keep to the positions that are `Real`.
module _ (G : Game) (Real : G.Pos → Type 0) where
  abbrev pub AllReal : List (Child G.Pos) → Type 0
  AllReal l = (c : Child G.Pos) → c ∈ l → Real c.pos

  pub record Closed (π : Policy G.Pos) : Type 0 where
    pub play_real : (p : G.Pos) (t : ℕ) (q : G.Pos) → Real p → G.play p t ≡ to q → Real q
    pub arrange_real : (h : π.History) (b : Option ℕ) (s : Side) (l : List (Child G.Pos)) → AllReal l → AllReal (π.arrange h b s l)

module _ (G : Game) (W : Values G.Pos) (μ : Memory G) (ν : Memory (valued G W)) (π : Policy G.Pos) (Rel : G.Value → W.Value → Type 0) (Alike : μ.Memo → ν.Memo → Type 0) where
  abbrev pub H : Game
  H = valued G W

  abbrev pub S : Settings G
  S = record { memory = μ; policy = π }

  abbrev pub T : Settings (valued G W)
  T = record { memory = ν; policy = π }

  -- states in step, `off` nodes apart
  pub record Near (off : ℕ) (st : State S) (z : State T) : Type 0 where
    pub memo_alike : Alike st.memo z.memo
    pub history_same : st.history ≡ z.history
    pub nodes_off : st.nodes ≡ off + z.nodes

  -- ends in step
  pub record Ends {A C : Type 0} (off : ℕ) (P : A → C → Type 0) (x : Outcome A × State S) (y : Outcome C × State T) : Type 0 where
    pub agree : Agree P x.0 y.0
    pub near : Near off x.1 y.1

  -- runs in step
  abbrev pub Steps : {A C : Type 0} → ℕ → (A → C → Type 0) → Run G S A → Run H T C → Type 0
  Steps off P f g = (st : State S) (z : State T) → Near off st z → Ends off P (f st) (g z)

  abbrev pub StepSearch : (G.Pos → Type 0) → ℕ → Search G S → Search H T → Type 0
  StepSearch Real off f g = (p : G.Pos) (w : Interval G.Value) (x : Interval W.Value) → Real p → Intervals Rel w x → Steps off Rel (f p w) (g p x)

  module _ (off : ℕ) where
    pub steps_then : {A C B D : Type 0} (P : A → C → Type 0) (Q : B → D → Type 0) (f : Run G S A) (g : Run H T C) (h : A → Run G S B) (k : C → Run H T D) →
        Steps off P f g → ((a : A) (c : C) → P a c → Steps off Q (h a) (k c)) → Steps off Q (then G S f h) (then H T g k)
    unfolding then follow
    steps_then {A} {C} {B} {D} P Q f g h k r n st z e = go (f st).0 (g z).0 (f st).1 (g z).1 (r st z e).agree (r st z e).near
      where
        go : (x : Outcome A) (y : Outcome C) (u : State S) (v : State T) → Agree P x y → Near off u v → Ends off Q (follow G S x h u) (follow H T y k v)
        go (value a) (value c) u v p l = n a c p u v l
        go (value a) spent u v p l = absurd p
        go (value a) (refused r) u v p l = absurd p
        go spent (value c) u v p l = absurd p
        go spent spent u v p l = record { agree = tt; near = l }
        go spent (refused r) u v p l = absurd p
        go (refused q) (value c) u v p l = absurd p
        go (refused q) spent u v p l = absurd p
        go (refused q) (refused r) u v p l = record { agree = p; near = l }

  module _ (Real : G.Pos → Type 0) (I : InStep G W μ ν Rel Alike Real) (K : Closed G Real π) where
    open I use {values, get_rel, store_alike}
    open K use {play_real, arrange_real}
    open I.values use {leb_same, low_rel, high_rel, score_rel}

    recall_rel : (w : Interval G.Value) (x : Interval W.Value) (e : Option (Entry G.Value)) (f : Option (Entry W.Value)) → Intervals Rel w x → Both (Entries Rel) e f → Recalls Rel (recall G S w e) (recall H T x f)
    unfolding recall recalled
    recall_rel w x none none h k = (h, refl)
    recall_rel w x none (some f) h k = absurd k
    recall_rel w x (some e) none h k = absurd k
    recall_rel w x (some e) (some f) h k =
        let b = k.bounds_rel in
        rw (eqv_same G W Rel values _ _ _ _ b.lo_rel b.hi_rel, leb_same _ _ _ _ h.hi_rel b.lo_rel, leb_same _ _ _ _ b.hi_rel h.lo_rel)
        (go (eqv H f.bounds.lo f.bounds.hi || W.leb x.hi f.bounds.lo) (W.leb f.bounds.hi x.lo))
      where
        go : (t u : Bool) → Recalls Rel (recalled G S t u w e) (recalled H T t u x f)
        go true u = k.bounds_rel.lo_rel
        go false true = k.bounds_rel.hi_rel
        go false false = (meet_rel G W Rel values _ _ _ _ h k.bounds_rel, k.best_same)

    -- The children.

    expand_same : (s : Side) (p : G.Pos) (l : List ℕ) → expand G S s p l ≡ expand H T s p l
    unfolding expand played
    expand_same s p [] = refl
    expand_same s p (t ∷ l) = go (G.play p t) (expand_same s p l)
      where
        go : (x : Played G.Pos) → expand G S s p l ≡ expand H T s p l → played G S s t x (expand G S s p l) ≡ played H T s t x (expand H T s p l)
        go (stopped r) e = refl
        go (to q) e = rw (e, wins_same G W Rel values s q) refl

    sift_same : (s : Side) (l : List (Child G.Pos)) → sift G S s l ≡ sift H T s l
    unfolding sift
    sift_same s [] = refl
    sift_same s (c ∷ l) = ap (sifted (π.lost s c.pos) c) (sift_same s l)

    filtered_same : (b : Bool) (s : Side) (x : Expanded G.Pos) → filtered G S b s x ≡ filtered H T b s x
    unfolding filtered
    filtered_same b s (halted r) = refl
    filtered_same b s (won t) = refl
    filtered_same true s (children l) = sift_same s l
    filtered_same false s (children l) = refl

    abbrev Reals : Expanded G.Pos → Type 0
    Reals (halted r) = Unit {0}
    Reals (won t) = Unit {0}
    Reals (children l) = AllReal G Real l

    add_real : (c : Child G.Pos) (x : Expanded G.Pos) → Real c.pos → Reals x → Reals (add c x)
    unfolding add
    add_real c (halted r) k h = tt
    add_real c (won t) k h = tt
    add_real c (children l) k h = λ d i. go d (Memᴰ.cases_cons i)
      where
        go : (d : Child G.Pos) → (d ≡ c) ⊎ (d ∈ l) → Real d.pos
        go d (inl e) = rw e k
        go d (inr i) = h d i

    expand_real : (s : Side) (p : G.Pos) (l : List ℕ) → Real p → Reals (expand H T s p l)
    unfolding expand played expanded
    expand_real s p [] k = λ c i. absurd (Memᴰ.not-nil i)
    expand_real s p (t ∷ l) k = go (G.play p t) refl (expand_real s p l k)
      where
        test : (b : Bool) (q : G.Pos) → Real q → Reals (expand H T s p l) → Reals (expanded b t q (expand H T s p l))
        test true q r h = tt
        test false q r h = add_real _ _ r h

        go : (x : Played G.Pos) → G.play p t ≡ x → Reals (expand H T s p l) → Reals (played H T s t x (expand H T s p l))
        go (stopped r) e h = tt
        go (to q) e h = test (π.must_win && wins H s q) q (play_real p t q k e) h

    sift_real : (s : Side) (l : List (Child G.Pos)) → AllReal G Real l → Reals (sift H T s l)
    unfolding sift sifted
    sift_real s [] h = h
    sift_real s (c ∷ l) h = go (π.lost s c.pos) (sift_real s l (λ d i. h d (Memᴰ.tail i)))
      where
        go : (v : Verdict) → Reals (sift H T s l) → Reals (sifted v c (sift H T s l))
        go keep k = add_real c _ (h c (Memᴰ.head refl)) k
        go drop k = k
        go (refuse r) k = tt

    filtered_real : (b : Bool) (s : Side) (x : Expanded G.Pos) → Reals x → Reals (filtered H T b s x)
    unfolding filtered
    filtered_real b s (halted r) h = tt
    filtered_real b s (won t) h = tt
    filtered_real true s (children l) h = sift_real s l h
    filtered_real false s (children l) h = h

    -- The search, `off` nodes apart.

    module _ (off : ℕ) where
      pub steps_value : {A C : Type 0} (P : A → C → Type 0) (a : A) (c : C) → P a c → Steps off P (λ st. (value a, st)) (λ z. (value c, z))
      steps_value P a c h st z n = record { agree = h; near = n }

      near_cut : (t : ℕ) (st : State S) (z : State T) → Near off st z → Near off (record { memo = st.memo; history = π.cutoff st.history t; nodes = st.nodes }) (record { memo = z.memo; history = π.cutoff z.history t; nodes = z.nodes })
      near_cut t st z n = record { memo_alike = n.memo_alike; history_same = ap (λ h. π.cutoff h t) n.history_same; nodes_off = n.nodes_off }

      -- a store of related entries, found by as many nodes
      near_store : (p : G.Pos) (e : Entry G.Value) (f : Entry W.Value) (work : ℕ) (st : State S) (z : State T) → Real p → Entries Rel e f → Near off st z →
          Near off (record { memo = μ.store st.memo p e work; history = st.history; nodes = st.nodes }) (record { memo = ν.store z.memo p f work; history = z.history; nodes = z.nodes })
      near_store p e f work st z r h n = record { memo_alike = store_alike _ _ p e f work r n.memo_alike h; history_same = n.history_same; nodes_off = n.nodes_off }

      exactly_rel : (v : G.Value) (x : W.Value) (t : Option ℕ) → Rel v x → Entries Rel (record { bounds = record { lo = v; hi = v }; best = t }) (record { bounds = record { lo = x; hi = x }; best = t })
      exactly_rel v x t h = record { bounds_rel = record { lo_rel = h; hi_rel = h }; best_same = refl }

      improve_rel : (s : Side) (b : Option (Best G.Value)) (c : Option (Best W.Value)) (v : G.Value) (x : W.Value) (t : ℕ) → Both (Bests Rel) b c → Rel v x → Both (Bests Rel) (improve G S s b v t) (improve H T s c x t)
      unfolding improve
      improve_rel s none none v x t h k = record { value_rel = k; move_same = refl }
      improve_rel s none (some c) v x t h k = absurd h
      improve_rel s (some b) none v x t h k = absurd h
      improve_rel s (some b) (some c) v x t h k = rw (leq_same G W Rel values s _ _ _ _ k h.value_rel) (go (leq H s x c.best_value))
        where
          go : (y : Bool) → Bests Rel (cond y b (record { best_value = v; best_move = t })) (cond y c (record { best_value = x; best_move = t }))
          go true = h
          go false = record { value_rel = k; move_same = refl }

      module _ (f : Search G S) (g : Search H T) (ih : StepSearch Real off f g) where
        -- a row from alpha and the best so far
        abbrev StepRow : (G.Value → Option (Best G.Value) → Run G S (Option (Best G.Value))) → (W.Value → Option (Best W.Value) → Run H T (Option (Best W.Value))) → Type 0
        StepRow r q = (α : G.Value) (ξ : W.Value) (b : Option (Best G.Value)) (c : Option (Best W.Value)) → Rel α ξ → Both (Bests Rel) b c → Steps off (Both (Bests Rel)) (r α b) (q ξ c)

        ended_steps : (y : Bool) (t : ℕ) (r : G.Value → Option (Best G.Value) → Run G S (Option (Best G.Value))) (q : W.Value → Option (Best W.Value) → Run H T (Option (Best W.Value))) → StepRow r q → StepRow (ended G S y t r) (ended H T y t q)
        unfolding ended
        ended_steps true t r q h α ξ b c a k st z n = record { agree = k; near = near_cut t st z n }
        ended_steps false t r q h α ξ b c a k st z n = h α ξ b c a k st z n

        row_steps : (s : Side) (β : G.Value) (υ : W.Value) → Rel β υ → (l : List (Child G.Pos)) → AllReal G Real l → StepRow (row G S f s β l) (row H T g s υ l)
        unfolding row
        row_steps s β υ hb [] r α ξ b c a k = steps_value (Both (Bests Rel)) b c k
        row_steps s β υ hb (x ∷ l) r α ξ b c a k =
            steps_then off Rel (Both (Bests Rel)) (f x.pos (window s α β)) (g x.pos (window s ξ υ)) _ _
            (ih x.pos (window s α β) (window s ξ υ) (r x (Memᴰ.head refl)) (window_rel Rel s a hb)) (λ v y h. next (row_steps s β υ hb l (λ d i. r d (Memᴰ.tail i))) v y h)
          where
            next : StepRow (row G S f s β l) (row H T g s υ l) → (v : G.Value) (y : W.Value) → Rel v y →
                Steps off (Both (Bests Rel))
                (ended G S (leq G s β (pick G s α v)) x.move (row G S f s β l) (pick G s α v) (improve G S s b v x.move))
                (ended H T (leq H s υ (pick H s ξ y)) x.move (row H T g s υ l) (pick H s ξ y) (improve H T s c y x.move))
            next rest v y h =
                rw (leq_same G W Rel values s _ _ _ _ hb (pick_rel G W Rel values s α v ξ y a h))
                (ended_steps (leq H s υ (pick H s ξ y)) x.move _ _ rest (pick G s α v) (pick H s ξ y) (improve G S s b v x.move) (improve H T s c y x.move) (pick_rel G W Rel values s α v ξ y a h) (improve_rel s b c v y x.move k h))

        same_row_steps : (s : Side) (β : G.Value) (υ : W.Value) → Rel β υ → (l m : List (Child G.Pos)) → l ≡ m → AllReal G Real m → StepRow (row G S f s β l) (row H T g s υ m)
        same_row_steps s β υ hb l m e r α ξ b c a k = rw e (row_steps s β υ hb m r α ξ b c a k)

        proved_rel : (t u : Bool) (v : G.Value) (x : W.Value) → Rel v x → Intervals Rel (proved G S t u v) (proved H T t u x)
        unfolding proved
        proved_rel true u v x h = record { lo_rel = low_rel; hi_rel = h }
        proved_rel false true v x h = record { lo_rel = h; hi_rel = high_rel }
        proved_rel false false v x h = record { lo_rel = h; hi_rel = h }

        -- the nodes below a node are as many on both sides
        same_work : (a b c d o : ℕ) → a ≡ o + b → c ≡ o + d → a - c ≡ b - d
        same_work a b c d o h k = omega arith

        finish_steps : (p : G.Pos) → Real p → (w : Interval G.Value) (x : Interval W.Value) (s : Side) (n k : ℕ) → Intervals Rel w x → n ≡ off + k → (b : Option (Best G.Value)) (c : Option (Best W.Value)) → Both (Bests Rel) b c →
            Steps off Rel (finish G S p w s n b) (finish H T p x s k c)
        unfolding finish
        finish_steps p r w x s n k h e none none a st z l =
            rw (same_work st.nodes z.nodes n k off l.nodes_off e) (record { agree = worst_rel G W Rel values s; near = near_store p _ _ (z.nodes - k) st z r (exactly_rel (worst G s) (worst H s) none (worst_rel G W Rel values s)) l })
        finish_steps p r w x s n k h e none (some c) a st z l = absurd a
        finish_steps p r w x s n k h e (some b) none a st z l = absurd a
        finish_steps p r w x s n k h e (some b) (some c) a st z l =
            rw (same_work st.nodes z.nodes n k off l.nodes_off e)
            (record { agree = a.value_rel; near = near_store p _ _ (z.nodes - k) st z r entries l })
          where
            v : G.Value
            v = b.best_value

            y : W.Value
            y = c.best_value

            entries : Entries Rel (record { bounds = proved G S (G.leb v w.lo) (G.leb w.hi v) v; best = some b.best_move }) (record { bounds = proved H T (W.leb y x.lo) (W.leb x.hi y) y; best = some c.best_move })
            entries = rw (leb_same _ _ _ _ a.value_rel h.lo_rel, leb_same _ _ _ _ h.hi_rel a.value_rel) (record { bounds_rel = proved_rel _ _ v y a.value_rel; best_same = ap some a.move_same })

        module _ (p : G.Pos) (real : Real p) where
          searched_steps : (w : Interval G.Value) (x : Interval W.Value) (first : Option ℕ) (s : Side) (y : Expanded G.Pos) → Reals y → Intervals Rel w x → Steps off Rel (searched G S f p w first s y) (searched H T g p x first s y)
          unfolding searched
          searched_steps w x first s (halted r) y h st z n = record { agree = refl; near = n }
          searched_steps w x first s (won t) y h st z n = record { agree = worst_rel G W Rel values (opp s); near = near_store p _ _ 0 _ _ real (exactly_rel _ _ (some t) (worst_rel G W Rel values (opp s))) (near_cut t st z n) }
          searched_steps w x first s (children l) y h st z n =
              steps_then off (Both (Bests Rel)) Rel _ _ (finish G S p w s st.nodes) (finish H T p x s z.nodes)
              (same_row_steps s (edge w (opp s)) (edge x (opp s)) (edge_rel Rel h (opp s)) _ _ (ap (λ k. π.arrange k first s l) n.history_same) (arrange_real z.history first s l y) (edge w s) (edge x s) none none (edge_rel Rel h s) tt)
              (λ b c a. finish_steps p real w x s st.nodes z.nodes h n.nodes_off b c a) st z n

          turned_steps : (w : Interval G.Value) (x : Interval W.Value) (first : Option ℕ) (o : Option Side) → Intervals Rel w x → Steps off Rel (turned G S f p w first o) (turned H T g p x first o)
          unfolding turned
          turned_steps w x first none h st z n = record { agree = refl; near = n }
          turned_steps w x first (some s) h st z n =
              rw (expand_same s p (G.moves p), filtered_same π.non_losing s (expand H T s p (G.moves p)))
              (searched_steps w x first s (filtered H T π.non_losing s (expand H T s p (G.moves p))) (filtered_real π.non_losing s _ (expand_real s p (G.moves p) real)) h st z n)

          listed_steps : (w : Interval G.Value) (x : Interval W.Value) (first : Option ℕ) (b : Bool) (l : List ℕ) → Intervals Rel w x → Steps off Rel (listed G S f p w first b l) (listed H T g p x first b l)
          unfolding listed
          listed_steps w x first true l h st z n = record { agree = refl; near = n }
          listed_steps w x first false [] h st z n = record { agree = score_rel p; near = near_store p _ _ 1 st z real (exactly_rel _ _ none (score_rel p)) n }
          listed_steps w x first false (t ∷ l) h st z n = turned_steps w x first (G.mover p) h st z n

          opened_steps : (y : Recalled G.Value) (u : Recalled W.Value) → Recalls Rel y u → Steps off Rel (opened G S f p y) (opened H T g p u)
          unfolding opened
          opened_steps (known v) (known x) h st z n = record { agree = h; near = n }
          opened_steps (known v) (unknown x e) h st z n = absurd h
          opened_steps (unknown w d) (known x) h st z n = absurd h
          opened_steps (unknown w d) (unknown x e) (h, k) st z n = rw k (listed_steps w x e _ (G.moves p) h st z n)

        node_steps : StepSearch Real off (node G S f) (node H T g)
        unfolding node
        node_steps p w x r h st z n = opened_steps p r (recall G S w (μ.get st.memo p)) (recall H T x (ν.get z.memo p)) (recall_rel w x _ _ h (get_rel st.memo z.memo p r n.memo_alike)) st z n

      -- Budgets that are `off` apart: they are passed at the same nodes.
      abbrev pub Budgets : Option ℕ → Option ℕ → Type 0
      Budgets b c = (k : ℕ) → passes G S b (off + k) ≡ passes H T c k

      counted_steps : (b c : Option ℕ) → Budgets b c → (f : Search G S) (g : Search H T) → StepSearch Real off f g → StepSearch Real off (counted G S b f) (counted H T c g)
      unfolding counted ticked budgeted
      counted_steps b c bc f g ih p w x r h st z n = rw (same_test) (go (passes H T c (suc z.nodes)))
        where
          after : Near off (tick G S st) (tick H T z)
          after = record { memo_alike = n.memo_alike; history_same = n.history_same; nodes_off = omega (arith, n.nodes_off) }

          same_test : passes G S b (suc st.nodes) ≡ passes H T c (suc z.nodes)
          same_test = let e : suc st.nodes ≡ off + suc z.nodes = omega (arith, n.nodes_off) in ap (passes G S b) e ∙ bc (suc z.nodes)

          go : (y : Bool) → Ends off Rel (budgeted G S y (f p w) (tick G S st)) (budgeted H T y (g p x) (tick H T z))
          go true = record { agree = tt; near = after }
          go false = ih p w x r h (tick G S st) (tick H T z) after

      -- The two searches run in step.
      pub alpha_beta_steps : (b c : Option ℕ) → Budgets b c → (d : ℕ) → StepSearch Real off (alpha_beta G S b d) (alpha_beta H T c d)
      unfolding alpha_beta too_deep
      alpha_beta_steps b c bc zero = counted_steps b c bc (too_deep G S) (too_deep H T) (λ p w x r h st z n. record { agree = refl; near = n })
      alpha_beta_steps b c bc (suc d) = counted_steps b c bc (node G S (alpha_beta G S b d)) (node H T (alpha_beta H T c d)) (node_steps (alpha_beta G S b d) (alpha_beta H T c d) (alpha_beta_steps b c bc d))
