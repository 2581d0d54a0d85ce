-- The row of children is sound. Side `s` is to move at `p`; `α₀` is its alpha where the row begins, `β` its beta throughout.
-- Assumes nothing.
use mathlib.Core.Path.{◌≡◌, refl}
use mathlib.Core.Bool.{Bool, true, false, cond}
use mathlib.Core.Option.{Option, none, some}
use mathlib.Core.List.Memᴰ
use mathlib.Core.List.{List, [], ◌∷◌}
use mathlib.Core.Logic.{◌⊎◌, inl, inr}
use Prim.Native.Nat.{ℕ}
use Rattle.rules.specs.Game.{Game, Side, opp, to, ◌∈◌, leq, Le}
use Rattle.rules.specs.Minimax.{pick}
use Rattle.rules.specs.Search.{Child, window, Settings, State, Run, Search, Best, improve, ended, row}
use Rattle.rules.specs.Forces.{Forces, own}
use Rattle.theory.specs.Ends.{Lt, End}
use Rattle.theory.proofs.Order.{le_refl, le_trans, lt_le, lt_not_le, le_lt_trans, flip_le, pick_elim}
use Rattle.theory.proofs.Forces.{weaken}
use Rattle.theory.proofs.Answer.{WindowSays, Flat, Gap, flat_forces, open_window, answer_own, answer_other, Sound, Fine, fine_map, fine_then, SoundSearch}
use Rattle.theory.proofs.Laws.{Lawful}

module _ (G : Game) (S : Settings G) (M : Lawful G S) where
  open G use {Value, Pos, moves, mover, play}
  open M use {rules as R}
  open M.table use {Real, play_real}

  module _ (s : Side) (p : Pos) (α₀ β : Value) where
    -- `x` is better than the best so far
    abbrev pub Beats : Option (Best Value) → Value → Type 0
    Beats none x = Unit {0}
    Beats (some b) x = Lt G s b.best_value x

    -- the best so far is at least `v`
    abbrev pub Reaches : Value → Option (Best Value) → Type 0
    Reaches v none = ⊥
    Reaches v (some b) = Le G s v b.best_value

    -- the best grew
    abbrev pub Grows : Option (Best Value) → Option (Best Value) → Type 0
    Grows none c = Unit {0}
    Grows (some b) c = Reaches b.best_value c

    -- a best that passes alpha is forced; it is an end of play, by a move of `p`
    abbrev pub BestForced : Option (Best Value) → Type 0
    BestForced none = Unit {0}
    BestForced (some b) = (Lt G s α₀ b.best_value → Forces G s b.best_value p) × End G b.best_value × (b.best_move ∈ moves p)

    -- a best that stays below beta is not passed at `q`
    abbrev pub Caps : Pos → Option (Best Value) → Type 0
    Caps q none = ⊥
    Caps q (some b) = Lt G s b.best_value β → Forces G (opp s) b.best_value q

    -- alpha is the best so far, or where the row began
    abbrev pub Gate : Value → Option (Best Value) → Type 0
    Gate α b = (x : Value) → Lt G s α₀ x → Beats b x → Lt G s α x

    reaches_grows : (v : Value) (b c : Option (Best Value)) → Reaches v b → Grows b c → Reaches v c
    reaches_grows v none c h k = absurd h
    reaches_grows v (some b) none h k = k
    reaches_grows v (some b) (some c) h k = le_trans G R h k

    grows_refl : (b : Option (Best Value)) → Grows b b
    grows_refl none = tt
    grows_refl (some b) = le_refl G R

    grows_trans : (a b c : Option (Best Value)) → Grows a b → Grows b c → Grows a c
    grows_trans none b c h k = tt
    grows_trans (some a) b c h k = reaches_grows a.best_value b c h k

    improve_reaches : (b : Option (Best Value)) (v : Value) (t : ℕ) → Reaches v (improve G S s b v t)
    unfolding improve
    improve_reaches none v t = le_refl G R
    improve_reaches (some b) v t = go (leq G s v b.best_value) refl
      where
        go : (x : Bool) → leq G s v b.best_value ≡ x → Le G s v (cond x b (record { best_value = v; best_move = t })).best_value
        go true e = record { holds = e }
        go false e = le_refl G R

    improve_grows : (b : Option (Best Value)) (v : Value) (t : ℕ) → Grows b (improve G S s b v t)
    unfolding improve
    improve_grows none v t = tt
    improve_grows (some b) v t = go (leq G s v b.best_value) refl
      where
        go : (x : Bool) → leq G s v b.best_value ≡ x → Le G s b.best_value (cond x b (record { best_value = v; best_move = t })).best_value
        go true e = le_refl G R
        go false e = lt_le G R (record { holds = e })

    improve_held : (b : Option (Best Value)) (v : Value) (t : ℕ) → BestForced b → (Lt G s α₀ v → Beats b v → Forces G s v p) → End G v → t ∈ moves p → BestForced (improve G S s b v t)
    unfolding improve
    improve_held none v t h f i j = (λ l. f l tt, i, j)
    improve_held (some b) v t h f i j = go (leq G s v b.best_value) refl
      where
        go : (x : Bool) → leq G s v b.best_value ≡ x → BestForced (some (cond x b (record { best_value = v; best_move = t })))
        go true e = h
        go false e = (λ l. f l (record { holds = e }), i, j)

    -- what beats the improved best beats the old one and the new value
    improve_beats : (b : Option (Best Value)) (v : Value) (t : ℕ) (x : Value) → Beats (improve G S s b v t) x → Beats b x × Lt G s v x
    unfolding improve
    improve_beats none v t x h = (tt, h)
    improve_beats (some b) v t x h = go (leq G s v b.best_value) refl h
      where
        go : (y : Bool) → leq G s v b.best_value ≡ y → Lt G s (cond y b (record { best_value = v; best_move = t })).best_value x → Lt G s b.best_value x × Lt G s v x
        go true e k = (k, le_lt_trans G R (record { holds = e }) k)
        go false e k = (le_lt_trans G R (lt_le G R (record { holds = e })) k, k)

    improve_gate : (α : Value) (b : Option (Best Value)) (v : Value) (t : ℕ) → Gate α b → Gate (pick G s α v) (improve G S s b v t)
    improve_gate α b v t g x h k =
        let (l, m) = improve_beats b v t x k in
        pick_elim G R (λ y. Lt G s y x) s α v (g x h l) m

    -- what a row gives: its best, for the children `l` and the best `b` that it began with
    pub record Rowed (l : List (Child Pos)) (b c : Option (Best Value)) : Type 0 where
      pub held : BestForced c
      pub grows : Grows b c
      pub caps : (k : Child Pos) → k ∈ l → Caps k.pos c

    capped : (q : Pos) (v : Value) (c : Option (Best Value)) → (Lt G s v β → Forces G (opp s) v q) → Reaches v c → Caps q c
    capped q v none f r = r
    capped q v (some b) f r = λ h. weaken G R (flip_le G R r) (f (le_lt_trans G R r h))

    -- one that passes beta, or the only value there is, caps every position
    past_beta : (q : Pos) (v : Value) (c : Option (Best Value)) → Le G s β v → Reaches v c → Caps q c
    past_beta q v none l r = r
    past_beta q v (some b) l r = λ h. absurd (lt_not_le G R h (le_trans G R l r))

    flat_caps : Flat G → (q : Pos) (v : Value) (c : Option (Best Value)) → BestForced c → Reaches v c → Caps q c
    flat_caps h q v none i r = r
    flat_caps h q v (some b) i r = λ l. flat_forces G R h (opp s) i.1

    -- a row of the children `l` is sound
    abbrev pub SoundRow : List (Child Pos) → (Value → Option (Best Value) → Run G S (Option (Best Value))) → Type 0
    SoundRow l r = (α : Value) (b : Option (Best Value)) (st : State S) → Sound G S M st.memo → Gap G s α β → Gate α b → BestForced b → Fine G S M (Rowed l b) (r α b st)

    module _ (m : mover p ≡ some s) (here : Real p) where
      ended_sound : (c : Child Pos) (l : List (Child Pos)) (r : Value → Option (Best Value) → Run G S (Option (Best Value))) →
          c.move ∈ moves p → play p c.move ≡ to c.pos → SoundRow l r →
          (α : Value) (b : Option (Best Value)) (v : Value) (st : State S) → Gap G s α β → Gate α b → BestForced b → Sound G S M st.memo → WindowSays G (window s α β) c.pos v →
          Fine G S M (Rowed (c ∷ l) b) (ended G S (leq G s β (pick G s α v)) c.move r (pick G s α v) (improve G S s b v c.move) st)
      unfolding ended
      ended_sound c l r i e rest α b v st αβ gate held sound a = go (leq G s β (pick G s α v)) refl
        where
          t : ℕ
          t = c.move

          b' : Option (Best Value)
          b' = improve G S s b v t

          held' : BestForced b'
          held' = improve_held b v t held (λ h k. own m i e (answer_own G R s α β a (gate v h k))) a.ends i

          go : (x : Bool) → leq G s β (pick G s α v) ≡ x → Fine G S M (Rowed (c ∷ l) b) (ended G S x t r (pick G s α v) b' st)
          go true k = record { sound = sound; gives = record { held = held'; grows = improve_grows b v t; caps = λ q j. caps αβ q.pos } }
            where
              -- alpha is below beta, so it is `v` that reached it
              beyond : Lt G s α β → Le G s β v
              beyond h = pick_elim G R (λ x. Le G s β x → Le G s β v) s α v (λ l. absurd (lt_not_le G R h l)) (λ l. l) (record { holds = k })

              caps : Gap G s α β → (q : Pos) → Caps q b'
              caps (inl h) q = past_beta q v b' (beyond h) (improve_reaches b v t)
              caps (inr h) q = flat_caps h q v b' held' (improve_reaches b v t)
          go false k = fine_map G S M longer (rest (pick G s α v) b' st sound (inl (record { holds = k })) (improve_gate α b v t gate) held')
            where
              longer : (d : Option (Best Value)) → Rowed l b' d → Rowed (c ∷ l) b d
              longer d x = record { held = x.held; grows = grows_trans b b' d (improve_grows b v t) x.grows; caps = λ q j. caps q (Memᴰ.cases_cons j) }
                where
                  caps : (q : Child Pos) → (q ≡ c) ⊎ (q ∈ l) → Caps q.pos d
                  caps q (inl y) = rw y (capped c.pos v d (answer_other G R s α β a) (reaches_grows v b' d (improve_reaches b v t) x.grows))
                  caps q (inr y) = x.caps q y

      pub row_sound : (f : Search G S) → SoundSearch G S M f → (l : List (Child Pos)) → ((c : Child Pos) → c ∈ l → (c.move ∈ moves p) × (play p c.move ≡ to c.pos)) → SoundRow l (row G S f s β l)
      unfolding row
      row_sound f ih [] real α b st sound αβ gate held = record { sound = sound; gives = record { held = held; grows = grows_refl b; caps = λ q j. absurd (Memᴰ.not-nil j) } }
      row_sound f ih (c ∷ l) real α b st sound αβ gate held =
          let (i, e) = real c (Memᴰ.head refl) in
          let rest = row_sound f ih l (λ d j. real d (Memᴰ.tail j)) in
          fine_then G S M _ _ st (ih c.pos (window s α β) st (play_real p c.move c.pos here e) sound (open_window G R s α β αβ)) (λ v z. ended_sound c l (row G S f s β l) i e rest α b v z αβ gate held)
