-- THEOREM 4: if the root's run and the children's give values, one child has the root's value, which both sides force from either.
-- Assumes nothing.
use mathlib.Core.Path.{◌≡◌, refl}
use mathlib.Core.Bool.{Bool, true, false, true≢false}
use mathlib.Core.Option.{Option, none, some}
use mathlib.Core.List.Memᴰ
use mathlib.Core.List.{List, [], ◌∷◌, ◌++◌}
use mathlib.Core.Logic.{◌⊎◌, inl, inr}
use Prim.Native.Nat.{ℕ}
use Rattle.words.specs.Lists.{contains}
use Rattle.rules.specs.Game.{Game, Side, max, Played, to, stopped, ◌∈◌, eqv}
use Rattle.rules.specs.Minimax.{pick}
use Rattle.rules.specs.Search.{Entry, Settings, State, Run, alpha_beta}
use Rattle.rules.specs.Drivers.{Driver, run}
use Rattle.rules.specs.Choose.{Choice, no_move, no_child, key, child_run, matched, played_value, check, if_in, known_move, remembered, root, started, chosen, choose}
use Rattle.rules.specs.Promise.{Leads, IsKey}
use Rattle.rules.specs.Forces.{final, Exact}
use Rattle.theory.proofs.Order.{le_refl, le_antisym, pick_elim}
use Rattle.theory.proofs.Forces.{BestOf, best_one, best_more, best_exact, exact_unique, not_final}
use Rattle.theory.proofs.Answer.{Sound, Fine, fine_map, fine_then}
use Rattle.theory.proofs.Sound.{alpha_beta_sound}
use Rattle.theory.proofs.Drivers.{ExactRun, run_exact}
use Rattle.theory.proofs.Laws.{Rules, Lawful, Driven}
use Rattle.words.proofs.Lists.{and_true, contains_in}

module _ (G : Game) where
  open G use {Value, Pos, moves}

  -- a move whose child has another value than `v`
  abbrev pub Misses : Pos → Value → ℕ → Type 0
  Misses p v t = (x : Value) × Leads G p t x × (x ≡ v → ⊥)

  -- What is chosen: where there is no move nothing, and else a move to a child of the root's value. That no child has it never occurs.

  abbrev pub Chosen : Pos → Choice Value → Type 0
  Chosen p no_move = moves p ≡ []
  Chosen p no_child = ⊥
  Chosen p (key t v) = IsKey G p t v

module _ (G : Game) (R : Rules G) where
  open G use {Value, Pos, moves, mover}

  -- the best of moves that all miss `v` is not `v`
  all_miss : (s : Side) (p : Pos) (v : Value) (t : ℕ) (l : List ℕ) → ((u : ℕ) → u ∈ t ∷ l → Misses G p v u) → (m : Value) × BestOf G s p (t ∷ l) m × (m ≡ v → ⊥)
  all_miss s p v t [] h = let (x, k, ne) = h t (Memᴰ.head refl) in (x, best_one G R s p t x k, ne)
  all_miss s p v t (u ∷ l) h =
      let (a, k, ne) = h t (Memᴰ.head refl) in
      let (b, r, ne') = all_miss s p v u l (λ w i. h w (Memᴰ.tail i)) in
      (pick G s a b, best_more G R s p t (u ∷ l) a b k r, pick_elim G R (λ x. x ≡ v → ⊥) s a b ne ne')

  -- Some move's child has the value of the position.
  some_child : (s : Side) (p : Pos) (v : Value) → mover p ≡ some s → Exact G v p → ((t : ℕ) → t ∈ moves p → Misses G p v t) → ⊥
  some_child s p v m x h = go (moves p) refl h
    where
      go : (l : List ℕ) → moves p ≡ l → ((t : ℕ) → t ∈ l → Misses G p v t) → ⊥
      go [] e h = not_final G R e m
      go (t ∷ l) e h = let (b, r, ne) = all_miss s p v t l h in ne (exact_unique G R (best_exact G R s p b m (rw e r)) x)

module _ (G : Game) (S : Settings G) where
  open G use {Value}

  -- the remembered move is a move
  pub remembered_in : (l : List ℕ) (o : Option (Entry Value)) (t : ℕ) → t ∈ remembered G S l o → t ∈ l
  unfolding remembered known_move if_in
  remembered_in l none t i = absurd (Memᴰ.not-nil i)
  remembered_in l (some e) t i = go e.best i
    where
      test : (u : ℕ) (b : Bool) → contains l u ≡ b → t ∈ if_in b u → t ∈ l
      test u true x j = Memᴰ.cast (Memᴰ.eq_of_singleton j) (contains_in l u x)
      test u false x j = absurd (Memᴰ.not-nil j)

      go : (b : Option ℕ) → t ∈ known_move l b → t ∈ l
      go none j = absurd (Memᴰ.not-nil j)
      go (some u) j = test u (contains l u) refl j

module _ (G : Game) (S : Settings G) (M : Lawful G S) where
  open G use {Value, leb, Pos, moves, mover, play}
  open S.memory use {get}
  open M use {rules as R}
  open M.table use {Real, play_real}
  open M.rules use {leb_refl}

  eqv_true : (x v : Value) → eqv G x v ≡ true → x ≡ v
  eqv_true x v e = let (a, b) = and_true (leb x v) (leb v x) e in le_antisym G R {s = max} (record { holds = a }) (record { holds = b })

  eqv_false : (x v : Value) → eqv G x v ≡ false → x ≡ v → ⊥
  eqv_false x v e k = true≢false (rw (← k, leb_refl x) at e)

  module _ (r : Pos → Run G S Value) (exact : (p : Pos) → Real p → ExactRun G S M p (r p)) (p : Pos) (real : Real p) where
    child_exact : (q : Pos) (l : List ℕ) → Real q → moves q ≡ l → ExactRun G S M q (child_run G S r q l)
    unfolding child_run
    child_exact q [] k e st sound = record { sound = sound; gives = λ s. final e (le_refl G R) }
    child_exact q (t ∷ l) k e st sound = exact q k st sound

    -- the value after move `t` is what both sides force there
    played_exact : (t : ℕ) (y : Played Pos) → play p t ≡ y → (st : State S) → Sound G S M st.memo → Fine G S M (Leads G p t) (played_value G S r y st)
    unfolding played_value
    played_exact t (stopped x) e st sound = record { sound = sound; gives = tt }
    played_exact t (to q) e st sound = fine_map G S M (λ x h. record { next = q; plays = e; exact = h }) (child_exact q (moves q) (play_real p t q real e) refl st sound)

    -- what the check of the moves `l` gives
    record KeyFound (v : Value) (l : List ℕ) (t : ℕ) (x : Value) : Type 0 where
      here : t ∈ l
      is_value : x ≡ v
      leads : Leads G p t v

    abbrev ChoiceChecked : Value → List ℕ → Choice Value → Type 0
    ChoiceChecked v l no_move = ⊥
    ChoiceChecked v l no_child = (t : ℕ) → t ∈ l → Misses G p v t
    ChoiceChecked v l (key t x) = KeyFound v l t x

    check_sound : (v : Value) (l : List ℕ) (st : State S) → Sound G S M st.memo → Fine G S M (ChoiceChecked v l) (check G S r p v l st)
    unfolding check matched
    check_sound v [] st sound = record { sound = sound; gives = λ t i. absurd (Memᴰ.not-nil i) }
    check_sound v (t ∷ l) st sound =
        fine_then G S M _ _ st (played_exact t (play p t) refl st sound) (λ x z k h. match (check_sound v l) x h z k (eqv G x v) refl)
      where
        further : (x : Value) → Leads G p t x → (x ≡ v → ⊥) → (k : Choice Value) → ChoiceChecked v l k → ChoiceChecked v (t ∷ l) k
        further x h ne no_move c = c
        further x h ne (key u y) c = record { here = Memᴰ.tail c.here; is_value = c.is_value; leads = c.leads }
        further x h ne no_child c = λ u i. miss u (Memᴰ.cases_cons i)
          where
            miss : (u : ℕ) → (u ≡ t) ⊎ (u ∈ l) → Misses G p v u
            miss u (inl e) = rw e (x, h, ne)
            miss u (inr i) = c u i

        match : ((z : State S) → Sound G S M z.memo → Fine G S M (ChoiceChecked v l) (check G S r p v l z)) → (x : Value) → Leads G p t x → (z : State S) → Sound G S M z.memo →
            (b : Bool) → eqv G x v ≡ b → Fine G S M (ChoiceChecked v (t ∷ l)) (matched G S b t v (check G S r p v l) z)
        match rest x h z k true e = record { sound = k; gives = record { here = Memᴰ.head refl; is_value = refl; leads = rw (eqv_true x v e) at h } }
        match rest x h z k false e = fine_map G S M (further x h (eqv_false x v e)) (rest z k)

    chosen_of : (s : Side) (v : Value) (l : List ℕ) → mover p ≡ some s → Exact G v p → ((t : ℕ) → t ∈ l → t ∈ moves p) → ((t : ℕ) → t ∈ moves p → t ∈ l) → (k : Choice Value) → ChoiceChecked v l k → Chosen G p k
    chosen_of s v l m x f g no_move c = absurd c
    chosen_of s v l m x f g no_child c = some_child G R s p v m x (λ t i. c t (g t i))
    chosen_of s v l m x f g (key t y) c = record { is_move = f t c.here; root_exact = rw c.is_value x; child_leads = rw c.is_value c.leads }

    -- what is begun, over what goes on from a root whose value both sides force
    started_sound : {A : Type 0} (P : A → Type 0) (a : A) (k : Value → Run G S A) → (moves p ≡ [] → P a) →
        ((s : Side) (v : Value) (z : State S) → mover p ≡ some s → Exact G v p → Sound G S M z.memo → Fine G S M P (k v z)) →
        (b : Bool) (l : List ℕ) (st : State S) → moves p ≡ l → Sound G S M st.memo → Fine G S M P (started G S r a k p b l st)
    unfolding started root
    started_sound P a k pa h b [] st e sound = record { sound = sound; gives = pa e }
    started_sound P a k pa h true (t ∷ l) st e sound = record { sound = sound; gives = tt }
    started_sound P a k pa h false (t ∷ l) st e sound = go (mover p) refl
      where
        go : (o : Option Side) → mover p ≡ o → Fine G S M P (root G S r k p o st)
        go none m = record { sound = sound; gives = tt }
        go (some s) m = fine_then G S M _ _ st (exact p real st sound) (λ v z y x. h s v z m x y)

    chosen_sound : (st : State S) → Sound G S M st.memo → Fine G S M (Chosen G p) (chosen G S r p st)
    unfolding chosen
    chosen_sound st sound = started_sound (Chosen G p) no_move _ (λ e. e) (λ s v z m x y. fine_map G S M (all s v z m x) (check_sound v _ z y)) _ (moves p) st refl sound
      where
        all : (s : Side) (v : Value) (z : State S) → mover p ≡ some s → Exact G v p → (k : Choice Value) → ChoiceChecked v (remembered G S (moves p) (get z.memo p) ++ moves p) k → Chosen G p k
        all s v z m x = chosen_of s v (first ++ moves p) m x (λ t i. either t (Memᴰ.append_cases first i)) (λ t i. Memᴰ.append_right first i)
          where
            first : List ℕ
            first = remembered G S (moves p) (get z.memo p)

            either : (t : ℕ) → (t ∈ first) ⊎ (t ∈ moves p) → t ∈ moves p
            either t (inl i) = remembered_in G S (moves p) (get z.memo p) t i
            either t (inr i) = i

  -- THEOREM 4 (choosing), with no premise on play.
  pub choose_sound : (δ : Driver G) → Driven G δ → (b : Option ℕ) (d : ℕ) (p : Pos) (st : State S) → Real p → Sound G S M st.memo →
      Fine G S M (Chosen G p) (choose G S δ b d p st)
  unfolding choose
  choose_sound δ t b d p st real sound = chosen_sound (run G S δ (alpha_beta G S b d)) (λ q k. run_exact G S M q k δ t (alpha_beta G S b d) (alpha_beta_sound G S M b d)) p real st sound
